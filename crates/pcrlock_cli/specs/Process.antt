-- What the program does before it runs its words.
use Rattle.std.specs.Prelude.{ℕ, List, [], ◌∷◌}
use Rattle.pcrlock_answer.specs.declared.answer.Answer.TheVariants as answers
use Rattle.pcrlock_answer.specs.Texts.{answer_text}
use Rattle.pcrlock_cli.specs.declared.Refusal.{Refusal}
use Rattle.pcrlock_cli.specs.declared.Refusal.TheVariants.{BadWords, Memory, Unstored}

-- the path of the state file: the first word, or an empty one where there is none
abbrev pub state_path_of : List (List ℕ) → List ℕ
state_path_of [] = []
state_path_of (path ∷ words) = path

-- the line on standard error where the words can't be run, or what they did can't be stored: that of an answer
abbrev pub refusal_line : Refusal → List ℕ
refusal_line BadWords = answer_text answers.BadWords
refusal_line Memory = answer_text answers.Memory
refusal_line Unstored = answer_text answers.TpmFault

-- the exit status then
abbrev pub refusal_status : Refusal → ℕ
refusal_status BadWords = 2
refusal_status Memory = 6
refusal_status Unstored = 5
