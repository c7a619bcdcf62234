-- What `list-components` prints.
use Rattle.std.specs.Prelude.{ℕ, List, Result, Ok}
use Rattle.pl_base.specs.FileMap.{FileMap}
use Rattle.pcrlock_answer.specs.declared.answer.Answer.{Answer}
use Rattle.pcrlock_words.specs.ComponentText.{components_text}
use Rattle.pcrlock_line.specs.Machine.{Machine}
use Rattle.pcrlock_line.specs.Outcome.{Outcome}
use Rattle.pcrlock_input.specs.Answering.{◌>>=◌}
use Rattle.pcrlock_input.specs.Components.{components_of}
use Rattle.pcrlock_line.specs.Printing.{printed_line}

-- the text of the components, unless they are refused
abbrev pub listed_of : FileMap → List (List ℕ) → Result (List ℕ) Answer
listed_of files folders = components_of files folders >>= λ components. Ok (components_text components)

-- `list-components`, of the components in the folders
abbrev pub list_components_line : List (List ℕ) → Machine → Outcome
list_components_line folders m = printed_line (listed_of m.files folders) m
