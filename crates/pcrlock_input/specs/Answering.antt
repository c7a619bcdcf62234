-- What reading an input of a command answers.
use Rattle.std.specs.Prelude.{◌≡◌, ℕ, ◌≤◌, List, length, Result, Ok, Err}
use Rattle.pcrlock_answer.specs.declared.answer.Answer.{Answer}
use Rattle.pcrlock_line.specs.declared.reading.Found.{Found}
use Rattle.pcrlock_line.specs.declared.reading.Found.TheVariants as found
use Rattle.pcrlock_input.specs.declared.error.InputError.{InputError}
use Rattle.pcrlock_input.specs.declared.error.InputError.TheVariants as errors

-- one input after another, up to the first that is refused
infixl 10 ◌>>=◌
abbrev pub ◌>>=◌ : {A B : Type 0} → Result A Answer → (A → Result B Answer) → Result B Answer
(Ok x) >>= f = f x
(Err answer) >>= f = Err answer

-- the refusal is that of the definition; it may as well be a fault of the files, or want of memory
abbrev pub Refuses : {Y : Type 0} → InputError → Result Y Answer → Type 0
Refuses (errors.Refused answer) given = given ≡ Err answer
Refuses errors.Failed given = Unit {0}
Refuses errors.Memory given = Unit {0}

-- the input is what the definition gives, seen by view
abbrev pub Answers : {X Y : Type 0} → (X → Y) → Result X InputError → Result Y Answer → Type 0
Answers view (Ok x) given = given ≡ Ok (view x)
Answers view (Err e) given = Refuses e given

-- bytes that were found are at most as many as allowed
abbrev pub IsShort : ℕ → Found → Type 0
IsShort limit found.Missing = Unit {0}
IsShort limit (found.TooLarge size) = Unit {0}
IsShort limit (found.Bytes bytes) = length bytes.items ≤ limit
