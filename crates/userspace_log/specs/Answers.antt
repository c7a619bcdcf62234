-- What the reader answers, but for want of memory.
use Rattle.std.specs.Prelude.{◌≡◌, Result, Ok, Err}
use Rattle.userspace_log.specs.declared.error.SeqError.{SeqError}
use Rattle.userspace_log.specs.declared.error.SeqError.TheVariants as errors

-- the refusal is that of the definition, or want of memory
abbrev pub Refuses : {Y : Type 0} → SeqError → Result Y SeqError → Type 0
Refuses errors.Memory given = Unit {0}
Refuses (errors.BadSeparator place) given = given ≡ Err (errors.BadSeparator place)
Refuses (errors.BadRecord n kind) given = given ≡ Err (errors.BadRecord n kind)
Refuses errors.TooMany given = given ≡ Err errors.TooMany

-- the answer is what the definition gives, its success seen by view
abbrev pub Answers : {X Y : Type 0} → (X → Y) → Result X SeqError → Result Y SeqError → Type 0
Answers view (Ok x) given = given ≡ Ok (view x)
Answers view (Err e) given = Refuses e given
