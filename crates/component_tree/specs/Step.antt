-- One step after another, up to the first refusal.
use Rattle.std.specs.Prelude.{◌≡◌, Result, Ok, Err}
use Rattle.component_tree.specs.declared.error.TreeError.{TreeError}
use Rattle.component_tree.specs.declared.error.TreeError.TheVariants as errors

infixl 10 ◌>>=◌
abbrev pub ◌>>=◌ : {A B : Type 0} → Result A TreeError → (A → Result B TreeError) → Result B TreeError
(Ok x) >>= f = f x
(Err e) >>= f = Err e

-- the refusal is that of the definition, a fault of the outside, or want of memory
abbrev pub Refuses : {Y : Type 0} → TreeError → Result Y TreeError → Type 0
Refuses (errors.BadName path) given = given ≡ Err (errors.BadName path)
Refuses (errors.Malformed path kind) given = given ≡ Err (errors.Malformed path kind)
Refuses (errors.TooMany what) given = given ≡ Err (errors.TooMany what)
Refuses errors.Failed given = Unit {0}
Refuses errors.Memory given = Unit {0}

-- the answer is what the definition gives, its success seen by view
abbrev pub Answers : {X Y : Type 0} → (X → Y) → Result X TreeError → Result Y TreeError → Type 0
Answers view (Ok x) given = given ≡ Ok (view x)
Answers view (Err e) given = Refuses e given
