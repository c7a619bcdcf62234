-- One step after another, where each may be refused.
use Rattle.std.specs.Prelude.{◌≡◌, Result, Ok, Err}

-- the second step on what the first gave, or the first one's refusal
infixl 10 ◌>>=◌
abbrev pub ◌>>=◌ : {A B E : Type 0} → Result A E → (A → Result B E) → Result B E
Ok x >>= f = f x
Err e >>= f = Err e

-- a call answered what a definition gives, its success seen by view
abbrev pub Gives : {X Y E : Type 0} → (X → Y) → Result X E → Result Y E → Type 0
Gives view (Ok x) given = given ≡ Ok (view x)
Gives view (Err e) given = given ≡ Err e
