-- Steps of reading that did not fail, and tests that were passed.
use Rattle.std.proofs.Common.{◌≡◌, ◌⊎◌, Bool, true, false, cond, refl, sym, ap, ◌∙◌, inl, inr}
use Rattle.std.specs.Prelude.{Result, Ok, Err}
use Rattle.pl_layout.specs.Reading.{◌>>=◌, tested}

pub record Then {E A B : Type 0} (r : Result A E) (f : A → Result B E) (y : B) : Type 0 where
  pub value : A
  pub first : r ≡ Ok value
  pub second : f value ≡ Ok y

pub bind_ok : {E A B : Type 0} {r : Result A E} {f : A → Result B E} {y : B} → (r >>= f) ≡ Ok y → Then r f y
bind_ok {r = Ok x} e = record { value = x; first = refl; second = e }
bind_ok {r = Err d} e = absurd cc

-- a step that gives a value, and what follows
pub bind_eq : {E A B : Type 0} {r : Result A E} {y : Result B E} (f : A → Result B E) (x : A) → r ≡ Ok x → f x ≡ y → (r >>= f) ≡ y
bind_eq f x e d = ap (λ s. s >>= f) e ∙ d

-- a step at fault is the fault of all
pub bind_err : {E A B : Type 0} {r : Result A E} (f : A → Result B E) (d : E) → r ≡ Err d → (r >>= f) ≡ Err d
bind_err f d e = ap (λ s. s >>= f) e

-- one of the two cases of a test
pub on_test : {A : Type 0} (b : Bool) {x y z : A} → cond b x y ≡ z → ((b ≡ true) × (x ≡ z)) ⊎ ((b ≡ false) × (y ≡ z))
on_test true e = inl (refl, e)
on_test false e = inr (refl, e)

pub skip_test : {A : Type 0} {y z : A} (b : Bool) (x : A) → b ≡ false → y ≡ z → cond b x y ≡ z
skip_test true x n e = absurd cc
skip_test false x n e = e

pub take_test : {A : Type 0} {x z : A} (b : Bool) (y : A) → b ≡ true → x ≡ z → cond b x y ≡ z
take_test true y n e = e
take_test false y n e = absurd cc

pub passed_over : {E A : Type 0} {b : Bool} (d : E) {r : Result A E} {y : A} → cond b (Err d) r ≡ Ok y → (b ≡ false) × (r ≡ Ok y)
passed_over {b = true} d e = absurd cc
passed_over {b = false} d e = (refl, e)

pub passed : {E A : Type 0} {b : Bool} (d : E) {r : Result A E} {y : A} → cond b r (Err d) ≡ Ok y → (b ≡ true) × (r ≡ Ok y)
passed {b = true} d e = (refl, e)
passed {b = false} d e = absurd cc

abbrev pub done : {E A : Type 0} → A → Result A E
done x = Ok x

pub ok_is : {E A : Type 0} (x y : A) → done {E = E} x ≡ done y → x ≡ y
ok_is x y e = cc

-- a value that passed its test
pub tested_ok : {E A : Type 0} (b : Bool) (d : E) (x y : A) → tested b d x ≡ Ok y → (b ≡ true) × (x ≡ y)
tested_ok true d x y e = (refl, cc)
tested_ok false d x y e = absurd cc

pub never : {E A B : Type 0} (d : E) (y : A) (r : Result A E) → r ≡ Err d → r ≡ Ok y → B
never d y r f e = absurd (refused d y (sym f ∙ e))
  where
    refused : {E A : Type 0} (d : E) (y : A) → Err d ≡ Ok y → ⊥
    refused d y e = cc
