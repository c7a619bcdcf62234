-- A session that was started last is the one found under its handle, changed, and taken away.
use Rattle.std.proofs.Common.{◌≡◌, ℕ, suc, ◌+◌, ◌<◌, ◌==◌, Bool, true, false, cond, not, List, [], ◌∷◌, ◌++◌, map, length, set, refl, ap, ◌∙◌, arith}
use Rattle.std.specs.Prelude.{slice_get, remove, Some}
use Rattle.std.proofs.lemmas.Bool.{eq-eqb, eqb-true}
use Rattle.tpm_model.specs.declared.sessions.Session.{Session}
use Rattle.tpm_model.proofs.Handles.{AreHandles}
use Rattle.tpm_model.specs.Sessions.{session_place}

at_head : (handle : ℕ) (x : Session) (b : Bool) → (x.handle == handle) ≡ b → b ≡ true → session_place handle (x ∷ []) ≡ 0
at_head handle x b e t = ap (λ c. cond (not c) (1 + session_place handle []) 0) (e ∙ t)

other : (a b : ℕ) → a < b → (a == b) ≡ false
other a b h = by_test (a == b) refl
  where
    by_test : (t : Bool) → (a == b) ≡ t → t ≡ false
    by_test true e = let same : a ≡ b = eqb-true a b e in absurd (omega arith)
    by_test false e = refl

in_tail : (handle : ℕ) (y : Session) (ys : List Session) → (y.handle == handle) ≡ false → session_place handle (y ∷ ys) ≡ 1 + session_place handle ys
in_tail handle y ys e = ap (λ c. cond (not c) (1 + session_place handle ys) 0) e

one_more : (n : ℕ) → 1 + n ≡ suc n
one_more n = omega arith

pub place_last : (first end : ℕ) (xs : List Session) (x : Session) → AreHandles first end (map (λ s. s.handle) xs) → x.handle ≡ end → session_place end (xs ++ x ∷ []) ≡ length xs
place_last first end [] x t e = at_head end x true (eq-eqb x.handle end e) refl
place_last first end (y ∷ ys) x t e =
    in_tail end y (ys ++ x ∷ []) (other y.handle end t.1) ∙ ap (λ n. 1 + n) (place_last (y.handle + 1) end ys x t.2 e) ∙ one_more (length ys)

pub get_last : {A : Type 0} (xs : List A) (x : A) → slice_get (xs ++ x ∷ []) (length xs) ≡ Some x
get_last [] x = refl
get_last (y ∷ ys) x = get_last ys x

pub set_last : {A : Type 0} (xs : List A) (x y : A) → set (xs ++ x ∷ []) (length xs) y ≡ xs ++ y ∷ []
set_last [] x y = refl
set_last (z ∷ zs) x y = ap (λ ys. z ∷ ys) (set_last zs x y)

pub remove_last : {A : Type 0} (xs : List A) (x : A) → remove (xs ++ x ∷ []) (length xs) ≡ xs
remove_last [] x = refl
remove_last (z ∷ zs) x = ap (λ ys. z ∷ ys) (remove_last zs x)
