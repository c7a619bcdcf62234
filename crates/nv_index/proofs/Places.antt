-- The first place at which a test passes.
use Rattle.std.proofs.Common.{◌≡◌, ℕ, ◌≤◌, Bool, true, false, cond, List, length, not, refl, arith}
use Rattle.std.specs.Prelude.{None, Some, unwrap_or, nat_lt}
use Rattle.std.specs.List.{position, position_or_len}
use Rattle.std.proofs.lemmas.List.Sums.{prefix_len-le-length}
use Rattle.std.proofs.lemmas.Bool.{ltb-false}

chosen_or : (k n : ℕ) (b : Bool) → nat_lt k n ≡ b → k ≤ n → unwrap_or (cond b (Some k) None) n ≡ k
chosen_or k n true e h = refl
chosen_or k n false e h = let past : n ≤ k = ltb-false k n e in omega arith

-- the place, or the length where the test passes nowhere
pub place_or_len : {X : Type 0} (p : X → Bool) (xs : List X) → unwrap_or (position p xs) (length xs) ≡ position_or_len p xs
place_or_len p xs = chosen_or (position_or_len p xs) (length xs) _ refl (prefix_len-le-length (λ x. not (p x)) xs)
