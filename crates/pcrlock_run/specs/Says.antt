-- What was written on standard error.
use Rattle.std.specs.Prelude.{◌≡◌, ℕ, ◌≤◌, List, ◌++◌, Option, Some}
use Rattle.pl_base.specs.Faults.{Rose}

-- the text was appended, unless the sink's count of faults rose; the count never falls
pub record Says (before : ℕ) (written : Option (List ℕ)) (now : ℕ) (after : Option (List ℕ)) (text : List ℕ) : Type 0 where
  pub later : before ≤ now
  pub appended : (said : List ℕ) → written ≡ Some said → ¬ Rose before now → after ≡ Some (said ++ text)
