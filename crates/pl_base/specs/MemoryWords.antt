-- A list of words to draw, as contracts see it.
use Rattle.std.specs.Prelude.{ℕ, List}
use Rattle.pl_base.specs.Calls.{Calls}

-- the words still to come, and the calls
pub record MemoryWords : Type 0 where
  pub words : List (List ℕ)
  pub calls : Calls
