-- A sink in memory, as contracts see it.
use Rattle.std.specs.Prelude.{ℕ, List}
use Rattle.pl_base.specs.Calls.{Calls}

-- the bytes written, and the calls
pub record MemorySink : Type 0 where
  pub written : List ℕ
  pub calls : Calls
