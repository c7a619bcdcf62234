-- A TPM in memory, as its contracts see it.
use Rattle.std.specs.Prelude.{Bool}
use Rattle.pl_base.specs.Calls.{Calls}
use Rattle.tpm_model.specs.declared.parts.Parts.{Parts}

-- its state, its calls so far and those that fail, and whether it is ready
pub record SoftDevice : Type 0 where
  pub state : Parts
  pub calls : Calls
  pub ready : Bool
