-- Why a command stops: only where the count of its object's faults rose.
use Rattle.std.specs.Prelude.{◌≡◌, ℕ, Result, Err}
use Rattle.pl_base.specs.Faults.{Rose}
use Rattle.pcrlock_line.specs.declared.stop.Stop.{Stop}
use Rattle.pcrlock_line.specs.declared.stop.Stop.TheVariants.{ReadFault, WriteFault, EntropyFault, TpmFault, Memory}
use Rattle.std.specs.Prelude.{◌≤◌, ◌⊎◌}

-- the faults of the files, of the entropy, of the TPM and of the output, 0 for one that isn't used
abbrev pub Counts : Type 0
Counts = ℕ × ℕ × ℕ × ℕ

-- a stop has its cause
abbrev pub IsCaused : Counts → Counts → Stop → Type 0
IsCaused before now ReadFault = Rose before.0 now.0
IsCaused before now WriteFault = (Rose before.0 now.0) ⊎ (Rose before.3 now.3)
IsCaused before now EntropyFault = Rose before.1 now.1
IsCaused before now TpmFault = Rose before.2 now.2
IsCaused before now Memory = Unit {0}

-- no count falls, and where the result is a stop, it has its cause
pub record HasCauses {A : Type 0} (before now : Counts) (result : Result A Stop) : Type 0 where
  pub files : before.0 ≤ now.0
  pub entropy : before.1 ≤ now.1
  pub tpm : before.2 ≤ now.2
  pub out : before.3 ≤ now.3
  pub cause : (stop : Stop) → result ≡ Err stop → IsCaused before now stop
