-- A TPM that was never used hangs together with the world in which nobody has done anything.
use Rattle.std.proofs.Common.{arith}
use Rattle.hash_bank.specs.declared.banks.Banks.{Banks}
use Rattle.tpm_model.specs.Fresh.{fresh_parts}
use Rattle.tpm_model.proofs.Unused.{fresh_tied as unused_tied}
use Rattle.tpm_worlds.specs.EventLists.{Safe}
use Rattle.tpm_worlds.specs.FreshWorld.{fresh_world}
use Rattle.tpm_worlds.specs.SealedTie.{SealedTie}

pub fresh_tied : (banks : Banks) → SealedTie (fresh_parts banks) (fresh_world banks)
fresh_tied banks = record { base = unused_tied banks; sessions = tt; filed = tt }

-- no string was hashed, so none clash
pub fresh_safe : (banks : Banks) → Safe (fresh_world banks)
fresh_safe banks = record { distinct = λ s t h k same e. absurd (omega (arith, h.1)); nonzero = λ s h. absurd (omega (arith, h.1)) }
