-- The commands of proof files as acts: `check-proof` changes nothing, `prove` one file, which isn't the policy file.
use Rattle.std.specs.Prelude.{ℕ, List}
use Rattle.tpm_model.specs.World.{World}
use Rattle.predictor.specs.declared.window.Window.{Window}
use Rattle.pcrlock_line.specs.Machine.{Machine}
use Rattle.pcrlock_line.specs.Printing.{printed}
use Rattle.pcrlock_deeds.specs.Acts.{Act, says}
use Rattle.pcrlock_lock.specs.Acts.{work_act}
use Rattle.pcrlock_proofs.specs.declared.asked.Asked.{Asked}
use Rattle.pcrlock_proofs.specs.CheckProof.{checked_of}
use Rattle.pcrlock_proofs.specs.Prove.{prove_work}

unfoldable pub check_proof_act : List ℕ → List (List ℕ) → Window → Machine → World → Act
check_proof_act path folders window m w = says (printed (checked_of m.files path folders window))

unfoldable pub prove_act : List ℕ → List (List ℕ) → Window → Asked → Machine → World → Act
prove_act output folders window asked m w = work_act (prove_work output folders window asked m.files)
