use Rattle.std.proofs.Common.{◌≡◌, ◌≤◌, true, length}
use Rattle.std.specs.List.{All}
use Rattle.hash_bank.specs.Hash.{size_in}
use Rattle.tpm_model.specs.declared.parts.Parts.{Parts}
use Rattle.pcrlock_predict.specs.Present.{present_of}
use Rattle.pcrlock_line.specs.Running.{Runs}
use Rattle.pcrlock_predict.proofs.Left.{before, values_left}
use Rattle.pcrlock_predict.proofs.present.present_values.Given as goal

-- the device runs on, and where it tells its state, the values read and those that are left make the whole
abbrev pub invariant-loop-pcr : goal.invariant-loop-pcr
invariant-loop-pcr g l = record {
  readiness : g.T.Tpm.ready l.tpm ≡ true;
  later : g.T.Tpm.faults l.fn.tpm ≤ g.T.Tpm.faults l.tpm;
  count : length l.values ≡ l.pcr;
  sizes : All (λ v. length v ≡ size_in l.bank) l.values;
  runs : (s : Parts) → Runs (g.T.Tpm.live l.fn.tpm) (g.T.Tpm.stored l.fn.tpm) s → Runs (g.T.Tpm.live l.tpm) (g.T.Tpm.stored l.tpm) s;
  told : (s : Parts) → Runs (g.T.Tpm.live l.fn.tpm) (g.T.Tpm.stored l.fn.tpm) s → present_of l.bank l.asked s ≡ before l.values (values_left l.bank l.asked s l.pcr);
}
