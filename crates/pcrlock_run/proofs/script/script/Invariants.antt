use Rattle.std.proofs.Common.{length}
use Rattle.std.specs.Prelude.{Ok}
use denote.Text.{Utf8}
use denote.Shadow.{shadow}
use Rattle.pcrlock_line.specs.Machine.{Machine, Tells}
use Rattle.pcrlock_line.specs.Causes.{HasCauses}
use Rattle.pcrlock_run.specs.Status.{number_of}
use Rattle.pcrlock_run.specs.Lines.{lines_of}
use Rattle.pcrlock_run.specs.Setting.{setting_of}
use Rattle.pcrlock_run.specs.Script.{script}
use Rattle.pcrlock_run.specs.Leaves.{Safe}
use Rattle.pcrlock_run.proofs.Folds.{Underway}
use Rattle.pcrlock_run.proofs.Halts.{Onward}
use Rattle.pcrlock_run.proofs.script.script.Given as goal

abbrev pub invariant-lines : goal.invariant-lines
invariant-lines g l = record {
  text : shadow (Utf8 l.rest);
  causes : HasCauses {A = Unit {0}} (g.F.Files.faults l.fn.files, g.E.Entropy.faults l.fn.entropy, g.T.Tpm.faults l.fn.tpm, g.O.Sink.faults l.fn.out) (g.F.Files.faults l.files, g.E.Entropy.faults l.entropy, g.T.Tpm.faults l.tpm, g.O.Sink.faults l.out) (Ok tt);
  told : (m : Machine) → Tells (g.F.Files.held l.fn.files) (g.T.Tpm.stored l.fn.tpm) (g.E.Entropy.draws l.fn.entropy) m
      → Safe (script (setting_of l.fn.setting) (lines_of l.fn.text) m).hashed
      → Underway (g.F.Files.held l.files) (g.T.Tpm.stored l.tpm) (g.E.Entropy.draws l.entropy) (g.O.Sink.written l.fn.out) (g.O.Sink.written l.out) (g.R.Sink.faults l.fn.err) (g.R.Sink.written l.fn.err) (g.R.Sink.faults l.err) (g.R.Sink.written l.err)
      (setting_of l.fn.setting) (lines_of l.rest) (number_of l.status) (script (setting_of l.fn.setting) (lines_of l.fn.text) m);
  onward : (m : Machine) → Tells (g.F.Files.held l.fn.files) (g.T.Tpm.stored l.fn.tpm) (g.E.Entropy.draws l.fn.entropy) m
      → Safe (script (setting_of l.fn.setting) (lines_of l.fn.text) m).hashed
      → Onward (g.F.Files.held l.files) (g.T.Tpm.stored l.tpm) (g.E.Entropy.draws l.entropy) (g.O.Sink.written l.fn.out) (g.O.Sink.written l.out) (g.R.Sink.faults l.fn.err) (g.R.Sink.written l.fn.err) (g.R.Sink.faults l.err) (g.R.Sink.written l.err)
      (setting_of l.fn.setting) (lines_of l.rest) (number_of l.status) (lines_of l.fn.text) m;
}

abbrev pub decreases-lines : goal.decreases-lines
decreases-lines g l = length l.rest
