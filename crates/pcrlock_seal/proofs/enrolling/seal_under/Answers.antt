use Rattle.pcrlock_line.proofs.Composed.{on_files_tpm}
use Rattle.std.proofs.Common.{subst, sym}
use Rattle.std.specs.Prelude.{Option, List, ℕ, IfErr}
use Rattle.pcrlock_line.specs.Stopped.{StandsAmong}
use Rattle.pcrlock_seal.specs.Enroll.{with_key}
use Rattle.pcrlock_seal.proofs.enrolling.seal_under.Goals as goal

pub returns-in-Some-clause-causes : goal.returns-in-Some-clause-causes
returns-in-Some-clause-causes g c =
    let F = g.F.Files.faults in let E = g.E.Entropy.faults in let T = g.T.Tpm.faults in
    on_files_tpm (E c.args.entropy.now) 0 (F c.args.files.now) (F c.seal_key.new.files) (T c.args.tpm.now) (T c.seal_key.new.tpm) c.seal_key.result c.seal_key.ensures.causes

pub returns-in-Some-clause-stops : goal.returns-in-Some-clause-stops
returns-in-Some-clause-stops g c = λ m tells live. subst
    (λ (k : Option (List ℕ)). IfErr c.seal_key.result (λ _. StandsAmong (g.F.Files.held c.seal_key.new.files) (g.T.Tpm.stored c.seal_key.new.tpm) (with_key c.args.path.now c.args.condition.now k m.draws m).stops))
    (sym c.in-Some.is) (c.seal_key.ensures.stops (g.E.Entropy.draws c.args.entropy.now) m tells live)
