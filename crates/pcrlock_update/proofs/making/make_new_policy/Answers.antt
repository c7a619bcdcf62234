use Rattle.std.proofs.Common.{ap}
use Rattle.std.specs.Prelude.{option_copied, IfOk, IfErr}
use Rattle.pcrlock_line.proofs.Composed.{on_files_tpm}
use Rattle.pcrlock_line.specs.Outcome.{Outcome, Gives}
use Rattle.pcrlock_line.specs.Stopped.{StandsAmong}
use Rattle.pcrlock_update.proofs.Drawn.{given_by}
use Rattle.pcrlock_update.proofs.making.make_new_policy.Goals as goal

pub returns-in-Some-clause-causes : goal.returns-in-Some-clause-causes
returns-in-Some-clause-causes g c =
    let F = g.F.Files.faults in let E = g.E.Entropy.faults in let T = g.T.Tpm.faults in
    on_files_tpm (E c.args.entropy.now) 0 (F c.args.files.now) (F c.make_with.new.files) (T c.args.tpm.now) (T c.make_with.new.tpm) c.make_with.result c.make_with.ensures.causes

pub returns-in-Some-clause-told : goal.returns-in-Some-clause-told
returns-in-Some-clause-told g c = λ m tells live.
    given_by (λ (o : Outcome). IfOk c.make_with.result (λ reply. Gives (g.F.Files.held c.make_with.new.files) (g.T.Tpm.stored c.make_with.new.tpm) (g.E.Entropy.draws c.args.entropy.now) reply o))
    c.args.text.items c.args.given.now.path.now c.args.old c.args.stands c.args.given.now.index c.args.given.now.table.now c.in-Some.pin.now (option_copied c.args.pin) m.draws m (ap option_copied c.in-Some.is)
    (c.make_with.ensures.told (g.E.Entropy.draws c.args.entropy.now) m tells live)

pub returns-in-Some-clause-stops : goal.returns-in-Some-clause-stops
returns-in-Some-clause-stops g c = λ m tells live.
    given_by (λ (o : Outcome). IfErr c.make_with.result (λ _. StandsAmong (g.F.Files.held c.make_with.new.files) (g.T.Tpm.stored c.make_with.new.tpm) o.stops))
    c.args.text.items c.args.given.now.path.now c.args.old c.args.stands c.args.given.now.index c.args.given.now.table.now c.in-Some.pin.now (option_copied c.args.pin) m.draws m (ap option_copied c.in-Some.is)
    (c.make_with.ensures.stops (g.E.Entropy.draws c.args.entropy.now) m tells live)
