use Rattle.std.proofs.Common.{ap, ◌∙◌}
use Rattle.tpm_broker.specs.Clients.{Client}
use Rattle.tpm_broker.specs.Lists.{state_left}
use Rattle.pcrlock_line.proofs.Composed.{later_stops}
use Rattle.std.proofs.Common.{List}
use Rattle.pcrlock_broker.specs.Broker.{answers_text}
use Rattle.pcrlock_broker.proofs.Passed.{left_runs, left_stops, served_stops}
use Rattle.pcrlock_broker.proofs.brokering.serve_all.Goals as goal

pub returns-in-Ok-leave_all-clause-told : goal.returns-in-Ok-leave_all-clause-told
returns-in-Ok-leave_all-clause-told g c = λ s runs.
    let told = c.in-Ok.ensures.told s runs in
    let before = c.in_ok-broker.broker in (
      left_runs (g.T.Tpm.live c.leave_all.new.tpm) (g.T.Tpm.stored c.leave_all.new.tpm) c.args.clients c.args.asked.now s before c.answer_all.new.broker c.in_ok-broker.ensures told.1
          (c.in-Ok-leave_all.ensures.told (state_left c.args.asked.now before s) told.0),
      told.2 ∙ ap (λ (cs : List Client). answers_text c.args.asked.now cs s) c.in_ok-broker.ensures,
    )

pub returns-in-Ok-clause-causes : goal.returns-in-Ok-clause-causes
returns-in-Ok-clause-causes g c =
    later_stops (g.T.Tpm.faults c.args.tpm.now) (g.T.Tpm.faults c.answer_all.new.tpm) (g.T.Tpm.faults c.leave_all.new.tpm) c.leave_all.result c.in-Err-leave_all.stop
    c.answer_all.ensures.causes.tpm c.leave_all.ensures.causes c.in-Err-leave_all.is

pub returns-in-Ok-clause-stops : goal.returns-in-Ok-clause-stops
returns-in-Ok-clause-stops g c = λ s runs.
    let told = c.in-Ok.ensures.told s runs in
    let before = c.in_ok-broker.broker in
    left_stops (g.T.Tpm.stored c.leave_all.new.tpm) c.args.clients c.args.asked.now s before c.answer_all.new.broker c.in_ok-broker.ensures told.1
    (c.in-Err-leave_all.ensures.stops (state_left c.args.asked.now before s) told.0)

pub returns-clause-stops : goal.returns-clause-stops
returns-clause-stops g c = λ s runs.
    served_stops (g.T.Tpm.stored c.answer_all.new.tpm) c.args.clients c.args.asked.now s c.in_ok-broker.broker c.in_ok-broker.ensures (c.in-Err.ensures.stops s runs)
