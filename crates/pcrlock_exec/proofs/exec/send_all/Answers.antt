use Rattle.std.proofs.Common.{arith, take}
use Rattle.tpm_worlds.specs.CommandLists.{state_after}
use Rattle.pcrlock_exec.proofs.Lists.{text_next}
use Rattle.pcrlock_exec.proofs.Steps.{part_way, runs_next}
use Rattle.pcrlock_line.proofs.Composed.{later_stops}
use Rattle.pcrlock_exec.proofs.exec.send_all.Goals as goal

pub returns-in-Err-clause-causes : goal.returns-in-Err-clause-causes
returns-in-Err-clause-causes g c =
    later_stops (g.T.Tpm.faults c.args.tpm.now) (g.T.Tpm.faults c.loop-command.tpm) (g.T.Tpm.faults c.send.new.tpm) c.send.result c.in-Err.stop
    c.loop-command.invariant.later c.send.ensures.causes c.in-Err.is

pub returns-in-Err-clause-stops : goal.returns-in-Err-clause-stops
returns-in-Err-clause-stops g c = λ s runs.
    let i = c.loop-command.command-index in
    part_way (g.T.Tpm.stored c.send.new.tpm) c.args.commands.now i c.command-item.result s c.loop-command-test.true c.command-item.is
    (c.in-Err.ensures.stops (state_after (take i c.args.commands.now) s) (c.loop-command.invariant.runs s runs))

pub loop-command-preserved : goal.loop-command-preserved
loop-command-preserved g c =
    let i = c.loop-command.command-index in record {
      readiness = c.in-Ok.ensures.readiness;
      later = omega (arith, c.loop-command.invariant.later, c.send.ensures.causes.tpm);
      runs = λ s runs.
          let told = c.in-Ok.ensures.told (state_after (take i c.args.commands.now) s) (c.loop-command.invariant.runs s runs) in
          runs_next (g.T.Tpm.live c.send.new.tpm) (g.T.Tpm.stored c.send.new.tpm) c.args.commands.now i c.command-item.result s c.loop-command-test.true c.command-item.is told.0;
      text = λ s runs.
          let told = c.in-Ok.ensures.told (state_after (take i c.args.commands.now) s) (c.loop-command.invariant.runs s runs) in
          text_next c.args.commands.now i c.command-item.result s c.loop-command.text.items c.send.new.text.items c.loop-command-test.true c.command-item.is
          (c.loop-command.invariant.text s runs) told.1;
    }
