use Rattle.std.proofs.Common.{[], ◌∷◌, arith, length-append}
use Rattle.pl_layout.specs.Reading.{repeat_at}
use Rattle.pl_layout.proofs.Loops.{go_on, finish}
use Rattle.tpm_state.specs.Entries.{entry_at}
use Rattle.tpm_state.proofs.Loops.{end}
use Rattle.tpm_state.proofs.entries.read_entries.Goals as goal

pub returns-in-Err : goal.returns-in-Err
returns-in-Err c =
    end c.in-Err.error (λ before. entry_at c.args.all c.args.hash) c.args.count c.loop.counter c.loop.trail c.loop.rest.now (repeat_at (λ before. entry_at c.args.all c.args.hash) c.args.count [] c.args.bytes.now) c.loop-test.true c.loop.invariant.exact c.in-Err.ensures

pub loop-preserved : goal.loop-preserved
loop-preserved c = record {
  exact = rw c.push.ensures (go_on (λ before. entry_at c.args.all c.args.hash) c.args.count c.loop.counter c.loop.trail c.loop.rest.now c.in-Ok.entry c.in-Ok.after.now (repeat_at (λ before. entry_at c.args.all c.args.hash) c.args.count [] c.args.bytes.now) c.loop-test.true c.loop.invariant.exact c.in-Ok.ensures);
  few = rw c.push.ensures (omega (arith, length-append c.loop.trail (c.in-Ok.entry ∷ []), c.loop.invariant.few));
}

pub returns : goal.returns
returns c = finish (λ before. entry_at c.args.all c.args.hash) c.args.count c.loop.counter c.loop.trail c.loop.rest.now (repeat_at (λ before. entry_at c.args.all c.args.hash) c.args.count [] c.args.bytes.now) c.loop-test.false c.loop.invariant.exact
