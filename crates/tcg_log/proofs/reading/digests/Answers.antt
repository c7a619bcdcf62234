use Rattle.std.proofs.Common.{[]}
use Rattle.pl_layout.specs.Reading.{repeat_at}
use Rattle.pl_layout.proofs.Loops.{go_on, finish}
use Rattle.tcg_log.specs.Reading.{tagged_at}
use Rattle.tcg_log.proofs.Loops.{end}
use Rattle.tcg_log.proofs.reading.digests.Goals as goal

pub returns-in-Err : goal.returns-in-Err
returns-in-Err c =
    end c.in-Err.error (tagged_at c.args.all c.args.algorithms.now) c.args.count c.loop.counter c.loop.read.items c.loop.rest.now (repeat_at (tagged_at c.args.all c.args.algorithms.now) c.args.count [] c.args.bytes.now) c.loop-test.true c.loop.invariant (rw c.deref.ensures.value at c.in-Err.ensures)

pub loop-preserved : goal.loop-preserved
loop-preserved c =
    rw c.in_ok-push-in-Ok.ensures.items (go_on (tagged_at c.args.all c.args.algorithms.now) c.args.count c.loop.counter c.loop.read.items c.loop.rest.now c.in-Ok.next c.in-Ok.after.now (repeat_at (tagged_at c.args.all c.args.algorithms.now) c.args.count [] c.args.bytes.now) c.loop-test.true c.loop.invariant (rw c.deref.ensures.value at c.in-Ok.ensures))

pub returns : goal.returns
returns c = finish (tagged_at c.args.all c.args.algorithms.now) c.args.count c.loop.counter c.loop.read.items c.loop.rest.now (repeat_at (tagged_at c.args.all c.args.algorithms.now) c.args.count [] c.args.bytes.now) c.loop-test.false c.loop.invariant
