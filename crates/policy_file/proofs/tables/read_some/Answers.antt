use Rattle.std.proofs.Common.{[]}
use Rattle.pl_layout.specs.Reading.{repeat_at}
use Rattle.pl_layout.proofs.Loops.{go_on, finish}
use Rattle.policy_file.specs.PolicyReading.{table_at}
use Rattle.policy_file.proofs.Loops.{end}
use Rattle.policy_file.proofs.tables.read_some.Goals as goal

pub returns-in-Err : goal.returns-in-Err
returns-in-Err c =
    end c.in-Err.error (λ before. table_at c.args.all c.args.version) c.args.count c.loop.counter c.loop.tables c.loop.rest.now (repeat_at (λ before. table_at c.args.all c.args.version) c.args.count [] c.args.bytes.now) c.loop-test.true c.loop.invariant c.in-Err.ensures

pub loop-preserved : goal.loop-preserved
loop-preserved c =
    rw c.in_ok-push-in-Ok.ensures (go_on (λ before. table_at c.args.all c.args.version) c.args.count c.loop.counter c.loop.tables c.loop.rest.now c.in-Ok.table c.in-Ok.after.now (repeat_at (λ before. table_at c.args.all c.args.version) c.args.count [] c.args.bytes.now) c.loop-test.true c.loop.invariant c.in-Ok.ensures)

pub returns : goal.returns
returns c = finish (λ before. table_at c.args.all c.args.version) c.args.count c.loop.counter c.loop.tables c.loop.rest.now (repeat_at (λ before. table_at c.args.all c.args.version) c.args.count [] c.args.bytes.now) c.loop-test.false c.loop.invariant
