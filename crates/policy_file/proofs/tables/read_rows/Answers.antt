use Rattle.std.proofs.Common.{◌≡◌, List, [], subst}
use Rattle.std.specs.Prelude.{Ok}
use Rattle.policy_digest.specs.declared.table.Row.{Row}
use Rattle.pl_layout.specs.Reading.{repeat_at}
use Rattle.pl_layout.proofs.Loops.{go_on, finish}
use Rattle.policy_file.specs.PolicyReading.{Fails, row_at}
use Rattle.policy_file.proofs.Loops.{end}
use Rattle.policy_file.proofs.tables.read_rows.Goals as goal

pub returns-in-Err : goal.returns-in-Err
returns-in-Err c =
    end c.in-Err.error (row_at c.args.all c.args.version c.args.bank) c.args.count c.loop.counter c.loop.rows c.loop.rest.now (repeat_at (row_at c.args.all c.args.version c.args.bank) c.args.count [] c.args.bytes.now) c.loop-test.true c.loop.invariant (subst (λ (b : List Row). Fails c.in-Err.error (row_at c.args.all c.args.version c.args.bank b c.loop.rest.now)) c.as_slice.ensures c.in-Err.ensures)

pub loop-preserved : goal.loop-preserved
loop-preserved c =
    rw c.in_ok-push-in-Ok.ensures (go_on (row_at c.args.all c.args.version c.args.bank) c.args.count c.loop.counter c.loop.rows c.loop.rest.now c.in-Ok.row c.in-Ok.after.now (repeat_at (row_at c.args.all c.args.version c.args.bank) c.args.count [] c.args.bytes.now) c.loop-test.true c.loop.invariant (subst (λ (b : List Row). row_at c.args.all c.args.version c.args.bank b c.loop.rest.now ≡ Ok (c.in-Ok.row, c.in-Ok.after.now)) c.as_slice.ensures c.in-Ok.ensures))

pub returns : goal.returns
returns c = finish (row_at c.args.all c.args.version c.args.bank) c.args.count c.loop.counter c.loop.rows c.loop.rest.now (repeat_at (row_at c.args.all c.args.version c.args.bank) c.args.count [] c.args.bytes.now) c.loop-test.false c.loop.invariant
