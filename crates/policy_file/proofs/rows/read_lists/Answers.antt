use Rattle.std.proofs.Common.{◌≡◌, ℕ, List, [], subst}
use Rattle.std.specs.Prelude.{Ok}
use Rattle.pl_layout.specs.Reading.{repeat_at}
use Rattle.pl_layout.proofs.Loops.{go_on, finish}
use Rattle.policy_file.specs.PolicyReading.{Fails, list_at}
use Rattle.policy_file.proofs.Loops.{end}
use Rattle.policy_file.proofs.rows.read_lists.Goals as goal

pub returns-in-Err : goal.returns-in-Err
returns-in-Err c =
    end c.in-Err.error (list_at c.args.all c.args.bank c.args.count) c.args.number c.loop.counter c.loop.lists c.loop.rest.now (repeat_at (list_at c.args.all c.args.bank c.args.count) c.args.number [] c.args.bytes.now) c.loop-test.true c.loop.invariant (subst (λ (b : List (List (List ℕ))). Fails c.in-Err.error (list_at c.args.all c.args.bank c.args.count b c.loop.rest.now)) c.as_slice.ensures c.in-Err.ensures)

pub loop-preserved : goal.loop-preserved
loop-preserved c =
    rw c.in_ok-push-in-Ok.ensures (go_on (list_at c.args.all c.args.bank c.args.count) c.args.number c.loop.counter c.loop.lists c.loop.rest.now c.in-Ok.values c.in-Ok.after.now (repeat_at (list_at c.args.all c.args.bank c.args.count) c.args.number [] c.args.bytes.now) c.loop-test.true c.loop.invariant (subst (λ (b : List (List (List ℕ))). list_at c.args.all c.args.bank c.args.count b c.loop.rest.now ≡ Ok (c.in-Ok.values, c.in-Ok.after.now)) c.as_slice.ensures c.in-Ok.ensures))

pub returns : goal.returns
returns c = finish (list_at c.args.all c.args.bank c.args.count) c.args.number c.loop.counter c.loop.lists c.loop.rest.now (repeat_at (list_at c.args.all c.args.bank c.args.count) c.args.number [] c.args.bytes.now) c.loop-test.false c.loop.invariant
