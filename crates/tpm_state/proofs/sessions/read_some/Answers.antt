use Rattle.std.proofs.Common.{[]}
use Rattle.pl_layout.specs.Reading.{repeat_at}
use Rattle.pl_layout.proofs.Loops.{go_on, finish}
use Rattle.tpm_state.specs.Sessions.{session_at}
use Rattle.tpm_state.proofs.Loops.{end}
use Rattle.tpm_state.proofs.sessions.read_some.Goals as goal

pub returns-in-Err : goal.returns-in-Err
returns-in-Err c =
    end c.in-Err.error (λ before. session_at c.args.all c.args.version) c.args.count c.loop.counter c.loop.sessions.items c.loop.rest.now (repeat_at (λ before. session_at c.args.all c.args.version) c.args.count [] c.args.bytes.now) c.loop-test.true c.loop.invariant c.in-Err.ensures

pub loop-preserved : goal.loop-preserved
loop-preserved c =
    rw c.in_ok-push-in-Ok.ensures.items (go_on (λ before. session_at c.args.all c.args.version) c.args.count c.loop.counter c.loop.sessions.items c.loop.rest.now c.in-Ok.session c.in-Ok.after.now (repeat_at (λ before. session_at c.args.all c.args.version) c.args.count [] c.args.bytes.now) c.loop-test.true c.loop.invariant c.in-Ok.ensures)

pub returns : goal.returns
returns c = finish (λ before. session_at c.args.all c.args.version) c.args.count c.loop.counter c.loop.sessions.items c.loop.rest.now (repeat_at (λ before. session_at c.args.all c.args.version) c.args.count [] c.args.bytes.now) c.loop-test.false c.loop.invariant
