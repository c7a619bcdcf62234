use Rattle.std.proofs.Common.{ap, arith, take, drop, sym, ◌∙◌, ◌≡◌, length, subst, refl}
use Rattle.std.proofs.lemmas.List.{take_all}
use Rattle.tpm_worlds.specs.CommandLists.{state_after}
use Rattle.tpm_broker.specs.Clients.{Client, client_at}
use Rattle.tpm_broker.specs.Leaving.{after_flushes}
use Rattle.pcrlock_line.specs.Running.{Keeps, Runs}
use Rattle.pcrlock_line.proofs.Composed.{later_stops}
use Rattle.pcrlock_broker.specs.Broker.{flushes}
use Rattle.pcrlock_broker.proofs.Passed.{flushed_more, flushed_part}
use Rattle.pcrlock_broker.proofs.Turns.{others_left}
use Rattle.pcrlock_broker.proofs.serving.leave_all.Goals as goal

pub returns-in-Err-clause-stops : goal.returns-in-Err-clause-stops
returns-in-Err-clause-stops g c = λ s runs.
    let i = c.loop-client.client in
    let before = c.args.broker.now in
    let part = c.in-Err.ensures.stops (state_after (flushes (take i before)) s) (c.loop-client.invariant.runs s runs) in
    flushed_part (g.T.Tpm.stored c.leave_one.new.tpm) before i part.0 s (omega (arith, c.loop-client-test.true, c.clients-clients.ensures.value))
    (subst (λ (client : Client). Keeps (g.T.Tpm.stored c.leave_one.new.tpm) (after_flushes (take part.0 client.sessions) (state_after (flushes (take i before)) s)))
    (c.loop-client.invariant.same i (omega arith)) part.2)

pub loop-client-preserved : goal.loop-client-preserved
loop-client-preserved g c =
    let i = c.loop-client.client in
    let before = c.args.broker.now in
    record {
      readiness = c.in-Ok.ensures.readiness;
      later = omega (arith, c.loop-client.invariant.later, c.leave_one.ensures.causes.tpm);
      count = c.in-Ok.ensures.count ∙ c.loop-client.invariant.count;
      same = others_left before c.loop-client.broker c.leave_one.new.broker i c.loop-client.invariant.same c.in-Ok.ensures.left;
      runs = λ s runs.
          subst (Runs (g.T.Tpm.live c.leave_one.new.tpm) (g.T.Tpm.stored c.leave_one.new.tpm))
          (ap (λ (client : Client). after_flushes client.sessions (state_after (flushes (take i before)) s)) (c.loop-client.invariant.same i (omega arith))
          ∙ flushed_more before i s (omega (arith, c.loop-client-test.true, c.clients-clients.ensures.value)))
          (c.in-Ok.ensures.told (state_after (flushes (take i before)) s) (c.loop-client.invariant.runs s runs));
    }
