use Rattle.std.proofs.Common.{◌<◌, ◌≤◌, List, length, take, refl, ap, ◌∙◌, subst, arith}
use Rattle.std.specs.Prelude.{Some, IfSome, slice_get, Ok, Err}
use Rattle.std.proofs.lemmas.List.{take_all}
use Rattle.tpm_model.specs.Rules.{HasRules}
use Rattle.tpm_device.specs.Stored.{Holds}
use Rattle.tpm_broker.specs.Clients.{Client}
use Rattle.tpm_broker.specs.Leaving.{FlushGives, FlushStores, after_flushes}
use Rattle.tpm_broker.specs.declared.rows.Handles.{Handles}
use Rattle.tpm_broker.proofs.Flushes.{next_flushed, next_stored, one_less, part_flushed, part_stored}
use Rattle.tpm_broker.proofs.leaving.flush_all.Goals as goal

pub returns-in-Err-clause-told : goal.returns-in-Err-clause-told
returns-in-Err-clause-told g c =
    let n = c.loop.counter in
    let xs = c.args.rows.now.sessions in
    let within : n < length xs = omega (arith, c.count-count.ensures.value) in (
      n,
      omega arith,
      c.in-Err.ensures.stopped ∙ c.loop.invariant.rest,
      λ s live.
          let t = after_flushes (take n xs) s in
          part_flushed xs n s t c.in-Err.stop (g.T.Tpm.live c.flush_first.new.tpm) within refl
          (subst (λ (ys : List Handles). FlushGives (slice_get ys 0) t (Err c.in-Err.stop) (g.T.Tpm.live c.flush_first.new.tpm)) (ap (λ (r : Client). r.sessions) c.loop.invariant.rest)
          (c.in-Err.ensures.told t (c.loop.invariant.told s live))),
    )

pub loop-preserved : goal.loop-preserved
loop-preserved g c =
    let n = c.loop.counter in
    let xs = c.args.rows.now.sessions in
    let within : n < length xs = omega (arith, c.count-count.ensures.value) in
    record {
      ready = c.in-Ok.ensures.readiness;
      later = omega (arith, c.loop.invariant.later, c.in-Ok.ensures.cause.later);
      rest = one_less n c.args.rows.now c.loop.rows c.flush_first.new.rows c.loop.invariant.rest c.in-Ok.ensures.left;
      untouched = λ e. absurd (omega arith);
      rules = λ s live h.
          let t = after_flushes (take n xs) s in
          c.in-Ok.ensures.rules t (c.loop.invariant.told s live) (subst (λ o. IfSome o HasRules) (c.loop.invariant.told s live) (c.loop.invariant.rules s live h));
      stored = λ s live holds.
          let t = after_flushes (take n xs) s in
          next_stored xs n s t (g.T.Tpm.stored c.flush_first.new.tpm) within refl
          (subst (λ (ys : List Handles). FlushStores (slice_get ys 0) t (Ok tt) (g.T.Tpm.stored c.flush_first.new.tpm)) (ap (λ (r : Client). r.sessions) c.loop.invariant.rest)
          (c.in-Ok.ensures.stored t (c.loop.invariant.told s live) (c.loop.invariant.stored s live holds)));
      told = λ s live.
          let t = after_flushes (take n xs) s in
          next_flushed xs n s t (g.T.Tpm.live c.flush_first.new.tpm) within refl
          (subst (λ (ys : List Handles). FlushGives (slice_get ys 0) t (Ok tt) (g.T.Tpm.live c.flush_first.new.tpm)) (ap (λ (r : Client). r.sessions) c.loop.invariant.rest)
          (c.in-Ok.ensures.told t (c.loop.invariant.told s live)));
    }

pub returns-clause-told : goal.returns-clause-told
returns-clause-told g c =
    let n = c.loop.counter in
    let xs = c.args.rows.now.sessions in
    let all : length xs ≤ n = omega (arith, c.count-count.ensures.value) in (
      n,
      omega (arith, c.count-count.ensures.value),
      c.loop.invariant.rest,
      λ s live. c.loop.invariant.told s live ∙ ap (λ ys. Some (after_flushes ys s)) (take_all n xs all),
    )

pub returns-in-Err-clause-rules : goal.returns-in-Err-clause-rules
returns-in-Err-clause-rules g c = λ s live h.
    let t = after_flushes (take c.loop.counter c.args.rows.now.sessions) s in
    c.in-Err.ensures.rules t (c.loop.invariant.told s live) (subst (λ o. IfSome o HasRules) (c.loop.invariant.told s live) (c.loop.invariant.rules s live h))

pub returns-in-Err-clause-stored : goal.returns-in-Err-clause-stored
returns-in-Err-clause-stored g c = λ s live holds.
    let n = c.loop.counter in
    let xs = c.args.rows.now.sessions in
    let within : n < length xs = omega (arith, c.count-count.ensures.value) in
    let t = after_flushes (take n xs) s in
    part_stored xs n s t c.in-Err.stop (g.T.Tpm.stored c.flush_first.new.tpm) within refl
    (subst (λ (ys : List Handles). FlushStores (slice_get ys 0) t (Err c.in-Err.stop) (g.T.Tpm.stored c.flush_first.new.tpm)) (ap (λ (r : Client). r.sessions) c.loop.invariant.rest)
    (c.in-Err.ensures.stored t (c.loop.invariant.told s live) (c.loop.invariant.stored s live holds)))

pub returns-clause-stored : goal.returns-clause-stored
returns-clause-stored g c = λ s live holds.
    let n = c.loop.counter in
    let xs = c.args.rows.now.sessions in
    let all : length xs ≤ n = omega (arith, c.count-count.ensures.value) in
    c.loop.invariant.stored s live holds ∙ ap (λ ys. Some (Holds (after_flushes ys s))) (take_all n xs all)
