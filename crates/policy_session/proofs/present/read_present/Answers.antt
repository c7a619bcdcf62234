use Rattle.std.proofs.Common.{◌≡◌, ◌≤◌, ◌<◌, ◌+◌, ◌/◌, ◌%◌, ◌==◌, ℕ, true, false, List, [], ◌∷◌, ◌++◌, length, take, set, sym, ap, ◌∙◌, subst, refl, rules, arith, true≢false}
use Rattle.std.specs.Prelude.{Ok, Err, Some}
use Rattle.std.proofs.lemmas.List.{take_more_set, length-set}
use Rattle.tpm_device.specs.Stored.{Holds}
use Rattle.policy_session.specs.BoundUnseal.{shown}
use Rattle.policy_session.specs.OpenSession.{with_open}
use Rattle.policy_session.proofs.Reading.{IsReading, all_read, next_pcr, passed_over, read_on}
use Rattle.policy_session.proofs.Runs.{ran_err}
use Rattle.policy_session.proofs.present.read_present.Goals as goal

pub loop-pcr-preserved-then-not-is_asked : goal.loop-pcr-preserved-then-not-is_asked
loop-pcr-preserved-then-not-is_asked g c =
    let i = c.loop-pcr.invariant in
    let unasked : (c.loop-pcr.left % 2 == 1) ≡ false = search rules in
    record {
      readiness = i.readiness;
      later = i.later;
      room = i.room;
      few = omega (arith, i.few);
      ran = λ s x session keeps at o present.
          let next = next_pcr s.banks s.pcrs c.args.bank c.loop-pcr.pcr o.rules.shape.values c.loop-pcr-test.true present in
          passed_over c.args.bank c.args.pcrs x s keeps c.loop-pcr.pcr c.loop-pcr.left _ _ _ (i.ran s x session keeps at o present) next unasked;
    }

pub loop-pcr-preserved : goal.loop-pcr-preserved
loop-pcr-preserved g c =
    let i = c.loop-pcr.invariant in
    let asked : (c.loop-pcr.left % 2 == 1) ≡ true = search rules in
    let inside : c.loop-pcr.count < length c.loop-pcr.values = omega (arith, i.few, i.room, c.loop-pcr-test.true) in
    record {
      readiness = c.in-Ok.ensures.readiness refl;
      later = search rules;
      room = length-set c.loop-pcr.values c.loop-pcr.count c.in-Ok.value ∙ i.room;
      few = omega (arith, i.few);
      ran = λ s x session keeps at o present.
          let next = next_pcr s.banks s.pcrs c.args.bank c.loop-pcr.pcr o.rules.shape.values c.loop-pcr-test.true present in
          let reading = i.ran s x session keeps at o present in
          let got = (c.in-Ok.ensures.ran s x session keeps next.value reading.is o next.found).answered refl in
          let same : next.value ≡ c.in-Ok.value = cc in
          let more = take_more_set c.loop-pcr.values c.loop-pcr.count c.in-Ok.value inside in
          subst (λ so_far. IsReading c.args.bank c.args.pcrs x s keeps (c.loop-pcr.pcr + 1) (c.loop-pcr.left / 2) so_far (g.T.Tpm.live c.read_pcr.new.tpm) (g.T.Tpm.stored c.read_pcr.new.tpm)) (ap (λ v. take c.loop-pcr.count c.loop-pcr.values ++ v ∷ []) same ∙ sym more)
          (read_on c.args.bank c.args.pcrs x s keeps c.loop-pcr.pcr c.loop-pcr.left _ _ _ reading next asked _ _
          (record { now = got.is.now ∙ ap Some got.good.1; same = λ k. got.is.same k ∙ ap (λ n. Some (Holds n)) got.good.1 }));
    }

pub returns-in-Err-clause-ran : goal.returns-in-Err-clause-ran
returns-in-Err-clause-ran g c = λ s x session keeps at o present.
    let i = c.loop-pcr.invariant in
    let next = next_pcr s.banks s.pcrs c.args.bank c.loop-pcr.pcr o.rules.shape.values c.loop-pcr-test.true present in
    let reading = i.ran s x session keeps at o present in
    ran_err s keeps _ _ c.in-Err.error _ _ _ (c.in-Err.ensures.ran s x session keeps next.value reading.is o next.found) (λ after good. cc)

pub returns-clause-ran : goal.returns-clause-ran
returns-clause-ran g c = λ s x session keeps at o present.
    let i = c.loop-pcr.invariant in
    let reading = i.ran s x session keeps at o present in
    let values = all_read c.args.bank c.args.pcrs x s keeps c.loop-pcr.pcr c.loop-pcr.left _ _ _ reading c.loop-pcr-test.false in
    record {
      answered = λ is. record { after = with_open x s; is = reading.is; readiness = i.readiness; good = (ap Ok (c.shown.ensures ∙ ap shown (sym values)), refl) };
      stopped = λ none. absurd (true≢false none);
    }
