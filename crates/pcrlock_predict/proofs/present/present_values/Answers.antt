use Rattle.std.proofs.Common.{◌≡◌, ◌+◌, ◌++◌, ◌∷◌, [], ℕ, List, length, sym, ap, ◌∙◌, subst, arith}
use Rattle.std.specs.List.{All}
use Rattle.std.proofs.lemmas.List.{length_push}
use Rattle.std.proofs.lemmas.List.Elements.{All-push, All-nil}
use Rattle.hash_bank.specs.Hash.{size_in}
use Rattle.pcrlock_line.proofs.Composed.{later_stops}
use Rattle.pcrlock_predict.proofs.Left.{before, left_absent, left_first, left_none, left_read, values_left}
use Rattle.pcrlock_predict.proofs.present.present_values.Goals as goal

pub loop-pcr-init : goal.loop-pcr-init
loop-pcr-init g c = record {
  readiness = c.requires.readiness;
  later = omega arith;
  count = ap length c.new-values.ensures;
  sizes = subst (λ (vs : List (List ℕ)). All (λ v. length v ≡ size_in c.args.bank) vs) (sym c.new-values.ensures) (All-nil (λ v. length v ≡ size_in c.args.bank));
  runs = λ s runs. runs;
  told = λ s runs. left_first c.args.bank c.args.asked s ∙ ap (λ (vs : List (List ℕ)). before vs (values_left c.args.bank c.args.asked s 0)) (sym c.new-values.ensures);
}

pub returns-in-Ok-None-clause-told : goal.returns-in-Ok-None-clause-told
returns-in-Ok-None-clause-told g c = λ s runs.
    left_absent c.args.bank c.args.asked s c.loop-pcr.pcr c.loop-pcr.values (omega arith) (c.loop-pcr.invariant.told s runs)
    (sym c.in-Ok-None.field-0-is ∙ c.in-Ok-None.ensures.told s (c.loop-pcr.invariant.runs s runs))

pub returns-in-Err-clause-causes : goal.returns-in-Err-clause-causes
returns-in-Err-clause-causes g c =
    later_stops (g.T.Tpm.faults c.args.tpm.now) (g.T.Tpm.faults c.loop-pcr.tpm) (g.T.Tpm.faults c.asked_value.new.tpm) c.asked_value.result c.in-Err.stop
    c.loop-pcr.invariant.later c.asked_value.ensures.causes c.in-Err.is

pub loop-pcr-preserved : goal.loop-pcr-preserved
loop-pcr-preserved g c =
    let new : c.push.new.self ≡ c.loop-pcr.values ++ c.in-Ok-Some.value ∷ [] = c.in-Ok.ensures in
    let size : length c.in-Ok-Some.value ≡ size_in c.args.bank = rw c.in-Ok-Some.field-0-is at c.in-Ok-Some.ensures.size in
    record {
      readiness = c.in-Ok-Some.ensures.readiness;
      later = omega (arith, c.loop-pcr.invariant.later, c.asked_value.ensures.causes.tpm);
      count = ap length new ∙ length_push c.loop-pcr.values c.in-Ok-Some.value ∙ ap (λ (n : ℕ). n + 1) c.loop-pcr.invariant.count;
      sizes = subst (λ (vs : List (List ℕ)). All (λ v. length v ≡ size_in c.args.bank) vs) (sym new)
          (All-push (λ v. length v ≡ size_in c.args.bank) c.loop-pcr.values c.in-Ok-Some.value c.loop-pcr.invariant.sizes size);
      runs = λ s runs. c.in-Ok-Some.ensures.runs s (c.loop-pcr.invariant.runs s runs);
      told = λ s runs.
          left_read c.args.bank c.args.asked s c.loop-pcr.pcr c.loop-pcr.values c.in-Ok-Some.value c.loop-pcr-test.true (c.loop-pcr.invariant.told s runs)
          (sym c.in-Ok-Some.field-0-is ∙ c.in-Ok-Some.ensures.told s (c.loop-pcr.invariant.runs s runs))
          ∙ ap (λ (vs : List (List ℕ)). before vs (values_left c.args.bank c.args.asked s (c.loop-pcr.pcr + 1))) (sym new);
    }

pub returns-clause-told : goal.returns-clause-told
returns-clause-told g c = λ s runs. left_none c.args.bank c.args.asked s c.loop-pcr.pcr c.loop-pcr.values (omega arith) (c.loop-pcr.invariant.told s runs)
