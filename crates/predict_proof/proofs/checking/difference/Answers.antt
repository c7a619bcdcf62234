use Rattle.std.proofs.Common.{◌≡◌, ◌+◌, ℕ, List, Option, Some, drop, length, sym, ap, ◌∙◌, subst, arith}
use Rattle.std.specs.Str.{bytes_eq}
use Rattle.component_tree.specs.PlainTree.{plain}
use Rattle.policy_digest.specs.Mask.{pcrs_of}
use Rattle.policy_digest.proofs.Masks.{pcrs_from, counted_in, counted_out}
use Rattle.record_match.specs.Extends.{reached_by}
use Rattle.predict_proof.specs.declared.error.CheckError.TheVariants as errors
use Rattle.predict_proof.specs.Fault.{differing, first_differing}
use Rattle.predict_proof.proofs.Differing.{count_first, differ_first, differ_next, differ_here, differ_skip, has_room}
use Rattle.predict_proof.proofs.checking.difference.Goals.{then-is_in_mask+else-not-is_same, else-is_in_mask}
use Rattle.predict_proof.proofs.checking.difference.Goals as goal

pub loop-pcr-init : goal.loop-pcr-init
loop-pcr-init c = record {
  count = count_first c.args.pcrs (length c.args.values.now) c.requires;
  rest = differ_first (λ p. reached_by c.args.bank p c.args.locality (plain c.args.components.now) c.args.choice.now) c.args.pcrs c.args.values.now;
}

pub returns-then-not-is_same : goal.returns-then-not-is_same
returns-then-not-is_same c =
    let held : ℕ → List ℕ = λ p. reached_by c.args.bank p c.args.locality (plain c.args.components.now) c.args.choice.now in
    let whole : Option (ℕ × List ℕ) = first_differing held (pcrs_of c.args.pcrs) c.args.values.now in
    let there = sym c.if-is_in_mask.true ∙ c.is_in_mask.ensures in
    let room = has_room c.args.pcrs c.loop-pcr.pcr c.loop-pcr.place (length c.args.values.now) (omega arith) there c.loop-pcr.invariant.count in
    let other = ap (λ d. bytes_eq d c.index-values-place.result) (sym c.reached-reached.ensures.value) ∙ sym c.is_same.ensures.value ∙ c.if-not-is_same.true in
    ap (λ d. Some (errors.Differs c.args.number c.loop-pcr.pcr d)) c.reached-reached.ensures.value
    ∙ ap (differing c.args.number) (differ_here held c.args.pcrs c.loop-pcr.pcr c.loop-pcr.place c.args.values.now c.index-values-place.result whole (omega arith) there room c.index-values-place.is other c.loop-pcr.invariant.rest)

pub loop-pcr-preserved : goal.loop-pcr-preserved
loop-pcr-preserved c =
    let held : ℕ → List ℕ = λ p. reached_by c.args.bank p c.args.locality (plain c.args.components.now) c.args.choice.now in
    let whole : Option (ℕ × List ℕ) = first_differing held (pcrs_of c.args.pcrs) c.args.values.now in
    let total = length c.args.values.now in
    elim c.if-is_in_mask.branch [
      | then-is_in_mask+else-not-is_same w ↦
          let there = sym w.if-is_in_mask.true ∙ c.is_in_mask.ensures in
          let room = has_room c.args.pcrs c.loop-pcr.pcr c.loop-pcr.place total (omega arith) there c.loop-pcr.invariant.count in
          let same = ap (λ d. bytes_eq d w.index-values-place.result) (sym w.reached-reached.ensures.value) ∙ sym w.is_same.ensures.value ∙ w.if-not-is_same.false in
          record {
            count = subst (λ k. k + length (pcrs_from c.args.pcrs (c.loop-pcr.pcr + 1)) ≡ total) (sym w.place-is) (counted_in c.args.pcrs c.loop-pcr.pcr c.loop-pcr.place total (omega arith) there c.loop-pcr.invariant.count);
            rest = subst (λ k. first_differing held (pcrs_from c.args.pcrs (c.loop-pcr.pcr + 1)) (drop k c.args.values.now) ≡ whole) (sym w.place-is)
                (differ_next held c.args.pcrs c.loop-pcr.pcr c.loop-pcr.place c.args.values.now w.index-values-place.result whole (omega arith) there room w.index-values-place.is same c.loop-pcr.invariant.rest);
          }
      | else-is_in_mask w ↦
          let there = sym w.if-is_in_mask.false ∙ c.is_in_mask.ensures in
          record {
            count = subst (λ k. k + length (pcrs_from c.args.pcrs (c.loop-pcr.pcr + 1)) ≡ total) (sym w.place-is) (counted_out c.args.pcrs c.loop-pcr.pcr c.loop-pcr.place total (omega arith) there c.loop-pcr.invariant.count);
            rest = subst (λ k. first_differing held (pcrs_from c.args.pcrs (c.loop-pcr.pcr + 1)) (drop k c.args.values.now) ≡ whole) (sym w.place-is)
                (differ_skip held c.args.pcrs c.loop-pcr.pcr (drop c.loop-pcr.place c.args.values.now) whole (omega arith) there c.loop-pcr.invariant.rest);
          }
    ]
