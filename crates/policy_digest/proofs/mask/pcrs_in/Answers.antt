use Rattle.std.proofs.Common.{◌≡◌, ◌≤◌, ◌++◌, ◌∷◌, [], ℕ, List, length, sym, ap, ◌∙◌, subst, arith}
use Rattle.std.specs.List.{All}
use Rattle.std.proofs.lemmas.List.{length_push}
use Rattle.std.proofs.lemmas.List.Elements.{All-push, All-nil}
use Rattle.policy_digest.proofs.Masks.{pcrs_from}
use Rattle.policy_digest.proofs.MaskLists.{listed_first, listed_in, listed_out}
use Rattle.policy_digest.proofs.mask.pcrs_in.Goals.{then-is_in_mask+in_ok-push, else-is_in_mask}
use Rattle.policy_digest.proofs.mask.pcrs_in.Goals as goal

pub loop-pcr-init : goal.loop-pcr-init
loop-pcr-init c = record {
  rest = ap (λ (l : List ℕ). l ++ pcrs_from c.args.mask 0) c.new-pcrs.ensures ∙ listed_first c.args.mask;
  few = omega (arith, ap length c.new-pcrs.ensures);
  in_range = subst (λ (l : List ℕ). All (λ p. p ≤ 23) l) (sym c.new-pcrs.ensures) (All-nil (λ p. p ≤ 23));
}

pub loop-pcr-preserved : goal.loop-pcr-preserved
loop-pcr-preserved c =
    elim c.if-is_in_mask.branch [
      | then-is_in_mask+in_ok-push w ↦
          let new : c.if-is_in_mask.pcrs ≡ c.loop-pcr.pcrs ++ c.loop-pcr.pcr ∷ [] = w.pcrs-is ∙ w.in_ok-push.ensures in
          record {
            rest = rw new (listed_in c.args.mask c.loop-pcr.pcr c.loop-pcr.pcrs (omega arith) (sym w.if-is_in_mask.true ∙ c.is_in_mask.ensures) c.loop-pcr.invariant.rest);
            few = omega (arith, ap length new, length_push c.loop-pcr.pcrs c.loop-pcr.pcr);
            in_range = subst (λ (l : List ℕ). All (λ p. p ≤ 23) l) (sym new) (All-push (λ p. p ≤ 23) c.loop-pcr.pcrs c.loop-pcr.pcr c.loop-pcr.invariant.in_range (omega arith));
          }
      | else-is_in_mask w ↦
          record {
            rest = rw w.pcrs-is (listed_out c.args.mask c.loop-pcr.pcr c.loop-pcr.pcrs (omega arith) (sym w.if-is_in_mask.false ∙ c.is_in_mask.ensures) c.loop-pcr.invariant.rest);
            few = omega (arith, ap length w.pcrs-is);
            in_range = subst (λ (l : List ℕ). All (λ p. p ≤ 23) l) (sym w.pcrs-is) c.loop-pcr.invariant.in_range;
          }
    ]
