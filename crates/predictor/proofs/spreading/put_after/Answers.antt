use Rattle.std.proofs.Common.{◌≡◌, ◌<◌, ◌++◌, ◌∷◌, [], ℕ, List, length, drop, map, ◌+◌, arith, ap, sym, ◌∙◌, subst}
use Rattle.std.specs.List.{All}
use Rattle.component_tree.specs.PlainTree.{plain_variant}
use Rattle.predictor.specs.declared.reached.Reached.{Reached}
use Rattle.predictor.specs.Distinct.{put, put_all}
use Rattle.predictor.specs.Foreseen.{value_limit}
use Rattle.predictor.specs.Reaching.{same_values}
use Rattle.predictor.specs.Spread.{extended_state, next_of, nexts_from, HasState}
use Rattle.predictor.proofs.Repeats.{All-put}
use Rattle.predictor.proofs.Puttings.{put_full, put_variant}
use Rattle.predictor.proofs.spreading.put_after.Goals as goal

pub loop-number-preserved : goal.loop-number-preserved
loop-number-preserved c =
    let s = c.args.state.now in
    let P : Reached → Type 0 = HasState c.args.bank (length c.args.pcrs.now) in
    let with : List ℕ → List (List ℕ) → Reached = λ choice values. record { cut = c.args.cut; choice = choice ++ c.loop-number.number ∷ []; values = values } in
    let value : c.in-Ok.values ≡ extended_state c.args.bank c.args.pcrs.now s.values (plain_variant c.index-variants-number.result).records = rw (c.as_slice-before.ensures.value, c.as_slice-records.ensures) at c.in-Ok.ensures.value in
    let made : c.put_next.new.self ≡ put same_values c.loop-number.list (next_of c.args.bank c.args.pcrs.now c.args.cut s c.loop-number.number (plain_variant c.index-variants-number.result).records) =
    c.in-Ok-put_next.ensures ∙ ap (λ (choice : List ℕ). put same_values c.loop-number.list (with choice c.in-Ok.values)) c.as_slice-choice.ensures ∙ ap (λ (values : List (List ℕ)). put same_values c.loop-number.list (with s.choice values)) value in
    let total = put_all same_values c.args.list.now (nexts_from c.args.bank c.args.pcrs.now c.args.cut 0 (map plain_variant c.args.variants.now) s) in
    record {
      rest = put_variant c.args.bank c.args.pcrs.now c.args.cut s c.loop-number.list c.put_next.new.self total c.args.variants.now c.loop-number.number c.index-variants-number.result c.loop-number-test.true c.index-variants-number.is made c.loop-number.invariant.rest;
      within = omega (arith, c.len.ensures);
      all_fit = subst (λ (l : List Reached). All P l) (sym c.in-Ok-put_next.ensures) (All-put P same_values c.loop-number.list (with c.as_slice-choice.result.now c.in-Ok.values) c.loop-number.invariant.all_fit c.in-Ok.ensures.fits);
    }

pub returns-then-len-gt-LIMIT-clause-puts : goal.returns-then-len-gt-LIMIT-clause-puts
returns-then-len-gt-LIMIT-clause-puts c =
    let s = c.args.state.now in
    let with : List ℕ → List (List ℕ) → Reached = λ choice values. record { cut = c.args.cut; choice = choice ++ c.loop-number.number ∷ []; values = values } in
    let value : c.in-Ok.values ≡ extended_state c.args.bank c.args.pcrs.now s.values (plain_variant c.index-variants-number.result).records = rw (c.as_slice-before.ensures.value, c.as_slice-records.ensures) at c.in-Ok.ensures.value in
    let made : c.put_next.new.self ≡ put same_values c.loop-number.list (next_of c.args.bank c.args.pcrs.now c.args.cut s c.loop-number.number (plain_variant c.index-variants-number.result).records) =
    c.in-Ok-put_next.ensures ∙ ap (λ (choice : List ℕ). put same_values c.loop-number.list (with choice c.in-Ok.values)) c.as_slice-choice.ensures ∙ ap (λ (values : List (List ℕ)). put same_values c.loop-number.list (with s.choice values)) value in
    let longer : value_limit < length c.put_next.new.self = omega (arith, c.len.ensures) in
    let total = put_all same_values c.args.list.now (nexts_from c.args.bank c.args.pcrs.now c.args.cut 0 (map plain_variant c.args.variants.now) s) in
    put_full c.put_next.new.self (nexts_from c.args.bank c.args.pcrs.now c.args.cut (c.loop-number.number + 1) (map plain_variant (drop (c.loop-number.number + 1) c.args.variants.now)) s) total longer
    (put_variant c.args.bank c.args.pcrs.now c.args.cut s c.loop-number.list c.put_next.new.self total c.args.variants.now c.loop-number.number c.index-variants-number.result c.loop-number-test.true c.index-variants-number.is made c.loop-number.invariant.rest)
