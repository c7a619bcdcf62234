use Rattle.std.proofs.Common.{◌≡◌, ◌-◌, length, true, sym, ◌∙◌}
use Rattle.std.proofs.lemmas.Bool.{OnTrue_from}
use Rattle.policy_digest.specs.Table.{values_eq}
use Rattle.predictor.specs.declared.reached.Reached.{Reached}
use Rattle.predictor.specs.StateOrder.{has_values}
use Rattle.predictor.proofs.Repeats.{any_at}
use Rattle.predictor.proofs.seen.is_last.Goals as goal

pub returns-in-Some : goal.returns-in-Some
returns-in-Some c =
    let list = c.args.list.now in
    OnTrue_from c.is_same.result (has_values c.args.values.now list ≡ true)
    (λ same. any_at (λ (s : Reached). values_eq c.args.values.now s.values) list (length list - 1) c.in-Some.last.now (sym c.in-Some.ensures.value) (sym c.is_same.ensures ∙ same))
