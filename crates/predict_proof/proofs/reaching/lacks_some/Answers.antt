use Rattle.std.proofs.Common.{sym, ap, ◌∙◌}
use Rattle.std.specs.List.{list_any}
use Rattle.component_tree.specs.PlainTree.{plain}
use Rattle.record_match.specs.Choices.{chosen}
use Rattle.record_match.specs.Extends.{variants_of}
use Rattle.predict_proof.specs.Proved.{lacks, some_lacks}
use Rattle.predict_proof.proofs.Walks.{lacks_here, lacks_next}
use Rattle.predict_proof.proofs.reaching.lacks_some.Goals as goal

pub returns-then-is_any_lacking : goal.returns-then-is_any_lacking
returns-then-is_any_lacking c =
    lacks_here c.args.bank c.args.pcrs c.args.components.now c.args.choice.now c.loop-place.place c.index-components-place.result (some_lacks c.args.bank c.args.pcrs (chosen (variants_of (plain c.args.components.now)) c.args.choice.now))
    c.loop-place-test.true c.index-components-place.is
    (sym (ap (list_any (lacks c.args.bank c.args.pcrs)) c.records_at.ensures) ∙ sym c.is_any_lacking.ensures ∙ c.if-is_any_lacking.true) c.loop-place.invariant

pub loop-place-preserved : goal.loop-place-preserved
loop-place-preserved c =
    lacks_next c.args.bank c.args.pcrs c.args.components.now c.args.choice.now c.loop-place.place c.index-components-place.result (some_lacks c.args.bank c.args.pcrs (chosen (variants_of (plain c.args.components.now)) c.args.choice.now))
    c.loop-place-test.true c.index-components-place.is
    (sym (ap (list_any (lacks c.args.bank c.args.pcrs)) c.records_at.ensures) ∙ sym c.is_any_lacking.ensures ∙ c.if-is_any_lacking.false) c.loop-place.invariant
