use Rattle.std.proofs.Common.{sym, ◌∙◌}
use Rattle.component_tree.specs.PlainTree.{plain}
use Rattle.std.proofs.lemmas.List.{length-map}
use Rattle.record_match.specs.Extends.{variants_of}
use Rattle.predictor.proofs.Insides.{plain_count}
use Rattle.predict_proof.proofs.Walks.{choice_short}
use Rattle.predict_proof.proofs.reaching.is_choice.Goals as goal

pub returns-then-choice-components : goal.returns-then-choice-components
returns-then-choice-components c =
    sym (choice_short (variants_of (plain c.args.components.now)) c.args.choice.now (λ same. c.if-choice-components.true (same ∙ length-map (plain c.args.components.now) (λ d. d.variants) ∙ plain_count c.args.components.now)))
