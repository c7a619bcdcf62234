use Rattle.std.proofs.Common.{ap, ◌∙◌}
use Rattle.component_tree.specs.PlainTree.{plain}
use Rattle.pcr_replay.specs.Measured.{extended_by}
use Rattle.record_match.specs.Extends.{digests_in, reached_by}
use Rattle.predict_proof.proofs.Walks.{reached_next}
use Rattle.predict_proof.proofs.reaching.reached.Goals as goal

pub loop-place-preserved : goal.loop-place-preserved
loop-place-preserved c = record {
  size = c.extend_by-held.ensures.size;
  rest = reached_next c.args.bank c.args.pcr c.args.components.now c.args.choice.now c.loop-place.place c.index-components-place.result c.loop-place.held c.extend_by-held.result (reached_by c.args.bank c.args.pcr c.args.locality (plain c.args.components.now) c.args.choice.now)
      c.loop-place-test.true c.index-components-place.is
      (c.extend_by-held.ensures.value ∙ ap (λ rs. extended_by c.args.bank c.loop-place.held (digests_in c.args.bank c.args.pcr rs)) c.records_at.ensures) c.loop-place.invariant.rest;
}
