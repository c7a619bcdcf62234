use Rattle.std.proofs.Common.{sym, ◌∙◌, subst}
use Rattle.std.proofs.lemmas.List.Elements.{All-more}
use Rattle.tcg_log.specs.Allowed.{TaggedFits}
use Rattle.tcg_log.proofs.WritableSteps.{all_taken, digests_next}
use Rattle.tcg_log.proofs.writable.digests_fit.Goals as goal

pub loop-i-preserved : goal.loop-i-preserved
loop-i-preserved c = record {
  value = sym (digests_next c.args.algorithms.now c.args.digests.now c.loop-i.i c.index-digests-i.result c.index-digests-i.result c.loop-i-test.true c.index-digests-i.is (sym c.if-not-digest_fits.ensures.value)) ∙ c.loop-i.invariant.value;
  fits = All-more TaggedFits c.args.digests.now c.loop-i.i c.index-digests-i.result c.loop-i-test.true c.loop-i.invariant.fits (subst TaggedFits c.index-digests-i.is c.digest_fits.ensures.fits);
}

pub returns-clause-fits : goal.returns-clause-fits
returns-clause-fits c = λ _. all_taken TaggedFits c.args.digests.now c.loop-i.i c.loop-i-test.false c.loop-i.invariant.fits
