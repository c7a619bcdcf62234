use Rattle.std.proofs.Common.{refl, sym, ◌∙◌, get_or}
use Rattle.std.proofs.lemmas.List.Elements.{All-more}
use Rattle.tcg_log.specs.Allowed.{AlgorithmFits}
use Rattle.tcg_log.proofs.WritableSteps.{all_taken, algorithms_next}
use Rattle.tcg_log.proofs.writable.algorithms_fit.Goals as goal

pub loop-i-preserved : goal.loop-i-preserved
loop-i-preserved c = record {
  value = sym (algorithms_next c.args.algorithms.now c.loop-i.i (get_or c.args.algorithms.now c.loop-i.i record { number = 0; size = 0 }) (record { number = 0; size = 0 }) c.loop-i-test.true refl (sym c.if-has_number.ensures) (sym c.if-not-size_fits.ensures.value)) ∙ c.loop-i.invariant.value;
  fits = All-more AlgorithmFits c.args.algorithms.now c.loop-i.i (record { number = 0; size = 0 }) c.loop-i-test.true c.loop-i.invariant.fits (record { number = c.loop-i-test.element_fits.fits; size = c.loop-i-test.element_fits2.fits });
}

pub returns-clause-fits : goal.returns-clause-fits
returns-clause-fits c = λ _. all_taken AlgorithmFits c.args.algorithms.now c.loop-i.i c.loop-i-test.false c.loop-i.invariant.fits
