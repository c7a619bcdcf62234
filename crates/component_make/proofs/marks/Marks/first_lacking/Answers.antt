use Rattle.std.proofs.Common.{◌≡◌, false, sym, arith, below_more}
use Rattle.component_make.specs.Lock.{lacks_separator}
use Rattle.component_make.proofs.Flags.{lacks_none}
use Rattle.component_make.proofs.marks.Marks.first_lacking.Goals as goal

pub loop-pcr-preserved : goal.loop-pcr-preserved
loop-pcr-preserved c = λ rows marked. below_more (λ k. lacks_separator c.args.pcrs rows k ≡ false) c.loop-pcr.pcr (c.loop-pcr.invariant rows marked) (sym (c.if-lacks.ensures rows marked))

pub returns : goal.returns
returns c = λ rows marked pcr. lacks_none c.args.pcrs rows c.requires (λ k below. c.loop-pcr.invariant rows marked k (omega arith)) pcr
