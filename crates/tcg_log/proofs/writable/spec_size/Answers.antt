use Rattle.std.proofs.Common.{sym}
use Rattle.tcg_log.proofs.WritableSteps.{spec_length}
use Rattle.tcg_log.proofs.writable.spec_size.Goals as goal

pub returns-clause-value : goal.returns-clause-value
returns-clause-value c = rw (c.len.ensures, c.len-2.ensures) (sym (spec_length c.args.spec.now))
