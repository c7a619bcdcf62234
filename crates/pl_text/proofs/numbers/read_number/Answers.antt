use Rattle.std.proofs.Common.{sym}
use Rattle.pl_text.proofs.Decimals.{number-no_text}
use Rattle.pl_text.proofs.numbers.read_number.Goals as goal

pub returns-in-Err : goal.returns-in-Err
returns-in-Err c = sym (number-no_text c.args.limit c.args.word.now c.ranges.limit.fits c.in-Err.ensures.cases.0)
