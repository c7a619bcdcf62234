use Rattle.std.proofs.Common.{sym}
use Rattle.pl_text.proofs.Splits.{one_of-more}
use Rattle.pl_text.proofs.words.one_part.Goals as goal

pub returns-in_default-Some : goal.returns-in_default-Some
returns-in_default-Some c =
    rw (c.in-Some.is, c.cut.ensures.parts, c.in_default-Some.is-1) (sym (one_of-more c.args.byte c.cut.result.0.now c.in_default-Some.field-0-1.now))
