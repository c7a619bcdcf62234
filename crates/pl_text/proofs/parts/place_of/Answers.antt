use Rattle.pl_text.proofs.Splits.{first_place}
use Rattle.pl_text.proofs.parts.place_of.Goals as goal

pub returns : goal.returns
returns c = first_place c.args.byte c.args.text.now c.memchr.result c.memchr.ensures
