use Rattle.userspace_log.proofs.Pieces.{slice_split-range, slice_split-none}
use Rattle.userspace_log.proofs.reader.cut.Goals as goal

pub returns-in-Some-clause-parts : goal.returns-in-Some-clause-parts
returns-in-Some-clause-parts c = slice_split-range c.args.bytes.now c.in-Some.i c.in-Some.ensures

pub returns-in-None-clause-parts : goal.returns-in-None-clause-parts
returns-in-None-clause-parts c = slice_split-none c.args.bytes.now c.in-None.ensures
