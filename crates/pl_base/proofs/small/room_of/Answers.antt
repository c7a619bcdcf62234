use Rattle.std.proofs.lemmas.List.{drop-replicate}
use Rattle.pl_base.proofs.small.room_of.Goals as goal

pub returns : goal.returns
returns c = rw (c.copy_from_slice.ensures.after, drop-replicate)
