use Rattle.std.proofs.lemmas.List.{drop-replicate}
use Rattle.hash_bank.proofs.digest.room_of.Goals as goal

-- what is left of the room behind the bytes is zeros still
pub returns : goal.returns
returns c = rw c.copy_from_slice.ensures.after (rw drop-replicate)
