use Rattle.std.proofs.Common.{length, ap, ◌++◌}
use Rattle.std.proofs.lemmas.List.{drop-replicate}
use Rattle.policy_digest.proofs.group.room_of.Goals as goal

-- what is left of the room behind the digests is zeros still
pub returns : goal.returns
returns c =
    rw (c.copy_from_slice.ensures.after, ← c.zeros-room.ensures.value)
    (ap (λ rest. c.args.list.now ++ rest) (drop-replicate (length c.args.list.now) 8 c.zeros-room.result))
