use Rattle.std.proofs.Common.{List, ℕ, subst, sym}
use Rattle.hash_bank.specs.Hasher.{HoldsMessage}
use Rattle.hash_bank.proofs.Joined.{joined_more}
use Rattle.hash_bank.proofs.hasher.Hasher.update_digests.Goals as goal

pub loop-digest-preserved : goal.loop-digest-preserved
loop-digest-preserved c b m h =
    let P : List ℕ → Type 0 = λ s. HoldsMessage c.update.new.self b s in
    let same = c.as_slice.ensures.value in
    let after = rw same at (c.update.ensures b _ (c.loop-digest.invariant b m h)) in
    subst P (sym (joined_more m c.args.digests.now c.loop-digest.digest-index c.digest-item.result c.loop-digest-test.true c.digest-item.is)) after
