use Rattle.std.proofs.Common.{◌≡◌, length, subst, sym}
use Rattle.std.specs.Prelude.{IfSome}
use Rattle.hash_bank.specs.Hash.{size_in}
use Rattle.hash_bank.proofs.Sizes.{length-start_of}
use Rattle.pcr_replay.proofs.replaying.replay_all.Goals as goal

pub extend_all-requires-clause-sizes : goal.extend_all-requires-clause-sizes
extend_all-requires-clause-sizes c = λ k below. subst (λ o. IfSome o (λ v. length v ≡ size_in c.args.bank)) (sym (c.start_all.ensures k below)) (length-start_of c.args.bank k c.args.locality)
