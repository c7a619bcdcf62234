use Rattle.std.proofs.Common.{◌≡◌, ℕ, ◌<◌, get_or, Some, None}
use Rattle.hash_bank.specs.Extending.{start_of}
use Rattle.pcr_replay.proofs.replaying.start_all.Given as goal

abbrev pub invariant-loop-pcr : goal.invariant-loop-pcr
invariant-loop-pcr l = (k : ℕ) → k < l.pcr → get_or l.values k None ≡ Some (start_of l.bank k l.locality)
