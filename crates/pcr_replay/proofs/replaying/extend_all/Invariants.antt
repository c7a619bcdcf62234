use Rattle.std.proofs.Common.{◌≡◌, ℕ, ◌<◌, drop, length, get_or, None}
use Rattle.std.specs.Prelude.{IfSome}
use Rattle.hash_bank.specs.Hash.{size_in}
use Rattle.pcr_replay.specs.Row.{rows}
use Rattle.pcr_replay.specs.Measured.{replay_on}
use Rattle.pcr_replay.proofs.replaying.extend_all.Given as goal

abbrev pub invariant-loop-record : goal.invariant-loop-record
invariant-loop-record l = record {
  value : (k : ℕ) → k < 24 → replay_on l.bank k (get_or l.values k None) (rows (drop l.record-index l.list)) ≡ replay_on l.bank k (get_or l.fn.values k None) (rows l.list);
  sizes : (k : ℕ) → k < 24 → IfSome (get_or l.values k None) (λ v. length v ≡ size_in l.bank);
}
