use Rattle.std.proofs.Common.{◌≡◌, drop, length}
use Rattle.hash_bank.specs.Hash.{size_in}
use Rattle.pcr_replay.specs.Row.{rows}
use Rattle.pcr_replay.specs.Measured.{replayed_in}
use Rattle.pcr_replay.proofs.Steps.{replay_from}
use Rattle.pcr_replay.proofs.replaying.replay.Given as goal

abbrev pub invariant-loop-record : goal.invariant-loop-record
invariant-loop-record l = record {
  value : replay_from l.bank l.pcr l.value (rows (drop l.record-index l.list)) ≡ replayed_in l.bank l.pcr l.fn.locality (rows l.list);
  size : length l.value ≡ size_in l.bank;
}
