use Rattle.std.proofs.Common.{◌≡◌, ◌++◌, drop, map}
use Rattle.pcr_replay.specs.Row.{rows}
use Rattle.pcr_replay.specs.Combined.{user_row}
use Rattle.pcr_replay.proofs.combining.put_user.Given as goal

abbrev pub invariant-loop-record : goal.invariant-loop-record
invariant-loop-record l = rows l.list ++ map user_row (drop l.record-index l.user) ≡ rows l.fn.list ++ map user_row l.user
