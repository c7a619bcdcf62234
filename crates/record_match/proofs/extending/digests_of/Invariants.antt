use Rattle.std.proofs.Common.{◌≡◌, map, drop, ◌++◌}
use Rattle.cel_record.specs.Spelled.{spelled}
use Rattle.record_match.specs.Extends.{digests_in}
use Rattle.record_match.proofs.extending.digests_of.Given as goal

abbrev pub invariant-loop-record : goal.invariant-loop-record
invariant-loop-record l = l.digests ++ digests_in l.bank l.pcr (map spelled (drop l.record-index l.records)) ≡ digests_in l.bank l.pcr (map spelled l.records)
