use Rattle.std.proofs.Common.{◌≡◌, ◌++◌, drop, take, map}
use Rattle.std.specs.Prelude.{All}
use Rattle.cel_record.specs.Proper.{IsProper}
use Rattle.cel_record.specs.Spelled.{spelled}
use Rattle.userspace_log.specs.Written.{seq_text}
use Rattle.userspace_log.proofs.writer.write_seq.Given as goal

abbrev pub invariant-loop-record : goal.invariant-loop-record
invariant-loop-record l = record {
  text : l.out.items ++ seq_text (map spelled (drop l.record-index l.records)) ≡ seq_text (map spelled l.records);
  proper : All (λ r. IsProper (spelled r)) (take l.record-index l.records);
}
