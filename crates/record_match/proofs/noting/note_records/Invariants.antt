use Rattle.std.proofs.Common.{take}
use Rattle.std.specs.List.{All}
use Rattle.cel_record.specs.Spelled.{spelled}
use Rattle.record_match.specs.Noted.{Lowers, NotesRecord}
use Rattle.record_match.proofs.noting.note_records.Given as goal

abbrev pub invariant-loop-measured : goal.invariant-loop-measured
invariant-loop-measured l = record {
  lowers : Lowers l.fn.numbers l.numbers;
  so_far : All (λ r. NotesRecord l.numbers l.number (spelled r)) (take l.measured-index l.records);
}
