use Rattle.std.proofs.Common.{take}
use Rattle.std.specs.Prelude.{All}
use Rattle.cel_record.specs.Proper.{IsProper}
use Rattle.cel_record.specs.Spelled.{spelled}
use Rattle.component_make.proofs.proper.are_proper.Given as goal

abbrev pub invariant-loop-record : goal.invariant-loop-record
invariant-loop-record l = All (λ r. IsProper (spelled r)) (take l.record-index l.records)
