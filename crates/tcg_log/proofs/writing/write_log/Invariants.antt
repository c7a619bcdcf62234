use Rattle.std.proofs.Common.{◌≡◌, ◌++◌, take}
use Rattle.std.specs.List.{flat_map}
use Rattle.tcg_log.specs.Text.{record_text, spec_text}
use Rattle.tcg_log.proofs.writing.write_log.Given as goal

abbrev pub invariant-loop-record : goal.invariant-loop-record
invariant-loop-record l = l.out.items ≡ spec_text l.log.spec ++ flat_map record_text (take l.record-index l.log.records)
