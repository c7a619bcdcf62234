use Rattle.std.proofs.Common.{◌≡◌, ◌&&◌, leb, length, take, drop}
use Rattle.std.specs.List.{All, flat_map, list_all}
use Rattle.tcg_log.specs.Text.{record_text}
use Rattle.tcg_log.specs.Allowed.{is_record, RecordFits}
use Rattle.tcg_log.proofs.writable.records_fit.Given as goal

abbrev pub invariant-loop-record : goal.invariant-loop-record
invariant-loop-record l = record {
  value : (list_all (is_record l.algorithms) (drop l.record-index l.records) && leb (length (flat_map record_text (drop l.record-index l.records))) l.left)
      ≡ (list_all (is_record l.algorithms) l.records && leb (length (flat_map record_text l.records)) l.room);
  fits : All RecordFits (take l.record-index l.records);
}
