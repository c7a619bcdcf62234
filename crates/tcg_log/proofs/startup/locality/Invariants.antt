use Rattle.std.proofs.Common.{◌≡◌, drop, slice_index}
use Rattle.std.specs.List.{filter_map}
use Rattle.tcg_log.specs.Locality.{announced, locality_of}
use Rattle.tcg_log.proofs.startup.locality.Given as goal

abbrev pub invariant-loop-record : goal.invariant-loop-record
invariant-loop-record l = slice_index (filter_map announced (drop l.record-index l.record-items)) 0 ≡ locality_of l.log
