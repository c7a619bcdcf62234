use Rattle.std.proofs.Common.{◌≡◌, drop, map}
use Rattle.std.specs.List.{list_any}
use Rattle.cel_record.specs.Spelled.{spelled}
use Rattle.predict_proof.specs.Proved.{lacks}
use Rattle.predict_proof.proofs.reaching.is_any_lacking.Given as goal

abbrev pub invariant-loop-measured : goal.invariant-loop-measured
invariant-loop-measured l = list_any (lacks l.bank l.pcrs) (map spelled (drop l.measured-index l.records)) ≡ list_any (lacks l.bank l.pcrs) (map spelled l.records)
