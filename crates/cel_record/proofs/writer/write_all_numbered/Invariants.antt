use Rattle.std.proofs.Common.{◌≡◌, ◌++◌, drop, take, false, map, nat_lt, string_bytes}
use Rattle.std.specs.Prelude.{All}
use Rattle.cel_record.specs.Commas.{comma_texts}
use Rattle.cel_record.specs.Proper.{IsProper}
use Rattle.cel_record.specs.Spelled.{spelled}
use Rattle.cel_record.specs.Written.{numbered_texts}
use Rattle.cel_record.proofs.writer.write_all_numbered.Given as goal

abbrev pub invariant-loop-number : goal.invariant-loop-number
invariant-loop-number l = record {
  text : string_bytes l.out ++ comma_texts (nat_lt 0 l.number) (numbered_texts l.number (map spelled (drop l.number l.records))) ≡ string_bytes l.fn.out ++ comma_texts false (numbered_texts 0 (map spelled l.records));
  proper : All (λ r. IsProper (spelled r)) (take l.number l.records);
}
