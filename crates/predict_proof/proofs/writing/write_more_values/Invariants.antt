use Rattle.std.proofs.Common.{◌≡◌, ◌++◌, take, flat_map, string_bytes}
use Rattle.std.specs.Prelude.{codes}
use Rattle.hex.specs.Hex.{encode_lower}
use Rattle.predict_proof.proofs.writing.write_more_values.Given as goal

abbrev pub invariant-loop-digest : goal.invariant-loop-digest
invariant-loop-digest l = string_bytes l.text ≡ string_bytes l.fn.text ++ flat_map (λ digest. codes "," ++ encode_lower digest) (take l.digest-index l.values)
