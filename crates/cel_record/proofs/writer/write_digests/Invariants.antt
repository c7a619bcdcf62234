use Rattle.std.proofs.Common.{◌≡◌, ◌++◌, drop, take, false, flat_map, string_bytes}
use Rattle.std.specs.Prelude.{All}
use Rattle.cel_record.specs.Commas.{comma_texts}
use Rattle.cel_record.specs.Listed.{listed, listed_in}
use Rattle.cel_record.specs.Proper.{IsDigestOf}
use Rattle.cel_record.specs.Written.{digest_texts, digest_texts_in}
use Rattle.cel_record.proofs.writer.write_digests.Given as goal

abbrev pub invariant-loop-bank : goal.invariant-loop-bank
invariant-loop-bank l = record {
  text : string_bytes l.out ++ comma_texts l.later (flat_map (digest_texts_in (listed l.digests)) (drop l.bank-index l.bank-items)) ≡ string_bytes l.fn.out ++ comma_texts false (digest_texts (listed l.digests));
  digests : All (λ b. IsDigestOf b (listed_in b (listed l.digests))) (take l.bank-index l.bank-items);
}
