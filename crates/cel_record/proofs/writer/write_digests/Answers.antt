use Rattle.std.proofs.Common.{◌+◌, ◌++◌, List, [], ◌∷◌, drop, flat_map, string_bytes, sym, ap, ◌∙◌}
use Rattle.std.proofs.lemmas.List.Elements.{All-more}
use Rattle.hash_bank.specs.declared.bank.Bank.{Bank}
use Rattle.hash_bank.specs.declared.bank.Bank.TheVariants.{Sha1, Sha256, Sha384, Sha512}
use Rattle.cel_record.specs.Commas.{comma_texts}
use Rattle.cel_record.specs.Listed.{listed, listed_in}
use Rattle.cel_record.specs.Proper.{IsDigestOf}
use Rattle.cel_record.specs.Written.{digest_texts_in}
use Rattle.cel_record.proofs.Commas.{next_texts}
use Rattle.cel_record.proofs.writer.write_digests.Goals as goal

abbrev banks : List Bank
banks = Sha1 ∷ Sha256 ∷ Sha384 ∷ Sha512 ∷ []

pub loop-bank-preserved : goal.loop-bank-preserved
loop-bank-preserved c =
    let i = c.loop-bank.bank-index in
    let l = listed c.args.digests.now in
    record {
      text = c.in_ok-later.ensures.text (flat_map (digest_texts_in l) (drop (i + 1) banks))
          ∙ ap (λ s. string_bytes c.loop-bank.out ++ comma_texts c.loop-bank.later s) (sym (next_texts (digest_texts_in l) banks i Sha1 c.loop-bank-test.true))
          ∙ c.loop-bank.invariant.text;
      digests = All-more (λ b. IsDigestOf b (listed_in b l)) banks i Sha1 c.loop-bank-test.true c.loop-bank.invariant.digests c.in_ok-later.ensures.digest;
    }
