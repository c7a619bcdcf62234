-- The record that some bytes are measured as.
use Rattle.std.specs.Prelude.{ℕ, List, Some}
use Rattle.hash_bank.specs.Hash.{digest_in}
use Rattle.hash_bank.specs.declared.bank.Bank.TheVariants.{Sha1, Sha256, Sha384, Sha512}
use Rattle.cel_record.specs.Listed.{Listed}
use Rattle.cel_record.specs.Spelled.{Spelled}

-- the bytes' hash in each bank
abbrev pub hashes_of : List ℕ → Listed
hashes_of bytes = record { sha1 = Some (digest_in Sha1 bytes); sha256 = Some (digest_in Sha256 bytes); sha384 = Some (digest_in Sha384 bytes); sha512 = Some (digest_in Sha512 bytes) }

abbrev pub raw_record : ℕ → List ℕ → Spelled
raw_record pcr bytes = record { pcr = pcr; digests = hashes_of bytes }
