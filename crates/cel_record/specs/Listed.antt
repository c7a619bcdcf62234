-- The digests that a record lists, as plain data.
use Rattle.std.specs.Prelude.{ℕ, List, Option, Some, None}
use Rattle.hash_bank.specs.declared.bank.Bank.{Bank}
use Rattle.hash_bank.specs.declared.bank.Bank.TheVariants.{Sha1, Sha256, Sha384, Sha512}
use Rattle.hash_bank.specs.declared.digests.Digests.{Digests}

-- for each bank the bytes of its digest, if it has one
pub record Listed : Type 0 where
  pub sha1 : Option (List ℕ)
  pub sha256 : Option (List ℕ)
  pub sha384 : Option (List ℕ)
  pub sha512 : Option (List ℕ)

abbrev pub listed_in : Bank → Listed → Option (List ℕ)
listed_in Sha1 l = l.sha1
listed_in Sha256 l = l.sha256
listed_in Sha384 l = l.sha384
listed_in Sha512 l = l.sha512

-- with this digest for the bank
abbrev pub with_digest : Bank → List ℕ → Listed → Listed
with_digest Sha1 x l = record l { sha1 = Some x }
with_digest Sha256 x l = record l { sha256 = Some x }
with_digest Sha384 x l = record l { sha384 = Some x }
with_digest Sha512 x l = record l { sha512 = Some x }

abbrev pub none_listed : Listed
none_listed = record { sha1 = None; sha256 = None; sha384 = None; sha512 = None }

-- digests, without where they lie in memory
abbrev pub listed : Digests → Listed
listed d = record { sha1 = d.sha1; sha256 = d.sha256; sha384 = d.sha384; sha512 = d.sha512 }
