-- A digest for each of some banks.
use Rattle.std.specs.Prelude.{ℕ, List, Option}
use Rattle.hash_bank.specs.declared.bank.Bank.{Bank}
use Rattle.hash_bank.specs.declared.bank.Bank.TheVariants.{Sha1, Sha256, Sha384, Sha512}
use Rattle.hash_bank.specs.declared.digests.Digests.{Digests}

-- the bank's digest, if it is there
abbrev pub digest_at : Digests → Bank → Option (List ℕ)
digest_at digests Sha1 = digests.sha1
digest_at digests Sha256 = digests.sha256
digest_at digests Sha384 = digests.sha384
digest_at digests Sha512 = digests.sha512
