-- Membership of a set of banks.
use Rattle.std.specs.Prelude.{Bool}
use Rattle.hash_bank.specs.declared.bank.Bank.{Bank}
use Rattle.hash_bank.specs.declared.bank.Bank.TheVariants.{Sha1, Sha256, Sha384, Sha512}
use Rattle.hash_bank.specs.declared.banks.Banks.{Banks}

-- whether the bank is in the set
abbrev pub has_bank : Banks → Bank → Bool
has_bank banks Sha1 = banks.sha1
has_bank banks Sha256 = banks.sha256
has_bank banks Sha384 = banks.sha384
has_bank banks Sha512 = banks.sha512
