-- Digests of the four banks have their sizes.
use Rattle.std.specs.Prelude.{◌≡◌, List, length}
use Rattle.std.specs.List.{All}
use Rattle.hash_bank.specs.Hash.{size_in, algorithm_in}
use Rattle.hash_bank.specs.declared.bank.Bank.{Bank}
use Rattle.tcg_log.specs.declared.record.Tagged.{Tagged}

-- each digest of one of the four banks has the bank's length
abbrev pub AreSized : List Tagged → Type 0
AreSized digests = All (λ t. (b : Bank) → t.algorithm ≡ algorithm_in b → length t.digest ≡ size_in b) digests
