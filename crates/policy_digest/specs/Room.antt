-- How a group's digests lie in its room.
use Rattle.std.specs.Prelude.{ℕ, ◌-◌, List, ◌++◌, length, replicate}
use Rattle.hash_bank.specs.declared.bank.Bank.TheVariants.{Sha1}
use Rattle.hash_bank.specs.Hash.{zeros_in}

-- some digests, filled up to 8 with zeros of SHA-1
abbrev pub filled_up : List (List ℕ) → List (List ℕ)
filled_up list = list ++ replicate (8 - length list) (zeros_in Sha1)
