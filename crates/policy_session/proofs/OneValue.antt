-- The digest of one value.
use Rattle.std.proofs.Common.{◌≡◌, ℕ, List, [], ◌∷◌, ap, append-nil}
use Rattle.hash_bank.specs.declared.bank.Bank.{Bank}
use Rattle.hash_bank.specs.Hash.{digest_in}
use Rattle.policy_digest.specs.Policies.{values_digest_of}

-- the digest of one value
pub one_value : (hash : Bank) (v : List ℕ) → values_digest_of hash (v ∷ []) ≡ digest_in hash v
one_value hash v = ap (digest_in hash) (append-nil v)
