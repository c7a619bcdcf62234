-- The digests of policies, each the hash of its string.
use Rattle.std.specs.Prelude.{ℕ, List, ◌≡◌, ◌⊎◌}
use Rattle.hash_bank.specs.declared.bank.Bank.{Bank}
use Rattle.hash_bank.specs.declared.bank.Bank.TheVariants.{Sha256, Sha384}
use Rattle.hash_bank.specs.Hash.{digest_in}
use Rattle.policy_digest.specs.Strings.{nv_string_in, or_string_in, pcr_string_in, values_string}

-- a policy's digests are of SHA-256 or SHA-384
abbrev pub IsPolicyHash : Bank → Type 0
IsPolicyHash hash = (hash ≡ Sha256) ⊎ (hash ≡ Sha384)

-- the digest of the values of PCRs
abbrev pub values_digest_of : Bank → List (List ℕ) → List ℕ
values_digest_of hash values = digest_in hash (values_string values)

-- the digest after PolicyPCR: from the old digest, over the bank's PCRs and the digest of their values
abbrev pub policy_pcr_of : Bank → List ℕ → Bank → ℕ → List ℕ → List ℕ
policy_pcr_of hash old bank pcrs values = digest_in hash (pcr_string_in hash old bank pcrs values)

-- the digest after PolicyOR of the list
abbrev pub policy_or_of : Bank → List (List ℕ) → List ℕ
policy_or_of hash list = digest_in hash (or_string_in hash list)

-- the digest after PolicyAuthorizeNV by the index whose Name holds this digest
abbrev pub policy_authorize_nv_of : Bank → List ℕ → List ℕ
policy_authorize_nv_of hash name = digest_in hash (nv_string_in hash name)
