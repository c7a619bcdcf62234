-- The policy of an index that is written with a pin: what PolicySigned leaves, with no policyRef, by
-- a key whose Name holds the pin's hash (TPM 2.0 Library Part 3, TPM2_PolicySigned). SHA-256
-- throughout.
use Rattle.std.specs.Prelude.{ℕ, List, [], ◌∷◌}
use Rattle.std.specs.Int.{w16, w32, to_be_bytes}
use Rattle.std.specs.List.{concat}
use Rattle.hash_bank.specs.declared.bank.Bank.TheVariants.{Sha256}
use Rattle.hash_bank.specs.Hash.{algorithm_in, sha256_of, zeros_in}
use Rattle.hash_bank.specs.HashedString.{HashedString}
use Rattle.policy_digest.specs.Strings.{policy_signed_code}

-- PolicySigned: zeros, the code, and the key's Name, which holds the pin's hash
unfoldable pub signed_string : List ℕ → List ℕ
signed_string pin = concat (
    zeros_in Sha256
    ∷ to_be_bytes w32 policy_signed_code
    ∷ to_be_bytes w16 (algorithm_in Sha256)
    ∷ sha256_of pin
    ∷ [])

-- the digest before the policyRef, which is empty, is hashed in
abbrev pub policy_signed_of : List ℕ → List ℕ
policy_signed_of pin = sha256_of (signed_string pin)

-- the pin's policy
abbrev pub pin_policy_of : List ℕ → List ℕ
pin_policy_of pin = sha256_of (policy_signed_of pin)

-- the strings that are hashed on the way to a pin's policy
abbrev pub pin_strings : List ℕ → List HashedString
pin_strings pin =
    record { hash = Sha256; bytes = pin }
    ∷ record { hash = Sha256; bytes = signed_string pin }
    ∷ record { hash = Sha256; bytes = policy_signed_of pin }
    ∷ []
