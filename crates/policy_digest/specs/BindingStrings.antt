-- The strings that are hashed where a key is bound: to the value of one PCR, or to an index.
use Rattle.std.specs.Prelude.{ℕ, ◌^◌, List, [], ◌∷◌, ◌++◌}
use Rattle.hash_bank.specs.declared.bank.Bank.{Bank}
use Rattle.hash_bank.specs.declared.bank.Bank.TheVariants.{Sha256}
use Rattle.hash_bank.specs.Hash.{digest_in, zeros_in}
use Rattle.hash_bank.specs.HashedString.{HashedString}
use Rattle.nv_index.specs.IndexName.{index_name_of, index_string, written_public}
use Rattle.nv_index.specs.declared.index.NvPublic.{NvPublic}
use Rattle.policy_digest.specs.Pin.{pin_policy_of, pin_strings}
use Rattle.policy_digest.specs.Strings.{nv_string_in, pcr_string_in}

-- for the value of one PCR of a bank, under a hash: the value, and the string of PolicyPCR from zeros
abbrev pub literal_strings : Bank → Bank → ℕ → List ℕ → List HashedString
literal_strings hash bank pcr value =
    record { hash = hash; bytes = value }
    ∷ record { hash = hash; bytes = pcr_string_in hash (zeros_in hash) bank (2 ^ pcr) (digest_in hash value) }
    ∷ []

-- for an index: its public area under SHA-256, and the string of PolicyAuthorizeNV under a hash
abbrev pub name_strings_in : Bank → NvPublic → List HashedString
name_strings_in hash public =
    record { hash = Sha256; bytes = index_string public }
    ∷ record { hash = hash; bytes = nv_string_in hash (index_name_of public) }
    ∷ []

-- for an index with this handle that is written with a pin: the strings of the pin's policy, and
-- those of the index, once it is written
abbrev pub bind_strings : ℕ → List ℕ → List HashedString
bind_strings handle pin =
    pin_strings pin ++ name_strings_in Sha256 (written_public handle (pin_policy_of pin))
