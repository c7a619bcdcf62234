-- What a sealed object is bound to, and the policy that this gives.
use Rattle.std.specs.Prelude.{ℕ, ◌^◌, List}
use Rattle.hash_bank.specs.declared.bank.Bank.{Bank}
use Rattle.hash_bank.specs.declared.bank.Bank.TheVariants.{Sha256}
use Rattle.hash_bank.specs.Hash.{digest_in, zeros_in}
use Rattle.hash_bank.specs.HashedString.{HashedString}
use Rattle.nv_index.specs.IndexName.{index_name_of, written_public}
use Rattle.policy_digest.specs.Policies.{policy_pcr_of, policy_authorize_nv_of}
use Rattle.policy_digest.specs.Pin.{pin_policy_of}
use Rattle.policy_digest.specs.BindingStrings.{literal_strings, bind_strings}

-- the newest policy of an index that is written with a pin; or one value of one PCR, under a hash
pub data Binding : Type 0 where
  Index : (handle : ℕ) → (pin : List ℕ) → Binding
  Literal : (hash : Bank) → (bank : Bank) → (pcr : ℕ) → (value : List ℕ) → Binding

-- the policy of one value of one PCR: PolicyPCR from zeros
abbrev pub literal_policy : Bank → Bank → ℕ → List ℕ → List ℕ
literal_policy hash bank pcr value = policy_pcr_of hash (zeros_in hash) bank (2 ^ pcr) (digest_in hash value)

-- the policy of an index that is written with a pin: PolicyAuthorizeNV with its Name once written
abbrev pub index_policy : ℕ → List ℕ → List ℕ
index_policy handle pin = policy_authorize_nv_of Sha256 (index_name_of (written_public handle (pin_policy_of pin)))

-- the policy of a binding
abbrev pub policy_of : Binding → List ℕ
policy_of (Index handle pin) = index_policy handle pin
policy_of (Literal hash bank pcr value) = literal_policy hash bank pcr value

-- the strings that are hashed on the way to it
abbrev pub binding_strings : Binding → List HashedString
binding_strings (Index handle pin) = bind_strings handle pin
binding_strings (Literal hash bank pcr value) = literal_strings hash bank pcr value
