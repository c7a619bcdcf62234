-- Under what a key is sealed: the policy, its strings, and the token.
use Rattle.std.specs.Prelude.{ℕ, List}
use Rattle.hash_bank.specs.declared.bank.Bank.TheVariants.{Sha256}
use Rattle.hash_bank.specs.HashedString.{HashedString}
use Rattle.nv_index.specs.IndexName.{index_name_of, written_public}
use Rattle.policy_digest.specs.BindingStrings.{literal_strings, name_strings_in}
use Rattle.policy_digest.specs.Policies.{policy_authorize_nv_of}
use Rattle.policy_file.specs.declared.policy.Policy.{Policy}
use Rattle.policy_file.specs.declared.token.Token.{Token}
use Rattle.policy_file.specs.declared.token.Token.TheVariants as token
use Rattle.policy_file.specs.TokenText.{IsLiteral}
use Rattle.tpm_model.specs.Binding.{literal_policy}
use Rattle.pcrlock_seal.specs.declared.condition.Condition.{Condition}
use Rattle.pcrlock_seal.specs.declared.condition.Condition.TheVariants as condition

-- one value of one PCR; or PolicyAuthorizeNV with the Name that the index has when it is written
abbrev pub condition_policy : Condition → List ℕ
condition_policy (condition.Value literal) = literal_policy literal.hash literal.bank literal.pcr literal.value
condition_policy (condition.Index handle policy) = policy_authorize_nv_of Sha256 (index_name_of (written_public handle policy))

-- the strings that are hashed for it
abbrev pub condition_strings : Condition → List HashedString
condition_strings (condition.Value literal) = literal_strings literal.hash literal.bank literal.pcr literal.value
condition_strings (condition.Index handle policy) = name_strings_in Sha256 (written_public handle policy)

-- the token of the object
abbrev pub condition_token : Condition → ℕ → Token
condition_token (condition.Value literal) handle = token.Literal handle literal
condition_token (condition.Index index policy) handle = token.Bound handle

-- a literal that has a text
abbrev pub IsCondition : Condition → Type 0
IsCondition (condition.Value literal) = IsLiteral literal
IsCondition (condition.Index handle policy) = Unit {0}

-- the policy's index, under the policy by which it is written
abbrev pub index_condition : Policy → Condition
index_condition policy = condition.Index policy.handle policy.index_policy
