-- How many PolicyORs stand one upon the other between a digest and the leaf on its left. SHA-256
-- throughout; S are the strings that were hashed.
use Rattle.std.specs.Prelude.{◌≡◌, ◌≤◌, ℕ, zero, suc, List, [], ◌∷◌, length}
use Rattle.std.specs.List.{All}
use Rattle.hash_bank.specs.declared.bank.Bank.{Bank}
use Rattle.hash_bank.specs.declared.bank.Bank.TheVariants.{Sha256}
use Rattle.hash_bank.specs.HashedString.{HashedString}
use Rattle.policy_digest.specs.Levels.{first_of}
use Rattle.policy_digest.specs.Policies.{policy_or_of, policy_pcr_of}
use Rattle.policy_digest.specs.Strings.{pcr_string_in}
use Rattle.policy_digest.specs.TableStrings.{or_string, under_sha256}

-- a leaf: the digest is that of a PolicyPCR
pub record IsLeaf (S : HashedString → Type 0) (digest : List ℕ) : Type 0 where
  pub before : List ℕ
  pub bank : Bank
  pub pcrs : ℕ
  pub values : List ℕ
  pub size : length before ≡ 32
  pub string : S (under_sha256 (pcr_string_in Sha256 before bank pcrs values))
  pub same : digest ≡ policy_pcr_of Sha256 before bank pcrs values

-- the digest is that of the PolicyOR of this list
pub record IsJoined (S : HashedString → Type 0) (list : List (List ℕ)) (digest : List ℕ) : Type 0 where
  pub sizes : All (λ (d : List ℕ). length d ≡ 32) list
  pub string : S (or_string list)
  pub same : digest ≡ policy_or_of Sha256 list

-- a leaf has depth 0, and a PolicyOR one more than the first of its list
abbrev pub HasDepth : (HashedString → Type 0) → List ℕ → ℕ → Type 0
HasDepth S digest zero = IsLeaf S digest
HasDepth S digest (suc depth) = (list : List (List ℕ)) × IsJoined S list digest × HasDepth S (first_of list) depth

-- its depth is at most this
pub record IsWithin (S : HashedString → Type 0) (digest : List ℕ) (most : ℕ) : Type 0 where
  pub depth : ℕ
  pub few : depth ≤ most
  pub has : HasDepth S digest depth

-- a digest before the rest of its level: the last of a level may have been passed up from below
abbrev pub IsPlaced : (HashedString → Type 0) → ℕ → List ℕ → List (List ℕ) → Type 0
IsPlaced S number digest [] = IsWithin S digest number
IsPlaced S number digest (next ∷ rest) = HasDepth S digest number

-- the digests of the level of this number above the leaves
abbrev pub IsLevel : (HashedString → Type 0) → ℕ → List (List ℕ) → Type 0
IsLevel S number [] = Unit {0}
IsLevel S number (digest ∷ rest) = IsPlaced S number digest rest × IsLevel S number rest
