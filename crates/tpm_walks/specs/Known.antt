-- What is known of the trail of a session under SHA-256.
use Rattle.std.specs.Prelude.{◌≡◌, ℕ, true, List, [], ◌∷◌, length, reverse}
use Rattle.std.specs.List.{AllByRecursion}
use Rattle.hash_bank.specs.declared.bank.Bank.TheVariants.{Sha256}
use Rattle.hash_bank.specs.HashedString.{HashedString}
use Rattle.policy_digest.specs.TableStrings.{under_sha256}
use Rattle.tpm_model.specs.declared.trail.TrailEntry.{TrailEntry}
use Rattle.tpm_model.specs.declared.trail.TrailEntry.TheVariants.{Pcr, Or, AuthorizeNv}
use Rattle.tpm_model.specs.SessionRules.{are_members}
use Rattle.tpm_model.specs.Trails.{digest_of_in, entry_string_in}

-- the string of each digest that the entries, newest first, give is in S
abbrev pub AreHeldEntries : (HashedString → Type 0) → List TrailEntry → Type 0
AreHeldEntries S [] = Unit {0}
AreHeldEntries S (entry ∷ entries) =
    S (under_sha256 (entry_string_in Sha256 (digest_of_in Sha256 entries) entry)) × AreHeldEntries S entries

-- the digests that a PolicyOR lists are of 32 bytes
abbrev pub HasDigests : TrailEntry → Type 0
HasDigests (Pcr bank pcrs values) = Unit {0}
HasDigests (Or list) = AllByRecursion (λ (digest : List ℕ). length digest ≡ 32) list
HasDigests (AuthorizeNv name digest written) = Unit {0}

-- a session came by this trail: what it hashed is in S, and each list of a PolicyOR holds the digest before it, among
-- digests of 32 bytes
pub record IsTrail (S : HashedString → Type 0) (trail : List TrailEntry) : Type 0 where
  pub strings : AreHeldEntries S (reverse trail)
  pub members : are_members Sha256 (reverse trail) ≡ true
  pub sizes : AllByRecursion HasDigests trail
