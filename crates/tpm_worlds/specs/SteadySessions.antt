-- What every event keeps of sessions. It says more than their tie to the world, so that no rule of a state is
-- needed beside it: that each digest is the fold of a trail, what the entries saw, listed and read, and that all
-- their strings were hashed.
use Rattle.std.specs.Prelude.{◌≡◌, ℕ, ◌^◌, ◌<◌, ◌≤◌, true, List, [], ◌∷◌, length, reverse, Contains, None, Some}
use Rattle.std.specs.List.{AllByRecursion}
use Rattle.hash_bank.specs.declared.bank.Bank.{Bank}
use Rattle.hash_bank.specs.Banks.{has_bank}
use Rattle.hash_bank.specs.Hash.{size_in}
use Rattle.policy_digest.specs.Policies.{IsPolicyHash}
use Rattle.tpm_model.specs.declared.parts.Parts.{Parts}
use Rattle.tpm_model.specs.declared.sessions.Session.{Session}
use Rattle.tpm_model.specs.declared.trail.TrailEntry.{TrailEntry}
use Rattle.tpm_model.specs.declared.trail.TrailEntry.TheVariants.{Pcr, Or, AuthorizeNv}
use Rattle.tpm_model.specs.Pcrs.{present_digest_in}
use Rattle.tpm_model.specs.SessionRules.{are_members}
use Rattle.tpm_model.specs.Strings.{joined_values}
use Rattle.tpm_model.specs.Trails.{digest_of_in, trail_digest}
use Rattle.tpm_model.specs.WholeTie.{IsTiedEntry}
use Rattle.tpm_model.specs.World.{World}
use Rattle.tpm_worlds.specs.SealedTie.{AreHashedEntries}

-- an entry's mask, where it looked at PCRs, has 24 bits
abbrev pub IsSmall : TrailEntry → Type 0
IsSmall (Pcr bank pcrs values) = pcrs < 2 ^ 24
IsSmall (Or list) = Unit {0}
IsSmall (AuthorizeNv name digest written) = Unit {0}

-- an entry didn't look at PCRs
abbrev pub LooksNot : TrailEntry → Type 0
LooksNot (Pcr bank pcrs values) = ⊥
LooksNot (Or list) = Unit {0}
LooksNot (AuthorizeNv name digest written) = Unit {0}

-- what PCRs hold now was seen, and their joined values were hashed
pub record IsSeen (s : Parts) (w : World) (hash bank : Bank) (pcrs : ℕ) (values : List ℕ) : Type 0 where
  pub present : has_bank s.banks bank ≡ true
  pub digest : values ≡ present_digest_in hash bank pcrs s.banks s.pcrs
  pub joined : Contains w.hashed (record { hash = hash; bytes = joined_values bank pcrs s })

-- an entry, where it looked at PCRs, saw what they hold now
abbrev pub SeesNow : Parts → World → Bank → TrailEntry → Type 0
SeesNow s w hash (Pcr bank pcrs values) = IsSeen s w hash bank pcrs values
SeesNow s w hash (Or list) = Unit {0}
SeesNow s w hash (AuthorizeNv name digest written) = Unit {0}

-- the digests that a PolicyOR lists have the size of the session's hash
abbrev pub IsSized : Bank → TrailEntry → Type 0
IsSized hash (Pcr bank pcrs values) = Unit {0}
IsSized hash (Or list) = AllByRecursion (λ (digest : List ℕ). length digest ≡ size_in hash) list
IsSized hash (AuthorizeNv name digest written) = Unit {0}

-- what a PolicyAuthorizeNV read is the digest before it
abbrev pub ReadsDigest : List ℕ → TrailEntry → Type 0
ReadsDigest before (Pcr bank pcrs values) = Unit {0}
ReadsDigest before (Or list) = Unit {0}
ReadsDigest before (AuthorizeNv name digest written) = digest ≡ before

-- so it is of each of the entries, newest first
abbrev pub ReadDigests : Bank → List TrailEntry → Type 0
ReadDigests hash [] = Unit {0}
ReadDigests hash (entry ∷ entries) = ReadsDigest (digest_of_in hash entries) entry × ReadDigests hash entries

-- a session's digest is the fold of its trail, under a hash of policies. A counter is noted where the trail
-- looked at PCRs, and is at most the present one; where it is the present one, each look saw what PCRs hold
-- now. Each list of a PolicyOR holds the digest before it, among digests of the hash's size; each
-- PolicyAuthorizeNV read the digest before it; and the strings of all entries were hashed
pub record IsGood (s : Parts) (w : World) (x : Session) : Type 0 where
  pub hash : IsPolicyHash x.hash
  pub fold : x.digest ≡ trail_digest x.hash x.trail
  pub small : AllByRecursion IsSmall x.trail
  pub none : x.noted ≡ None → AllByRecursion LooksNot x.trail
  pub most : (n : ℕ) → x.noted ≡ Some n → n ≤ s.update_counter
  pub now : x.noted ≡ Some s.update_counter → AllByRecursion (SeesNow s w x.hash) x.trail
  pub members : are_members x.hash (reverse x.trail) ≡ true
  pub lists : AllByRecursion (IsSized x.hash) x.trail
  pub reads : ReadDigests x.hash (reverse x.trail)
  pub entries : AreHashedEntries w x.hash (reverse x.trail)

-- each session of a state is good
abbrev pub AreGood : World → Parts → Type 0
AreGood w s = AllByRecursion (IsGood s w) s.sessions

-- what each entry of a session's trail says of the world
abbrev pub HasReads : World → Session → Type 0
HasReads w x = AllByRecursion (IsTiedEntry w) x.trail

-- and of each session
abbrev pub AreRead : World → Parts → Type 0
AreRead w s = AllByRecursion (HasReads w) s.sessions

-- what is kept of the sessions: each is good, and what it read is tied
pub record SteadySessions (s : Parts) (w : World) : Type 0 where
  pub good : AreGood w s
  pub reads : AreRead w s
