-- What is known of each entry of a trail, newest first.
use Rattle.std.proofs.Common.{◌≡◌, ℕ, true, List, [], ◌∷◌, length, Contains, refl, sym, subst}
use Rattle.std.specs.Prelude.{reverse}
use Rattle.std.specs.List.{All, AllByRecursion}
use Rattle.std.proofs.lemmas.Bool.{and_parts}
use Rattle.std.proofs.lemmas.List.{reverse-append}
use Rattle.std.proofs.lemmas.List.Elements.{All-cons, All-nil}
use Rattle.std.proofs.lemmas.Map.Views.{Contains-from_any}
use Rattle.hash_bank.specs.declared.bank.Bank.TheVariants.{Sha256}
use Rattle.hash_bank.specs.Hash.{zeros_in}
use Rattle.hash_bank.specs.HashedString.{HashedString, NoClash}
use Rattle.hash_bank.proofs.Sizes.{length-digest_in, length-zeros_in}
use Rattle.nv_index.proofs.Lists.{all_push}
use Rattle.policy_digest.specs.TableStrings.{under_sha256}
use Rattle.tpm_model.specs.declared.trail.TrailEntry.{TrailEntry}
use Rattle.tpm_model.specs.declared.trail.TrailEntry.TheVariants.{Pcr, Or, AuthorizeNv}
use Rattle.tpm_model.specs.SessionRules.{are_members, lists_digest}
use Rattle.tpm_model.specs.Trails.{digest_of_in, entry_string_in}
use Rattle.tpm_model.proofs.TrailSteps.{bytes_same}
use Rattle.tpm_walks.specs.Known.{AreHeldEntries, HasDigests, IsTrail}

abbrev pub HasSize : List ℕ → Type 0
HasSize digest = length digest ≡ 32

-- the list of a PolicyOR holds the digest before it, among digests of 32 bytes
abbrev pub Lists : List ℕ → TrailEntry → Type 0
Lists before (Pcr bank pcrs values) = Unit {0}
Lists before (Or list) = Contains list before × All HasSize list
Lists before (AuthorizeNv name digest written) = Unit {0}

pub entries_size : (entries : List TrailEntry) → length (digest_of_in Sha256 entries) ≡ 32
entries_size [] = length-zeros_in Sha256
entries_size (entry ∷ entries) = length-digest_in Sha256 (entry_string_in Sha256 (digest_of_in Sha256 entries) entry)

all_reverse : {A : Type 0} (P : A → Type 0) (xs : List A) → AllByRecursion P xs → AllByRecursion P (reverse xs)
all_reverse P [] all = tt
all_reverse P (x ∷ xs) all = subst (AllByRecursion P) (sym (reverse-append (x ∷ []) xs)) (all_push P (reverse xs) x (all_reverse P xs all.1) all.0)

each_size : (list : List (List ℕ)) → AllByRecursion HasSize list → All HasSize list
each_size [] all = All-nil HasSize
each_size (digest ∷ list) all = All-cons HasSize digest list all.0 (each_size list all.1)

lists_from : (before : List ℕ) (entry : TrailEntry) → lists_digest before entry ≡ true → HasDigests entry → Lists before entry
lists_from before (Pcr bank pcrs values) member sizes = tt
lists_from before (Or list) member sizes = (Contains-from_any bytes_same before list member, each_size list sizes)
lists_from before (AuthorizeNv name digest written) member sizes = tt

module _ (S : HashedString → Type 0) where
  abbrev pub AreSound : List TrailEntry → Type 0
  AreSound [] = Unit {0}
  AreSound (entry ∷ entries) =
      S (under_sha256 (entry_string_in Sha256 (digest_of_in Sha256 entries) entry)) × Lists (digest_of_in Sha256 entries) entry × AreSound entries

  sound_entries : (entries : List TrailEntry) → AreHeldEntries S entries → are_members Sha256 entries ≡ true → AllByRecursion HasDigests entries → AreSound entries
  sound_entries [] strings members sizes = tt
  sound_entries (entry ∷ entries) strings members sizes =
      let parts = and_parts (lists_digest (digest_of_in Sha256 entries) entry) (are_members Sha256 entries) members in
      (strings.0, lists_from (digest_of_in Sha256 entries) entry parts.0 sizes.0, sound_entries entries strings.1 parts.1 sizes.1)

  pub sound_trail : (trail : List TrailEntry) → IsTrail S trail → AreSound (reverse trail)
  sound_trail trail known = sound_entries (reverse trail) known.strings known.members (all_reverse HasDigests trail known.sizes)

  -- only the empty trail leads to zeros
  pub none_from_zeros : NoClash S → (entries : List TrailEntry) → AreSound entries → digest_of_in Sha256 entries ≡ zeros_in Sha256 → entries ≡ []
  none_from_zeros safe [] sound e = refl
  none_from_zeros safe (entry ∷ entries) sound e = absurd (safe.nonzero (under_sha256 (entry_string_in Sha256 (digest_of_in Sha256 entries) entry)) sound.0 e)
