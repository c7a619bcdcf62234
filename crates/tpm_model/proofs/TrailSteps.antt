-- One more entry at the end of a trail.
use Rattle.std.proofs.Common.{◌≡◌, ℕ, List, [], ◌∷◌, ◌++◌, Bool, true, false, not, ◌||◌, ◌&&◌, refl, ap}
use Rattle.std.specs.Prelude.{reverse}
use Rattle.std.specs.List.{list_all}
use Rattle.std.specs.Str.{bytes_eq}
use Rattle.std.proofs.lemmas.List.{reverse-append}
use Rattle.std.proofs.lemmas.Slice.Eq.{bytes_eq-Decides}
use Rattle.hash_bank.specs.declared.bank.Bank.{Bank}
use Rattle.tpm_model.specs.declared.parts.Parts.{Parts}
use Rattle.tpm_model.specs.declared.trail.TrailEntry.{TrailEntry}
use Rattle.tpm_model.specs.declared.trail.TrailEntry.TheVariants.{Pcr, Or, AuthorizeNv}
use Rattle.tpm_model.specs.SessionRules.{are_members, are_reads, is_read, lists_digest, saw_present}
use Rattle.tpm_model.specs.Trails.{digest_after, digest_of_in, has_pcr_entry, is_pcr_entry, trail_digest}

pub same_bytes : (xs : List ℕ) → bytes_eq xs xs ≡ true
same_bytes xs = (bytes_eq-Decides xs xs).1 refl

pub bytes_same : (xs ys : List ℕ) → bytes_eq xs ys ≡ true → xs ≡ ys
bytes_same xs ys e = (bytes_eq-Decides xs ys).0 e

-- the newest entry stands first in the reverse
pub newest_first : (trail : List TrailEntry) (entry : TrailEntry) → reverse (trail ++ entry ∷ []) ≡ entry ∷ reverse trail
newest_first trail entry = reverse-append trail (entry ∷ [])

pub digest_step : (hash : Bank) (trail : List TrailEntry) (entry : TrailEntry) → trail_digest hash (trail ++ entry ∷ []) ≡ digest_after hash (trail_digest hash trail) entry
digest_step hash trail entry = ap (digest_of_in hash) (newest_first trail entry)

pub members_step : (hash : Bank) (trail : List TrailEntry) (entry : TrailEntry)
    → are_members hash (reverse (trail ++ entry ∷ [])) ≡ (lists_digest (trail_digest hash trail) entry && are_members hash (reverse trail))
members_step hash trail entry = ap (are_members hash) (newest_first trail entry)

pub reads_step : (s : Parts) (hash : Bank) (trail : List TrailEntry) (entry : TrailEntry)
    → are_reads s hash (reverse (trail ++ entry ∷ [])) ≡ (is_read s hash (trail_digest hash trail) entry && are_reads s hash (reverse trail))
reads_step s hash trail entry = ap (are_reads s hash) (newest_first trail entry)

or_true : (b : Bool) → (b || true) ≡ true
or_true true = refl
or_true false = refl

or_left : (a b : Bool) → a ≡ true → (a || b) ≡ true
or_left true b e = refl
or_left false b e = cc

or_right : (a b : Bool) → b ≡ true → (a || b) ≡ true
or_right true b e = refl
or_right false b e = e

-- a look at PCRs that is put at the end
pub looked_last : (trail : List TrailEntry) (entry : TrailEntry) → is_pcr_entry entry ≡ true → has_pcr_entry (trail ++ entry ∷ []) ≡ true
looked_last [] entry e = or_left (is_pcr_entry entry) false e
looked_last (x ∷ xs) entry e = or_right (is_pcr_entry x) (has_pcr_entry (xs ++ entry ∷ [])) (looked_last xs entry e)

-- a trail that never looked at PCRs saw nothing else
pub saw_none : (s : Parts) (hash : Bank) (trail : List TrailEntry) → not (has_pcr_entry trail) ≡ true → list_all (saw_present s hash) trail ≡ true
saw_none s hash [] e = refl
saw_none s hash (Pcr bank pcrs values ∷ xs) e = cc
saw_none s hash (Or list ∷ xs) e = saw_none s hash xs e
saw_none s hash (AuthorizeNv name digest written ∷ xs) e = saw_none s hash xs e
