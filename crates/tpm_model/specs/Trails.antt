-- The trail of a session, and the digest that it leads to. Lists of entries stand newest first here: a
-- session keeps its trail in the order of time, and what is said of it is said of the reverse.
use Rattle.std.specs.Prelude.{ℕ, Bool, true, false, List, [], ◌∷◌, reverse}
use Rattle.std.specs.List.{list_any}
use Rattle.hash_bank.specs.declared.bank.Bank.{Bank}
use Rattle.hash_bank.specs.Hash.{digest_in, zeros_in}
use Rattle.policy_digest.specs.Strings.{nv_string_in, or_string_in, pcr_string_in}
use Rattle.tpm_model.specs.declared.trail.TrailEntry.{TrailEntry}
use Rattle.tpm_model.specs.declared.trail.TrailEntry.TheVariants.{Pcr, Or, AuthorizeNv}

-- the string that is hashed at an entry, after this digest
abbrev pub entry_string_in : Bank → List ℕ → TrailEntry → List ℕ
entry_string_in hash before (Pcr bank pcrs values) = pcr_string_in hash before bank pcrs values
entry_string_in hash before (Or list) = or_string_in hash list
entry_string_in hash before (AuthorizeNv name digest written) = nv_string_in hash name

-- the digest after an entry
abbrev pub digest_after : Bank → List ℕ → TrailEntry → List ℕ
digest_after hash before entry = digest_in hash (entry_string_in hash before entry)

-- the digest that the entries, newest first, lead to from zeros
abbrev pub digest_of_in : Bank → List TrailEntry → List ℕ
digest_of_in hash [] = zeros_in hash
digest_of_in hash (entry ∷ entries) = digest_after hash (digest_of_in hash entries) entry

-- the digest that a trail in the order of time leads to
abbrev pub trail_digest : Bank → List TrailEntry → List ℕ
trail_digest hash trail = digest_of_in hash (reverse trail)

-- whether an entry looked at PCRs
abbrev pub is_pcr_entry : TrailEntry → Bool
is_pcr_entry (Pcr bank pcrs values) = true
is_pcr_entry (Or list) = false
is_pcr_entry (AuthorizeNv name digest written) = false

-- whether a trail looked at PCRs
abbrev pub has_pcr_entry : List TrailEntry → Bool
has_pcr_entry trail = list_any is_pcr_entry trail
