-- What is known of the trail of a session that hangs together with a world.
use Rattle.std.proofs.Common.{◌≡◌, true, List, [], ◌∷◌, ◌++◌, sym, subst, ◌∙◌, Contains}
use Rattle.std.specs.Prelude.{reverse}
use Rattle.std.specs.List.{AllByRecursion}
use Rattle.std.proofs.lemmas.Bool.{and_parts}
use Rattle.hash_bank.specs.declared.bank.Bank.TheVariants.{Sha256}
use Rattle.hash_bank.specs.HashedString.{HashedString}
use Rattle.policy_digest.specs.PlainTable.{PlainTable}
use Rattle.policy_roots.specs.Rows.{HasRows}
use Rattle.policy_roots.proofs.Valid.{valid_has_rows}
use Rattle.tpm_model.specs.declared.trail.TrailEntry.{TrailEntry}
use Rattle.tpm_model.specs.declared.trail.TrailEntry.TheVariants.{Pcr, Or, AuthorizeNv}
use Rattle.tpm_model.specs.SessionRules.{are_members, lists_digest}
use Rattle.tpm_model.specs.Shape.{IsEntryShape}
use Rattle.tpm_model.specs.Trails.{trail_digest}
use Rattle.tpm_model.specs.ValidTable.{IsValidTable}
use Rattle.tpm_model.specs.WholeTie.{AreTiedEntries}
use Rattle.tpm_model.specs.World.{World}
use Rattle.tpm_model.proofs.TrailSteps.{members_step, newest_first}
use Rattle.tpm_walks.specs.Known.{AreHeldEntries, HasDigests, IsTrail}

-- ---- a session's trail

held_entries : (w : World) (entries : List TrailEntry) → AreTiedEntries w Sha256 entries → AreHeldEntries (Contains w.hashed) entries
held_entries w [] tied = tt
held_entries w (entry ∷ entries) tied = (tied.1, held_entries w entries tied.2)

has_digests : (entry : TrailEntry) → IsEntryShape Sha256 entry → HasDigests entry
has_digests (Pcr bank pcrs values) shape = tt
has_digests (Or list) shape = shape.sizes
has_digests (AuthorizeNv name digest written) shape = tt

have_digests : (trail : List TrailEntry) → AllByRecursion (IsEntryShape Sha256) trail → AllByRecursion HasDigests trail
have_digests [] shapes = tt
have_digests (entry ∷ trail) shapes = (has_digests entry shapes.0, have_digests trail shapes.1)

pub tied_trail : (w : World) (trail : List TrailEntry) → AreTiedEntries w Sha256 (reverse trail) → are_members Sha256 (reverse trail) ≡ true
    → AllByRecursion (IsEntryShape Sha256) trail → IsTrail (Contains w.hashed) trail
tied_trail w trail tied members shapes = record { strings = held_entries w (reverse trail) tied; members = members; sizes = have_digests trail shapes }

-- ---- without its last entry

all_before : {A : Type 0} (P : A → Type 0) (xs ys : List A) → AllByRecursion P (xs ++ ys) → AllByRecursion P xs
all_before P [] ys all = tt
all_before P (x ∷ xs) ys all = (all.0, all_before P xs ys all.1)

pub known_before : (S : HashedString → Type 0) (trail : List TrailEntry) (entry : TrailEntry) → IsTrail S (trail ++ entry ∷ []) → IsTrail S trail
known_before S trail entry known =
    let strings : AreHeldEntries S (entry ∷ reverse trail) = subst (AreHeldEntries S) (newest_first trail entry) known.strings in
    let members = and_parts (lists_digest (trail_digest Sha256 trail) entry) (are_members Sha256 (reverse trail)) (sym (members_step Sha256 trail entry) ∙ known.members) in
    record { strings = strings.1; members = members.1; sizes = all_before HasDigests trail (entry ∷ []) known.sizes }

-- ---- a valid table

pub valid_rows : (table : PlainTable) → IsValidTable table → HasRows table
valid_rows table valid = subst HasRows (sym valid.same) (valid_has_rows valid.table valid.valid)
