-- A session whose digest is the policy of an index was authorized by one of the program's tables.
use Rattle.std.proofs.Common.{◌≡◌, ℕ, ◌^◌, ◌<◌, true, List, [], ◌∷◌, ◌++◌, length, inl, refl, sym, ap, subst, ◌∙◌, Contains}
use Rattle.std.specs.Prelude.{reverse}
use Rattle.std.specs.List.{AllByRecursion}
use Rattle.hash_bank.specs.declared.bank.Bank.{Bank}
use Rattle.hash_bank.specs.declared.bank.Bank.TheVariants.{Sha256}
use Rattle.hash_bank.specs.Hash.{size_in}
use Rattle.hash_bank.proofs.Sizes.{length-digest_in}
use Rattle.policy_digest.specs.BindingStrings.{bind_strings}
use Rattle.policy_digest.specs.PlainTable.{root_of}
use Rattle.tpm_model.specs.declared.parts.Parts.{Parts}
use Rattle.tpm_model.specs.declared.sessions.Session.{Session}
use Rattle.tpm_model.specs.declared.trail.TrailEntry.{TrailEntry}
use Rattle.tpm_model.specs.declared.trail.TrailEntry.TheVariants.{Pcr, Or, AuthorizeNv}
use Rattle.tpm_model.specs.Binding.{index_policy}
use Rattle.tpm_model.specs.Events.{Clean}
use Rattle.tpm_model.specs.SessionRules.{are_members}
use Rattle.tpm_model.specs.Trails.{trail_digest}
use Rattle.tpm_model.specs.WholeTie.{IsTiedEntry, IsTiedRead}
use Rattle.tpm_model.specs.World.{PolicyUpdate, World, AreHashed}
use Rattle.tpm_model.proofs.TrailSteps.{newest_first}
use Rattle.tpm_walks.specs.Known.{AreHeldEntries, HasDigests, IsTrail}
use Rattle.tpm_walks.proofs.TableWalks.{table_walked}
use Rattle.tpm_walks.proofs.Tied.{known_before, valid_rows}
use Rattle.tpm_worlds.specs.EventLists.{Safe}
use Rattle.tpm_worlds.specs.SealedTie.{AreHashedEntries}
use Rattle.tpm_worlds.specs.SteadySessions.{HasReads, IsGood, IsSized, ReadDigests}
use Rattle.tpm_worlds.specs.WholeEvents.{OwnTie}
use Rattle.tpm_worlds.proofs.Opened.{same_hash}
use Rattle.tpm_worlds.proofs.Trails.{all_map, all_newest, length-digest_of_in, newest_last}
use Rattle.tpm_unseals.specs.ByPolicy.{IsAuthorized, written_name}
use Rattle.tpm_unseals.proofs.Newest.{newest_read, our_write}

held_entries : (w : World) (entries : List TrailEntry) → AreHashedEntries w Sha256 entries → AreHeldEntries (Contains w.hashed) entries
held_entries w [] all = tt
held_entries w (entry ∷ entries) all = (all.1, held_entries w entries all.2)

has_digests : (entry : TrailEntry) → IsSized Sha256 entry → HasDigests entry
has_digests (Pcr bank pcrs values) sized = tt
has_digests (Or list) sized = sized
has_digests (AuthorizeNv name digest written) sized = tt

-- what is kept of a session of SHA-256
pub record IsKnown (w : World) (trail : List TrailEntry) : Type 0 where
  pub entries : AreHashedEntries w Sha256 (reverse trail)
  pub members : are_members Sha256 (reverse trail) ≡ true
  pub lists : AllByRecursion (IsSized Sha256) trail
  pub digests : ReadDigests Sha256 (reverse trail)
  pub reads : AllByRecursion (IsTiedEntry w) trail

known_trail : (w : World) (trail : List TrailEntry) → IsKnown w trail → IsTrail (Contains w.hashed) trail
known_trail w trail known = record {
  strings = held_entries w (reverse trail) known.entries;
  members = known.members;
  sizes = all_map (IsSized Sha256) HasDigests has_digests trail known.lists;
}

module _ (s : Parts) (w : World) (index : ℕ) (pin : List ℕ) (own : OwnTie s w) (safe : Safe w) (clean : Clean w) (range : index < 2 ^ 32)
    (named : Contains w.pins pin) (strings : AreHashed w (bind_strings index pin)) where
  -- under SHA-256
  authorized : (trail : List TrailEntry) → IsKnown w trail → trail_digest Sha256 trail ≡ index_policy index pin → IsAuthorized w trail index pin
  authorized trail known e =
      let new = newest_read w index pin (reverse trail) safe strings known.entries e in
      let entry = AuthorizeNv (written_name index pin) new.digest new.number in
      let walk = reverse new.rest in
      let read : IsTiedRead w (written_name index pin) new.digest new.number = all_newest (IsTiedEntry w) trail entry new.rest new.newest known.reads in
      let ours = our_write s w index pin new.digest new.number own.base safe clean range named strings read in
      let update : PolicyUpdate = record { number = new.number; handle = index; pin = pin; table = ours.table } in
      let ends : trail ≡ walk ++ entry ∷ [] = newest_last trail entry new.rest new.newest in
      let before : IsTrail (Contains w.hashed) walk = known_before (Contains w.hashed) walk entry (subst (IsTrail (Contains w.hashed)) ends (known_trail w trail known)) in
      let digests : ReadDigests Sha256 (entry ∷ reverse walk) = subst (ReadDigests Sha256) (newest_first walk entry) (subst (λ (t : List TrailEntry). ReadDigests Sha256 (reverse t)) ends known.digests) in
      let led : trail_digest Sha256 walk ≡ root_of ours.table = sym digests.0 ∙ sym ours.root in
      let valid = valid_rows ours.table (own.indices.updates update ours.wrote).table in
      record {
        update = update;
        wrote = ours.wrote;
        same_handle = refl;
        same_pin = refl;
        walk = walk;
        walks = table_walked (Contains w.hashed) safe ours.table walk (own.base.updates update ours.wrote) valid before led;
        authorized = ends ∙ ap (λ (d : List ℕ). walk ++ AuthorizeNv (written_name index pin) d new.number ∷ []) (sym ours.root);
      }

  -- a session whose digest has 32 bytes is of SHA-256
  pub sha256 : (x : Session) → IsGood s w x → x.digest ≡ index_policy index pin → x.hash ≡ Sha256
  sha256 x g e =
      let size : size_in x.hash ≡ size_in Sha256 = sym (length-digest_of_in x.hash (reverse x.trail)) ∙ ap length (sym g.fold ∙ e) ∙ length-digest_in Sha256 _ in
      same_hash x.hash Sha256 g.hash (inl refl) size

  pub session_authorized : (x : Session) → IsGood s w x → HasReads w x → x.digest ≡ index_policy index pin → IsAuthorized w x.trail index pin
  session_authorized x g reads e =
      let same = sha256 x g e in
      authorized x.trail
      (record {
        entries = subst (λ (h : Bank). AreHashedEntries w h (reverse x.trail)) same g.entries;
        members = subst (λ (h : Bank). are_members h (reverse x.trail) ≡ true) same g.members;
        lists = subst (λ (h : Bank). AllByRecursion (IsSized h) x.trail) same g.lists;
        digests = subst (λ (h : Bank). ReadDigests h (reverse x.trail)) same g.reads;
        reads = reads;
      })
      (ap (λ (h : Bank). trail_digest h x.trail) (sym same) ∙ sym g.fold ∙ e)
