-- What each PolicyAuthorizeNV of a trail read, every command keeps.
use Rattle.std.proofs.Common.{◌≡◌, ℕ, ◌==◌, Bool, true, false, ◌||◌, List, [], ◌∷◌, inl, inr, get_or, refl, sym, ap, subst, ◌∙◌, arith, Contains, lit<}
use Rattle.std.specs.Prelude.{reverse, Some}
use Rattle.std.specs.FinMap.{get}
use Rattle.std.specs.List.{AllByRecursion}
use Rattle.std.proofs.lemmas.Bool.{and_parts, eqb-true}
use Rattle.std.proofs.lemmas.List.{append_cancel_left, reverse-append, reverse-reverse}
use Rattle.std.proofs.lemmas.Option.{slice_get_within, get_or_from_slice_get}
use Rattle.hash_bank.specs.declared.bank.Bank.{Bank}
use Rattle.hash_bank.specs.declared.bank.Bank.TheVariants.{Sha1, Sha256, Sha384, Sha512}
use Rattle.nv_index.specs.Attributes.{content_size, defined_attributes, written_attributes}
use Rattle.nv_index.specs.IndexName.{index_name_of, index_string, written_public}
use Rattle.nv_index.specs.Table.{has_attributes, has_written, index_at, index_place, is_mark, is_marked}
use Rattle.nv_index.specs.declared.index.Index.{Index}
use Rattle.nv_index.specs.declared.index.NvPublic.{NvPublic}
use Rattle.nv_index.specs.declared.index.Written.{Written}
use Rattle.nv_index.proofs.Lists.{all_at, all_push, all_remove, all_set, passes_at}
use Rattle.policy_digest.specs.Pin.{pin_policy_of}
use Rattle.policy_digest.specs.PlainTable.{PlainTable, root_of}
use Rattle.tpm_model.specs.declared.command.Command.{Command}
use Rattle.tpm_model.specs.declared.command.Command.TheVariants as command
use Rattle.tpm_model.specs.declared.parts.Parts.{Parts}
use Rattle.tpm_model.specs.declared.response.Response.{Response}
use Rattle.tpm_model.specs.declared.sessions.Session.{Session}
use Rattle.tpm_model.specs.declared.trail.TrailEntry.{TrailEntry}
use Rattle.tpm_model.specs.declared.trail.TrailEntry.TheVariants as entry
use Rattle.tpm_model.specs.declared.trail.TrailEntry.TheVariants.{Pcr, Or, AuthorizeNv}
use Rattle.tpm_model.specs.Events.{content_of_table}
use Rattle.tpm_model.specs.Orderly.{Orderly}
use Rattle.tpm_model.specs.Respond.{respond}
use Rattle.tpm_model.specs.SessionCommands.{content_in, session_handle}
use Rattle.tpm_model.specs.Sessions.{fresh_session, session_place}
use Rattle.tpm_model.specs.Strings.{command_strings}
use Rattle.tpm_model.specs.WholeTie.{AreTiedEntries, IsTiedEntry, IsTiedRead, IsTiedSession, IsWriteOf, TiedIndices}
use Rattle.tpm_model.specs.World.{LiveIndex, World, AreHashed}
pub use Rattle.tpm_worlds.specs.Growth.{GrowsAll}
use Rattle.tpm_worlds.specs.SealedTie.{AreHashedEntries, IsHashedEntry, IsHashedSession}
pub use Rattle.tpm_worlds.specs.SteadySessions.{AreRead, HasReads}
use Rattle.tpm_worlds.proofs.Cases.{by_evict, by_flush_session, by_nv_define, by_nv_read, by_nv_read_public, by_nv_undefine, by_nv_write, by_pcr_extend, by_pcr_read, by_policy_authorize_nv, by_policy_get_digest, by_policy_or, by_policy_pcr, by_restart, by_seal, by_start_session, by_unseal}
use Rattle.tpm_worlds.proofs.IndexPlaces.{found_handle}
use Rattle.tpm_worlds.proofs.IndicesAfter.{handle_range}
use Rattle.tpm_worlds.proofs.SessionsAfter.{nv_hashed}
use Rattle.tpm_worlds.proofs.Trails.{all_map}

all_reverse : {A : Type 0} (P : A → Type 0) (xs : List A) → AllByRecursion P xs → AllByRecursion P (reverse xs)
all_reverse P [] all = tt
all_reverse P (x ∷ xs) all = subst (AllByRecursion P) (sym (reverse-append (x ∷ []) xs)) (all_push P (reverse xs) x (all_reverse P xs all.1) all.0)

all_forth : {A : Type 0} (P : A → Type 0) (xs : List A) → AllByRecursion P (reverse xs) → AllByRecursion P xs
all_forth P xs all = subst (AllByRecursion P) (reverse-reverse xs) (all_reverse P (reverse xs) all)

-- the entries of the whole tie are those of the tie of strings, with what they read
hashed_entry : (w : World) (x : TrailEntry) → IsTiedEntry w x → IsHashedEntry w x
hashed_entry w (Pcr bank pcrs values) h = tt
hashed_entry w (Or list) h = tt
hashed_entry w (AuthorizeNv name digest written) h = record { area = written_public h.handle (pin_policy_of h.pin); same = h.name; string = h.string }

hashed_entries : (w : World) (hash : Bank) (xs : List TrailEntry) → AreTiedEntries w hash xs → AreHashedEntries w hash xs
hashed_entries w hash [] h = tt
hashed_entries w hash (x ∷ xs) h = (hashed_entry w x h.0, h.1, hashed_entries w hash xs h.2)

reads_of : (w : World) (hash : Bank) (xs : List TrailEntry) → AreTiedEntries w hash xs → AllByRecursion (IsTiedEntry w) xs
reads_of w hash [] h = tt
reads_of w hash (x ∷ xs) h = (h.0, reads_of w hash xs h.2)

tied_entries : (w : World) (hash : Bank) (xs : List TrailEntry) → AreHashedEntries w hash xs → AllByRecursion (IsTiedEntry w) xs → AreTiedEntries w hash xs
tied_entries w hash [] h all = tt
tied_entries w hash (x ∷ xs) h all = (all.0, h.1, tied_entries w hash xs h.2 all.1)

pub hashed_session : (s : Parts) (w : World) (x : Session) → IsTiedSession s w x → IsHashedSession s w x
hashed_session s w x h = record { entries = hashed_entries w x.hash (reverse x.trail) h.entries; values = h.values }

pub session_reads : (s : Parts) (w : World) (x : Session) → IsTiedSession s w x → HasReads w x
session_reads s w x h = all_forth (IsTiedEntry w) x.trail (reads_of w x.hash (reverse x.trail) h.entries)

pub tied_session : (s : Parts) (w : World) (x : Session) → IsHashedSession s w x → HasReads w x → IsTiedSession s w x
tied_session s w x h all = record { entries = tied_entries w x.hash (reverse x.trail) h.entries (all_reverse (IsTiedEntry w) x.trail all); values = h.values }

-- in a world that grew in strings, pins and updates
write_on : (w v : World) → GrowsAll w v → (number handle : ℕ) (pin digest : List ℕ) → IsWriteOf w number handle pin digest → IsWriteOf v number handle pin digest
write_on w v grows number handle pin digest (inl ours) = inl (grows.pins pin ours.0, (ours.1.0, grows.writes _ ours.1.1, ours.1.2))
write_on w v grows number handle pin digest (inr foreign) = inr (grows.strange pin foreign)

entry_on : (w v : World) → GrowsAll w v → (x : TrailEntry) → IsTiedEntry w x → IsTiedEntry v x
entry_on w v grows (Pcr bank pcrs values) h = tt
entry_on w v grows (Or list) h = tt
entry_on w v grows (AuthorizeNv name digest written) h = record {
  handle = h.handle;
  range = h.range;
  pin = h.pin;
  name = h.name;
  string = grows.strings _ h.string;
  write = write_on w v grows written h.handle h.pin digest h.write;
}

pub reads_on : (w v : World) → GrowsAll w v → (xs : List Session) → AllByRecursion (HasReads w) xs → AllByRecursion (HasReads v) xs
reads_on w v grows xs all = all_map (HasReads w) (HasReads v) (λ x h. all_map (IsTiedEntry w) (IsTiedEntry v) (entry_on w v grows) x.trail h) xs all

-- an index that is written has the attributes and the size of one
pub written_area : (s : Parts) → Orderly s → (q : ℕ) (x : Index) (written : Written) → index_at q s.indices ≡ Some x → x.written ≡ Some written
    → x.public ≡ written_public x.public.handle x.public.policy
written_area s orderly q x written found was = area
  where
    mark : has_written x.public.attributes ≡ true
    mark = sym (ap (is_mark x.public.attributes) was) ∙ passes_at is_marked s.indices (index_place q s.indices) x orderly.table.marks found

    tests : ((x.public.attributes == defined_attributes || x.public.attributes == written_attributes) ≡ true) × ((x.public.size == content_size) ≡ true)
    tests = and_parts (x.public.attributes == defined_attributes || x.public.attributes == written_attributes) (x.public.size == content_size)
        (passes_at has_attributes s.indices (index_place q s.indices) x orderly.table.attributes found)

    either : (a b : Bool) → (x.public.attributes == defined_attributes) ≡ a → (x.public.attributes == written_attributes) ≡ b → (a || b) ≡ true → x.public.attributes ≡ written_attributes
    either true b e f both = let new : x.public.attributes ≡ defined_attributes = eqb-true x.public.attributes defined_attributes e in
        let wrong : has_written defined_attributes ≡ true = ap has_written (sym new) ∙ mark in cc
    either false true e f both = eqb-true x.public.attributes written_attributes f
    either false false e f both = cc

    attributes : x.public.attributes ≡ written_attributes
    attributes = either (x.public.attributes == defined_attributes) (x.public.attributes == written_attributes) refl refl tests.0

    size : x.public.size ≡ content_size
    size = eqb-true x.public.size content_size tests.1

    area : x.public ≡ written_public x.public.handle x.public.policy
    area = λ i. record { handle = x.public.handle; attributes = attributes i; policy = x.public.policy; size = size i }

-- a session whose content is that of a table has the table's root
same_root : (hash : Bank) (digest : List ℕ) (table : PlainTable) → content_of_table table ≡ content_in hash digest → root_of table ≡ digest
same_root Sha256 digest table e = append_cancel_left (0x00 ∷ 0x0B ∷ []) (root_of table) digest e
same_root Sha1 digest table e = let byte : 0x0B ≡ 0x04 = ap (λ xs. get_or xs 1 0) e in absurd (omega (arith, byte))
same_root Sha384 digest table e = let byte : 0x0B ≡ 0x0C = ap (λ xs. get_or xs 1 0) e in absurd (omega (arith, byte))
same_root Sha512 digest table e = let byte : 0x0B ≡ 0x0D = ap (λ xs. get_or xs 1 0) e in absurd (omega (arith, byte))

-- what is found is a member
found_member : (q : ℕ) (xs : List Index) (x : Index) → index_at q xs ≡ Some x → Contains xs x
found_member q xs x e = (index_place q xs, slice_get_within xs (index_place q xs) x e, get_or_from_slice_get xs (index_place q xs) x x e)

-- a PolicyAuthorizeNV reads the program's write or a stranger's
module _ (s : Parts) (v : World) (orderly : Orderly s) (tie : TiedIndices s v) (q : ℕ) (x : Index) (written : Written) (found : index_at q s.indices ≡ Some x)
    (was : x.written ≡ Some written) (hash : Bank) (digest : List ℕ) (met : written.value ≡ content_in hash digest) where
  by_live : (live : LiveIndex) → get v.live x.public.handle ≡ Some live
      → (pin : List ℕ) × (x.public.policy ≡ pin_policy_of pin) × IsWriteOf v written.number x.public.handle pin digest
  by_live live e =
      let l = (tie.live x.public.handle live).0 e in
      let root = tie.roots x.public.handle live e in
      let itself : index_at x.public.handle s.indices ≡ Some x = ap (λ n. index_at n s.indices) (found_handle q s.indices x found) ∙ found in
      let one : x ≡ l.index = one_index x l.index (sym itself ∙ l.found) in
      let two : x ≡ root.index = one_index x root.index (sym itself ∙ root.found) in
      let same : written ≡ l.written = one_write written l.written (sym was ∙ ap (λ (y : Index). y.written) one ∙ l.was) in
      let again : written ≡ root.written = one_write written root.written (sym was ∙ ap (λ (y : Index). y.written) two ∙ root.was) in
      let content : content_of_table live.table ≡ content_in hash digest = sym root.content ∙ sym (ap (λ (z : Written). z.value) again) ∙ met in
      let update : Contains v.writes (record { number = written.number; handle = x.public.handle; pin = live.pin; table = live.table }) =
      subst (λ (z : Written). Contains v.writes (record { number = z.number; handle = x.public.handle; pin = live.pin; table = live.table })) (sym same) l.update in
      (live.pin, ap (λ (y : Index). y.public.policy) one ∙ l.policy, inl (l.known, (live.table, update, same_root hash digest live.table content)))
    where
      one_index : (a b : Index) → Some a ≡ Some b → a ≡ b
      one_index a b f = cc

      one_write : (a b : Written) → Some a ≡ Some b → a ≡ b
      one_write a b f = cc

  by_either : (pin : List ℕ) × (x.public.policy ≡ pin_policy_of pin) × IsWriteOf v written.number x.public.handle pin digest
  by_either = elim (tie.others x written (found_member q s.indices x found) was) [
    | inl live ↦ by_live live.0 live.1
    | inr foreign ↦ (foreign.pin, foreign.policy, inr foreign.presented)
  ]

  pub tied_read : Contains v.hashed (record { hash = Sha256; bytes = index_string x.public }) → IsTiedRead v (index_name_of x.public) digest written.number
  tied_read string =
      let pin = by_either in
      let area : x.public ≡ written_public x.public.handle (pin_policy_of pin.0) = written_area s orderly q x written found was ∙ ap (written_public x.public.handle) pin.1 in
      record {
        handle = x.public.handle;
        range = handle_range s orderly q x found;
        pin = pin.0;
        name = ap index_name_of area;
        string = subst (λ (p : NvPublic). Contains v.hashed (record { hash = Sha256; bytes = index_string p })) area string;
        write = pin.2;
      }

-- each of the state that is left
abbrev Goes : World → Response × Parts → Type 0
Goes v r = AreRead v r.1

-- every command keeps what was read, in a world that has its strings
pub reads_after : (c : Command) (s : Parts) (v : World) → Orderly s → TiedIndices s v → AreHashed v (command_strings c s) → AreRead v s → AreRead v (respond c s).1
reads_after (command.Restart locality banks) s v orderly tie h all = by_restart (Goes v) locality banks s (λ _. all) tt
reads_after (command.PcrExtend pcr digests) s v orderly tie h all = by_pcr_extend (Goes v) pcr digests s (λ _. all) all
reads_after (command.PcrRead bank pcr) s v orderly tie h all = by_pcr_read (Goes v) bank pcr s (λ _. all)
reads_after (command.StartSession hash) s v orderly tie h all =
    by_start_session (Goes v) hash s (λ _. all) (λ _. all_push (HasReads v) s.sessions (fresh_session hash (session_handle s.next_session)) all tt)
reads_after (command.PolicyPcr handle bank pcrs) s v orderly tie h all =
    by_policy_pcr (Goes v) handle bank pcrs s (λ _. all) (λ x e _ _ _. all_set (HasReads v) s.sessions (session_place handle s.sessions) _ all
    (all_push (IsTiedEntry v) x.trail _ (all_at (HasReads v) s.sessions (session_place handle s.sessions) x all e) tt))
reads_after (command.PolicyOr handle list) s v orderly tie h all =
    by_policy_or (Goes v) handle list s (λ _. all) (λ x e _. all_set (HasReads v) s.sessions (session_place handle s.sessions) _ all
    (all_push (IsTiedEntry v) x.trail (entry.Or list) (all_at (HasReads v) s.sessions (session_place handle s.sessions) x all e) tt))
reads_after (command.PolicyAuthorizeNv handle index) s v orderly tie h all =
    by_policy_authorize_nv (Goes v) handle index s (λ _. all) (λ x i written e found was met. all_set (HasReads v) s.sessions (session_place handle s.sessions) _ all
    (all_push (IsTiedEntry v) x.trail (entry.AuthorizeNv (index_name_of i.public) x.digest written.number) (all_at (HasReads v) s.sessions (session_place handle s.sessions) x all e)
    (tied_read s v orderly tie index i written found was x.hash x.digest met (nv_hashed handle index s v x i e found h _ (0, lit< tt, refl)))))
reads_after (command.PolicyGetDigest handle) s v orderly tie h all = by_policy_get_digest (Goes v) handle s (λ _. all)
reads_after (command.FlushSession handle) s v orderly tie h all = by_flush_session (Goes v) handle s (λ _. all) (all_remove (HasReads v) s.sessions (session_place handle s.sessions) all)
reads_after (command.NvDefine public) s v orderly tie h all = by_nv_define (Goes v) public s (λ _. all) (λ _. all)
reads_after (command.NvUndefine index) s v orderly tie h all = by_nv_undefine (Goes v) index s (λ _. all) (λ _ _. all)
reads_after (command.NvWrite index pin value) s v orderly tie h all = by_nv_write (Goes v) index pin value s (λ _. all) (λ _ _ _ _. all)
reads_after (command.NvRead index) s v orderly tie h all = by_nv_read (Goes v) index s (λ _. all)
reads_after (command.NvReadPublic index) s v orderly tie h all = by_nv_read_public (Goes v) index s (λ _. all)
reads_after (command.Seal policy secret) s v orderly tie h all = by_seal (Goes v) policy secret s (λ _. all) all
reads_after (command.Evict handle) s v orderly tie h all = by_evict (Goes v) handle s (λ _. all) all
reads_after (command.Unseal session handle) s v orderly tie h all = by_unseal (Goes v) session handle s (λ _. all) (λ _ _ _ _ _ _. all)
