-- What a command leaves of sessions, objects, numbers and the counter of updates.
use Rattle.std.proofs.Common.{◌≡◌, ◌⊎◌, inl, inr, ℕ, ◌+◌, ◌<◌, ◌≤◌, true, false, List, [], ◌∷◌, ◌++◌, map, refl, sym, ap, subst, ◌∙◌, arith}
use Rattle.std.specs.Prelude.{None, Some, remove, slice_set}
use Rattle.std.specs.List.{AllByRecursion}
use Rattle.std.proofs.Math.Seq.{map-set_same}
use Rattle.std.proofs.lemmas.List.{map-append}
use Rattle.std.proofs.lemmas.Option.{get_or_from_slice_get}
use Rattle.hash_bank.specs.declared.bank.Bank.{Bank}
use Rattle.nv_index.specs.Handles.{are_handles}
use Rattle.nv_index.specs.IndexName.{index_name_of}
use Rattle.nv_index.specs.Table.{index_at}
use Rattle.nv_index.specs.declared.index.Index.{Index}
use Rattle.nv_index.specs.declared.index.Written.{Written}
use Rattle.nv_index.proofs.Lists.{all_at, all_push, all_remove, all_set, map-remove}
use Rattle.tpm_model.specs.declared.command.Command.{Command}
use Rattle.tpm_model.specs.declared.command.Command.TheVariants as command
use Rattle.tpm_model.specs.declared.object.Object.{Object}
use Rattle.tpm_model.specs.declared.parts.Parts.{Parts}
use Rattle.tpm_model.specs.declared.response.Refusal.{Refusal}
use Rattle.tpm_model.specs.declared.response.Response.{Response}
use Rattle.tpm_model.specs.declared.response.Response.TheVariants as answer
use Rattle.tpm_model.specs.declared.sessions.Session.{Session}
use Rattle.tpm_model.specs.declared.trail.TrailEntry.TheVariants as entry
use Rattle.tpm_model.specs.ObjectCommands.{object_handle}
use Rattle.tpm_model.specs.Refusing.{refused}
use Rattle.tpm_model.specs.Respond.{respond}
use Rattle.tpm_model.specs.SessionCommands.{content_in, noted_before, session_handle, with_entry, with_pcrs}
use Rattle.tpm_model.specs.SessionRules.{keeps_session_order}
use Rattle.tpm_model.specs.Sessions.{fresh_session, object_place, session_at, session_place}
use Rattle.tpm_model.proofs.Handles.{handles_push, handles_remove}
use Rattle.tpm_worlds.proofs.Cases.{by_evict, by_flush_session, by_nv_define, by_nv_read, by_nv_read_public, by_nv_undefine, by_nv_write, by_pcr_extend, by_pcr_read, by_policy_authorize_nv, by_policy_get_digest, by_policy_or, by_policy_pcr, by_restart, by_seal, by_start_session, by_unseal}
use Rattle.race_newest.specs.Stillness.{MovesNot, moves}

-- a command keeps a fact of each session, and one of each object: of new ones, and of a session with one more entry
pub record Keeps (P : Session → Type 0) (Q : Object → Type 0) (c : Command) (s : Parts) : Type 0 where
  pub fresh : (hash : Bank) → P (fresh_session hash (session_handle s.next_session))
  pub looks : (x : Session) (digest : List ℕ) (bank : Bank) (pcrs : ℕ) (values : List ℕ) → noted_before x.noted s.update_counter ≡ None → P x
      → P (with_pcrs digest s.update_counter (entry.Pcr bank pcrs values) x)
  pub lists : (x : Session) (digest : List ℕ) (list : List (List ℕ)) → P x → P (with_entry digest (entry.Or list) x)
  pub authorises : (x : Session) (i : Index) (written : Written) (digest : List ℕ) (session index : ℕ) → c ≡ command.PolicyAuthorizeNv session index → (respond c s).0 ≡ answer.Done
      → session_at session s.sessions ≡ Some x → index_at index s.indices ≡ Some i → i.written ≡ Some written → written.value ≡ content_in x.hash x.digest → P x
      → P (with_entry digest (entry.AuthorizeNv (index_name_of i.public) x.digest written.number) x)
  pub seals : (policy secret : List ℕ) → Q (record { handle = object_handle s.next_object; policy = policy; secret = secret })
  pub order : keeps_session_order s ≡ true
  pub sessions : AllByRecursion P s.sessions
  pub objects : AllByRecursion Q s.objects

-- both hold of all that is left; numbers rise, and the sessions stay in order; and the command moves no PCR and leaves
-- the counter, or raises it, or ends all sessions
pub record Leaves (P : Session → Type 0) (Q : Object → Type 0) (c : Command) (s : Parts) (r : Response × Parts) : Type 0 where
  pub sessions : AllByRecursion P r.1.sessions
  pub objects : AllByRecursion Q r.1.objects
  pub session_numbers : s.next_session ≤ r.1.next_session
  pub object_numbers : s.next_object ≤ r.1.next_object
  pub order : keeps_session_order r.1 ≡ true
  pub moved : (MovesNot c r.0 × (r.1.update_counter ≡ s.update_counter)) ⊎ ((s.update_counter < r.1.update_counter) ⊎ (r.1.sessions ≡ []))

moves_not : (c : Command) (r : Response) → moves c ≡ false → MovesNot c r
moves_not c r still = λ e. let no : true ≡ false = sym e ∙ still in cc

module _ (P : Session → Type 0) (Q : Object → Type 0) (s : Parts) where
  stay : s.next_session ≤ s.next_session
  stay = omega arith

  stay_objects : s.next_object ≤ s.next_object
  stay_objects = omega arith

  -- a refusal, and any answer that leaves the state
  bad : (c : Command) → Keeps P Q c s → (why : Refusal) → Leaves P Q c s (refused why s)
  bad c k why = record {
    sessions = k.sessions;
    objects = k.objects;
    session_numbers = stay;
    object_numbers = stay_objects;
    order = k.order;
    moved = inl ((λ _. (why, refl)), refl);
  }

  reads : (c : Command) → moves c ≡ false → Keeps P Q c s → (r : Response) → Leaves P Q c s (r, s)
  reads c still k r = record {
    sessions = k.sessions;
    objects = k.objects;
    session_numbers = stay;
    object_numbers = stay_objects;
    order = k.order;
    moved = inl (moves_not c r still, refl);
  }

  -- the sessions that are left, with the objects as they were
  sessions_left : (c : Command) (t : Parts) → moves c ≡ false → Keeps P Q c s → AllByRecursion P t.sessions → keeps_session_order t ≡ true
      → AllByRecursion Q t.objects → s.next_session ≤ t.next_session → s.next_object ≤ t.next_object → t.update_counter ≡ s.update_counter → Leaves P Q c s (answer.Done, t)
  sessions_left c t still k sessions order objects numbers object_numbers counter = record {
    sessions = sessions;
    objects = objects;
    session_numbers = numbers;
    object_numbers = object_numbers;
    order = order;
    moved = inl (moves_not c answer.Done still, counter);
  }

  -- another session of the same handle in place of the one of a handle
  put_order : (h : ℕ) (x new : Session) → keeps_session_order s ≡ true → session_at h s.sessions ≡ Some x → new.handle ≡ x.handle
      → keeps_session_order (record s { sessions = slice_set s.sessions (session_place h s.sessions) new }) ≡ true
  put_order h x new order e same =
      subst (λ ns. are_handles 0x03000000 (0x03000000 + s.next_session) ns ≡ true)
      (sym (map-set_same (λ (y : Session). y.handle) s.sessions (session_place h s.sessions) new x (same ∙ ap (λ (y : Session). y.handle) (sym (get_or_from_slice_get s.sessions (session_place h s.sessions) x x e)))))
      order

  push_order : (x : Session) → x.handle ≡ session_handle s.next_session → keeps_session_order s ≡ true
      → keeps_session_order (record s { next_session = s.next_session + 1; sessions = s.sessions ++ x ∷ [] }) ≡ true
  push_order x same order =
      let next : session_handle s.next_session + 1 ≡ 0x03000000 + (s.next_session + 1) = omega arith in
      subst (λ ns. are_handles 0x03000000 (0x03000000 + (s.next_session + 1)) ns ≡ true) (sym (map-append (λ (y : Session). y.handle) s.sessions (x ∷ [])))
      (subst (λ (h : ℕ). are_handles 0x03000000 (0x03000000 + (s.next_session + 1)) (map (λ (y : Session). y.handle) s.sessions ++ h ∷ []) ≡ true) (sym same)
      (subst (λ n. are_handles 0x03000000 n (map (λ (y : Session). y.handle) s.sessions ++ session_handle s.next_session ∷ []) ≡ true) next
      (handles_push 0x03000000 (session_handle s.next_session) (map (λ (y : Session). y.handle) s.sessions) (omega arith) order)))

  gone_order : (place : ℕ) → keeps_session_order s ≡ true → keeps_session_order (record s { sessions = remove s.sessions place }) ≡ true
  gone_order place order =
      subst (λ ns. are_handles 0x03000000 (0x03000000 + s.next_session) ns ≡ true) (sym (map-remove (λ (x : Session). x.handle) s.sessions place))
      (handles_remove 0x03000000 _ _ place order)

  -- each command
  pub leaves : (c : Command) → Keeps P Q c s → Leaves P Q c s (respond c s)
  leaves (command.Restart locality banks) k =
      by_restart (Leaves P Q (command.Restart locality banks) s) locality banks s (bad _ k)
      (record { sessions = tt; objects = k.objects; session_numbers = stay; object_numbers = stay_objects; order = refl; moved = inr (inr refl) })
  leaves (command.PcrExtend pcr digests) k =
      by_pcr_extend (Leaves P Q (command.PcrExtend pcr digests) s) pcr digests s (bad _ k)
      (record { sessions = k.sessions; objects = k.objects; session_numbers = stay; object_numbers = stay_objects; order = k.order; moved = inr (inl (omega arith)) })
  leaves (command.PcrRead bank pcr) k = by_pcr_read (Leaves P Q (command.PcrRead bank pcr) s) bank pcr s (reads _ refl k)
  leaves (command.StartSession hash) k =
      by_start_session (Leaves P Q (command.StartSession hash) s) hash s (bad _ k)
      (λ _. record {
        sessions = all_push P s.sessions (fresh_session hash (session_handle s.next_session)) k.sessions (k.fresh hash);
        objects = k.objects;
        session_numbers = omega arith;
        object_numbers = stay_objects;
        order = push_order (fresh_session hash (session_handle s.next_session)) refl k.order;
        moved = inl (moves_not (command.StartSession hash) _ refl, refl);
      })
  leaves (command.PolicyPcr session bank pcrs) k =
      by_policy_pcr (Leaves P Q (command.PolicyPcr session bank pcrs) s) session bank pcrs s (bad _ k)
      (λ x found small present free.
      sessions_left (command.PolicyPcr session bank pcrs) _ refl k
      (all_set P s.sessions (session_place session s.sessions) _ k.sessions (k.looks x _ bank pcrs _ free (all_at P s.sessions (session_place session s.sessions) x k.sessions found)))
      (put_order session x _ k.order found refl) k.objects stay stay_objects refl)
  leaves (command.PolicyOr session list) k =
      by_policy_or (Leaves P Q (command.PolicyOr session list) s) session list s (bad _ k)
      (λ x found good.
      sessions_left (command.PolicyOr session list) _ refl k
      (all_set P s.sessions (session_place session s.sessions) _ k.sessions (k.lists x _ list (all_at P s.sessions (session_place session s.sessions) x k.sessions found)))
      (put_order session x _ k.order found refl) k.objects stay stay_objects refl)
  leaves (command.PolicyAuthorizeNv session index) k =
      by_policy_authorize_nv (λ r. (respond (command.PolicyAuthorizeNv session index) s).0 ≡ r.0 → Leaves P Q (command.PolicyAuthorizeNv session index) s r) session index s (λ why _. bad _ k why)
      (λ x i written found standing was met done.
      sessions_left (command.PolicyAuthorizeNv session index) _ refl k
      (all_set P s.sessions (session_place session s.sessions) _ k.sessions
      (k.authorises x i written _ session index refl done found standing was met (all_at P s.sessions (session_place session s.sessions) x k.sessions found)))
      (put_order session x _ k.order found refl) k.objects stay stay_objects refl)
      refl
  leaves (command.PolicyGetDigest session) k = by_policy_get_digest (Leaves P Q (command.PolicyGetDigest session) s) session s (reads _ refl k)
  leaves (command.FlushSession session) k =
      by_flush_session (Leaves P Q (command.FlushSession session) s) session s (bad _ k)
      (sessions_left (command.FlushSession session) _ refl k (all_remove P s.sessions (session_place session s.sessions) k.sessions)
      (gone_order (session_place session s.sessions) k.order) k.objects stay stay_objects refl)
  leaves (command.NvDefine public) k =
      by_nv_define (Leaves P Q (command.NvDefine public) s) public s (bad _ k) (λ _. sessions_left (command.NvDefine public) _ refl k k.sessions k.order k.objects stay stay_objects refl)
  leaves (command.NvUndefine index) k =
      by_nv_undefine (Leaves P Q (command.NvUndefine index) s) index s (bad _ k) (λ _ _. sessions_left (command.NvUndefine index) _ refl k k.sessions k.order k.objects stay stay_objects refl)
  leaves (command.NvWrite index pin value) k =
      by_nv_write (Leaves P Q (command.NvWrite index pin value) s) index pin value s (bad _ k)
      (λ _ _ _ _. sessions_left (command.NvWrite index pin value) _ refl k k.sessions k.order k.objects stay stay_objects refl)
  leaves (command.NvRead index) k = by_nv_read (Leaves P Q (command.NvRead index) s) index s (reads _ refl k)
  leaves (command.NvReadPublic index) k = by_nv_read_public (Leaves P Q (command.NvReadPublic index) s) index s (reads _ refl k)
  leaves (command.Seal policy secret) k =
      by_seal (Leaves P Q (command.Seal policy secret) s) policy secret s (bad _ k)
      (record {
        sessions = k.sessions;
        objects = all_push Q s.objects (record { handle = object_handle s.next_object; policy = policy; secret = secret }) k.objects (k.seals policy secret);
        session_numbers = stay;
        object_numbers = omega arith;
        order = k.order;
        moved = inl (moves_not (command.Seal policy secret) _ refl, refl);
      })
  leaves (command.Evict handle) k =
      by_evict (Leaves P Q (command.Evict handle) s) handle s (bad _ k)
      (sessions_left (command.Evict handle) _ refl k k.sessions k.order (all_remove Q s.objects (object_place handle s.objects) k.objects) stay stay_objects refl)
  leaves (command.Unseal session handle) k =
      by_unseal (Leaves P Q (command.Unseal session handle) s) session handle s (bad _ k) (λ _ _ _ _ _ _. reads (command.Unseal session handle) refl k _)
