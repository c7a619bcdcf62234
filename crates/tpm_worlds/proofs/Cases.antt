-- Each command by the cases of its answer: what holds of every refusal and of what is left where it is
-- accepted holds of what it answers and leaves.
use Rattle.std.proofs.Common.{◌≡◌, ℕ, ◌+◌, ◌^◌, ◌<◌, ◌==◌, true, not, List, [], ◌∷◌, ◌++◌, length, ◌||◌, refl}
use Rattle.std.specs.Prelude.{nat_le, nat_lt, slice_get, remove, Option, None, Some, Result, Ok, Err}
use Rattle.std.proofs.lemmas.Bool.{cond_both, eqb-true, leb-false}
use Rattle.hash_bank.specs.declared.bank.Bank.{Bank}
use Rattle.hash_bank.specs.declared.banks.Banks.{Banks}
use Rattle.hash_bank.specs.declared.digests.Digests.{Digests}
use Rattle.hash_bank.specs.Banks.{has_bank}
use Rattle.nv_index.specs.IndexName.{index_name_of}
use Rattle.nv_index.specs.Table.{after_write, define_refusal, index_at, read_index, read_public, undefine_refusal_of, unwritten, with_index, without_index, write_refusal_of}
use Rattle.nv_index.specs.declared.index.Index.{Index}
use Rattle.nv_index.specs.declared.index.NvPublic.{NvPublic}
use Rattle.nv_index.specs.declared.index.Written.{Written}
use Rattle.nv_index.specs.declared.refusal.NvRefusal.{NvRefusal}
use Rattle.policy_digest.specs.Pin.{pin_policy_of}
use Rattle.policy_digest.specs.Policies.{policy_authorize_nv_of, policy_or_of, policy_pcr_of}
use Rattle.std.specs.Str.{bytes_eq}
use Rattle.tpm_model.specs.declared.object.Object.{Object}
use Rattle.tpm_model.specs.declared.parts.Parts.{Parts}
use Rattle.tpm_model.specs.declared.response.Refusal.{Refusal}
use Rattle.tpm_model.specs.declared.response.Response.{Response}
use Rattle.tpm_model.specs.declared.response.Response.TheVariants as answer
use Rattle.tpm_model.specs.declared.sessions.Session.{Session}
use Rattle.tpm_model.specs.declared.trail.TrailEntry.TheVariants as entry
use Rattle.tpm_model.specs.IndexCommands.{content_answer, nv_define, nv_define_unless, nv_read, nv_read_public, nv_undefine, nv_undefine_unless, nv_write, nv_write_unless, public_answer}
use Rattle.tpm_model.specs.ObjectCommands.{evict, evict_on, is_policy_size, object_handle, seal, unseal, unseal_noted, unseal_of, unseal_on}
use Rattle.tpm_model.specs.PcrCommands.{is_start_locality, pcr_extend, pcr_read, restart, value_or_absent}
use Rattle.tpm_model.specs.Pcrs.{after_extend, bank_count, pcr_of}
use Rattle.tpm_model.specs.Refusing.{refused}
use Rattle.tpm_model.specs.SessionCommands.{content_in, digest_on, flush_on, flush_session, is_wrong_list, noted_before, policy_authorize_nv, policy_authorize_nv_at, policy_authorize_nv_by, policy_authorize_nv_on, policy_get_digest, policy_or, policy_or_on, policy_pcr, policy_pcr_noted, policy_pcr_on, present_digest, session_handle, start_session, with_entry, with_pcrs, with_session}
use Rattle.tpm_model.specs.Sessions.{fresh_session, is_session_hash, object_at, object_place, session_at, session_place}
use Rattle.tpm_model.specs.StartValues.{start_values}
use Rattle.tpm_model.proofs.KeepsPolicies.{IsGoodList, good_list}
use Rattle.tpm_model.proofs.KeepsRules.{from_not}
use Rattle.tpm_model.proofs.TrailSteps.{bytes_same}

pub by_restart : (P : Response × Parts → Type 0) (locality : ℕ) (banks : Banks) (s : Parts)
    → ((why : Refusal) → P (refused why s))
    → P (answer.Done, record s { banks = banks; pcrs = start_values banks locality; update_counter = 0; sessions = [] })
    → P (restart locality banks s)
by_restart P locality banks s bad good =
    cond_both (not (is_start_locality locality) || bank_count banks == 0) _ _ P (λ _. bad _) (λ _. good)

pub by_pcr_extend : (P : Response × Parts → Type 0) (pcr : ℕ) (digests : Digests) (s : Parts)
    → ((why : Refusal) → P (refused why s))
    → P (answer.Done, record s { pcrs = after_extend s.banks pcr digests s.pcrs; update_counter = s.update_counter + 1 })
    → P (pcr_extend pcr digests s)
by_pcr_extend P pcr digests s bad good =
    cond_both (nat_lt 23 pcr) _ _ P (λ _. bad _) (λ _.
    cond_both (s.update_counter == 4294967295) _ _ P (λ _. bad _) (λ _. good))

pub by_pcr_read : (P : Response × Parts → Type 0) (bank : Bank) (pcr : ℕ) (s : Parts) → ((response : Response) → P (response, s)) → P (pcr_read bank pcr s)
by_pcr_read P bank pcr s all = cond_both (nat_lt 23 pcr) _ _ P (λ _. all _) (λ _. read (pcr_of s.banks s.pcrs bank pcr))
  where
    read : (o : Option (List ℕ)) → P (value_or_absent bank o s)
    read None = all _
    read (Some value) = all _

pub by_start_session : (P : Response × Parts → Type 0) (hash : Bank) (s : Parts)
    → ((why : Refusal) → P (refused why s))
    → (is_session_hash hash ≡ true
    → P (answer.Session (session_handle s.next_session), record s { next_session = s.next_session + 1; sessions = s.sessions ++ fresh_session hash (session_handle s.next_session) ∷ [] }))
    → P (start_session hash s)
by_start_session P hash s bad good =
    cond_both (not (is_session_hash hash)) _ _ P (λ _. bad _) (λ allowed.
    cond_both (nat_le 64 (length s.sessions)) _ _ P (λ _. bad _) (λ _.
    cond_both (nat_le 0x01000000 s.next_session) _ _ P (λ _. bad _) (λ _. good (from_not (is_session_hash hash) allowed))))

pub by_policy_pcr : (P : Response × Parts → Type 0) (handle : ℕ) (bank : Bank) (pcrs : ℕ) (s : Parts)
    → ((why : Refusal) → P (refused why s))
    → ((session : Session) → session_at handle s.sessions ≡ Some session → pcrs < 2 ^ 24 → has_bank s.banks bank ≡ true
    → noted_before session.noted s.update_counter ≡ None
    → let values = present_digest session.hash bank pcrs s in
    P (
      answer.Done,
      record s {
        sessions = with_session handle (with_pcrs (policy_pcr_of session.hash session.digest bank pcrs values) s.update_counter (entry.Pcr bank pcrs values) session) s.sessions;
      },
    ))
    → P (policy_pcr handle bank pcrs s)
by_policy_pcr P handle bank pcrs s bad good = on (session_at handle s.sessions) refl
  where
    noted : (o : Option ℕ) (session : Session) → session_at handle s.sessions ≡ Some session → pcrs < 2 ^ 24 → has_bank s.banks bank ≡ true
        → noted_before session.noted s.update_counter ≡ o → P (policy_pcr_noted o handle session bank pcrs s)
    noted (Some n) session e small present free = bad _
    noted None session e small present free =
        cond_both (nat_le 128 (length session.trail)) _ _ P (λ _. bad _) (λ _. good session e small present free)

    on : (o : Option Session) → session_at handle s.sessions ≡ o → P (policy_pcr_on o handle bank pcrs s)
    on None e = bad _
    on (Some session) e =
        cond_both (nat_le (2 ^ 24) pcrs) _ _ P (λ _. bad _) (λ small.
        cond_both (not (has_bank s.banks bank)) _ _ P (λ _. bad _) (λ present.
        noted (noted_before session.noted s.update_counter) session e (leb-false _ _ small) (from_not (has_bank s.banks bank) present) refl))

pub by_policy_or : (P : Response × Parts → Type 0) (handle : ℕ) (list : List (List ℕ)) (s : Parts)
    → ((why : Refusal) → P (refused why s))
    → ((session : Session) → session_at handle s.sessions ≡ Some session → IsGoodList session.hash session.digest list
    → P (answer.Done, record s { sessions = with_session handle (with_entry (policy_or_of session.hash list) (entry.Or list) session) s.sessions }))
    → P (policy_or handle list s)
by_policy_or P handle list s bad good = on (session_at handle s.sessions) refl
  where
    on : (o : Option Session) → session_at handle s.sessions ≡ o → P (policy_or_on o handle list s)
    on None e = bad _
    on (Some session) e =
        cond_both (is_wrong_list session.hash session.digest list) _ _ P (λ _. bad _) (λ right.
        cond_both (nat_le 128 (length session.trail)) _ _ P (λ _. bad _) (λ _. good session e (good_list session.hash session.digest list right)))

pub by_policy_authorize_nv : (P : Response × Parts → Type 0) (handle index : ℕ) (s : Parts)
    → ((why : Refusal) → P (refused why s))
    → ((session : Session) (x : Index) (written : Written) → session_at handle s.sessions ≡ Some session → index_at index s.indices ≡ Some x → x.written ≡ Some written
    → written.value ≡ content_in session.hash session.digest
    → let name = index_name_of x.public in
    P (
      answer.Done,
      record s {
        sessions = with_session handle (with_entry (policy_authorize_nv_of session.hash name) (entry.AuthorizeNv name session.digest written.number) session) s.sessions;
      },
    ))
    → P (policy_authorize_nv handle index s)
by_policy_authorize_nv P handle index s bad good = on (session_at handle s.sessions) refl
  where
    by : (x : Index) (o : Option Written) (session : Session) → session_at handle s.sessions ≡ Some session → index_at index s.indices ≡ Some x → x.written ≡ o
        → P (policy_authorize_nv_by x.public o handle session s)
    by x None session e found was = bad _
    by x (Some written) session e found was =
        cond_both (not (bytes_eq written.value (content_in session.hash session.digest))) _ _ P (λ _. bad _) (λ met.
        cond_both (nat_le 128 (length session.trail)) _ _ P (λ _. bad _) (λ _.
        good session x written e found was (bytes_same written.value (content_in session.hash session.digest) (from_not _ met))))

    at : (o : Option Index) (session : Session) → session_at handle s.sessions ≡ Some session → index_at index s.indices ≡ o → P (policy_authorize_nv_at o handle session s)
    at None session e found = bad _
    at (Some x) session e found = by x x.written session e found refl

    on : (o : Option Session) → session_at handle s.sessions ≡ o → P (policy_authorize_nv_on o handle index s)
    on None e = bad _
    on (Some session) e = at (index_at index s.indices) session e refl

pub by_policy_get_digest : (P : Response × Parts → Type 0) (handle : ℕ) (s : Parts) → ((response : Response) → P (response, s)) → P (policy_get_digest handle s)
by_policy_get_digest P handle s all = on (session_at handle s.sessions)
  where
    on : (o : Option Session) → P (digest_on o handle s)
    on None = all _
    on (Some session) = all _

pub by_flush_session : (P : Response × Parts → Type 0) (handle : ℕ) (s : Parts)
    → ((why : Refusal) → P (refused why s))
    → P (answer.Done, record s { sessions = remove s.sessions (session_place handle s.sessions) })
    → P (flush_session handle s)
by_flush_session P handle s bad good = on (session_at handle s.sessions)
  where
    on : (o : Option Session) → P (flush_on o handle s)
    on None = bad _
    on (Some session) = good

pub by_nv_define : (P : Response × Parts → Type 0) (public : NvPublic) (s : Parts)
    → ((why : Refusal) → P (refused why s))
    → (define_refusal public s.indices ≡ None → P (answer.Done, record s { indices = with_index (unwritten public) s.indices }))
    → P (nv_define public s)
by_nv_define P public s bad good = on (define_refusal public s.indices) refl
  where
    on : (o : Option NvRefusal) → define_refusal public s.indices ≡ o → P (nv_define_unless o public s)
    on (Some why) e = bad _
    on None e = good e

pub by_nv_undefine : (P : Response × Parts → Type 0) (handle : ℕ) (s : Parts)
    → ((why : Refusal) → P (refused why s))
    → ((x : Index) → index_at handle s.indices ≡ Some x → P (answer.Done, record s { indices = without_index handle s.indices }))
    → P (nv_undefine handle s)
by_nv_undefine P handle s bad good = on (index_at handle s.indices) refl
  where
    on : (o : Option Index) → index_at handle s.indices ≡ o → P (nv_undefine_unless (undefine_refusal_of o) handle s)
    on None e = bad _
    on (Some x) e = good x e

pub by_nv_write : (P : Response × Parts → Type 0) (handle : ℕ) (pin value : List ℕ) (s : Parts)
    → ((why : Refusal) → P (refused why s))
    → ((x : Index) → index_at handle s.indices ≡ Some x → pin_policy_of pin ≡ x.public.policy → length value ≡ 34
    → P (answer.Done, record s { write_counter = s.write_counter + 1; indices = after_write handle value (s.write_counter + 1) s.indices }))
    → P (nv_write handle pin value s)
by_nv_write P handle pin value s bad good = on (index_at handle s.indices) refl
  where
    on : (o : Option Index) → index_at handle s.indices ≡ o → P (nv_write_unless (write_refusal_of o (pin_policy_of pin) value) handle value s)
    on None e = bad _
    on (Some x) e =
        cond_both (not (bytes_eq (pin_policy_of pin) x.public.policy)) _ _ (λ o. P (nv_write_unless o handle value s)) (λ _. bad _) (λ met.
        cond_both (not (length value == 34)) _ _ (λ o. P (nv_write_unless o handle value s)) (λ _. bad _) (λ sized.
        cond_both (s.write_counter == 4294967295) _ _ P (λ _. bad _) (λ _.
        good x e (bytes_same (pin_policy_of pin) x.public.policy (from_not _ met)) (eqb-true (length value) 34 (from_not _ sized)))))

pub by_nv_read : (P : Response × Parts → Type 0) (handle : ℕ) (s : Parts) → ((response : Response) → P (response, s)) → P (nv_read handle s)
by_nv_read P handle s all = on (read_index handle s.indices)
  where
    on : (r : Result (List ℕ) NvRefusal) → P (content_answer r handle s)
    on (Ok value) = all _
    on (Err why) = all _

pub by_nv_read_public : (P : Response × Parts → Type 0) (handle : ℕ) (s : Parts) → ((response : Response) → P (response, s)) → P (nv_read_public handle s)
by_nv_read_public P handle s all = on (read_public handle s.indices)
  where
    on : (r : Result NvPublic NvRefusal) → P (public_answer r handle s)
    on (Ok public) = all _
    on (Err why) = all _

pub by_seal : (P : Response × Parts → Type 0) (policy secret : List ℕ) (s : Parts)
    → ((why : Refusal) → P (refused why s))
    → P (
      answer.Object (object_handle s.next_object),
      record s {
        next_object = s.next_object + 1;
        objects = s.objects ++ record { handle = object_handle s.next_object; policy = policy; secret = secret } ∷ [];
      },
    )
    → P (seal policy secret s)
by_seal P policy secret s bad good =
    cond_both (length secret == 0) _ _ P (λ _. bad _) (λ _.
    cond_both (not (is_policy_size (length policy))) _ _ P (λ _. bad _) (λ _.
    cond_both (nat_le 64 (length s.objects)) _ _ P (λ _. bad _) (λ _.
    cond_both (nat_le 0x00800000 s.next_object) _ _ P (λ _. bad _) (λ _. good))))

pub by_evict : (P : Response × Parts → Type 0) (handle : ℕ) (s : Parts)
    → ((why : Refusal) → P (refused why s))
    → P (answer.Done, record s { objects = remove s.objects (object_place handle s.objects) })
    → P (evict handle s)
by_evict P handle s bad good = on (slice_get s.objects (object_place handle s.objects))
  where
    on : (o : Option Object) → P (evict_on o handle s)
    on None = bad _
    on (Some object) = good

pub by_unseal : (P : Response × Parts → Type 0) (number handle : ℕ) (s : Parts)
    → ((why : Refusal) → P (refused why s))
    → ((session : Session) (object : Object) → session_at number s.sessions ≡ Some session → object_at handle s.objects ≡ Some object
    → noted_before session.noted s.update_counter ≡ None → session.digest ≡ object.policy → P (answer.Secret object.secret, s))
    → P (unseal number handle s)
by_unseal P number handle s bad good = on (session_at number s.sessions) refl
  where
    noted : (o : Option ℕ) (session : Session) (object : Object) → session_at number s.sessions ≡ Some session → object_at handle s.objects ≡ Some object
        → noted_before session.noted s.update_counter ≡ o → P (unseal_noted o session object s)
    noted (Some n) session object e found free = bad _
    noted None session object e found free =
        cond_both (bytes_eq session.digest object.policy) _ _ P (λ met. good session object e found free (bytes_same session.digest object.policy met)) (λ _. bad _)

    of : (o : Option Object) (session : Session) → session_at number s.sessions ≡ Some session → object_at handle s.objects ≡ o → P (unseal_of o session handle s)
    of None session e found = bad _
    of (Some object) session e found = noted (noted_before session.noted s.update_counter) session object e found refl

    on : (o : Option Session) → session_at number s.sessions ≡ o → P (unseal_on o number handle s)
    on None e = bad _
    on (Some session) e = of (object_at handle s.objects) session e refl
