-- Every command keeps the rules of a state.
use Rattle.std.proofs.Common.{◌≡◌, ℕ, ◌+◌, ◌^◌, ◌<◌, ◌≤◌, Bool, true, false, cond, not, List, [], ◌∷◌, ◌++◌, map, length, set, ◌||◌, ◌⊎◌, inl, inr, refl, sym, ap, subst, ◌∙◌, arith}
use Rattle.std.specs.Prelude.{nat_le, nat_lt, ◌==◌, slice_get, slice_set, remove, Option, None, Some, Result, Ok, Err, IfOk, OnErr}
use Rattle.std.specs.List.{AllByRecursion, list_all}
use Rattle.std.specs.Str.{bytes_eq}
use Rattle.std.proofs.lemmas.Bool.{and_from, and_parts, cond_both, leb-false, leb-true, le-leb, not-false, eq-eqb, eqb-true, eqb-false}
use Rattle.std.proofs.lemmas.List.{map-append}
use Rattle.std.proofs.Math.ListN.{length-append, length-set}
use Rattle.std.proofs.Math.Seq.{map-set_same}
use Rattle.std.proofs.lemmas.List.Edits.{length-remove}
use Rattle.std.proofs.lemmas.Option.{slice_get_within, get_or_from_slice_get}
use Rattle.hash_bank.specs.declared.bank.Bank.{Bank}
use Rattle.hash_bank.specs.declared.bank.Bank.TheVariants.{Sha1, Sha256, Sha384, Sha512}
use Rattle.hash_bank.specs.declared.banks.Banks.{Banks}
use Rattle.hash_bank.specs.declared.digests.Digests.{Digests}
use Rattle.hash_bank.specs.Banks.{has_bank}
use Rattle.hash_bank.specs.Hash.{zeros_in}
use Rattle.hash_bank.proofs.Sizes.{length-digest_in, length-zeros_in}
use Rattle.tpm_model.specs.declared.response.Response.{Response}
use Rattle.tpm_model.specs.declared.parts.Parts.{Parts}
use Rattle.tpm_model.specs.declared.sessions.Session.{Session}
use Rattle.tpm_model.specs.declared.object.Object.{Object}
use Rattle.tpm_model.specs.declared.trail.TrailEntry.{TrailEntry}
use Rattle.tpm_model.specs.declared.trail.TrailEntry.TheVariants as entry
use Rattle.policy_digest.specs.Policies.{IsPolicyHash, policy_pcr_of}
use Rattle.nv_index.specs.Handles.{are_handles}
use Rattle.tpm_model.specs.ObjectCommands.{evict, evict_on, seal, object_handle, is_policy_size}
use Rattle.tpm_model.specs.ObjectRules.{is_secret}
use Rattle.tpm_model.specs.PcrCommands.{is_start_locality, pcr_extend, restart}
use Rattle.tpm_model.specs.Pcrs.{pcr_of, after_extend, extended_in, put_extended, place_of, bank_count, present_digest_in, HasValues}
use Rattle.tpm_model.specs.Rules.{HasRules}
use Rattle.tpm_model.specs.SessionCommands.{start_session, session_handle, policy_pcr, policy_pcr_on, policy_pcr_noted, policy_pcr_now, noted_before, with_pcrs, flush_session, flush_on}
use Rattle.tpm_model.specs.SessionRules.{has_members, has_reads, is_folded, is_noted, is_noted_by, is_now, is_up_to_date, saw_present}
use Rattle.tpm_model.specs.Sessions.{object_place, is_session_hash, fresh_session, session_place, session_at}
use Rattle.tpm_model.specs.Shape.{IsEntryShape, IsObjectShape, IsSessionShape}
use Rattle.tpm_model.specs.Trails.{digest_after, has_pcr_entry, trail_digest}
use Rattle.tpm_model.specs.Fresh.{fresh_parts}
use Rattle.tpm_model.proofs.Handles.{handles_push, handles_remove}
use Rattle.nv_index.proofs.Lists.{map-remove, all_push, all_set, all_remove, all_at, passes_push, passes_set, passes_remove, passes_at, passes_weaker}
use Rattle.tpm_model.proofs.PcrPlaces.{value_at, keeps_values}
use Rattle.tpm_model.proofs.Starts.{start_sizes}
use Rattle.tpm_model.proofs.TrailSteps.{bytes_same, digest_step, looked_last, members_step, reads_step, same_bytes, saw_none}

-- the state of an answer has the rules
abbrev pub Keeps : Response × Parts → Type 0
Keeps r = HasRules r.1

pub one_more : {A : Type 0} (xs : List A) (y : A) → length (xs ++ y ∷ []) ≡ length xs + 1
one_more xs y = length-append xs (y ∷ [])

pub from_not : (b : Bool) → not b ≡ false → b ≡ true
from_not true e = refl
from_not false e = cc

-- a session's hash is one of the two of policies
pub policy_hash : (hash : Bank) → is_session_hash hash ≡ true → IsPolicyHash hash
policy_hash Sha1 e = cc
policy_hash Sha256 e = inl refl
policy_hash Sha384 e = inr refl
policy_hash Sha512 e = cc

-- what the rules say of one session
pub record KeepsSession (s : Parts) (x : Session) : Type 0 where
  pub shape : IsSessionShape x
  pub fold : is_folded x ≡ true
  pub or_member : has_members x ≡ true
  pub noted : is_noted s.update_counter x ≡ true
  pub pcr_now : is_up_to_date s x ≡ true
  pub nv_now : has_reads s x ≡ true

-- and of a list of sessions
pub record KeepsSessions (s : Parts) (xs : List Session) : Type 0 where
  pub shape : AllByRecursion IsSessionShape xs
  pub fold : list_all is_folded xs ≡ true
  pub or_member : list_all has_members xs ≡ true
  pub noted : list_all (is_noted s.update_counter) xs ≡ true
  pub pcr_now : list_all (is_up_to_date s) xs ≡ true
  pub nv_now : list_all (has_reads s) xs ≡ true

pub sessions_kept : (s : Parts) → HasRules s → KeepsSessions s s.sessions
sessions_kept s h = record {
  shape = h.shape.sessions;
  fold = h.fold;
  or_member = h.or_member;
  noted = h.noted;
  pcr_now = h.pcr_now;
  nv_now = h.nv_now;
}

pub session_kept : (s : Parts) (place : ℕ) (x : Session) → HasRules s → slice_get s.sessions place ≡ Some x → KeepsSession s x
session_kept s place x h e = record {
  shape = all_at IsSessionShape s.sessions place x h.shape.sessions e;
  fold = passes_at is_folded s.sessions place x h.fold e;
  or_member = passes_at has_members s.sessions place x h.or_member e;
  noted = passes_at (is_noted s.update_counter) s.sessions place x h.noted e;
  pcr_now = passes_at (is_up_to_date s) s.sessions place x h.pcr_now e;
  nv_now = passes_at (has_reads s) s.sessions place x h.nv_now e;
}

sessions_push : (s : Parts) (xs : List Session) (x : Session) → KeepsSessions s xs → KeepsSession s x → KeepsSessions s (xs ++ x ∷ [])
sessions_push s xs x all one = record {
  shape = all_push IsSessionShape xs x all.shape one.shape;
  fold = passes_push is_folded xs x all.fold one.fold;
  or_member = passes_push has_members xs x all.or_member one.or_member;
  noted = passes_push (is_noted s.update_counter) xs x all.noted one.noted;
  pcr_now = passes_push (is_up_to_date s) xs x all.pcr_now one.pcr_now;
  nv_now = passes_push (has_reads s) xs x all.nv_now one.nv_now;
}

sessions_set : (s : Parts) (xs : List Session) (i : ℕ) (x : Session) → KeepsSessions s xs → KeepsSession s x → KeepsSessions s (set xs i x)
sessions_set s xs i x all one = record {
  shape = all_set IsSessionShape xs i x all.shape one.shape;
  fold = passes_set is_folded xs i x all.fold one.fold;
  or_member = passes_set has_members xs i x all.or_member one.or_member;
  noted = passes_set (is_noted s.update_counter) xs i x all.noted one.noted;
  pcr_now = passes_set (is_up_to_date s) xs i x all.pcr_now one.pcr_now;
  nv_now = passes_set (has_reads s) xs i x all.nv_now one.nv_now;
}

sessions_remove : (s : Parts) (xs : List Session) (i : ℕ) → KeepsSessions s xs → KeepsSessions s (remove xs i)
sessions_remove s xs i all = record {
  shape = all_remove IsSessionShape xs i all.shape;
  fold = passes_remove is_folded xs i all.fold;
  or_member = passes_remove has_members xs i all.or_member;
  noted = passes_remove (is_noted s.update_counter) xs i all.noted;
  pcr_now = passes_remove (is_up_to_date s) xs i all.pcr_now;
  nv_now = passes_remove (has_reads s) xs i all.nv_now;
}

handle_of : Session → ℕ
handle_of x = x.handle

-- other sessions that keep the rules, and another next number
pub with_sessions : (s : Parts) (next : ℕ) (xs : List Session) → HasRules s → KeepsSessions s xs → length xs ≤ 64 → next ≤ 0x01000000
    → are_handles 0x03000000 (0x03000000 + next) (map (λ (x : Session). x.handle) xs) ≡ true
    → HasRules (record s { next_session = next; sessions = xs })
with_sessions s next xs h all few bound order = record {
  shape = record {
    values = h.shape.values;
    updates = h.shape.updates;
    writes = h.shape.writes;
    session_count = few;
    sessions = all.shape;
    index_count = h.shape.index_count;
    indices = h.shape.indices;
    object_count = h.shape.object_count;
    objects = h.shape.objects;
  };
  banks = h.banks;
  counters = and_from (nat_le next 0x01000000) (nat_le s.next_object 0x00800000) (le-leb next 0x01000000 bound)
      (and_parts (nat_le s.next_session 0x01000000) (nat_le s.next_object 0x00800000) h.counters).1;
  session_order = order;
  fold = all.fold;
  or_member = all.or_member;
  noted = all.noted;
  pcr_now = all.pcr_now;
  nv_now = all.nv_now;
  index_order = h.index_order;
  index_attributes = h.index_attributes;
  object_order = h.object_order;
  secret = h.secret;
}

-- the number of the next session is at most that at which handles end, and so is that of the next object
pub next_session_bound : (s : Parts) → HasRules s → s.next_session ≤ 0x01000000
next_session_bound s h = leb-true s.next_session 0x01000000 (and_parts (nat_le s.next_session 0x01000000) (nat_le s.next_object 0x00800000) h.counters).0

pub next_object_bound : (s : Parts) → HasRules s → s.next_object ≤ 0x00800000
next_object_bound s h = leb-true s.next_object 0x00800000 (and_parts (nat_le s.next_session 0x01000000) (nat_le s.next_object 0x00800000) h.counters).1

-- a new session keeps the rules
fresh_kept : (hash : Bank) (handle : ℕ) (s : Parts) → is_session_hash hash ≡ true → KeepsSession s (fresh_session hash handle)
fresh_kept hash handle s allowed = record {
  shape = record { hash = policy_hash hash allowed; digest = length-zeros_in hash; trail = omega arith; entries = tt };
  fold = same_bytes (zeros_in hash);
  or_member = refl;
  noted = refl;
  pcr_now = refl;
  nv_now = refl;
}

started : (hash : Bank) (s : Parts) → HasRules s → is_session_hash hash ≡ true → length s.sessions < 64 → s.next_session < 0x01000000
    → HasRules (record s { next_session = s.next_session + 1; sessions = s.sessions ++ fresh_session hash (session_handle s.next_session) ∷ [] })
started hash s h allowed few left =
    let x = fresh_session hash (session_handle s.next_session) in
    let next : session_handle s.next_session + 1 ≡ 0x03000000 + (s.next_session + 1) = omega arith in
    with_sessions s (s.next_session + 1) (s.sessions ++ x ∷ []) h
    (sessions_push s s.sessions x (sessions_kept s h) (fresh_kept hash (session_handle s.next_session) s allowed))
    (omega (arith, one_more s.sessions x)) (omega arith)
    (subst (λ ns. are_handles 0x03000000 (0x03000000 + (s.next_session + 1)) ns ≡ true) (sym (map-append (λ (y : Session). y.handle) s.sessions (x ∷ [])))
    (subst (λ n. are_handles 0x03000000 n (map (λ (y : Session). y.handle) s.sessions ++ session_handle s.next_session ∷ []) ≡ true) next
    (handles_push 0x03000000 (session_handle s.next_session) (map (λ (y : Session). y.handle) s.sessions) (omega arith) h.session_order)))

pub keeps-start_session : (hash : Bank) (s : Parts) → HasRules s → Keeps (start_session hash s)
keeps-start_session hash s h =
    cond_both (not (is_session_hash hash)) _ _ Keeps (λ _. h) (λ allowed.
    cond_both (nat_le 64 (length s.sessions)) _ _ Keeps (λ _. h) (λ few.
    cond_both (nat_le 0x01000000 s.next_session) _ _ Keeps (λ _. h) (λ left.
    started hash s h (from_not (is_session_hash hash) allowed) (leb-false _ _ few) (leb-false _ _ left))))

-- another session of the same handle in place of the one at a place
pub replaced : (s : Parts) (place : ℕ) (old new : Session) → HasRules s → slice_get s.sessions place ≡ Some old → new.handle ≡ old.handle → KeepsSession s new
    → HasRules (record s { sessions = slice_set s.sessions place new })
replaced s place old new h e same kept =
    with_sessions s s.next_session (slice_set s.sessions place new) h (sessions_set s s.sessions place new (sessions_kept s h) kept)
    (omega (arith, length-set s.sessions place new, h.shape.session_count)) (next_session_bound s h)
    (subst (λ ns. are_handles 0x03000000 (0x03000000 + s.next_session) ns ≡ true)
    (sym (map-set_same (λ (x : Session). x.handle) s.sessions place new old (same ∙ ap (λ (x : Session). x.handle) (sym (get_or_from_slice_get s.sessions place old old e)))))
    h.session_order)

flushed : (s : Parts) (place : ℕ) → HasRules s → place < length s.sessions → HasRules (record s { sessions = remove s.sessions place })
flushed s place h within =
    with_sessions s s.next_session (remove s.sessions place) h (sessions_remove s s.sessions place (sessions_kept s h))
    (omega (arith, length-remove s.sessions place within, h.shape.session_count)) (next_session_bound s h)
    (subst (λ ns. are_handles 0x03000000 (0x03000000 + s.next_session) ns ≡ true) (sym (map-remove (λ (x : Session). x.handle) s.sessions place))
    (handles_remove 0x03000000 _ _ place h.session_order))

pub keeps-flush_session : (handle : ℕ) (s : Parts) → HasRules s → Keeps (flush_session handle s)
keeps-flush_session handle s h = on (session_at handle s.sessions) refl
  where
    on : (o : Option Session) → session_at handle s.sessions ≡ o → Keeps (flush_on o handle s)
    on None e = h
    on (Some session) e = flushed s (session_place handle s.sessions) h (slice_get_within s.sessions _ session e)

-- a session that noted no other counter saw what PCRs hold now
saw_so_far : (noted : Option ℕ) (s : Parts) (hash : Bank) (trail : List TrailEntry) → noted_before noted s.update_counter ≡ None
    → is_noted_by noted s.update_counter trail ≡ true
    → cond (is_now noted s.update_counter) (list_all (saw_present s hash) trail) true ≡ true
    → list_all (saw_present s hash) trail ≡ true
saw_so_far None s hash trail e noted seen = saw_none s hash trail noted
saw_so_far (Some n) s hash trail e noted seen =
    elim (n == s.update_counter) as (λ b. cond b None (Some n) ≡ None → cond b (list_all (saw_present s hash) trail) true ≡ true → list_all (saw_present s hash) trail ≡ true) [
      | true ↦ λ _ saw. saw
      | false ↦ λ other _. cc
    ] e seen

-- a session that looks at PCRs once more
looked : (s : Parts) (x : Session) (bank : Bank) (pcrs : ℕ) → KeepsSession s x → has_bank s.banks bank ≡ true → pcrs < 2 ^ 24 → length x.trail < 128
    → noted_before x.noted s.update_counter ≡ None
    → let values = present_digest_in x.hash bank pcrs s.banks s.pcrs in
    KeepsSession s (with_pcrs (policy_pcr_of x.hash x.digest bank pcrs values) s.update_counter (entry.Pcr bank pcrs values) x)
looked s x bank pcrs k present mask room free =
    let values = present_digest_in x.hash bank pcrs s.banks s.pcrs in
    let new = entry.Pcr bank pcrs values in
    let before : x.digest ≡ trail_digest x.hash x.trail = bytes_same x.digest (trail_digest x.hash x.trail) k.fold in
    let after : policy_pcr_of x.hash x.digest bank pcrs values ≡ trail_digest x.hash (x.trail ++ new ∷ []) =
    ap (λ d. digest_after x.hash d new) before ∙ sym (digest_step x.hash x.trail new) in
    let now : s.update_counter == s.update_counter ≡ true = eq-eqb s.update_counter s.update_counter refl in
    record {
      shape = record {
        hash = k.shape.hash;
        digest = length-digest_in x.hash _;
        trail = omega (arith, one_more x.trail new);
        entries = all_push (IsEntryShape x.hash) x.trail new k.shape.entries (record { mask = mask; values = length-digest_in x.hash _ });
      };
      fold = ap (bytes_eq (policy_pcr_of x.hash x.digest bank pcrs values)) (sym after) ∙ same_bytes (policy_pcr_of x.hash x.digest bank pcrs values);
      or_member = members_step x.hash x.trail new ∙ k.or_member;
      noted = and_from (has_pcr_entry (x.trail ++ new ∷ [])) (nat_le s.update_counter s.update_counter) (looked_last x.trail new refl) (le-leb s.update_counter s.update_counter (omega arith));
      pcr_now = ap (λ b. cond b (list_all (saw_present s x.hash) (x.trail ++ new ∷ [])) true) now
          ∙ passes_push (saw_present s x.hash) x.trail new (saw_so_far x.noted s x.hash x.trail free k.noted k.pcr_now)
          (and_from (has_bank s.banks bank) (bytes_eq values values) present (same_bytes values));
      nv_now = reads_step s x.hash x.trail new ∙ k.nv_now;
    }

pub keeps-policy_pcr : (handle : ℕ) (bank : Bank) (pcrs : ℕ) (s : Parts) → HasRules s → Keeps (policy_pcr handle bank pcrs s)
keeps-policy_pcr handle bank pcrs s h = on (session_at handle s.sessions) refl
  where
    now : (session : Session) → session_at handle s.sessions ≡ Some session → nat_le (2 ^ 24) pcrs ≡ false → not (has_bank s.banks bank) ≡ false
        → noted_before session.noted s.update_counter ≡ None → Keeps (policy_pcr_now handle session bank pcrs s)
    now session e small present free =
        cond_both (nat_le 128 (length session.trail)) _ _ Keeps (λ _. h) (λ room.
        replaced s (session_place handle s.sessions) session _ h e refl
        (looked s session bank pcrs (session_kept s (session_place handle s.sessions) session h e) (from_not (has_bank s.banks bank) present) (leb-false _ _ small) (leb-false _ _ room) free))

    noted : (o : Option ℕ) (session : Session) → session_at handle s.sessions ≡ Some session → nat_le (2 ^ 24) pcrs ≡ false → not (has_bank s.banks bank) ≡ false
        → noted_before session.noted s.update_counter ≡ o → Keeps (policy_pcr_noted o handle session bank pcrs s)
    noted (Some n) session e small present free = h
    noted None session e small present free = now session e small present free

    on : (o : Option Session) → session_at handle s.sessions ≡ o → Keeps (policy_pcr_on o handle bank pcrs s)
    on None e = h
    on (Some session) e =
        cond_both (nat_le (2 ^ 24) pcrs) _ _ Keeps (λ _. h) (λ small.
        cond_both (not (has_bank s.banks bank)) _ _ Keeps (λ _. h) (λ present.
        noted (noted_before session.noted s.update_counter) session e small present refl))

-- one more object
object_sealed : (policy secret : List ℕ) (s : Parts) → HasRules s → IsObjectShape (record { handle = object_handle s.next_object; policy = policy; secret = secret })
    → is_secret (record { handle = object_handle s.next_object; policy = policy; secret = secret }) ≡ true → length s.objects < 64 → s.next_object < 0x00800000
    → HasRules (record s { next_object = s.next_object + 1; objects = s.objects ++ record { handle = object_handle s.next_object; policy = policy; secret = secret } ∷ [] })
object_sealed policy secret s h shape some few left =
    let x : Object = record { handle = object_handle s.next_object; policy = policy; secret = secret } in
    let next : object_handle s.next_object + 1 ≡ 0x81000000 + (s.next_object + 1) = omega arith in
    record {
      shape = record {
        values = h.shape.values;
        updates = h.shape.updates;
        writes = h.shape.writes;
        session_count = h.shape.session_count;
        sessions = h.shape.sessions;
        index_count = h.shape.index_count;
        indices = h.shape.indices;
        object_count = omega (arith, one_more s.objects x);
        objects = all_push IsObjectShape s.objects x h.shape.objects shape;
      };
      banks = h.banks;
      counters = and_from (nat_le s.next_session 0x01000000) (nat_le (s.next_object + 1) 0x00800000)
          (and_parts (nat_le s.next_session 0x01000000) (nat_le s.next_object 0x00800000) h.counters).0
          (le-leb (s.next_object + 1) 0x00800000 (omega arith));
      session_order = h.session_order;
      fold = h.fold;
      or_member = h.or_member;
      noted = h.noted;
      pcr_now = h.pcr_now;
      nv_now = h.nv_now;
      index_order = h.index_order;
      index_attributes = h.index_attributes;
      object_order = subst (λ ns. are_handles 0x81000000 (0x81000000 + (s.next_object + 1)) ns ≡ true) (sym (map-append (λ (y : Object). y.handle) s.objects (x ∷ [])))
          (subst (λ n. are_handles 0x81000000 n (map (λ (y : Object). y.handle) s.objects ++ object_handle s.next_object ∷ []) ≡ true) next
          (handles_push 0x81000000 (object_handle s.next_object) (map (λ (y : Object). y.handle) s.objects) (omega arith) h.object_order));
      secret = passes_push is_secret s.objects x h.secret some;
    }

pub keeps-seal : (policy secret : List ℕ) (s : Parts) → length secret ≤ 128 → HasRules s → Keeps (seal policy secret s)
keeps-seal policy secret s small h =
    cond_both (length secret == 0) _ _ Keeps (λ _. h) (λ some.
    cond_both (not (is_policy_size (length policy))) _ _ Keeps (λ _. h) (λ sized.
    cond_both (nat_le 64 (length s.objects)) _ _ Keeps (λ _. h) (λ few.
    cond_both (nat_le 0x00800000 s.next_object) _ _ Keeps (λ _. h) (λ left.
    object_sealed policy secret s h
    (record { policy = either (length policy) (not-false _ sized); secret = small })
    (and_from (nat_le 1 (length secret)) (nat_le (length secret) 128)
    (le-leb 1 (length secret) (let ne : length secret ≡ 0 → ⊥ = eqb-false (length secret) 0 some in omega arith))
    (le-leb (length secret) 128 small))
    (leb-false _ _ few) (leb-false _ _ left)))))
  where
    either : (n : ℕ) → (n == 32 || n == 48) ≡ true → (n ≡ 32) ⊎ (n ≡ 48)
    either n e = or_cases (n == 32) (n == 48) refl refl e
      where
        or_cases : (a b : Bool) → (n == 32) ≡ a → (n == 48) ≡ b → (a || b) ≡ true → (n ≡ 32) ⊎ (n ≡ 48)
        or_cases true b p q e = inl (eqb-true n 32 p)
        or_cases false true p q e = inr (eqb-true n 48 q)
        or_cases false false p q e = cc

-- an object that is taken away
object_gone : (s : Parts) (place : ℕ) → HasRules s → place < length s.objects → HasRules (record s { objects = remove s.objects place })
object_gone s place h within = record {
  shape = record {
    values = h.shape.values;
    updates = h.shape.updates;
    writes = h.shape.writes;
    session_count = h.shape.session_count;
    sessions = h.shape.sessions;
    index_count = h.shape.index_count;
    indices = h.shape.indices;
    object_count = omega (arith, length-remove s.objects place within, h.shape.object_count);
    objects = all_remove IsObjectShape s.objects place h.shape.objects;
  };
  banks = h.banks;
  counters = h.counters;
  session_order = h.session_order;
  fold = h.fold;
  or_member = h.or_member;
  noted = h.noted;
  pcr_now = h.pcr_now;
  nv_now = h.nv_now;
  index_order = h.index_order;
  index_attributes = h.index_attributes;
  object_order = subst (λ ns. are_handles 0x81000000 (0x81000000 + s.next_object) ns ≡ true) (sym (map-remove (λ (x : Object). x.handle) s.objects place))
      (handles_remove 0x81000000 (0x81000000 + s.next_object) (map (λ (x : Object). x.handle) s.objects) place h.object_order);
  secret = passes_remove is_secret s.objects place h.secret;
}

pub keeps-evict : (handle : ℕ) (s : Parts) → HasRules s → Keeps (evict handle s)
keeps-evict handle s h = on (slice_get s.objects (object_place handle s.objects)) refl
  where
    on : (o : Option Object) → slice_get s.objects (object_place handle s.objects) ≡ o → Keeps (evict_on o handle s)
    on None e = h
    on (Some object) e = object_gone s (object_place handle s.objects) h (slice_get_within s.objects _ object e)

-- an extend in one bank leaves the sizes
extended_sizes : (banks : Banks) (pcr : ℕ) (given : Option (List ℕ)) (bank : Bank) (pcrs : List (List ℕ)) → HasValues banks pcrs → HasValues banks (extended_in banks pcr given bank pcrs)
extended_sizes banks pcr given bank pcrs h = on (pcr_of banks pcrs bank pcr) given refl
  where
    on : (o d : Option (List ℕ)) → pcr_of banks pcrs bank pcr ≡ o → HasValues banks (put_extended bank o d (place_of banks bank pcr) pcrs)
    on None d e = h
    on (Some old) None e = h
    on (Some old) (Some digest) e =
        let known = value_at banks pcrs bank pcr old h e in
        keeps_values banks pcrs (place_of banks bank pcr) old _ h known.found (length-digest_in bank (old ++ digest) ∙ sym known.size)

-- a counter that was noted is at most the next one, and isn't that
still_noted : (now : ℕ) (noted : Option ℕ) (trail : List TrailEntry) → is_noted_by noted now trail ≡ true → is_noted_by noted (now + 1) trail ≡ true
still_noted now None trail e = e
still_noted now (Some n) trail e =
    let both = and_parts (has_pcr_entry trail) (nat_le n now) e in
    and_from (has_pcr_entry trail) (nat_le n (now + 1)) both.0 (le-leb n (now + 1) (omega (arith, leb-true n now both.1)))

past : (now : ℕ) (noted : Option ℕ) (trail : List TrailEntry) → is_noted_by noted now trail ≡ true → is_now noted (now + 1) ≡ false
past now None trail e = refl
past now (Some n) trail e =
    let bound : n ≤ now = leb-true n now (and_parts (has_pcr_entry trail) (nat_le n now) e).1 in
    apart (n == now + 1) refl bound
  where
    apart : (b : Bool) → (n == now + 1) ≡ b → n ≤ now → b ≡ false
    apart true same bound = let e : n ≡ now + 1 = eqb-true n (now + 1) same in absurd (omega arith)
    apart false same bound = refl

pub keeps-pcr_extend : (pcr : ℕ) (digests : Digests) (s : Parts) → HasRules s → Keeps (pcr_extend pcr digests s)
keeps-pcr_extend pcr digests s h =
    cond_both (nat_lt 23 pcr) _ _ Keeps (λ _. h) (λ _.
    cond_both (s.update_counter == 4294967295) _ _ Keeps (λ _. h) (λ below.
    let next : Parts = record s { pcrs = after_extend s.banks pcr digests s.pcrs; update_counter = s.update_counter + 1 } in
    record {
      shape = record {
        values = extended_sizes s.banks pcr digests.sha512 Sha512 _ (extended_sizes s.banks pcr digests.sha384 Sha384 _
            (extended_sizes s.banks pcr digests.sha256 Sha256 _ (extended_sizes s.banks pcr digests.sha1 Sha1 _ h.shape.values)));
        updates = let ne : s.update_counter ≡ 4294967295 → ⊥ = eqb-false s.update_counter 4294967295 below in omega (arith, h.shape.updates);
        writes = h.shape.writes;
        session_count = h.shape.session_count;
        sessions = h.shape.sessions;
        index_count = h.shape.index_count;
        indices = h.shape.indices;
        object_count = h.shape.object_count;
        objects = h.shape.objects;
      };
      banks = h.banks;
      counters = h.counters;
      session_order = h.session_order;
      fold = h.fold;
      or_member = h.or_member;
      noted = passes_weaker (is_noted s.update_counter) (is_noted (s.update_counter + 1)) (λ x. still_noted s.update_counter x.noted x.trail) s.sessions h.noted;
      pcr_now = passes_weaker (is_noted s.update_counter) (is_up_to_date next)
          (λ x e. ap (λ b. cond b (list_all (saw_present next x.hash) x.trail) true) (past s.update_counter x.noted x.trail e)) s.sessions h.noted;
      nv_now = h.nv_now;
      index_order = h.index_order;
      index_attributes = h.index_attributes;
      object_order = h.object_order;
      secret = h.secret;
    }))

or_false : (a b : Bool) → (a || b) ≡ false → (a ≡ false) × (b ≡ false)
or_false true b e = cc
or_false false b e = (refl, e)

pub keeps-restart : (locality : ℕ) (banks : Banks) (s : Parts) → HasRules s → Keeps (restart locality banks s)
keeps-restart locality banks s h =
    cond_both (not (is_start_locality locality) || bank_count banks == 0) _ _ Keeps (λ _. h) (λ good. record {
      shape = record {
        values = start_sizes banks locality;
        updates = omega arith;
        writes = h.shape.writes;
        session_count = omega arith;
        sessions = tt;
        index_count = h.shape.index_count;
        indices = h.shape.indices;
        object_count = h.shape.object_count;
        objects = h.shape.objects;
      };
      banks = some (bank_count banks) (or_false (not (is_start_locality locality)) (bank_count banks == 0) good).1;
      counters = h.counters;
      session_order = refl;
      fold = refl;
      or_member = refl;
      noted = refl;
      pcr_now = refl;
      nv_now = refl;
      index_order = h.index_order;
      index_attributes = h.index_attributes;
      object_order = h.object_order;
      secret = h.secret;
    })
  where
    some : (n : ℕ) → (n == 0) ≡ false → nat_le 1 n ≡ true
    some n e = let ne : n ≡ 0 → ⊥ = eqb-false n 0 e in le-leb 1 n (omega arith)

-- the state that was left is that of the answer
pub kept : (answer : Response) (new : Parts) (r : Response × Parts) → (answer, new) ≡ r → Keeps r → HasRules new
kept answer new r e h = subst HasRules (sym (ap (λ (x : Response × Parts). x.1) e)) h

pub kept_unless : {E : Type 0} (result : Result Response E) (old new : Parts) (r : Response × Parts)
    → IfOk result (λ answer. (answer, new) ≡ r) → OnErr result (new ≡ old) → HasRules old → Keeps r → HasRules new
kept_unless (Ok answer) old new r e same h keeps = kept answer new r e keeps
kept_unless (Err error) old new r e same h keeps = subst HasRules (sym same) h

-- a fresh state has the rules
pub fresh_rules : (banks : Banks) → 1 ≤ bank_count banks → HasRules (fresh_parts banks)
fresh_rules banks some = record {
  shape = record {
    values = start_sizes banks 0;
    updates = omega arith;
    writes = omega arith;
    session_count = omega arith;
    sessions = tt;
    index_count = omega arith;
    indices = tt;
    object_count = omega arith;
    objects = tt;
  };
  banks = le-leb 1 (bank_count banks) some;
  counters = refl;
  session_order = refl;
  fold = refl;
  or_member = refl;
  noted = refl;
  pcr_now = refl;
  nv_now = refl;
  index_order = refl;
  index_attributes = refl;
  object_order = refl;
  secret = refl;
}
