-- What the commands of a walk answer and leave on the session that was started last.
use Rattle.std.proofs.Common.{◌≡◌, ℕ, ◌+◌, ◌^◌, ◌<◌, ◌≤◌, ◌==◌, Bool, true, false, cond, not, ◌||◌, List, [], ◌∷◌, ◌++◌, length, Contains, refl, sym, ap, ◌∙◌, subst, arith}
use Rattle.std.specs.Prelude.{remove, slice_set, nat_le, nat_lt, Option, None, Some, Ok, Err}
use Rattle.std.specs.List.{All, list_all, list_any}
use Rattle.std.specs.Str.{bytes_eq}
use Rattle.std.proofs.lemmas.Bool.{eq-eqb, eqb-true}
use Rattle.std.proofs.lemmas.List.{get_or_default}
use Rattle.std.proofs.lemmas.List.Sums.{list_all-from_AllPass}
use Rattle.std.proofs.lemmas.Slice.Eq.{bytes_eq-Decides}
use Rattle.hash_bank.specs.declared.bank.Bank.{Bank}
use Rattle.hash_bank.specs.declared.bank.Bank.TheVariants.{Sha256}
use Rattle.hash_bank.specs.Banks.{has_bank}
use Rattle.hash_bank.specs.Hash.{size_in}
use Rattle.nv_index.specs.IndexName.{index_name_of}
use Rattle.nv_index.specs.Table.{index_at}
use Rattle.nv_index.specs.declared.index.NvPublic.{NvPublic}
use Rattle.nv_index.specs.declared.index.Written.{Written}
use Rattle.policy_digest.specs.Policies.{policy_authorize_nv_of, policy_or_of, policy_pcr_of}
use Rattle.policy_file.specs.TokenText.{IsObject}
use Rattle.policy_walk.specs.declared.why.Why.TheVariants as why
use Rattle.policy_walk.specs.Choosing.{content_of}
use Rattle.policy_walk.specs.Walking.{secret_in, why_in}
use Rattle.policy_walk.proofs.Ends.{contains_met}
use Rattle.tpm_model.specs.declared.response.Response.{Response}
use Rattle.tpm_model.specs.declared.response.Response.TheVariants as answer
use Rattle.tpm_model.specs.declared.response.Refusal.TheVariants as refusal
use Rattle.tpm_model.specs.declared.trail.TrailEntry.TheVariants as entry
use Rattle.tpm_model.specs.declared.sessions.Session.{Session}
use Rattle.tpm_model.specs.declared.parts.Parts.{Parts}
use Rattle.tpm_model.specs.Rules.{HasRules}
use Rattle.tpm_model.specs.declared.object.Object.{Object}
use Rattle.tpm_model.specs.ObjectCommands.{unseal, unseal_noted, unseal_now, unseal_of, unseal_on}
use Rattle.tpm_model.specs.Sessions.{object_at, session_at, session_place}
use Rattle.tpm_model.specs.SessionCommands.{content_in, digest_on, flush_on, flush_session, has_size, is_wrong_list, noted_before, policy_authorize_nv, policy_authorize_nv_at, policy_authorize_nv_on, policy_get_digest, policy_or, policy_or_on, policy_pcr, policy_pcr_noted, policy_pcr_now, policy_pcr_on, present_digest, with_entry, with_pcrs, with_session}
use Rattle.tpm_model.proofs.KeepsPolicies.{keeps-policy_authorize_nv, keeps-policy_or}
use Rattle.tpm_model.proofs.KeepsRules.{keeps-policy_pcr, next_session_bound}
use Rattle.policy_session.specs.declared.error.UnsealError.TheVariants as error
use Rattle.policy_session.specs.BoundUnseal.{kept_for, secret_or}
use Rattle.policy_session.specs.LiteralUnseal.{opened_by}
use Rattle.policy_session.specs.Kept.{IsKept}
use Rattle.policy_session.specs.OpenSession.{IsOpen, closed, with_open}
use Rattle.policy_session.proofs.KeptStates.{open_alike}
use Rattle.policy_session.proofs.Sessions.{remove_last, set_last}
use Rattle.policy_session.proofs.StepAnswers.{found, found_at, same_noted}

-- the session after PolicyPCR, PolicyOR and PolicyAuthorizeNV
abbrev pub looked : Bank → ℕ → Session → Parts → Session
looked bank pcrs x s =
    let values = present_digest x.hash bank pcrs s in
    with_pcrs (policy_pcr_of x.hash x.digest bank pcrs values) s.update_counter (entry.Pcr bank pcrs values) x

abbrev pub joined : List (List ℕ) → Session → Session
joined list x = with_entry (policy_or_of x.hash list) (entry.Or list) x

abbrev pub authorised : NvPublic → Written → Session → Session
authorised public written x =
    let name = index_name_of public in
    with_entry (policy_authorize_nv_of x.hash name) (entry.AuthorizeNv name x.digest written.number) x

not_full : {A : Type 0} (trail : List A) → length trail < 128 → nat_le 128 (length trail) ≡ false
not_full trail room = above (length trail) room
  where
    above : (n : ℕ) → n < 128 → nat_le 128 n ≡ false
    above n h = grind arith

is_mask : (pcrs : ℕ) → pcrs < 2 ^ 24 → nat_le (2 ^ 24) pcrs ≡ false
is_mask pcrs small = grind arith

right_list : (few all one : Bool) → few ≡ false → all ≡ true → one ≡ true → (few || not all || not one) ≡ false
right_list false true true a b c = refl
right_list true all one a b c = cc
right_list false false one a b c = cc
right_list false true false a b c = cc

module _ (handle : ℕ) (x : Session) (s : Parts) (h : IsOpen handle x s) where
  at_end : session_at handle (s.sessions ++ x ∷ []) ≡ Some x
  at_end = ap (λ n. session_at n (s.sessions ++ x ∷ [])) h.number ∙ found_at x s h.rules h.own

  changed : (y : Session) → with_session handle y (s.sessions ++ x ∷ []) ≡ s.sessions ++ y ∷ []
  changed y =
      let place : session_place handle (s.sessions ++ x ∷ []) ≡ length s.sessions = ap (λ n. session_place n (s.sessions ++ x ∷ [])) h.number ∙ found x s h.rules h.own in
      ap (λ k. slice_set (s.sessions ++ x ∷ []) k y) place ∙ set_last s.sessions x y

  -- PolicyGetDigest
  pub tells : policy_get_digest handle (with_open x s) ≡ (answer.PolicyDigest x.digest, with_open x s)
  unfolding with_open
  tells = ap (λ o. digest_on o handle (with_open x s)) at_end

  -- FlushContext
  pub flushed : flush_session handle (with_open x s) ≡ (answer.Done, closed s)
  unfolding with_open closed
  flushed =
      let place : session_place handle (s.sessions ++ x ∷ []) ≡ length s.sessions = ap (λ n. session_place n (s.sessions ++ x ∷ [])) h.number ∙ found x s h.rules h.own in
      ap (λ o. flush_on o handle (with_open x s)) at_end
      ∙ ap (λ xs. (answer.Done, record s { next_session = s.next_session + 1; sessions = xs })) (ap (remove (s.sessions ++ x ∷ [])) place ∙ remove_last s.sessions x)

  -- another session in its place is open
  still_open : (y : Session) (r : Response × Parts) → y.handle ≡ x.handle → r.1 ≡ with_open y s → HasRules r.1 → IsOpen handle y s
  still_open y r same e rules = record {
    number = h.number;
    own = same ∙ h.own;
    rules = h.rules;
    kept = record { rules = subst HasRules e rules; differs = open_alike y s };
  }

  module _ (bank : Bank) (pcrs : ℕ) (small : pcrs < 2 ^ 24) where
    tested : policy_pcr handle bank pcrs (with_open x s)
        ≡ cond (not (has_bank s.banks bank)) (answer.Refused (refusal.BankAbsent bank), with_open x s) (policy_pcr_noted (noted_before x.noted s.update_counter) handle x bank pcrs (with_open x s))
    unfolding with_open
    tested =
        let w = with_open x s in
        ap (λ o. policy_pcr_on o handle bank pcrs w) at_end
        ∙ ap (λ b. cond b (answer.Refused refusal.Value, w) (cond (not (has_bank s.banks bank)) (answer.Refused (refusal.BankAbsent bank), w) (policy_pcr_noted (noted_before x.noted s.update_counter) handle x bank pcrs w)))
        (is_mask pcrs small)

    -- PolicyPCR of a bank that isn't present
    pub absent : has_bank s.banks bank ≡ false → policy_pcr handle bank pcrs (with_open x s) ≡ (answer.Refused (refusal.BankAbsent bank), with_open x s)
    absent missing = tested ∙ ap (λ b. cond (not b) (answer.Refused (refusal.BankAbsent bank), with_open x s) (policy_pcr_noted (noted_before x.noted s.update_counter) handle x bank pcrs (with_open x s))) missing

    -- PolicyPCR of the present values
    pub looks : has_bank s.banks bank ≡ true → noted_before x.noted s.update_counter ≡ None → length x.trail < 128
        → policy_pcr handle bank pcrs (with_open x s) ≡ (answer.Done, with_open (looked bank pcrs x s) s)
    unfolding with_open
    looks present unchanged room =
        let w = with_open x s in
        tested
        ∙ ap (λ b. cond (not b) (answer.Refused (refusal.BankAbsent bank), w) (policy_pcr_noted (noted_before x.noted s.update_counter) handle x bank pcrs w)) present
        ∙ ap (λ n. policy_pcr_noted n handle x bank pcrs w) unchanged
        ∙ ap (λ b. cond b (answer.Refused refusal.TrailFull, w) (answer.Done, record w { sessions = with_session handle (looked bank pcrs x s) w.sessions })) (not_full x.trail room)
        ∙ ap (λ xs. (answer.Done, record w { sessions = xs })) (changed (looked bank pcrs x s))

    pub looked_open : policy_pcr handle bank pcrs (with_open x s) ≡ (answer.Done, with_open (looked bank pcrs x s) s) → IsOpen handle (looked bank pcrs x s) s
    looked_open e = still_open (looked bank pcrs x s) (policy_pcr handle bank pcrs (with_open x s)) refl (ap (λ (r : Response × Parts). r.1) e) (keeps-policy_pcr handle bank pcrs (with_open x s) h.kept.rules)

  module _ (list : List (List ℕ)) (hash : x.hash ≡ Sha256) where
    right : 2 ≤ length list → All (λ d. length d ≡ 32) list → Contains list x.digest → is_wrong_list x.hash x.digest list ≡ false
    unfolding is_wrong_list
    right some sizes member =
        let size : size_in x.hash ≡ 32 = ap size_in hash in
        right_list (nat_lt (length list) 2) (list_all (has_size x.hash) list) (list_any (bytes_eq x.digest) list)
        (not_below (length list) some)
        (list_all-from_AllPass (has_size x.hash) list (λ k d inside. eq-eqb _ _ (sizes k d inside ∙ sym size)))
        (contains_met x.digest list member.0 member.1 (get_or_default list member.0 [] x.digest member.1 ∙ member.2))
      where
        not_below : (n : ℕ) → 2 ≤ n → nat_lt n 2 ≡ false
        not_below n h = grind arith

    -- PolicyOR of a list that holds the session's digest
    pub joins : 2 ≤ length list → All (λ d. length d ≡ 32) list → Contains list x.digest → length x.trail < 128
        → policy_or handle list (with_open x s) ≡ (answer.Done, with_open (joined list x) s)
    unfolding with_open
    joins some sizes member room =
        let w = with_open x s in
        ap (λ o. policy_or_on o handle list w) at_end
        ∙ ap (λ b. cond b (answer.Refused refusal.Value, w) (cond (nat_le 128 (length x.trail)) (answer.Refused refusal.TrailFull, w) (answer.Done, record w { sessions = with_session handle (joined list x) w.sessions })))
        (right some sizes member)
        ∙ ap (λ b. cond b (answer.Refused refusal.TrailFull, w) (answer.Done, record w { sessions = with_session handle (joined list x) w.sessions })) (not_full x.trail room)
        ∙ ap (λ xs. (answer.Done, record w { sessions = xs })) (changed (joined list x))

    pub joined_open : length list ≤ 8 → policy_or handle list (with_open x s) ≡ (answer.Done, with_open (joined list x) s) → IsOpen handle (joined list x) s
    joined_open few e = still_open (joined list x) (policy_or handle list (with_open x s)) refl (ap (λ (r : Response × Parts). r.1) e) (keeps-policy_or handle list (with_open x s) few h.kept.rules)

  module _ (index : ℕ) (public : NvPublic) (written : Written) (hash : x.hash ≡ Sha256) where
    -- PolicyAuthorizeNV by an index that holds the session's digest
    pub authorises : index_at index s.indices ≡ Some (record { public = public; written = Some written }) → written.value ≡ content_of x.digest → length x.trail < 128
        → policy_authorize_nv handle index (with_open x s) ≡ (answer.Done, with_open (authorised public written x) s)
    unfolding with_open
    authorises held content room =
        let w = with_open x s in
        let same : content_of x.digest ≡ content_in x.hash x.digest = sym (ap (λ k. content_in k x.digest) hash) in
        let met : bytes_eq written.value (content_in x.hash x.digest) ≡ true = (bytes_eq-Decides _ _).1 (content ∙ same) in
        ap (λ o. policy_authorize_nv_on o handle index w) at_end
        ∙ ap (λ i. policy_authorize_nv_at i handle x w) held
        ∙ ap (λ b. cond (not b) (answer.Refused refusal.Value, w) (cond (nat_le 128 (length x.trail)) (answer.Refused refusal.TrailFull, w) (answer.Done, record w { sessions = with_session handle (authorised public written x) w.sessions }))) met
        ∙ ap (λ b. cond b (answer.Refused refusal.TrailFull, w) (answer.Done, record w { sessions = with_session handle (authorised public written x) w.sessions })) (not_full x.trail room)
        ∙ ap (λ xs. (answer.Done, record w { sessions = xs })) (changed (authorised public written x))

    pub authorised_open : policy_authorize_nv handle index (with_open x s) ≡ (answer.Done, with_open (authorised public written x) s) → IsOpen handle (authorised public written x) s
    authorised_open e = still_open (authorised public written x) (policy_authorize_nv handle index (with_open x s)) refl (ap (λ (r : Response × Parts). r.1) e) (keeps-policy_authorize_nv handle index (with_open x s) h.kept.rules)

  -- Unseal on a session that saw the present PCRs
  module _ (object : ℕ) (own : IsObject object) (noted : x.noted ≡ Some s.update_counter) where
    apart : (object == handle) ≡ false
    apart = by_test (object == handle) refl
      where
        by_test : (b : Bool) → (object == handle) ≡ b → b ≡ false
        by_test true e = let same : object ≡ handle = eqb-true object handle e in absurd (omega (arith, same, h.number, own.0, next_session_bound s h.rules))
        by_test false e = refl

    answered : (b : Bool) (o : Object) → secret_or (secret_in (cond b (answer.Secret o.secret) (answer.Refused (refusal.PolicyFail x.digest o.policy))))
        (why_in handle object (cond b (answer.Secret o.secret) (answer.Refused (refusal.PolicyFail x.digest o.policy))))
        ≡ cond b (Ok o.secret) (Err (error.WrongBinding x.digest o.policy))
    answered true o = refl
    answered false o = refl

    -- what the client takes from the answer, and the state after it
    abbrev pub Takes : Response × Parts → Option Object → Type 0
    Takes r o = (secret_or (secret_in r.0) (why_in handle object r.0) ≡ opened_by x.digest object o) × (r.1 ≡ with_open x s)

    by_object : (o : Option Object) → Takes (unseal_of o x object (with_open x s)) o
    unfolding with_open
    by_object None = (ap (λ b. Err (kept_for (Some (cond b (why.SessionGone handle) (why.NoObject object))))) apart, refl)
    by_object (Some o) =
        let w = with_open x s in
        let unchanged : noted_before x.noted s.update_counter ≡ None = ap (λ n. noted_before n s.update_counter) noted ∙ same_noted s.update_counter in
        let r : unseal_of (Some o) x object w ≡ unseal_now x o w = ap (λ n. unseal_noted n x o w) unchanged in
        subst (λ q. Takes q (Some o)) (sym (r ∙ either (bytes_eq x.digest o.policy) o w)) (answered (bytes_eq x.digest o.policy) o, refl)
      where
        either : (b : Bool) (o : Object) (w : Parts) → ◌≡◌ {A = Response × Parts} (cond b (answer.Secret o.secret, w) (answer.Refused (refusal.PolicyFail x.digest o.policy), w))
            (cond b (answer.Secret o.secret) (answer.Refused (refusal.PolicyFail x.digest o.policy)), w)
        either true o w = refl
        either false o w = refl

    pub unsealing : Takes (unseal handle object (with_open x s)) (object_at object s.objects)
    unfolding with_open
    unsealing =
        subst (λ q. Takes q (object_at object s.objects)) (sym (ap (λ o. unseal_on o handle object (with_open x s)) at_end)) (by_object (object_at object s.objects))
