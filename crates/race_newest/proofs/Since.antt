-- What stays of a session once it was made: its entries, and the counter that it noted.
use Rattle.std.proofs.Common.{◌≡◌, ◌⊎◌, inl, inr, ℕ, ◌<◌, ◌==◌, Bool, true, false, cond, List, [], ◌∷◌, refl, sym, ap, subst, ◌∙◌, arith, Contains}
use Rattle.std.specs.Prelude.{Option, None, Some}
use Rattle.std.specs.List.{AllByRecursion}
use Rattle.std.proofs.lemmas.Bool.{eqb-true}
use Rattle.std.proofs.lemmas.List.Elements.{Contains-append_left, Contains-push}
use Rattle.hash_bank.specs.declared.bank.Bank.{Bank}
use Rattle.nv_index.specs.IndexName.{index_name_of}
use Rattle.nv_index.specs.Table.{index_at}
use Rattle.nv_index.specs.declared.index.Index.{Index}
use Rattle.nv_index.specs.declared.index.Written.{Written}
use Rattle.nv_index.proofs.Lists.{all_at}
use Rattle.tpm_model.specs.declared.command.Command.{Command}
use Rattle.tpm_model.specs.declared.object.Object.{Object}
use Rattle.tpm_model.specs.declared.parts.Parts.{Parts}
use Rattle.tpm_model.specs.declared.response.Response.TheVariants as answer
use Rattle.tpm_model.specs.declared.sessions.Session.{Session}
use Rattle.tpm_model.specs.declared.trail.TrailEntry.{TrailEntry}
use Rattle.tpm_model.specs.declared.trail.TrailEntry.TheVariants as entry
use Rattle.tpm_model.specs.ObjectCommands.{object_handle}
use Rattle.tpm_model.specs.Respond.{respond}
use Rattle.tpm_model.specs.SessionCommands.{content_in, noted_before, policy_authorize_nv, policy_pcr, session_handle}
use Rattle.tpm_model.specs.SessionRules.{keeps_session_order}
use Rattle.tpm_model.specs.Sessions.{session_at, session_place}
use Rattle.tpm_model.proofs.Handles.{handles_from_test}
use Rattle.tpm_worlds.specs.CommandLists.{state_after}
use Rattle.tpm_worlds.proofs.Cases.{by_policy_authorize_nv, by_policy_pcr}
use Rattle.race_newest.specs.Stillness.{MovesNot}
use Rattle.race_newest.proofs.Leaves.{Leaves, leaves}
use Rattle.race_newest.proofs.Named.{below, handles, named, put_named}

-- nothing is asked
all_any : {A : Type 0} (xs : List A) → AllByRecursion (λ (x : A). Unit {0}) xs
all_any [] = tt
all_any (x ∷ xs) = (tt, all_any xs)

-- no PCR moves at any of the commands
abbrev pub AreQuiet : List Command → Parts → Type 0
AreQuiet [] s = Unit {0}
AreQuiet (c ∷ commands) s = MovesNot c (respond c s).0 × AreQuiet commands (respond c s).1

-- ---- the counter that a session noted, where it is no other than the present one

same_number : (a b : ℕ) → Some a ≡ Some b → a ≡ b
same_number a b e = cc

pub noted_now : (noted : Option ℕ) (now counter : ℕ) → noted ≡ Some counter → noted_before noted now ≡ None → now ≡ counter
noted_now None now counter e free = cc
noted_now (Some n) now counter e free = by_test (n == now) refl
  where
    by_test : (b : Bool) → (n == now) ≡ b → now ≡ counter
    by_test true t = sym (eqb-true n now t) ∙ same_number n counter e
    by_test false t = let wrong : Some n ≡ None = sym (ap (λ b. cond b None (Some n)) t) ∙ free in cc

-- ---- the order of sessions, and a handle that was given

pub order_after : (c : Command) (s : Parts) → keeps_session_order s ≡ true → keeps_session_order (respond c s).1 ≡ true
order_after c s order =
    (leaves (λ (x : Session). Unit {0}) (λ (x : Object). Unit {0}) s c
    (record {
      fresh = λ hash. tt;
      looks = λ x digest bank pcrs values free h. tt;
      lists = λ x digest list h. tt;
      authorises = λ x i written digest session index is done found standing was met h. tt;
      seals = λ policy secret. tt;
      order = order;
      sessions = all_any s.sessions;
      objects = all_any s.objects;
    })).order

numbers_after : (c : Command) (s : Parts) → keeps_session_order s ≡ true → Leaves (λ (x : Session). Unit {0}) (λ (x : Object). Unit {0}) c s (respond c s)
numbers_after c s order = leaves (λ (x : Session). Unit {0}) (λ (x : Object). Unit {0}) s c
    (record {
      fresh = λ hash. tt;
      looks = λ x digest bank pcrs values free h. tt;
      lists = λ x digest list h. tt;
      authorises = λ x i written digest session index is done found standing was met h. tt;
      seals = λ policy secret. tt;
      order = order;
      sessions = all_any s.sessions;
      objects = all_any s.objects;
    })

pub order_after_all : (commands : List Command) (s : Parts) → keeps_session_order s ≡ true → keeps_session_order (state_after commands s) ≡ true
order_after_all [] s order = order
order_after_all (c ∷ commands) s order = order_after_all commands (respond c s).1 (order_after c s order)

-- a session's handle was given
pub issued : (h : ℕ) (s : Parts) (x : Session) → keeps_session_order s ≡ true → session_at h s.sessions ≡ Some x → h < session_handle s.next_session
issued h s x order found =
    let under = all_at (λ (y : Session). y.handle < session_handle s.next_session) s.sessions (session_place h s.sessions) x
    (below 0x03000000 (session_handle s.next_session) s.sessions (handles_from_test 0x03000000 (session_handle s.next_session) (handles s.sessions) order)) found in
    subst (λ (n : ℕ). n < session_handle s.next_session) (named h s.sessions x found) under

-- the handle was given, and sessions are in order
pub record Given (h : ℕ) (s : Parts) : Type 0 where
  pub order : keeps_session_order s ≡ true
  pub number : h < session_handle s.next_session

module _ (h : ℕ) where
  pub given_after : (c : Command) (s : Parts) → Given h s → Given h (respond c s).1
  given_after c s given =
      let left = numbers_after c s given.order in
      record { order = left.order; number = omega (arith, given.number, left.session_numbers) }

  -- no new session has the handle
  not_new : (s : Parts) → Given h s → session_handle s.next_session ≡ h → ⊥
  not_new s given e = omega (arith, given.number, e)

  -- ---- none is there any more

  abbrev Gone : Session → Type 0
  Gone x = x.handle ≡ h → ⊥

  gone_step : (c : Command) (s : Parts) → Given h s → AllByRecursion Gone s.sessions → AllByRecursion Gone (respond c s).1.sessions
  gone_step c s given all =
      (leaves Gone (λ (x : Object). Unit {0}) s c
      (record {
        fresh = λ hash. not_new s given;
        looks = λ x digest bank pcrs values free g. g;
        lists = λ x digest list g. g;
        authorises = λ x i written digest session index is done found standing was met g. g;
        seals = λ policy secret. tt;
        order = given.order;
        sessions = all;
        objects = all_any s.objects;
      })).sessions

  gone_after : (commands : List Command) (s : Parts) → Given h s → AllByRecursion Gone s.sessions → AllByRecursion Gone (state_after commands s).sessions
  gone_after [] s given all = all
  gone_after (c ∷ commands) s given all = gone_after commands (respond c s).1 (given_after c s given) (gone_step c s given all)

  none_gone : (xs : List Session) → xs ≡ [] → AllByRecursion Gone xs
  none_gone xs e = subst (AllByRecursion Gone) (sym e) tt

  -- ---- its entries stay

  module _ (kept : TrailEntry) where
    abbrev pub Has : Session → Type 0
    Has x = x.handle ≡ h → Contains x.trail kept

    has_step : (c : Command) (s : Parts) → Given h s → AllByRecursion Has s.sessions → AllByRecursion Has (respond c s).1.sessions
    has_step c s given all =
        (leaves Has (λ (x : Object). Unit {0}) s c
        (record {
          fresh = λ hash e. absurd (not_new s given e);
          looks = λ x digest bank pcrs values free g e. Contains-append_left x.trail (entry.Pcr bank pcrs values ∷ []) kept (g e);
          lists = λ x digest list g e. Contains-append_left x.trail (entry.Or list ∷ []) kept (g e);
          authorises = λ x i written digest session index is done found standing was met g e.
              Contains-append_left x.trail (entry.AuthorizeNv (index_name_of i.public) x.digest written.number ∷ []) kept (g e);
          seals = λ policy secret. tt;
          order = given.order;
          sessions = all;
          objects = all_any s.objects;
        })).sessions

    pub has_after : (commands : List Command) (s : Parts) → Given h s → AllByRecursion Has s.sessions → AllByRecursion Has (state_after commands s).sessions
    has_after [] s given all = all
    has_after (c ∷ commands) s given all = has_after commands (respond c s).1 (given_after c s given) (has_step c s given all)

  -- ---- the counter that it noted stays

  module _ (counter : ℕ) where
    abbrev pub Notes : Session → Type 0
    Notes x = x.handle ≡ h → x.noted ≡ Some counter

    notes_step : (c : Command) (s : Parts) → Given h s → AllByRecursion Notes s.sessions → AllByRecursion Notes (respond c s).1.sessions
    notes_step c s given all =
        (leaves Notes (λ (x : Object). Unit {0}) s c
        (record {
          fresh = λ hash e. absurd (not_new s given e);
          looks = λ x digest bank pcrs values free g e. ap Some (noted_now x.noted s.update_counter counter (g e) free);
          lists = λ x digest list g. g;
          authorises = λ x i written digest session index is done found standing was met g. g;
          seals = λ policy secret. tt;
          order = given.order;
          sessions = all;
          objects = all_any s.objects;
        })).sessions

    pub notes_after : (commands : List Command) (s : Parts) → Given h s → AllByRecursion Notes s.sessions → AllByRecursion Notes (state_after commands s).sessions
    notes_after [] s given all = all
    notes_after (c ∷ commands) s given all = notes_after commands (respond c s).1 (given_after c s given) (notes_step c s given all)

    -- ---- the counter rises at each extend, and a restart ends the session

    -- the counter is past it, or no such session is there
    abbrev Past : Parts → Type 0
    Past s = (counter < s.update_counter) ⊎ AllByRecursion Gone s.sessions

    past_step : (c : Command) (s : Parts) → Given h s → counter < s.update_counter → Past (respond c s).1
    past_step c s given more = elim ((numbers_after c s given.order).moved) [
      | inl quiet ↦ inl (subst (λ (n : ℕ). counter < n) (sym quiet.1) more)
      | inr moved ↦ rose moved
    ]
      where
        rose : (s.update_counter < (respond c s).1.update_counter) ⊎ ((respond c s).1.sessions ≡ []) → Past (respond c s).1
        rose (inl up) = inl (omega (arith, more, up))
        rose (inr none) = inr (none_gone (respond c s).1.sessions none)

    past_after : (commands : List Command) (s : Parts) → Given h s → Past s → Past (state_after commands s)
    past_after [] s given past = past
    past_after (c ∷ commands) s given (inl more) = past_after commands (respond c s).1 (given_after c s given) (past_step c s given more)
    past_after (c ∷ commands) s given (inr gone) = past_after commands (respond c s).1 (given_after c s given) (inr (gone_step c s given gone))

    by_rest : (c : Command) (s : Parts) (commands : List Command) → MovesNot c (respond c s).0 → AreQuiet commands (respond c s).1 ⊎ Past (state_after commands (respond c s).1)
        → (MovesNot c (respond c s).0 × AreQuiet commands (respond c s).1) ⊎ Past (state_after commands (respond c s).1)
    by_rest c s commands still (inl quiet) = inl (still, quiet)
    by_rest c s commands still (inr past) = inr past

    by_move : (c : Command) (s : Parts) (commands : List Command) → Given h s → s.update_counter ≡ counter
        → ((respond c s).1.update_counter ≡ counter → AreQuiet commands (respond c s).1 ⊎ Past (state_after commands (respond c s).1))
        → (MovesNot c (respond c s).0 × ((respond c s).1.update_counter ≡ s.update_counter)) ⊎ ((s.update_counter < (respond c s).1.update_counter) ⊎ ((respond c s).1.sessions ≡ []))
        → (MovesNot c (respond c s).0 × AreQuiet commands (respond c s).1) ⊎ Past (state_after commands (respond c s).1)
    by_move c s commands given same rest (inl quiet) = by_rest c s commands quiet.0 (rest (quiet.1 ∙ same))
    by_move c s commands given same rest (inr (inl up)) = inr (past_after commands (respond c s).1 (given_after c s given) (inl (omega (arith, up, same))))
    by_move c s commands given same rest (inr (inr none)) = inr (past_after commands (respond c s).1 (given_after c s given) (inr (none_gone (respond c s).1.sessions none)))

    pub quiet_or_past : (commands : List Command) (s : Parts) → Given h s → s.update_counter ≡ counter → AreQuiet commands s ⊎ Past (state_after commands s)
    quiet_or_past [] s given same = inl tt
    quiet_or_past (c ∷ commands) s given same =
        by_move c s commands given same (λ e. quiet_or_past commands (respond c s).1 (given_after c s given) e) (numbers_after c s given.order).moved

    -- a session of the handle that is there at the end, and noted no other counter: nothing moved
    pub quiet_since : (commands : List Command) (s : Parts) (x : Session) → Given h s → s.update_counter ≡ counter → AllByRecursion Notes (state_after commands s).sessions
        → session_at h (state_after commands s).sessions ≡ Some x → noted_before x.noted (state_after commands s).update_counter ≡ None → AreQuiet commands s
    quiet_since commands s x given same notes found free = elim (quiet_or_past commands s given same) [
      | inl quiet ↦ quiet
      | inr past ↦ not_past past
    ]
      where
        not_past : Past (state_after commands s) → AreQuiet commands s
        not_past (inl more) =
            let its = all_at Notes (state_after commands s).sessions (session_place h (state_after commands s).sessions) x notes found (named h (state_after commands s).sessions x found) in
            let now = noted_now x.noted (state_after commands s).update_counter counter its free in
            absurd (omega (arith, more, now))
        not_past (inr gone) =
            absurd (all_at Gone (state_after commands s).sessions (session_place h (state_after commands s).sessions) x gone found (named h (state_after commands s).sessions x found))

-- ---- an accepted PolicyPCR

pub record Looked (h : ℕ) (s t : Parts) : Type 0 where
  pub given : Given h s
  pub notes : AllByRecursion (Notes h s.update_counter) t.sessions

pub looked : (h : ℕ) (bank : Bank) (pcrs : ℕ) (s : Parts) → keeps_session_order s ≡ true → (policy_pcr h bank pcrs s).0 ≡ answer.Done → Looked h s (policy_pcr h bank pcrs s).1
looked h bank pcrs s order =
    by_policy_pcr (λ r. r.0 ≡ answer.Done → Looked h s r.1) h bank pcrs s
    (λ why e. cc)
    (λ x found small present free e. record {
      given = record { order = order; number = issued h s x order found };
      notes = put_named (λ (y : Session). y.noted ≡ Some s.update_counter) h 0x03000000 (session_handle s.next_session) s.sessions x _
          (handles_from_test 0x03000000 (session_handle s.next_session) (handles s.sessions) order) found refl;
    })

-- ---- an accepted PolicyAuthorizeNV

-- by this index, which held what the session met; each session of the handle has the entry then
pub record Authorised (h asked : ℕ) (s t : Parts) : Type 0 where
  pub given : Given h s
  pub x : Session
  pub found : session_at h s.sessions ≡ Some x
  pub i : Index
  pub standing : index_at asked s.indices ≡ Some i
  pub written : Written
  pub was : i.written ≡ Some written
  pub met : written.value ≡ content_in x.hash x.digest
  pub has : AllByRecursion (Has h (entry.AuthorizeNv (index_name_of i.public) x.digest written.number)) t.sessions

pub authorised : (h asked : ℕ) (s : Parts) → keeps_session_order s ≡ true → (policy_authorize_nv h asked s).0 ≡ answer.Done → Authorised h asked s (policy_authorize_nv h asked s).1
authorised h asked s order =
    by_policy_authorize_nv (λ r. r.0 ≡ answer.Done → Authorised h asked s r.1) h asked s
    (λ why e. cc)
    (λ x i written found standing was met e. record {
      given = record { order = order; number = issued h s x order found };
      x = x;
      found = found;
      i = i;
      standing = standing;
      written = written;
      was = was;
      met = met;
      has = put_named (λ (y : Session). Contains y.trail (entry.AuthorizeNv (index_name_of i.public) x.digest written.number)) h 0x03000000 (session_handle s.next_session) s.sessions x _
          (handles_from_test 0x03000000 (session_handle s.next_session) (handles s.sessions) order) found
          (Contains-push x.trail (entry.AuthorizeNv (index_name_of i.public) x.digest written.number));
    })

-- ---- the object of a handle that was given

-- what holds of each object of the handle
module _ (Q : Object → Type 0) (h : ℕ) where
  pub objects_after : (commands : List Command) (s : Parts) → keeps_session_order s ≡ true → h < object_handle s.next_object
      → AllByRecursion (λ (o : Object). o.handle ≡ h → Q o) s.objects → AllByRecursion (λ (o : Object). o.handle ≡ h → Q o) (state_after commands s).objects
  objects_after [] s order number all = all
  objects_after (c ∷ commands) s order number all =
      let left = leaves (λ (x : Session). Unit {0}) (λ (o : Object). o.handle ≡ h → Q o) s c
      (record {
        fresh = λ hash. tt;
        looks = λ x digest bank pcrs values free g. tt;
        lists = λ x digest list g. tt;
        authorises = λ x i written digest session index is done found standing was met g. tt;
        seals = λ policy secret e. absurd (omega (arith, number, e));
        order = order;
        sessions = all_any s.sessions;
        objects = all;
      }) in
      objects_after commands (respond c s).1 left.order (omega (arith, number, left.object_numbers)) left.objects
