-- What every event keeps, and where it comes from.
use Rattle.std.proofs.Common.{◌≡◌, ℕ, ◌+◌, true, List, [], ◌∷◌, ◌++◌, map, refl, sym, subst, ◌∙◌, arith, Contains}
use Rattle.std.specs.Prelude.{Option, None, Some}
use Rattle.std.specs.List.{AllByRecursion, list_all}
use Rattle.std.proofs.lemmas.Bool.{and_parts}
use Rattle.std.proofs.lemmas.List.Elements.{Contains-append_left, Contains-append_right, Contains-push}
use Rattle.hash_bank.specs.declared.bank.Bank.{Bank}
use Rattle.hash_bank.specs.declared.bank.Bank.TheVariants.{Sha1, Sha256, Sha384, Sha512}
use Rattle.hash_bank.specs.declared.banks.Banks.{Banks}
use Rattle.hash_bank.specs.HashedString.{HashedString}
use Rattle.hash_bank.proofs.Sizes.{length-digest_in}
use Rattle.policy_digest.specs.BindingStrings.{bind_strings, name_strings_in}
use Rattle.nv_index.specs.IndexName.{written_public}
use Rattle.policy_digest.specs.Pin.{pin_policy_of, pin_strings}
use Rattle.policy_digest.specs.PlainTable.{PlainTable}
use Rattle.policy_digest.specs.TableStrings.{table_strings}
use Rattle.tpm_model.specs.declared.command.Command.{Command}
use Rattle.tpm_model.specs.declared.command.Command.TheVariants as command
use Rattle.tpm_model.specs.declared.object.Object.{Object}
use Rattle.tpm_model.specs.declared.parts.Parts.{Parts}
use Rattle.tpm_model.specs.declared.response.Response.{Response}
use Rattle.tpm_model.specs.declared.response.Response.TheVariants as answer
use Rattle.tpm_model.specs.declared.sessions.Session.{Session}
use Rattle.tpm_model.specs.Binding.{Index, policy_of}
use Rattle.tpm_model.specs.Events.{Event, Update, Define, SealTo, SealPin, Other, accepted_world, command_of, content_of_table, event_strings, other_world, pinned_world, world_after}
use Rattle.tpm_model.specs.ObjectCommands.{object_handle}
use Rattle.tpm_model.specs.ObjectRules.{keeps_object_order}
use Rattle.tpm_model.specs.Pcrs.{extended_in, pcr_of, place_of, put_extended, HasValues}
use Rattle.tpm_model.specs.Respond.{respond}
use Rattle.tpm_model.specs.Rules.{HasRules}
use Rattle.tpm_model.specs.SessionRules.{has_members, has_reads, is_folded, is_noted, is_up_to_date}
use Rattle.tpm_model.specs.Sessions.{object_at}
use Rattle.tpm_model.specs.Strings.{command_strings}
use Rattle.tpm_model.specs.Tied.{Tied}
use Rattle.tpm_model.specs.WholeTie.{IsFiledHashed}
use Rattle.tpm_model.specs.World.{World, AreHashed, FiledPolicy, hashed_world}
use Rattle.tpm_model.proofs.Handles.{handles_from_test}
use Rattle.tpm_model.proofs.KeepsRules.{KeepsSession, KeepsSessions, sessions_kept}
use Rattle.tpm_model.proofs.PcrPlaces.{keeps_values, value_at}
use Rattle.tpm_model.proofs.Starts.{start_sizes}
use Rattle.tpm_worlds.specs.EventLists.{IsFair}
use Rattle.tpm_worlds.specs.SealedTie.{IsHashedSession, SealedTie}
use Rattle.tpm_worlds.proofs.AfterCommand.{Goes, goes, order_after_command}
use Rattle.tpm_worlds.proofs.Cases.{by_evict, by_flush_session, by_nv_define, by_nv_read, by_nv_read_public, by_nv_undefine, by_nv_write, by_pcr_extend, by_pcr_read, by_policy_authorize_nv, by_policy_get_digest, by_policy_or, by_policy_pcr, by_restart, by_seal, by_start_session, by_unseal}
use Rattle.tpm_worlds.proofs.Sessions.{IsGood, good_from, good_on, hashed_from}
use Rattle.tpm_worlds.proofs.SessionsAfter.{AreGood, sessions_after}
use Rattle.tpm_model.proofs.Ties.{Grows, all_hashed, none_found, same_tied, sound_on, tied_bound, tied_hashed, tied_pinned, tied_updated}
use Rattle.tpm_worlds.proofs.Trails.{all_map}

-- the values have their sizes
abbrev HasSizes : Response × Parts → Type 0
HasSizes r = HasValues r.1.banks r.1.pcrs

-- an extend in one bank leaves the sizes
extended_sizes : (banks : Banks) (pcr : ℕ) (given : Option (List ℕ)) (bank : Bank) (pcrs : List (List ℕ)) → HasValues banks pcrs → HasValues banks (extended_in banks pcr given bank pcrs)
extended_sizes banks pcr given bank pcrs h = on (pcr_of banks pcrs bank pcr) given refl
  where
    on : (o d : Option (List ℕ)) → pcr_of banks pcrs bank pcr ≡ o → HasValues banks (put_extended bank o d (place_of banks bank pcr) pcrs)
    on None d e = h
    on (Some old) None e = h
    on (Some old) (Some digest) e =
        let known = value_at banks pcrs bank pcr old h e in
        keeps_values banks pcrs (place_of banks bank pcr) old _ h known.found (length-digest_in bank (old ++ digest) ∙ sym known.size)

pub sizes_after : (c : Command) (s : Parts) → HasValues s.banks s.pcrs → HasSizes (respond c s)
sizes_after (command.Restart locality banks) s o = by_restart HasSizes locality banks s (λ _. o) (start_sizes banks locality)
sizes_after (command.PcrExtend pcr digests) s o =
    by_pcr_extend HasSizes pcr digests s (λ _. o)
    (extended_sizes s.banks pcr digests.sha512 Sha512 _ (extended_sizes s.banks pcr digests.sha384 Sha384 _
    (extended_sizes s.banks pcr digests.sha256 Sha256 _ (extended_sizes s.banks pcr digests.sha1 Sha1 _ o))))
sizes_after (command.PcrRead bank pcr) s o = by_pcr_read HasSizes bank pcr s (λ _. o)
sizes_after (command.StartSession hash) s o = by_start_session HasSizes hash s (λ _. o) (λ _. o)
sizes_after (command.PolicyPcr session bank pcrs) s o = by_policy_pcr HasSizes session bank pcrs s (λ _. o) (λ _ _ _ _ _. o)
sizes_after (command.PolicyOr session list) s o = by_policy_or HasSizes session list s (λ _. o) (λ _ _ _. o)
sizes_after (command.PolicyAuthorizeNv session index) s o = by_policy_authorize_nv HasSizes session index s (λ _. o) (λ _ _ _ _ _ _ _. o)
sizes_after (command.PolicyGetDigest session) s o = by_policy_get_digest HasSizes session s (λ _. o)
sizes_after (command.FlushSession session) s o = by_flush_session HasSizes session s (λ _. o) o
sizes_after (command.NvDefine public) s o = by_nv_define HasSizes public s (λ _. o) (λ _. o)
sizes_after (command.NvUndefine index) s o = by_nv_undefine HasSizes index s (λ _. o) (λ _ _. o)
sizes_after (command.NvWrite index pin value) s o = by_nv_write HasSizes index pin value s (λ _. o) (λ _ _ _ _. o)
sizes_after (command.NvRead index) s o = by_nv_read HasSizes index s (λ _. o)
sizes_after (command.NvReadPublic index) s o = by_nv_read_public HasSizes index s (λ _. o)
sizes_after (command.Seal policy secret) s o = by_seal HasSizes policy secret s (λ _. o) o
sizes_after (command.Evict handle) s o = by_evict HasSizes handle s (λ _. o) o
sizes_after (command.Unseal session handle) s o = by_unseal HasSizes session handle s (λ _. o) (λ _ _ _ _ _ _. o)

-- an event adds no string but its own
pub hashed_stays : (event : Event) (r : Response) (t : Parts) (v : World) → (accepted_world event r t v).hashed ≡ v.hashed
hashed_stays event (answer.Refused why) t v = refl
hashed_stays (Update handle pin table) answer.Done t v = refl
hashed_stays (Update handle pin table) r t v = refl
hashed_stays (Define public pin) answer.Done t v = refl
hashed_stays (Define public pin) r t v = refl
hashed_stays (SealTo binding secret) (answer.Object handle) t v = refl
hashed_stays (SealTo binding secret) r t v = refl
hashed_stays (SealPin index pin) (answer.Object handle) t v = refl
hashed_stays (SealPin index pin) r t v = refl
hashed_stays (Other c) r t v = other c
  where
    other : (c : Command) → (other_world c t v).hashed ≡ v.hashed
    other (command.Restart locality banks) = refl
    other (command.PcrExtend pcr digests) = refl
    other (command.NvUndefine index) = refl
    other (command.NvWrite index pin value) = refl
    other (command.Evict handle) = refl
    other c = refl

-- and leaves what the policy file states
pub filed_stays : (event : Event) (r : Response) (t : Parts) (v : World) → (accepted_world event r t v).filed ≡ v.filed
filed_stays event (answer.Refused why) t v = refl
filed_stays (Update handle pin table) answer.Done t v = refl
filed_stays (Update handle pin table) r t v = refl
filed_stays (Define public pin) answer.Done t v = refl
filed_stays (Define public pin) r t v = refl
filed_stays (SealTo binding secret) (answer.Object handle) t v = refl
filed_stays (SealTo binding secret) r t v = refl
filed_stays (SealPin index pin) (answer.Object handle) t v = refl
filed_stays (SealPin index pin) r t v = refl
filed_stays (Other c) r t v = other c
  where
    other : (c : Command) → (other_world c t v).filed ≡ v.filed
    other (command.Restart locality banks) = refl
    other (command.PcrExtend pcr digests) = refl
    other (command.NvUndefine index) = refl
    other (command.NvWrite index pin value) = refl
    other (command.Evict handle) = refl
    other c = refl

-- so no string is lost
pub grows_after : (event : Event) (s : Parts) (w : World) → Grows w (world_after event s w)
grows_after event s w x h =
    let r = respond (command_of event) s in
    subst (λ xs. Contains xs x) (sym (hashed_stays event r.0 r.1 (hashed_world (event_strings event s) w))) (Contains-append_left w.hashed (event_strings event s) x h)

pub filed_on : (w v : World) → Grows w v → (o : Option FiledPolicy) → IsFiledHashed w o → IsFiledHashed v o
filed_on w v grows None h = tt
filed_on w v grows (Some filed) h = (
  all_map (λ (table : PlainTable). AreHashed w (table_strings table)) (λ (table : PlainTable). AreHashed v (table_strings table)) (λ table k x m. grows x (k x m)) filed.tables h.0,
  λ x m. grows x (h.1 x m),
)

-- the strings of a command are among those of its event
pub command_hashed : (event : Event) (s : Parts) (w : World) → AreHashed (hashed_world (event_strings event s) w) (command_strings (command_of event) s)
command_hashed (Update handle pin table) s w = λ x k.
    Contains-append_right w.hashed (event_strings (Update handle pin table) s) x
    (Contains-append_left _ (bind_strings handle pin) x (Contains-append_left _ (table_strings table) x k))
command_hashed (Define public pin) s w = λ x k. absurd (omega (arith, k.1))
command_hashed (SealTo binding secret) s w = λ x k. absurd (omega (arith, k.1))
command_hashed (SealPin handle pin) s w = λ x k. absurd (omega (arith, k.1))
command_hashed (Other c) s w = all_hashed w (command_strings c s)

-- a new object's handle is past those of all
new_handle : (s : Parts) → keeps_object_order s ≡ true → object_at (object_handle s.next_object) s.objects ≡ None
new_handle s order =
    none_found 0x81000000 (0x81000000 + s.next_object) (object_handle s.next_object) s.objects
    (handles_from_test 0x81000000 (0x81000000 + s.next_object) (map (λ (x : Object). x.handle) s.objects) order) (omega arith)

-- every event keeps the tie of objects, in a world that has its strings
pub event_goes : (event : Event) (s : Parts) (v : World) → keeps_object_order s ≡ true → IsFair event v → AreHashed v (event_strings event s) → Tied s v → Goes event v (respond (command_of event) s)
event_goes (Update handle pin table) s v order fair h t =
    let strings : AreHashed v (table_strings table) = λ x k. h x (Contains-append_left _ (bind_strings handle pin) x (Contains-append_right (command_strings (command_of (Update handle pin table)) s) (table_strings table) x k)) in
    let binds : AreHashed v (bind_strings handle pin) = λ x k. h x (Contains-append_right (command_strings (command_of (Update handle pin table)) s ++ table_strings table) (bind_strings handle pin) x k) in
    let pins : AreHashed v (pin_strings pin) = λ x k. binds x (Contains-append_left (pin_strings pin) (name_strings_in Sha256 (written_public handle (pin_policy_of pin))) x k) in
    by_nv_write (Goes (Update handle pin table) v) handle pin (content_of_table table) s (λ _. t)
    (λ _ _ _ _. tied_updated _ v (s.write_counter + 1) handle pin table strings binds pins (same_tied s _ v refl refl refl t))
event_goes (Define public pin) s v order fair h t =
    by_nv_define (Goes (Define public pin) v) public s (λ _. t) (λ _. tied_pinned _ v pin h (same_tied s _ v refl refl refl t))
event_goes (SealTo binding secret) s v order fair h t =
    by_seal (Goes (SealTo binding secret) v) (policy_of binding) secret s (λ _. t)
    (tied_bound s v (record { handle = object_handle s.next_object; policy = policy_of binding; secret = secret }) binding (new_handle s order) refl fair h t)
event_goes (SealPin index pin) s v order fair h t =
    by_seal (Goes (SealPin index pin) v) (policy_of (Index index pin)) pin s (λ _. t)
    (tied_bound s (pinned_world pin v) (record { handle = object_handle s.next_object; policy = policy_of (Index index pin); secret = pin }) (Index index pin) (new_handle s order) refl
    (Contains-push v.pins pin) h (tied_pinned s v pin (λ x k. h x (Contains-append_left (pin_strings pin) (name_strings_in Sha256 (written_public index (pin_policy_of pin))) x k)) t))
event_goes (Other c) s v order fair h t = goes c s v h t

-- what is fair stays fair with more strings
pub fair_on : (event : Event) (w : World) (more : List HashedString) → IsFair event w → IsFair event (hashed_world more w)
fair_on (Update handle pin table) w more h = tt
fair_on (Define public pin) w more h = tt
fair_on (SealTo binding secret) w more h = sound_on w (hashed_world more w) (λ _ k. k) binding h
fair_on (SealPin handle pin) w more h = tt
fair_on (Other c) w more h = tt

-- every event keeps what is kept of each session
pub good_after : (event : Event) (s : Parts) (w : World) → AreGood w s → AreGood (world_after event s w) (respond (command_of event) s).1
good_after event s w good =
    let more = event_strings event s in
    let v = hashed_world more w in
    let r = respond (command_of event) s in
    let more_good : AreGood v s = all_map (IsGood s w) (IsGood s v) (good_on s w v (λ x h. Contains-append_left w.hashed more x h)) s.sessions good in
    let after : AreGood v r.1 = sessions_after (command_of event) s v (command_hashed event s w) more_good in
    let grows : Grows v (world_after event s w) = λ x h. subst (λ xs. Contains xs x) (sym (hashed_stays event r.0 r.1 v)) h in
    all_map (IsGood r.1 v) (IsGood r.1 (world_after event s w)) (good_on r.1 v (world_after event s w) grows) r.1.sessions after

-- what every event keeps
pub record Steady (s : Parts) (w : World) : Type 0 where
  pub values : HasValues s.banks s.pcrs
  pub order : keeps_object_order s ≡ true
  pub tied : Tied s w
  pub sessions : AreGood w s
  pub filed : IsFiledHashed w w.filed

pub steady_after : (event : Event) (s : Parts) (w : World) → IsFair event w → Steady s w → Steady (respond (command_of event) s).1 (world_after event s w)
steady_after event s w fair k =
    let more = event_strings event s in
    let v = hashed_world more w in
    let r = respond (command_of event) s in
    record {
      values = sizes_after (command_of event) s k.values;
      order = order_after_command (command_of event) s k.order;
      tied = event_goes event s v k.order (fair_on event w more fair) (all_hashed w more) (tied_hashed s w more k.tied);
      sessions = good_after event s w k.sessions;
      filed = subst (IsFiledHashed (world_after event s w)) (sym (filed_stays event r.0 r.1 v)) (filed_on w (world_after event s w) (grows_after event s w) w.filed k.filed);
    }

-- from the rules and the tie, and back
pub good_all : (s : Parts) (w : World) (xs : List Session) → KeepsSessions s xs → AllByRecursion (IsHashedSession s w) xs → AllByRecursion (IsGood s w) xs
good_all s w [] k all = tt
good_all s w (x ∷ xs) k all =
    let fold = and_parts (is_folded x) (list_all is_folded xs) k.fold in
    let members = and_parts (has_members x) (list_all has_members xs) k.or_member in
    let noted = and_parts (is_noted s.update_counter x) (list_all (is_noted s.update_counter) xs) k.noted in
    let seen = and_parts (is_up_to_date s x) (list_all (is_up_to_date s) xs) k.pcr_now in
    let reads = and_parts (has_reads s x) (list_all (has_reads s) xs) k.nv_now in
    let one : KeepsSession s x = record { shape = k.shape.0; fold = fold.0; or_member = members.0; noted = noted.0; pcr_now = seen.0; nv_now = reads.0 } in
    let rest : KeepsSessions s xs = record { shape = k.shape.1; fold = fold.1; or_member = members.1; noted = noted.1; pcr_now = seen.1; nv_now = reads.1 } in
    (good_from s w x one all.0, good_all s w xs rest all.1)

pub steady_from : (s : Parts) (w : World) → HasRules s → SealedTie s w → Steady s w
steady_from s w h t = record { values = h.shape.values; order = h.object_order; tied = t.base; sessions = good_all s w s.sessions (sessions_kept s h) t.sessions; filed = t.filed }

pub tie_from : (s : Parts) (w : World) → Steady s w → SealedTie s w
tie_from s w k = record { base = k.tied; sessions = all_map (IsGood s w) (IsHashedSession s w) (hashed_from s w) s.sessions k.sessions; filed = k.filed }
