-- Every event leaves the state and the world hanging together in all parts.
use Rattle.std.proofs.Common.{◌≡◌, ℕ, ◌+◌, List, [], ◌∷◌, ◌++◌, refl, sym, ap, subst, ◌∙◌, Contains}
use Rattle.std.specs.Prelude.{Some}
use Rattle.std.specs.FinMap.{get}
use Rattle.std.specs.List.{AllByRecursion}
use Rattle.std.proofs.lemmas.List.Elements.{Contains-append_left, Contains-push}
use Rattle.hash_bank.specs.HashedString.{HashedString, NoClash}
use Rattle.nv_index.specs.Table.{after_write, after_write_of, index_at, index_place}
use Rattle.nv_index.specs.declared.index.Index.{Index}
use Rattle.policy_digest.specs.Pin.{pin_policy_of, pin_strings}
use Rattle.tpm_model.specs.declared.command.Command.{Command}
use Rattle.tpm_model.specs.declared.command.Command.TheVariants as command
use Rattle.tpm_model.specs.declared.parts.Parts.{Parts}
use Rattle.tpm_model.specs.declared.response.Response.{Response}
use Rattle.tpm_model.specs.declared.response.Response.TheVariants as answer
use Rattle.tpm_model.specs.declared.sessions.Session.{Session}
use Rattle.tpm_model.specs.Binding as binding
use Rattle.tpm_model.specs.Binding.{policy_of}
use Rattle.tpm_model.specs.Events.{Clean, Event, Update, Define, SealTo, SealPin, Other, accepted_world, command_of, content_of_table, event_strings, other_world, pinned_world, strange_world, world_after}
use Rattle.tpm_model.specs.Orderly.{Orderly}
use Rattle.tpm_model.specs.Respond.{respond}
use Rattle.tpm_model.specs.Rules.{HasRules}
use Rattle.tpm_model.specs.Strings.{command_strings}
use Rattle.tpm_model.specs.Tied.{Tied}
use Rattle.tpm_model.specs.WholeTie.{IsFiledHashed, IsTiedSession, TiedIndices}
use Rattle.tpm_model.specs.World.{LiveIndex, PolicyUpdate, World, AreHashed, hashed_world}
use Rattle.tpm_worlds.specs.EventLists.{IsFair, Safe}
use Rattle.tpm_worlds.specs.SealedTie.{IsHashedSession}
pub use Rattle.tpm_worlds.specs.SteadySessions.{SteadySessions}
use Rattle.tpm_worlds.specs.WholeEvents.{HasRanges, IsSoundEvent, KnowsPins, OwnTie}
use Rattle.tpm_worlds.proofs.AfterCommand.{written_strings}
use Rattle.tpm_worlds.proofs.Cases.{by_evict, by_flush_session, by_nv_define, by_nv_read, by_nv_read_public, by_nv_undefine, by_nv_write, by_pcr_extend, by_pcr_read, by_policy_authorize_nv, by_policy_get_digest, by_policy_or, by_policy_pcr, by_restart, by_seal, by_start_session, by_unseal}
use Rattle.tpm_worlds.proofs.IndicesAfter.{indices_defined, indices_same, indices_strange, indices_undefined, indices_updated, rewritten}
use Rattle.tpm_worlds.proofs.Ranges.{ranged_accepted}
use Rattle.tpm_worlds.proofs.SamePin.{same_pin}
use Rattle.tpm_worlds.proofs.Sessions.{IsGood, hashed_from}
use Rattle.tpm_worlds.proofs.Steady.{command_hashed, event_goes as tied_goes, fair_on, filed_on, filed_stays, good_after, good_all, grows_after, hashed_stays}
use Rattle.tpm_model.proofs.KeepsRules.{sessions_kept}
use Rattle.tpm_model.proofs.Ties.{all_hashed, pushed, sound_on, tied_hashed}
use Rattle.tpm_worlds.proofs.TrailReads.{AreRead, GrowsAll, HasReads, hashed_session, reads_after, reads_on, session_reads, tied_session}
use Rattle.tpm_worlds.proofs.Trails.{all_map}

-- what an accepted event adds to the world
pub grows_accepted : (event : Event) (r : Response) (t : Parts) (v : World) → GrowsAll v (accepted_world event r t v)
grows_accepted event (answer.Refused why) t v = record { strings = λ _ k. k; pins = λ _ k. k; strange = λ _ k. k; writes = λ _ k. k }
grows_accepted (Update handle pin table) answer.Done t v = record {
  strings = λ _ k. k;
  pins = λ p k. Contains-append_left v.pins (pin ∷ []) p k;
  strange = λ _ k. k;
  writes = λ u k. Contains-append_left v.writes (record { number = t.write_counter; handle = handle; pin = pin; table = table } ∷ []) u k;
}
grows_accepted (Update handle pin table) r t v = record { strings = λ _ k. k; pins = λ _ k. k; strange = λ _ k. k; writes = λ _ k. k }
grows_accepted (Define public pin) answer.Done t v = record { strings = λ _ k. k; pins = λ p k. Contains-append_left v.pins (pin ∷ []) p k; strange = λ _ k. k; writes = λ _ k. k }
grows_accepted (Define public pin) r t v = record { strings = λ _ k. k; pins = λ _ k. k; strange = λ _ k. k; writes = λ _ k. k }
grows_accepted (SealTo binding secret) (answer.Object handle) t v = record { strings = λ _ k. k; pins = λ _ k. k; strange = λ _ k. k; writes = λ _ k. k }
grows_accepted (SealTo binding secret) r t v = record { strings = λ _ k. k; pins = λ _ k. k; strange = λ _ k. k; writes = λ _ k. k }
grows_accepted (SealPin index pin) (answer.Object handle) t v = record { strings = λ _ k. k; pins = λ p k. Contains-append_left v.pins (pin ∷ []) p k; strange = λ _ k. k; writes = λ _ k. k }
grows_accepted (SealPin index pin) r t v = record { strings = λ _ k. k; pins = λ _ k. k; strange = λ _ k. k; writes = λ _ k. k }
grows_accepted (Other c) r t v = other c
  where
    other : (c : Command) → GrowsAll v (other_world c t v)
    other (command.Restart locality banks) = record { strings = λ _ k. k; pins = λ _ k. k; strange = λ _ k. k; writes = λ _ k. k }
    other (command.PcrExtend pcr digests) = record { strings = λ _ k. k; pins = λ _ k. k; strange = λ _ k. k; writes = λ _ k. k }
    other (command.NvUndefine index) = record { strings = λ _ k. k; pins = λ _ k. k; strange = λ _ k. k; writes = λ _ k. k }
    other (command.NvWrite index pin value) = record { strings = λ _ k. k; pins = λ _ k. k; strange = λ p k. Contains-append_left v.strange (pin ∷ []) p k; writes = λ _ k. k }
    other (command.Evict handle) = record { strings = λ _ k. k; pins = λ _ k. k; strange = λ _ k. k; writes = λ _ k. k }
    other c = record { strings = λ _ k. k; pins = λ _ k. k; strange = λ _ k. k; writes = λ _ k. k }

-- a policy was made with the pin of each update still
known_accepted : (event : Event) (r : Response) (t : Parts) (v : World) → KnowsPins v → KnowsPins (accepted_world event r t v)
known_accepted event (answer.Refused why) t v known = known
known_accepted (Update handle pin table) answer.Done t v known =
    pushed (λ (u : PolicyUpdate). Contains (v.pins ++ pin ∷ []) u.pin) v.writes (record { number = t.write_counter; handle = handle; pin = pin; table = table })
    (λ u k. Contains-append_left v.pins (pin ∷ []) u.pin (known u k)) (Contains-push v.pins pin)
known_accepted (Update handle pin table) r t v known = known
known_accepted (Define public pin) answer.Done t v known = λ u k. Contains-append_left v.pins (pin ∷ []) u.pin (known u k)
known_accepted (Define public pin) r t v known = known
known_accepted (SealTo binding secret) (answer.Object handle) t v known = known
known_accepted (SealTo binding secret) r t v known = known
known_accepted (SealPin index pin) (answer.Object handle) t v known = λ u k. Contains-append_left v.pins (pin ∷ []) u.pin (known u k)
known_accepted (SealPin index pin) r t v known = known
known_accepted (Other c) r t v known = other c
  where
    other : (c : Command) → KnowsPins (other_world c t v)
    other (command.Restart locality banks) = known
    other (command.PcrExtend pcr digests) = known
    other (command.NvUndefine index) = known
    other (command.NvWrite index pin value) = known
    other (command.Evict handle) = known
    other c = known

-- indices and updates go together afterwards, where no stranger presented a pin of a policy
abbrev Goes : Event → World → Response × Parts → Type 0
Goes event v r = Clean (accepted_world event r.0 r.1 v) → TiedIndices r.1 (accepted_world event r.0 r.1 v)

-- a command that does nothing to the world
nothing : (c : Command) (t : Parts) (v : World) → other_world c t v ≡ v → TiedIndices t v → (r : Response) → Goes (Other c) v (r, t)
nothing c t v same tie (answer.Refused why) = λ _. tie
nothing c t v same tie r = λ _. subst (TiedIndices t) (sym same) tie

-- the state after a write, by the index that was found
on_write : (Q : Parts → Type 0) (s : Parts) (h : ℕ) (value : List ℕ) (x : Index) → index_at h s.indices ≡ Some x → Q (rewritten s h value x)
    → Q (record s { write_counter = s.write_counter + 1; indices = after_write h value (s.write_counter + 1) s.indices })
on_write Q s h value x e q = subst (λ o. Q (record s { write_counter = s.write_counter + 1; indices = after_write_of o (index_place h s.indices) value (s.write_counter + 1) s.indices })) (sym e) q

-- no stranger's pin writes a live index
dead : (s : Parts) (v : World) (h : ℕ) (pin : List ℕ) (x : Index) → TiedIndices s v → Tied s v → Safe v → AreHashed v (pin_strings pin) → index_at h s.indices ≡ Some x
    → pin_policy_of pin ≡ x.public.policy → Clean (strange_world pin v) → (live : LiveIndex) → get v.live h ≡ Some live → ⊥
dead s v h pin x tie tied safe hashed found policy clean live e =
    let l = (tie.live h live).0 e in
    let one : x ≡ l.index = one_index x l.index (sym found ∙ l.found) in
    let same : pin ≡ live.pin = same_pin v pin live.pin safe hashed (tied.pins live.pin l.known) (policy ∙ ap (λ (y : Index). y.public.policy) one ∙ l.policy) in
    clean pin (subst (Contains v.pins) (sym same) l.known) (Contains-push v.strange pin)
  where
    one_index : (a b : Index) → Some a ≡ Some b → a ≡ b
    one_index a b f = cc

module _ (s : Parts) (v : World) (orderly : Orderly s) (known : KnowsPins v) (safe : Safe v) (tied : Tied s v) (tie : TiedIndices s v) where
  -- a state with the same indices and the same counter, in a world with the same live indices, updates and pins
  stays : (t : Parts) (u : World) → t.indices ≡ s.indices → t.write_counter ≡ s.write_counter → u.live ≡ v.live → u.writes ≡ v.writes
      → ((p : List ℕ) → Contains v.pins p → Contains u.pins p) → ((p : List ℕ) → Contains v.strange p → Contains u.strange p) → TiedIndices t u
  stays t u indices counter live writes pins strange = indices_same s t v u orderly known indices counter live writes pins strange tie

  -- a command of anyone
  other_goes : (c : Command) → AreHashed v (command_strings c s) → Goes (Other c) v (respond c s)
  other_goes (command.Restart locality banks) h =
      by_restart (Goes (Other (command.Restart locality banks)) v) locality banks s (λ _ _. tie) (λ _. stays _ _ refl refl refl refl (λ _ k. k) (λ _ k. k))
  other_goes (command.PcrExtend pcr digests) h =
      by_pcr_extend (Goes (Other (command.PcrExtend pcr digests)) v) pcr digests s (λ _ _. tie) (λ _. stays _ _ refl refl refl refl (λ _ k. k) (λ _ k. k))
  other_goes (command.PcrRead bank pcr) h = by_pcr_read (Goes (Other (command.PcrRead bank pcr)) v) bank pcr s (nothing (command.PcrRead bank pcr) s v refl tie)
  other_goes (command.StartSession hash) h =
      by_start_session (Goes (Other (command.StartSession hash)) v) hash s (λ _ _. tie) (λ _ _. stays _ v refl refl refl refl (λ _ k. k) (λ _ k. k))
  other_goes (command.PolicyPcr session bank pcrs) h =
      by_policy_pcr (Goes (Other (command.PolicyPcr session bank pcrs)) v) session bank pcrs s (λ _ _. tie) (λ _ _ _ _ _ _. stays _ v refl refl refl refl (λ _ k. k) (λ _ k. k))
  other_goes (command.PolicyOr session list) h =
      by_policy_or (Goes (Other (command.PolicyOr session list)) v) session list s (λ _ _. tie) (λ _ _ _ _. stays _ v refl refl refl refl (λ _ k. k) (λ _ k. k))
  other_goes (command.PolicyAuthorizeNv session index) h =
      by_policy_authorize_nv (Goes (Other (command.PolicyAuthorizeNv session index)) v) session index s (λ _ _. tie) (λ _ _ _ _ _ _ _ _. stays _ v refl refl refl refl (λ _ k. k) (λ _ k. k))
  other_goes (command.PolicyGetDigest session) h = by_policy_get_digest (Goes (Other (command.PolicyGetDigest session)) v) session s (nothing (command.PolicyGetDigest session) s v refl tie)
  other_goes (command.FlushSession session) h =
      by_flush_session (Goes (Other (command.FlushSession session)) v) session s (λ _ _. tie) (λ _. stays _ v refl refl refl refl (λ _ k. k) (λ _ k. k))
  other_goes (command.NvDefine public) h =
      by_nv_define (Goes (Other (command.NvDefine public)) v) public s (λ _ _. tie) (λ allowed _. indices_defined s v public orderly known allowed tie)
  other_goes (command.NvUndefine index) h =
      by_nv_undefine (Goes (Other (command.NvUndefine index)) v) index s (λ _ _. tie) (λ _ _ _. indices_undefined s v index orderly known tie)
  other_goes (command.NvWrite index pin value) h =
      by_nv_write (Goes (Other (command.NvWrite index pin value)) v) index pin value s (λ _ _. tie) (λ x e policy _ clean.
      on_write (λ t. TiedIndices t (strange_world pin v)) s index value x e
      (indices_strange s v index pin value x orderly known e policy (dead s v index pin x tie tied safe (written_strings index pin s v x e h) e policy clean) tie))
  other_goes (command.NvRead index) h = by_nv_read (Goes (Other (command.NvRead index)) v) index s (nothing (command.NvRead index) s v refl tie)
  other_goes (command.NvReadPublic index) h = by_nv_read_public (Goes (Other (command.NvReadPublic index)) v) index s (nothing (command.NvReadPublic index) s v refl tie)
  other_goes (command.Seal policy secret) h =
      by_seal (Goes (Other (command.Seal policy secret)) v) policy secret s (λ _ _. tie) (λ _. stays _ v refl refl refl refl (λ _ k. k) (λ _ k. k))
  other_goes (command.Evict handle) h = by_evict (Goes (Other (command.Evict handle)) v) handle s (λ _ _. tie) (λ _. stays _ _ refl refl refl refl (λ _ k. k) (λ _ k. k))
  other_goes (command.Unseal session handle) h = by_unseal (Goes (Other (command.Unseal session handle)) v) session handle s (λ _ _. tie) (λ _ _ _ _ _ _ _. tie)

  -- an event
  event_goes : (event : Event) → IsSoundEvent event v → AreHashed v (command_strings (command_of event) s) → Goes event v (respond (command_of event) s)
  event_goes (Update handle pin table) sound h =
      by_nv_write (Goes (Update handle pin table) v) handle pin (content_of_table table) s (λ _ _. tie) (λ x e policy _ _.
      on_write (λ t. TiedIndices t (accepted_world (Update handle pin table) answer.Done t v)) s handle (content_of_table table) x e
      (indices_updated s v handle pin table x orderly known sound e policy tie))
  event_goes (Define public pin) sound h =
      by_nv_define (Goes (Define public pin) v) public s (λ _ _. tie) (λ allowed _.
      indices_defined s (pinned_world pin v) public orderly (λ u k. Contains-append_left v.pins (pin ∷ []) u.pin (known u k)) allowed
      (stays s (pinned_world pin v) refl refl refl refl (λ p k. Contains-append_left v.pins (pin ∷ []) p k) (λ _ k. k)))
  event_goes (SealTo b secret) sound h =
      by_seal (Goes (SealTo b secret) v) (policy_of b) secret s (λ _ _. tie) (λ _. stays _ _ refl refl refl refl (λ _ k. k) (λ _ k. k))
  event_goes (SealPin index pin) sound h =
      by_seal (Goes (SealPin index pin) v) (policy_of (binding.Index index pin)) pin s (λ _ _. tie) (λ _. stays _ _ refl refl refl refl (λ p k. Contains-append_left v.pins (pin ∷ []) p k) (λ _ k. k))
  event_goes (Other c) sound h = other_goes c h

-- what is sound is fair, and stays sound with more strings
pub fair_from : (event : Event) (w : World) → IsSoundEvent event w → IsFair event w
fair_from (Update handle pin table) w h = tt
fair_from (Define public pin) w h = tt
fair_from (SealTo b secret) w h = h.0
fair_from (SealPin handle pin) w h = tt
fair_from (Other c) w h = tt

sound_stays : (event : Event) (w : World) (more : List HashedString) → IsSoundEvent event w → IsSoundEvent event (hashed_world more w)
sound_stays (Update handle pin table) w more h = h
sound_stays (Define public pin) w more h = h
sound_stays (SealTo b secret) w more h = (sound_on w (hashed_world more w) (λ _ k. k) b h.0, h.1)
sound_stays (SealPin handle pin) w more h = h
sound_stays (Other c) w more h = tt

-- the pin of each update is still known after an event
pub known_after : (event : Event) (s : Parts) (w : World) → KnowsPins w → KnowsPins (world_after event s w)
known_after event s w known =
    let r = respond (command_of event) s in
    known_accepted event r.0 r.1 (hashed_world (event_strings event s) w) known

-- and the handles in bindings have 32 bits
pub ranges_after : (event : Event) (s : Parts) (w : World) → IsSoundEvent event w → HasRanges w → HasRanges (world_after event s w)
ranges_after event s w sound ranges =
    let r = respond (command_of event) s in
    ranged_accepted event r.0 r.1 (hashed_world (event_strings event s) w) w sound ranges

-- the indices hang together with a world that has more strings
more_strings : (s : Parts) (w : World) (more : List HashedString) → Orderly s → KnowsPins w → TiedIndices s w → TiedIndices s (hashed_world more w)
more_strings s w more orderly known tie = indices_same s s w (hashed_world more w) orderly known refl refl refl refl (λ _ k. k) (λ _ k. k) tie

-- an event leaves the state and the world hanging together in all that sessions don't touch, where the
-- strings don't clash and no stranger presented a pin of a policy
pub own_after : (event : Event) (s : Parts) (w : World) → Orderly s → IsSoundEvent event w → OwnTie s w
    → Clean (world_after event s w) → Safe (world_after event s w) → OwnTie (respond (command_of event) s).1 (world_after event s w)
own_after event s w orderly sound own clean safe =
    let more = event_strings event s in
    let v = hashed_world more w in
    let r = respond (command_of event) s in
    let after = world_after event s w in
    let safe_now : Safe v = subst (λ (xs : List HashedString). NoClash (Contains xs)) (hashed_stays event r.0 r.1 v) safe in
    let tied : Tied s v = tied_hashed s w more own.base in
    record {
      base = tied_goes event s v orderly.objects (fair_on event w more (fair_from event w sound)) (all_hashed w more) tied;
      indices = event_goes s v orderly own.known safe_now tied (more_strings s w more orderly own.known own.indices) event (sound_stays event w more sound) (command_hashed event s w) clean;
      filed = subst (IsFiledHashed after) (sym (filed_stays event r.0 r.1 v)) (filed_on w after (grows_after event s w) w.filed own.filed);
      known = known_after event s w own.known;
      ranges = ranges_after event s w sound own.ranges;
    }

-- an event keeps what is kept of sessions, whether or not strings clash
pub sessions_after : (event : Event) (s : Parts) (w : World) → Orderly s → KnowsPins w → TiedIndices s w → SteadySessions s w
    → SteadySessions (respond (command_of event) s).1 (world_after event s w)
sessions_after event s w orderly known tie sessions =
    let more = event_strings event s in
    let v = hashed_world more w in
    let r = respond (command_of event) s in
    let after = world_after event s w in
    let grows : GrowsAll w v = record { strings = λ x k. Contains-append_left w.hashed more x k; pins = λ _ k. k; strange = λ _ k. k; writes = λ _ k. k } in
    let rest : GrowsAll v after = grows_accepted event r.0 r.1 v in
    let before : AreRead v s = reads_on w v grows s.sessions sessions.reads in
    let reads : AreRead v r.1 = reads_after (command_of event) s v orderly (more_strings s w more orderly known tie) (command_hashed event s w) before in
    record {
      good = good_after event s w sessions.good;
      reads = reads_on v after rest r.1.sessions reads;
    }

-- from the rules and the tie, and back
pub sessions_from : (s : Parts) (w : World) → HasRules s → AllByRecursion (IsTiedSession s w) s.sessions → SteadySessions s w
sessions_from s w rules all = record {
  good = good_all s w s.sessions (sessions_kept s rules) (all_map (IsTiedSession s w) (IsHashedSession s w) (hashed_session s w) s.sessions all);
  reads = all_map (IsTiedSession s w) (HasReads w) (session_reads s w) s.sessions all;
}

pub tied_sessions : (s : Parts) (w : World) → SteadySessions s w → AllByRecursion (IsTiedSession s w) s.sessions
tied_sessions s w k = each s.sessions k.good k.reads
  where
    each : (xs : List Session) → AllByRecursion (IsGood s w) xs → AllByRecursion (HasReads w) xs → AllByRecursion (IsTiedSession s w) xs
    each [] good reads = tt
    each (x ∷ xs) good reads = (tied_session s w x (hashed_from s w x good.0) reads.0, each xs good.1 reads.1)
