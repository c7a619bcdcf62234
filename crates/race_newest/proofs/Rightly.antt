-- A client of a race that has its key has it rightly.
use Rattle.std.proofs.Common.{◌≡◌, ℕ, ◌^◌, ◌<◌, true, List, ◌∷◌, ◌++◌, map, refl, sym, ap, subst, ◌∙◌, append_assoc, Contains}
use Rattle.std.specs.Prelude.{None, Some}
use Rattle.std.specs.FinMap.{get}
use Rattle.std.specs.List.{AllByRecursion}
use Rattle.nv_index.specs.IndexName.{index_name_of}
use Rattle.nv_index.proofs.Lists.{all_at, all_found}
use Rattle.policy_digest.specs.BindingStrings.{bind_strings}
use Rattle.race_core.specs.declared.event.Event.{Event as Played}
use Rattle.race_core.specs.declared.event.Event.TheVariants as played_event
use Rattle.race_core.specs.declared.outcome.Outcome.TheVariants as outcome
use Rattle.race_core.specs.Histories.{HasUnsealed, IsNew}
use Rattle.race_core.specs.Playing.{Playing, played, played_one}
use Rattle.race_core.specs.Racing.{IsEvent, race_command, race_outcome}
use Rattle.race_core.proofs.Histories.{key_steps}
use Rattle.tpm_model.specs.declared.command.Command.{Command}
use Rattle.tpm_model.specs.declared.command.Command.TheVariants as command
use Rattle.tpm_model.specs.declared.object.Object.{Object}
use Rattle.tpm_model.specs.declared.parts.Parts.{Parts}
use Rattle.tpm_model.specs.declared.response.Response.TheVariants as answer
use Rattle.tpm_model.specs.declared.sessions.Session.{Session}
use Rattle.tpm_model.specs.declared.trail.TrailEntry.{TrailEntry}
use Rattle.tpm_model.specs.declared.trail.TrailEntry.TheVariants.{AuthorizeNv}
use Rattle.tpm_model.specs.Binding.{Index, index_policy}
use Rattle.tpm_model.specs.Events.{Clean, Event, Other, command_of}
use Rattle.tpm_model.specs.ObjectCommands.{object_handle, unseal}
use Rattle.tpm_model.specs.Respond.{respond}
use Rattle.tpm_model.specs.Rules.{HasRules}
use Rattle.tpm_model.specs.SessionCommands.{noted_before}
use Rattle.tpm_model.specs.SessionRules.{keeps_session_order}
use Rattle.tpm_model.specs.Sessions.{is_object, session_at, session_place}
use Rattle.tpm_model.specs.Tied.{IsHeld}
use Rattle.tpm_model.specs.World.{World, AreHashed}
use Rattle.tpm_model.proofs.FromRules.{orderly_from}
use Rattle.tpm_model.proofs.Handles.{handles_from_test}
use Rattle.tpm_walks.proofs.Tied.{valid_rows}
use Rattle.tpm_worlds.specs.EventLists.{Safe}
use Rattle.tpm_worlds.specs.Growth.{GrowsAll}
use Rattle.tpm_worlds.specs.WholeEvents.{AreSoundEvents, FullTie}
use Rattle.tpm_worlds.proofs.Cases.{by_unseal}
use Rattle.tpm_worlds.proofs.WholeAfter.{sessions_from}
use Rattle.tpm_worlds.proofs.WholeLists.{grows_events}
use Rattle.race_newest.specs.Moments.{state_behind, world_behind}
use Rattle.race_newest.specs.RaceEvents.{events_by, world_at, world_events}
use Rattle.race_newest.specs.Rightly.{HasKeyRightly}
use Rattle.race_newest.specs.Stillness.{AreStill}
use Rattle.race_newest.proofs.Moments.{Moment, moment}
use Rattle.race_newest.proofs.Named.{below_object, named, named_object, object_handles, one_object}
use Rattle.race_newest.proofs.Newest.{IsNewestOf, newest_there}
use Rattle.race_newest.proofs.Opened.{IsItsRead, IsOpened, its_read, opened}
use Rattle.race_newest.proofs.RaceEvents.{events_append, played_append, played_state, sound_events, still_from}
use Rattle.race_newest.proofs.Since.{AreQuiet, Authorised, Has, Looked, Notes, authorised, given_after, has_after, looked, notes_after, objects_after, order_after_all, quiet_since}

-- ---- moments of a play

-- a client's step with its command, behind some events
step_events : (before behind : List Played) (p : Playing) (k : ℕ) (c : Command) → race_command (played before p).race (played_event.Step k) ≡ Some c
    → world_events (before ++ played_event.Step k ∷ behind) p ≡ world_events before p ++ Other c ∷ world_events behind (played_one (played_event.Step k) (played before p))
step_events before behind p k c gives =
    events_append before (played_event.Step k ∷ behind) p
    ∙ ap (λ o. world_events before p ++ (events_by (played before p).race (played_event.Step k) o ++ world_events behind (played_one (played_event.Step k) (played before p)))) gives

-- an Unseal that was answered: by a session with the policy of the index, which noted no other counter
pub record IsGiven (s : Parts) (session index : ℕ) (pin secret given : List ℕ) : Type 0 where
  pub x : Session
  pub found : session_at session s.sessions ≡ Some x
  pub free : noted_before x.noted s.update_counter ≡ None
  pub digest : x.digest ≡ index_policy index pin
  pub bytes : given ≡ secret

module _ (events : List Played) (p : Playing) (w : World) (rules : HasRules p.state) (tie : FullTie p.state w) (sound : AreSoundEvents (world_events events p) p.state w)
    (clean : Clean (world_at events p w)) (safe : Safe (world_at events p w)) where
  moment_at : (before behind : List Played) (k : ℕ) (c : Command) → events ≡ before ++ played_event.Step k ∷ behind → race_command (played before p).race (played_event.Step k) ≡ Some c
      → Moment (Other c) (played before p).state (world_at before p w) (world_at events p w)
  moment_at before behind k c order gives =
      let rest = world_events behind (played_one (played_event.Step k) (played before p)) in
      let whole : world_events events p ≡ world_events before p ++ Other c ∷ rest = ap (λ xs. world_events xs p) order ∙ step_events before behind p k c gives in
      subst (λ (s : Parts). Moment (Other c) s (world_at before p w) (world_at events p w)) (played_state before p)
      (subst (λ (xs : List Event). Moment (Other c) (state_behind (world_events before p) p.state) (world_at before p w) (world_behind xs p.state w)) (sym whole)
      (moment (world_events before p) (Other c) rest p.state w (orderly_from p.state rules) tie.own (sessions_from p.state w rules tie.sessions)
      (subst (λ (xs : List Event). AreSoundEvents xs p.state w) whole sound)
      (subst (λ (xs : List Event). Clean (world_behind xs p.state w)) whole clean)
      (subst (λ (xs : List Event). Safe (world_behind xs p.state w)) whole safe)))

  order_at : (before : List Played) → keeps_session_order (played before p).state ≡ true
  order_at before = subst (λ (s : Parts). keeps_session_order s ≡ true) (played_state before p) (order_after_all (map command_of (world_events before p)) p.state rules.session_order)

  -- ---- the object that the world binds at the start

  module _ (index : ℕ) (pin secret : List ℕ) (bound : get w.objects p.race.object ≡ Some (record { secret = secret; binding = Index index pin })) where
    -- an object with its policy and its bytes
    abbrev IsIts : Object → Type 0
    IsIts o = (o.policy ≡ index_policy index pin) × (o.secret ≡ secret)

    held : IsHeld p.state w p.race.object (record { secret = secret; binding = Index index pin })
    held = tie.own.base.objects p.race.object (record { secret = secret; binding = Index index pin }) bound

    first_its : AllByRecursion (λ (o : Object). o.handle ≡ p.race.object → IsIts o) p.state.objects
    first_its =
        one_object IsIts p.race.object 0x81000000 (object_handle p.state.next_object) p.state.objects held.object
        (handles_from_test 0x81000000 (object_handle p.state.next_object) (object_handles p.state.objects) rules.object_order) held.found (held.policy, held.secret)

    number : p.race.object < object_handle p.state.next_object
    number =
        subst (λ (n : ℕ). n < object_handle p.state.next_object) (named_object p.race.object p.state.objects held.object held.found)
        (all_found (λ (o : Object). o.handle < object_handle p.state.next_object) (is_object p.race.object) p.state.objects held.object
        (below_object 0x81000000 (object_handle p.state.next_object) p.state.objects
        (handles_from_test 0x81000000 (object_handle p.state.next_object) (object_handles p.state.objects) rules.object_order)) held.found)

    its_at : (before : List Played) → AllByRecursion (λ (o : Object). o.handle ≡ p.race.object → IsIts o) (played before p).state.objects
    its_at before =
        subst (λ (s : Parts). AllByRecursion (λ (o : Object). o.handle ≡ p.race.object → IsIts o) s.objects) (played_state before p)
        (objects_after IsIts p.race.object (map command_of (world_events before p)) p.state rules.session_order number first_its)

    grown : (before : List Played) → GrowsAll w (world_at before p w)
    grown before = grows_events (world_events before p) p.state w

    range : index < 2 ^ 32
    range = tie.own.ranges p.race.object (record { secret = secret; binding = Index index pin }) bound

    known_at : (before : List Played) → Contains (world_at before p w).pins pin
    known_at before = (grown before).pins pin held.sound

    strings_at : (before : List Played) → AreHashed (world_at before p w) (bind_strings index pin)
    strings_at before = λ y at. (grown before).strings y (held.strings y at)

    given_by : (s : Parts) (session : ℕ) (given : List ℕ) → AllByRecursion (λ (o : Object). o.handle ≡ p.race.object → IsIts o) s.objects
        → (unseal session p.race.object s).0 ≡ answer.Secret given → IsGiven s session index pin secret given
    given_by s session given its =
        by_unseal (λ r. r.0 ≡ answer.Secret given → IsGiven s session index pin secret given) session p.race.object s
        (λ why e. cc)
        (λ x object at there free policy e.
        let one = all_found (λ (o : Object). o.handle ≡ p.race.object → IsIts o) (is_object p.race.object) s.objects object its there (named_object p.race.object s.objects object there) in
        let bytes : object.secret ≡ given = cc in
        record { x = x; found = at; free = free; digest = policy ∙ one.0; bytes = sym bytes ∙ one.1 })

    -- ---- the client

    module _ (k : ℕ) (given : List ℕ) (u : HasUnsealed events p k given) where
      abbrev step : Played
      step = played_event.Step k

      abbrev between : List Played
      between = step ∷ (u.authorised.looked.behind ++ step ∷ u.authorised.behind)

      abbrev looks : Command
      looks = command.PolicyPcr u.session u.authorised.looked.bank u.authorised.looked.pcrs

      abbrev authorises : Command
      authorises = command.PolicyAuthorizeNv u.session u.authorised.index

      its : IsGiven (played u.before p).state u.session index pin secret given
      its = given_by (played u.before p).state u.session given (its_at u.before) u.given.answered

      here : Moment (Other (command.Unseal u.session p.race.object)) (played u.before p).state (world_at u.before p w) (world_at events p w)
      here = moment_at u.before u.behind k (command.Unseal u.session p.race.object) u.order u.given.gives

      there : Moment (Other authorises) (played u.authorised.before p).state (world_at u.authorised.before p w) (world_at events p w)
      there =
          moment_at u.authorised.before (u.authorised.behind ++ step ∷ u.behind) k authorises
          (u.order ∙ ap (λ xs. xs ++ step ∷ u.behind) u.authorised.order ∙ append_assoc u.authorised.before (step ∷ u.authorised.behind) (step ∷ u.behind))
          u.authorised.accepted.gives

      it_opens : IsOpened (played u.before p).state (world_at u.before p w) its.x index pin
      it_opens =
          opened (played u.before p).state (world_at u.before p w) here.own here.sessions here.clean here.safe index pin range (known_at u.before) (strings_at u.before)
          u.session its.x its.found its.free its.digest

      -- ---- nothing moved since its first PolicyPCR

      abbrev rest : List Event
      rest = world_events (u.authorised.looked.behind ++ step ∷ u.authorised.behind) (played_one step (played u.authorised.looked.before p))

      on_look : Looked u.session (played u.authorised.looked.before p).state (respond looks (played u.authorised.looked.before p).state).1
      on_look =
          looked u.session u.authorised.looked.bank u.authorised.looked.pcrs (played u.authorised.looked.before p).state (order_at u.authorised.looked.before) u.authorised.looked.first.answered

      -- the events from it up to the Unseal
      look_events : world_events between (played u.authorised.looked.before p) ≡ Other looks ∷ rest
      look_events = ap (λ o. events_by (played u.authorised.looked.before p).race step o ++ rest) u.authorised.looked.first.gives

      look_order : u.before ≡ u.authorised.looked.before ++ between
      look_order =
          u.authorised.order ∙ ap (λ xs. xs ++ step ∷ u.authorised.behind) u.authorised.looked.order
          ∙ append_assoc u.authorised.looked.before (step ∷ u.authorised.looked.behind) (step ∷ u.authorised.behind)

      look_end : (played u.before p).state ≡ state_behind (Other looks ∷ rest) (played u.authorised.looked.before p).state
      look_end =
          ap (λ xs. (played xs p).state) look_order
          ∙ ap (λ (q : Playing). q.state) (played_append u.authorised.looked.before between p)
          ∙ sym (played_state between (played u.authorised.looked.before p))
          ∙ ap (λ xs. state_behind xs (played u.authorised.looked.before p).state) look_events

      noted : AllByRecursion (Notes u.session (played u.authorised.looked.before p).state.update_counter) (state_behind (Other looks ∷ rest) (played u.authorised.looked.before p).state).sessions
      noted =
          notes_after u.session (played u.authorised.looked.before p).state.update_counter (map command_of rest) (respond looks (played u.authorised.looked.before p).state).1
          (given_after u.session looks (played u.authorised.looked.before p).state on_look.given) on_look.notes

      quiet : AreQuiet (map command_of (Other looks ∷ rest)) (played u.authorised.looked.before p).state
      quiet =
          quiet_since u.session (played u.authorised.looked.before p).state.update_counter (map command_of (Other looks ∷ rest)) (played u.authorised.looked.before p).state its.x on_look.given refl noted
          (subst (λ (s : Parts). session_at u.session s.sessions ≡ Some its.x) look_end its.found)
          (subst (λ (s : Parts). noted_before its.x.noted s.update_counter ≡ None) look_end its.free)

      still : AreStill between (played u.authorised.looked.before p)
      still =
          still_from between (played u.authorised.looked.before p)
          (subst (λ (xs : List Event). AreQuiet (map command_of xs) (played u.authorised.looked.before p).state) (sym look_events) quiet)

      -- ---- the table was the newest at its PolicyAuthorizeNV

      abbrev later : List Event
      later = world_events u.authorised.behind (played_one step (played u.authorised.before p))

      on_authorise : Authorised u.session u.authorised.index (played u.authorised.before p).state (respond authorises (played u.authorised.before p).state).1
      on_authorise = authorised u.session u.authorised.index (played u.authorised.before p).state (order_at u.authorised.before) u.authorised.accepted.answered

      later_events : world_events (step ∷ u.authorised.behind) (played u.authorised.before p) ≡ Other authorises ∷ later
      later_events = ap (λ o. events_by (played u.authorised.before p).race step o ++ later) u.authorised.accepted.gives

      later_end : (played u.before p).state ≡ state_behind (Other authorises ∷ later) (played u.authorised.before p).state
      later_end =
          ap (λ xs. (played xs p).state) u.authorised.order
          ∙ ap (λ (q : Playing). q.state) (played_append u.authorised.before (step ∷ u.authorised.behind) p)
          ∙ sym (played_state (step ∷ u.authorised.behind) (played u.authorised.before p))
          ∙ ap (λ xs. state_behind xs (played u.authorised.before p).state) later_events

      abbrev entry : TrailEntry
      entry = AuthorizeNv (index_name_of on_authorise.i.public) on_authorise.x.digest on_authorise.written.number

      has : AllByRecursion (Has u.session entry) (state_behind (Other authorises ∷ later) (played u.authorised.before p).state).sessions
      has =
          has_after u.session entry (map command_of later) (respond authorises (played u.authorised.before p).state).1
          (given_after u.session authorises (played u.authorised.before p).state on_authorise.given) on_authorise.has

      stands : Contains its.x.trail entry
      stands =
          all_at (Has u.session entry) (played u.before p).state.sessions (session_place u.session (played u.before p).state.sessions) its.x
          (subst (λ (s : Parts). AllByRecursion (Has u.session entry) s.sessions) (sym later_end) has) its.found
          (named u.session (played u.before p).state.sessions its.x its.found)

      its_own : IsItsRead (world_at u.before p w) its.x.trail index pin (index_name_of on_authorise.i.public) on_authorise.x.digest it_opens.by
      its_own = its_read (world_at u.before p w) its.x.trail index pin (index_name_of on_authorise.i.public) on_authorise.x.digest on_authorise.written.number it_opens.by stands

      newest : IsNewestOf (world_at u.authorised.before p w) u.authorised.index index pin it_opens.by.update.table
      newest =
          newest_there (Other authorises) (played u.authorised.before p).state (world_at u.authorised.before p w) (world_at events p w) there safe clean index pin range
          (here.grows.pins pin (known_at u.before)) (λ y at. here.grows.strings y (strings_at u.before y at))
          it_opens.by.update.table (λ y at. here.grows.strings y (here.own.base.updates it_opens.by.update it_opens.by.wrote y at))
          (valid_rows it_opens.by.update.table (here.own.indices.updates it_opens.by.update it_opens.by.wrote).table)
          u.session u.authorised.index refl on_authorise.x on_authorise.found on_authorise.i on_authorise.standing on_authorise.written on_authorise.was on_authorise.met
          its_own.name_is its_own.root_is

      pub rightly : HasKeyRightly events p w k index pin secret given
      rightly = record {
        bytes = its.bytes;
        steps = u;
        by = newest.same;
        table = it_opens.by.update.table;
        newest = newest.newest;
        opens = it_opens.opens;
        still = still;
      }

-- every client of a new race that ends with a key
pub key_rightly : (events : List Played) (p : Playing) (w : World) (clients k index : ℕ) (pin secret given : List ℕ) → IsNew p.race → AllByRecursion (IsEvent clients) events
    → HasRules p.state → FullTie p.state w → Clean (world_at events p w) → Safe (world_at events p w)
    → get w.objects p.race.object ≡ Some (record { secret = secret; binding = Index index pin })
    → race_outcome (played events p).race k ≡ outcome.Key given → HasKeyRightly events p w k index pin secret given
key_rightly events p w clients k index pin secret given new all rules tie clean safe bound came =
    rightly events p w rules tie (sound_events events p w clients all) clean safe index pin secret bound k given (key_steps events p k given new came)
