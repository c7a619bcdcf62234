-- Each Unseal names the event at which its session was authorised.
use Rattle.std.proofs.Common.{◌≡◌, ◌⊎◌, ℕ, true, List, [], ◌∷◌, ◌++◌, map, inl, inr, refl, sym, ap, subst, ◌∙◌, append_assoc, append-nil, Contains}
use Rattle.std.specs.Prelude.{Some}
use Rattle.std.specs.FinMap.{get}
use Rattle.std.specs.List.{AllByRecursion}
use Rattle.nv_index.specs.IndexName.{index_name_of}
use Rattle.nv_index.specs.Table.{index_at}
use Rattle.nv_index.specs.declared.index.Index.{Index as NvIndex}
use Rattle.nv_index.specs.declared.index.Written.{Written}
use Rattle.nv_index.proofs.Lists.{all_at, all_push}
use Rattle.policy_digest.specs.PlainTable.{root_of}
use Rattle.tpm_model.specs.declared.command.Command.{Command}
use Rattle.tpm_model.specs.declared.command.Command.TheVariants as command
use Rattle.tpm_model.specs.declared.object.Object.{Object}
use Rattle.tpm_model.specs.declared.parts.Parts.{Parts}
use Rattle.tpm_model.specs.declared.response.Response.TheVariants as answer
use Rattle.tpm_model.specs.declared.sessions.Session.{Session}
use Rattle.tpm_model.specs.declared.trail.TrailEntry.{TrailEntry}
use Rattle.tpm_model.specs.declared.trail.TrailEntry.TheVariants.{Pcr, Or, AuthorizeNv}
use Rattle.tpm_model.specs.Binding.{Index}
use Rattle.tpm_model.specs.Events.{Clean, Event, command_of}
use Rattle.tpm_model.specs.ObjectCommands.{unseal}
use Rattle.tpm_model.specs.Orderly.{Orderly}
use Rattle.tpm_model.specs.Respond.{respond}
use Rattle.tpm_model.specs.Rules.{HasRules}
use Rattle.tpm_model.specs.SessionCommands.{content_in}
use Rattle.tpm_model.specs.SessionRules.{keeps_session_order}
use Rattle.tpm_model.specs.Sessions.{session_at, session_place}
use Rattle.tpm_model.specs.Tied.{IsHeld}
use Rattle.tpm_model.specs.World.{World}
use Rattle.tpm_model.proofs.FromRules.{orderly_from}
use Rattle.tpm_walks.proofs.Tied.{valid_rows}
use Rattle.tpm_worlds.specs.EventLists.{Safe}
use Rattle.tpm_worlds.specs.SteadySessions.{SteadySessions}
use Rattle.tpm_worlds.specs.WholeEvents.{AreSoundEvents, FullTie, OwnTie}
use Rattle.tpm_worlds.proofs.Cases.{by_unseal}
use Rattle.tpm_worlds.proofs.EachUnseal.{same_object}
use Rattle.tpm_worlds.proofs.Members.{all_of, member}
use Rattle.tpm_worlds.proofs.Trails.{all_map}
use Rattle.tpm_worlds.proofs.WholeAfter.{sessions_from}
use Rattle.tpm_unseals.specs.ByPolicy.{written_name}
use Rattle.race_newest.specs.ByNewest.{EachOpensByNewest, IsAuthorisedByNewest, IsOpenedByNewest, WasAuthorised}
use Rattle.race_newest.specs.Moments.{state_behind, world_behind}
use Rattle.race_newest.proofs.Leaves.{leaves}
use Rattle.race_newest.proofs.Moments.{Moment, moment, state_append}
use Rattle.race_newest.proofs.Named.{named}
use Rattle.race_newest.proofs.Newest.{newest_there}
use Rattle.race_newest.proofs.Opened.{IsOpened, entry_there, opened}
use Rattle.race_newest.proofs.Since.{order_after_all}

-- ---- where an entry of PolicyAuthorizeNV comes from

-- it was made at one of the events, by an accepted command on the session
pub record IsMade (events : List Event) (s : Parts) (h : ℕ) (name digest : List ℕ) (number : ℕ) : Type 0 where
  pub before : List Event
  pub at : Event
  pub behind : List Event
  pub order : events ≡ before ++ at ∷ behind
  pub asked : ℕ
  pub asks : command_of at ≡ command.PolicyAuthorizeNv h asked
  pub accepted : (respond (command_of at) (state_behind before s)).0 ≡ answer.Done
  pub x : Session
  pub found : session_at h (state_behind before s).sessions ≡ Some x
  pub i : NvIndex
  pub standing : index_at asked (state_behind before s).indices ≡ Some i
  pub written : Written
  pub was : i.written ≡ Some written
  pub met : written.value ≡ content_in x.hash x.digest
  pub name_is : name ≡ index_name_of i.public
  pub digest_is : digest ≡ x.digest

-- or the session had it before the first of them
abbrev Origin : List Event → Parts → ℕ → TrailEntry → Type 0
Origin events s h (Pcr bank pcrs values) = Unit {0}
Origin events s h (Or list) = Unit {0}
Origin events s h (AuthorizeNv name digest number) = IsMade events s h name digest number ⊎ WasAuthorised s h

abbrev HasOrigins : List Event → Parts → Session → Type 0
HasOrigins events s x = AllByRecursion (Origin events s x.handle) x.trail

module _ (events : List Event) (e : Event) (s : Parts) where
  abbrev more : List Event
  more = events ++ e ∷ []

  made_on : (h : ℕ) (name digest : List ℕ) (number : ℕ) → IsMade events s h name digest number → IsMade more s h name digest number
  made_on h name digest number made = record {
    before = made.before;
    at = made.at;
    behind = made.behind ++ e ∷ [];
    order = ap (λ xs. xs ++ e ∷ []) made.order ∙ append_assoc made.before (made.at ∷ made.behind) (e ∷ []);
    asked = made.asked;
    asks = made.asks;
    accepted = made.accepted;
    x = made.x;
    found = made.found;
    i = made.i;
    standing = made.standing;
    written = made.written;
    was = made.was;
    met = made.met;
    name_is = made.name_is;
    digest_is = made.digest_is;
  }

  either_on : (h : ℕ) (name digest : List ℕ) (number : ℕ) → IsMade events s h name digest number ⊎ WasAuthorised s h → IsMade more s h name digest number ⊎ WasAuthorised s h
  either_on h name digest number (inl made) = inl (made_on h name digest number made)
  either_on h name digest number (inr was) = inr was

  origin_on : (h : ℕ) (entry : TrailEntry) → Origin events s h entry → Origin more s h entry
  origin_on h (Pcr bank pcrs values) o = tt
  origin_on h (Or list) o = tt
  origin_on h (AuthorizeNv name digest number) o = either_on h name digest number o

  origins_on : (x : Session) → HasOrigins events s x → HasOrigins more s x
  origins_on x o = all_map (Origin events s x.handle) (Origin more s x.handle) (origin_on x.handle) x.trail o

  -- behind one more event
  one_more : keeps_session_order (state_behind events s) ≡ true → AllByRecursion (HasOrigins events s) (state_behind events s).sessions
      → AllByRecursion (HasOrigins more s) (respond (command_of e) (state_behind events s)).1.sessions
  one_more order all =
      (leaves (HasOrigins more s) (λ (x : Object). Unit {0}) (state_behind events s) (command_of e)
      (record {
        fresh = λ hash. tt;
        looks = λ x digest bank pcrs values free o. all_push (Origin more s x.handle) x.trail (Pcr bank pcrs values) o tt;
        lists = λ x digest list o. all_push (Origin more s x.handle) x.trail (Or list) o tt;
        authorises = λ x i written digest session index is done found standing was met o.
            all_push (Origin more s x.handle) x.trail (AuthorizeNv (index_name_of i.public) x.digest written.number) o
            (inl (subst (λ (h : ℕ). IsMade more s h (index_name_of i.public) x.digest written.number) (sym (named session (state_behind events s).sessions x found))
            (record {
              before = events;
              at = e;
              behind = [];
              order = refl;
              asked = index;
              asks = is;
              accepted = done;
              x = x;
              found = found;
              i = i;
              standing = standing;
              written = written;
              was = was;
              met = met;
              name_is = refl;
              digest_is = refl;
            })));
        seals = λ policy secret. tt;
        order = order;
        sessions = all_map (HasOrigins events s) (HasOrigins more s) origins_on (state_behind events s).sessions all;
        objects = all_of (λ (x : Object). Unit {0}) (state_behind events s).objects (λ x k. tt);
      })).sessions

origin_of : (s : Parts) (x : Session) → Contains s.sessions x → (entry : TrailEntry) → Contains x.trail entry → Origin [] s x.handle entry
origin_of s x there (Pcr bank pcrs values) at = tt
origin_of s x there (Or list) at = tt
origin_of s x there (AuthorizeNv name digest number) at = inr (record { asked = x; there = there; same = refl; name = name; digest = digest; number = number; stands = at })

first_origins : (s : Parts) → AllByRecursion (HasOrigins [] s) s.sessions
first_origins s = all_of (HasOrigins [] s) s.sessions (λ x there. all_of (Origin [] s x.handle) x.trail (origin_of s x there))

pushed_state : (events : List Event) (e : Event) (s : Parts) → (respond (command_of e) (state_behind events s)).1 ≡ state_behind (events ++ e ∷ []) s
pushed_state events e s = sym (state_append events (e ∷ []) s)

all_origins : (events rest : List Event) (s : Parts) → keeps_session_order s ≡ true → AllByRecursion (HasOrigins events s) (state_behind events s).sessions
    → AllByRecursion (HasOrigins (events ++ rest) s) (state_behind (events ++ rest) s).sessions
all_origins events [] s order all = subst (λ (xs : List Event). AllByRecursion (HasOrigins xs s) (state_behind xs s).sessions) (sym (append-nil events)) all
all_origins events (e ∷ rest) s order all =
    subst (λ (xs : List Event). AllByRecursion (HasOrigins xs s) (state_behind xs s).sessions) (append_assoc events (e ∷ []) rest)
    (all_origins (events ++ e ∷ []) rest s order
    (subst (λ (t : Parts). AllByRecursion (HasOrigins (events ++ e ∷ []) s) t.sessions) (pushed_state events e s)
    (one_more events e s (order_after_all (map command_of events) s order) all)))

pub origins : (events : List Event) (s : Parts) → keeps_session_order s ≡ true → AllByRecursion (HasOrigins events s) (state_behind events s).sessions
origins events s order = all_origins [] events s order (first_origins s)

-- ---- each Unseal

module _ (s : Parts) (w : World) (order : keeps_session_order s ≡ true) (orderly : Orderly s) (own : OwnTie s w) (sessions : SteadySessions s w)
    (before : List Event) (event : Event) (behind : List Event) (sound : AreSoundEvents (before ++ event ∷ behind) s w)
    (clean : Clean (world_behind (before ++ event ∷ behind) s w)) (safe : Safe (world_behind (before ++ event ∷ behind) s w)) where
  abbrev last : World
  last = world_behind (before ++ event ∷ behind) s w

  here : Moment event (state_behind before s) (world_behind before s w) (world_behind (before ++ event ∷ behind) s w)
  here = moment before event behind s w orderly own sessions sound clean safe

  -- an event before it
  earlier : (first : List Event) (at : Event) (later : List Event) → before ≡ first ++ at ∷ later
      → Moment at (state_behind first s) (world_behind first s w) (world_behind (before ++ event ∷ behind) s w)
  earlier first at later e =
      let whole : first ++ at ∷ (later ++ event ∷ behind) ≡ before ++ event ∷ behind = sym (append_assoc first (at ∷ later) (event ∷ behind)) ∙ ap (λ xs. xs ++ event ∷ behind) (sym e) in
      subst (λ (xs : List Event). Moment at (state_behind first s) (world_behind first s w) (world_behind xs s w)) whole
      (moment first at (later ++ event ∷ behind) s w orderly own sessions
      (subst (λ (xs : List Event). AreSoundEvents xs s w) (sym whole) sound)
      (subst (λ (xs : List Event). Clean (world_behind xs s w)) (sym whole) clean)
      (subst (λ (xs : List Event). Safe (world_behind xs s w)) (sym whole) safe))

  module _ (session handle index : ℕ) (secret pin : List ℕ)
      (bound : get (world_behind before s w).objects handle ≡ Some (record { secret = secret; binding = Index index pin })) where
    held : IsHeld (state_behind before s) (world_behind before s w) handle (record { secret = secret; binding = Index index pin })
    held = here.own.base.objects handle (record { secret = secret; binding = Index index pin }) bound

    -- by the origin of the one entry of PolicyAuthorizeNV
    by_origin : (x : Session) (o : IsOpened (state_behind before s) (world_behind before s w) x index pin)
        → IsMade before s session (written_name index pin) (root_of o.by.update.table) o.by.update.number ⊎ WasAuthorised s session
        → IsAuthorisedByNewest before s w session index pin o.by.update.table ⊎ WasAuthorised s session
    by_origin x o (inr was) = inr was
    by_origin x o (inl made) =
        let update = o.by.update in
        let new = newest_there made.at (state_behind made.before s) (world_behind made.before s w) last (earlier made.before made.at made.behind made.order) safe clean
        index pin (here.own.ranges handle (record { secret = secret; binding = Index index pin }) bound) (here.grows.pins pin held.sound) (λ y k. here.grows.strings y (held.strings y k))
        update.table (λ y k. here.grows.strings y (here.own.base.updates update o.by.wrote y k)) (valid_rows update.table (here.own.indices.updates update o.by.wrote).table)
        session made.asked made.asks made.x made.found made.i made.standing made.written made.was made.met (sym made.name_is) (sym made.digest_is) in
        inl (record {
          before = made.before;
          at = made.at;
          behind = made.behind;
          order = made.order;
          asks = subst (λ (n : ℕ). command_of made.at ≡ command.PolicyAuthorizeNv session n) new.same made.asks;
          accepted = made.accepted;
          newest = new.newest;
        })

    origin : (x : Session) → session_at session (state_behind before s).sessions ≡ Some x → (o : IsOpened (state_behind before s) (world_behind before s w) x index pin)
        → IsMade before s session (written_name index pin) (root_of o.by.update.table) o.by.update.number ⊎ WasAuthorised s session
    origin x found o =
        let entry = AuthorizeNv (written_name index pin) (root_of o.by.update.table) o.by.update.number in
        let its : HasOrigins before s x = all_at (HasOrigins before s) (state_behind before s).sessions (session_place session (state_behind before s).sessions) x (origins before s order) found in
        let made : Origin before s x.handle entry = member (Origin before s x.handle) x.trail entry its (entry_there (world_behind before s w) x.trail index pin o.by) in
        subst (λ (h : ℕ). Origin before s h entry) (named session (state_behind before s).sessions x found) made

    one_unseal : (answered : List ℕ) → (unseal session handle (state_behind before s)).0 ≡ answer.Secret answered → IsOpenedByNewest before s w session index pin secret answered
    one_unseal answered =
        by_unseal (λ r. r.0 ≡ answer.Secret answered → IsOpenedByNewest before s w session index pin secret answered) session handle (state_behind before s)
        (λ why e. cc)
        (λ x object at found free policy e.
        let same : object ≡ held.object = same_object object held.object (sym found ∙ held.found) in
        let bytes : object.secret ≡ answered = cc in
        let digest = policy ∙ ap (λ (o : Object). o.policy) same ∙ held.policy in
        let o = opened (state_behind before s) (world_behind before s w) here.own here.sessions here.clean here.safe index pin
        (here.own.ranges handle (record { secret = secret; binding = Index index pin }) bound) held.sound held.strings session x at free digest in
        record {
          bytes = sym bytes ∙ ap (λ (z : Object). z.secret) same ∙ held.secret;
          table = o.by.update.table;
          opens = o.opens;
          by = by_origin x o (origin x at o);
        })

pub each_by_newest : (events : List Event) (s : Parts) (w : World) → HasRules s → FullTie s w → AreSoundEvents events s w
    → Clean (world_behind events s w) → Safe (world_behind events s w) → EachOpensByNewest events s w
each_by_newest events s w rules tie sound clean safe = λ before event behind session handle index answered secret pin order is told bound.
    one_unseal s w rules.session_order (orderly_from s rules) tie.own (sessions_from s w rules tie.sessions) before event behind
    (subst (λ (xs : List Event). AreSoundEvents xs s w) order sound)
    (subst (λ (xs : List Event). Clean (world_behind xs s w)) order clean)
    (subst (λ (xs : List Event). Safe (world_behind xs s w)) order safe)
    session handle index secret pin bound answered (sym (ap (λ (c : Command). (respond c (state_behind before s)).0) is) ∙ told)
