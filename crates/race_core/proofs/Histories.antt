-- Where a client stands tells which of its steps were accepted.
use Rattle.std.proofs.Common.{◌≡◌, ◌⊎◌, inl, inr, ℕ, zero, suc, ◌+◌, Bool, true, false, cond, List, [], ◌∷◌, ◌++◌, length, set, refl, sym, ap, ◌∙◌, subst, append_assoc, append-nil}
use Rattle.std.specs.Prelude.{nat_lt, position, Option, None, Some, Result, Ok, Err, slice_get}
use Rattle.std.specs.Str.{bytes_eq}
use Rattle.std.proofs.lemmas.Bool.{cases_eq, cond_both}
use Rattle.nv_index.proofs.Lists.{all_at}
use Rattle.or_tree.specs.Plan.{leaves_at, pcrs_at}
use Rattle.policy_digest.specs.Levels.{path_of}
use Rattle.policy_digest.specs.PlainTable.{PlainTable}
use Rattle.policy_walk.specs.declared.prepared.PrepareError.{PrepareError}
use Rattle.policy_walk.specs.Choosing.{prepared_of}
use Rattle.policy_walk.specs.Places.{Step, at_pcr, at_digest, at_or, Ready, Place, Past}
use Rattle.policy_walk.specs.Walking.{authorised_by, behind_digest, behind_list, behind_or, behind_pcr, behind_row, behind_step, secret_in, started_by, step_command, walk_command, why_in, with_leaf, with_lists}
use Rattle.tpm_model.specs.declared.command.Command.{Command}
use Rattle.tpm_model.specs.declared.command.Command.TheVariants as command
use Rattle.tpm_model.specs.declared.parts.Parts.{Parts}
use Rattle.tpm_model.specs.declared.response.Response.{Response}
use Rattle.tpm_model.specs.declared.response.Response.TheVariants as answer
use Rattle.tpm_model.specs.declared.response.Refusal.TheVariants as refusal
use Rattle.tpm_model.specs.Fits.{fits}
use Rattle.tpm_model.specs.Respond.{respond}
use Rattle.tpm_model.proofs.AnswersFit.{fits_answer}
use Rattle.race_core.specs.declared.client.Client.{Client}
use Rattle.race_core.specs.declared.client.Client.TheVariants as client
use Rattle.race_core.specs.declared.event.Event.{Event}
use Rattle.race_core.specs.declared.event.Event.TheVariants as event
use Rattle.race_core.specs.declared.outcome.Outcome.{Outcome}
use Rattle.race_core.specs.declared.outcome.Outcome.TheVariants as outcome
use Rattle.race_core.specs.Clients.{behind_authorisation, behind_choice, behind_read, behind_rows, behind_start, came_to, client_after, client_command, outcome_of}
use Rattle.race_core.specs.Histories.{HasAuthorised, HasLooked, HasStarted, HasUnsealed, IsAnswered, IsNew}
use Rattle.race_core.specs.Playing.{Playing, played, played_by, played_one}
use Rattle.race_core.specs.Racing.{Racing, clients_in, command_in, outcome_in, race_after, race_command, race_outcome}
use Rattle.race_core.proofs.Plays.{played_push}

-- ---- an element of a list that is put anew

set_here : (xs : List Client) (k : ℕ) (d x : Client) → slice_get xs k ≡ Some d → slice_get (set xs k x) k ≡ Some x
set_here [] k d x e = cc
set_here (y ∷ ys) zero d x e = refl
set_here (y ∷ ys) (suc k) d x e = set_here ys k d x e

set_other : (xs : List Client) (j k : ℕ) (x : Client) → (j ≡ k → ⊥) → slice_get (set xs j x) k ≡ slice_get xs k
set_other [] zero k x apart = refl
set_other [] (suc j) k x apart = refl
set_other (y ∷ ys) zero zero x apart = absurd (apart refl)
set_other (y ∷ ys) zero (suc k) x apart = refl
set_other (y ∷ ys) (suc j) zero x apart = refl
set_other (y ∷ ys) (suc j) (suc k) x apart = set_other ys j k x (λ e. apart (ap suc e))

same_client : (a b : Client) → Some a ≡ Some b → a ≡ b
same_client a b e = cc

same_command : (a b : Command) → Some a ≡ Some b → a ≡ b
same_command a b e = cc

-- ---- what is known of a client

-- with this outcome
abbrev Came : List Event → Playing → ℕ → Outcome → Type 0
Came events p k (outcome.Key secret) = HasUnsealed events p k secret
Came events p k other = Unit {0}

-- at this place
abbrev At : List Event → Playing → ℕ → Place → Type 0
At events p k place = ((place.row ≡ 0) × (place.step ≡ at_pcr)) ⊎ HasLooked events p k place.session

abbrev History : List Event → Playing → ℕ → Client → Type 0
History events p k client.Fresh = Unit {0}
History events p k (client.Prepared ready) = Unit {0}
History events p k (client.Started place) = At events p k place
History events p k (client.Branched past) = HasLooked events p k past.session
History events p k (client.Authorised past) = HasAuthorised events p k past.session
History events p k (client.Closing session end) = Came events p k end
History events p k (client.Ended end) = Came events p k end

-- ---- behind one more event

module _ (events : List Event) (e : Event) (p : Playing) (k : ℕ) where
  abbrev more : List Event
  more = events ++ e ∷ []

  longer : (before : List Event) (own : Event) (behind : List Event) → events ≡ before ++ own ∷ behind → more ≡ before ++ own ∷ (behind ++ e ∷ [])
  longer before own behind order = ap (λ xs. xs ++ e ∷ []) order ∙ append_assoc before (own ∷ behind) (e ∷ [])

  looked_on : (session : ℕ) → HasLooked events p k session → HasLooked more p k session
  looked_on session h = record {
    before = h.before;
    behind = h.behind ++ e ∷ [];
    order = longer h.before (event.Step k) h.behind h.order;
    started = h.started;
    bank = h.bank;
    pcrs = h.pcrs;
    first = h.first;
  }

  authorised_on : (session : ℕ) → HasAuthorised events p k session → HasAuthorised more p k session
  authorised_on session h = record {
    before = h.before;
    behind = h.behind ++ e ∷ [];
    order = longer h.before (event.Step k) h.behind h.order;
    looked = h.looked;
    index = h.index;
    accepted = h.accepted;
  }

  unsealed_on : (secret : List ℕ) → HasUnsealed events p k secret → HasUnsealed more p k secret
  unsealed_on secret h = record {
    before = h.before;
    behind = h.behind ++ e ∷ [];
    order = longer h.before (event.Step k) h.behind h.order;
    session = h.session;
    authorised = h.authorised;
    given = h.given;
  }

  came_on : (end : Outcome) → Came events p k end → Came more p k end
  came_on (outcome.Key secret) h = unsealed_on secret h
  came_on other h = tt

  at_on : (place : Place) → At events p k place → At more p k place
  at_on place (inl new) = inl new
  at_on place (inr looked) = inr (looked_on place.session looked)

  history_on : (c : Client) → History events p k c → History more p k c
  history_on client.Fresh h = tt
  history_on (client.Prepared ready) h = tt
  history_on (client.Started place) h = at_on place h
  history_on (client.Branched past) h = looked_on past.session h
  history_on (client.Authorised past) h = authorised_on past.session h
  history_on (client.Closing session end) h = came_on end h
  history_on (client.Ended end) h = came_on end h

-- ---- behind the client's own step

module _ (events : List Event) (p : Playing) (k : ℕ) where
  abbrev now : Playing
  now = played events p

  abbrev later : List Event
  later = events ++ event.Step k ∷ []

  -- what the client gives
  gives : (c : Client) (given : Command) → slice_get now.race.clients k ≡ Some c → client_command now.race.index now.race.object c ≡ Some given
      → race_command now.race (event.Step k) ≡ Some given
  gives c given at is = ap (command_in now.race.index now.race.object) at ∙ is

  choice_known : (r : Result Ready PrepareError) → History later p k (behind_choice r)
  choice_known (Ok ready) = tt
  choice_known (Err error) = tt

  read_known : (index : ℕ) (tables : List PlainTable) (r : Response) → History later p k (behind_read index tables r)
  read_known index tables (answer.Content content) = choice_known (prepared_of index content tables)
  read_known index tables (answer.Refused refusal.Uninitialized) = tt
  read_known index tables other = tt

  start_known : (ready : Ready) (r : Response) → History later p k (behind_start (started_by ready r))
  start_known ready (answer.Session session) = inl (refl, refl)
  start_known ready (answer.Refused refusal.HandlesEnd) = tt
  start_known ready other = tt

  -- on the rows, once it has looked
  module _ (place : Place) (looked : HasLooked later p k place.session) where
    row_known : History later p k (behind_rows (Ok (behind_row place.plan place.index place.session place.row)))
    row_known =
        cond_both (nat_lt (place.row + 1) (length place.plan.rows)) _ _ (λ w. History later p k (behind_rows (Ok w))) (λ _. inr looked) (λ _. looked)

    lists_known : (lists : List (List (List ℕ))) → History later p k (behind_rows (Ok (with_lists place.plan place.index place.session place.row lists)))
    lists_known [] = row_known
    lists_known (list ∷ lists) = inr looked

    leaf_known : (leaf : Option ℕ) → History later p k (behind_rows (with_leaf place.plan place.index place.session place.row leaf))
    leaf_known None = tt
    leaf_known (Some leaf) = lists_known (path_of (leaves_at place.plan place.row) leaf)

    pcr_known : (r : Response) → History later p k (behind_rows (behind_pcr place.plan place.index place.session place.row r))
    pcr_known (answer.Refused why) = tt
    pcr_known other = inr looked

    digest_known : (r : Response) → History later p k (behind_rows (behind_digest place.plan place.index place.session place.row r))
    digest_known (answer.PolicyDigest digest) = leaf_known (position (λ leaf. bytes_eq leaf digest) (leaves_at place.plan place.row))
    digest_known (answer.Refused why) = tt
    digest_known other = tt

    or_known : (lists : List (List (List ℕ))) (r : Response) → History later p k (behind_rows (behind_or place.plan place.index place.session place.row lists r))
    or_known lists (answer.Refused why) = tt
    or_known lists other = lists_known (behind_list lists)

    step_known : (step : Step) (r : Response) → History later p k (behind_rows (behind_step place.plan place.index place.session place.row step r))
    step_known at_pcr r = pcr_known r
    step_known at_digest r = digest_known r
    step_known (at_or lists) r = or_known lists r

  -- its first PolicyPCR
  module _ (place : Place) (at : slice_get now.race.clients k ≡ Some (client.Started place)) (row : place.row ≡ 0) (step : place.step ≡ at_pcr) where
    abbrev looks : Command
    looks = command.PolicyPcr place.session place.plan.bank (pcrs_at place.plan place.row)

    looked_first : (respond looks now.state).0 ≡ answer.Done → HasLooked later p k place.session
    looked_first done = record {
      before = events;
      behind = [];
      order = refl;
      started = record { place = place; stands = at; same = refl; row = row; step = step };
      bank = place.plan.bank;
      pcrs = pcrs_at place.plan place.row;
      first = record {
        gives = gives (client.Started place) looks at (ap (λ s. Some (step_command place.plan place.session place.row s)) step);
        answered = done;
      };
    }

    first_known : (r : Response) → (respond looks now.state).0 ≡ r → fits looks r ≡ true
        → History later p k (behind_rows (behind_pcr place.plan place.index place.session place.row r))
    first_known answer.Done is fit = inr (looked_first is)
    first_known (answer.Refused why) is fit = tt
    first_known other is fit = cc

  started_known : (place : Place) (step : Step) → place.step ≡ step → slice_get now.race.clients k ≡ Some (client.Started place) → At events p k place
      → History later p k (behind_rows (behind_step place.plan place.index place.session place.row step (respond (step_command place.plan place.session place.row step) now.state).0))
  started_known place step is at (inr looked) = step_known place (looked_on events (event.Step k) p k place.session looked) step _
  started_known place at_pcr is at (inl new) =
      first_known place at new.0 is _ refl (fits_answer (command.PolicyPcr place.session place.plan.bank (pcrs_at place.plan place.row)) now.state)
  started_known place at_digest is at (inl new) = let wrong : at_digest ≡ at_pcr = sym is ∙ new.1 in cc
  started_known place (at_or lists) is at (inl new) = let wrong : at_or lists ≡ at_pcr = sym is ∙ new.1 in cc

  -- its PolicyAuthorizeNV
  module _ (past : Past) (at : slice_get now.race.clients k ≡ Some (client.Branched past)) (looked : HasLooked events p k past.session) where
    abbrev authorises : Command
    authorises = command.PolicyAuthorizeNv past.session past.index

    authorised : (respond authorises now.state).0 ≡ answer.Done → HasAuthorised later p k past.session
    authorised done = record {
      before = events;
      behind = [];
      order = refl;
      looked = looked;
      index = past.index;
      accepted = record { gives = gives (client.Branched past) authorises at refl; answered = done };
    }

    branched_known : (r : Response) → (respond authorises now.state).0 ≡ r → fits authorises r ≡ true → History later p k (behind_authorisation (authorised_by past r))
    branched_known answer.Done is fit = authorised is
    branched_known (answer.Refused why) is fit = tt
    branched_known other is fit = cc

  -- its Unseal
  module _ (past : Past) (same : now.race.object ≡ p.race.object) (at : slice_get now.race.clients k ≡ Some (client.Authorised past)) (known : HasAuthorised events p k past.session) where
    abbrev unseals : Command
    unseals = command.Unseal past.session now.race.object

    unsealed : (secret : List ℕ) → (respond unseals now.state).0 ≡ answer.Secret secret → HasUnsealed later p k secret
    unsealed secret is = record {
      before = events;
      behind = [];
      order = refl;
      session = past.session;
      authorised = known;
      given = subst (λ (o : ℕ). IsAnswered now k (command.Unseal past.session o) (answer.Secret secret)) same
          (record { gives = gives (client.Authorised past) unseals at refl; answered = is });
    }

    unsealed_known : (r : Response) → (respond unseals now.state).0 ≡ r → Came later p k (came_to (secret_in r) (why_in past.session now.race.object r))
    unsealed_known (answer.Secret secret) is = unsealed secret is
    unsealed_known (answer.Refused why) is = tt
    unsealed_known other is = tt

  own : (c : Client) (given : Command) → now.race.object ≡ p.race.object → slice_get now.race.clients k ≡ Some c
      → client_command now.race.index now.race.object c ≡ Some given → History events p k c
      → History later p k (client_after now.race.index now.race.object now.race.tables c (respond given now.state).0)
  own client.Fresh given same at is h = read_known now.race.index now.race.tables _
  own (client.Prepared ready) given same at is h = start_known ready _
  own (client.Started place) given same at is h =
      subst (λ (g : Command). History later p k (client_after now.race.index now.race.object now.race.tables (client.Started place) (respond g now.state).0))
      (same_command (walk_command place) given is) (started_known place place.step refl at h)
  own (client.Branched past) given same at is h =
      let authorises = command.PolicyAuthorizeNv past.session past.index in
      subst (λ (g : Command). History later p k (client_after now.race.index now.race.object now.race.tables (client.Branched past) (respond g now.state).0))
      (same_command authorises given is) (branched_known past at h _ refl (fits_answer authorises now.state))
  own (client.Authorised past) given same at is h =
      subst (λ (g : Command). History later p k (client_after now.race.index now.race.object now.race.tables (client.Authorised past) (respond g now.state).0))
      (same_command (command.Unseal past.session now.race.object) given is) (unsealed_known past same at h _ refl)
  own (client.Closing session end) given same at is h = came_on events (event.Step k) p k end h
  own (client.Ended end) given same at is h = cc

-- ---- the object stays the same

object_by : (e : Event) (given : Option Command) (q : Playing) → (played_by e given q).race.object ≡ q.race.object
object_by e None q = refl
object_by (event.Step j) (Some given) q = refl
object_by (event.Stranger c) (Some given) q = refl
object_by (event.Update pin table root) (Some given) q = refl

pub object_kept : (events : List Event) (p : Playing) → (played events p).race.object ≡ p.race.object
object_kept [] p = refl
object_kept (e ∷ events) p = object_kept events (played_one e p) ∙ object_by e (race_command p.race e) p

-- ---- each event

abbrev Known : List Event → Playing → ℕ → List Client → Type 0
Known events p k clients = (c : Client) → slice_get clients k ≡ Some c → History events p k c

module _ (events : List Event) (p : Playing) (k : ℕ) (known : Known events p k (played events p).race.clients) where
  abbrev here : Playing
  here = played events p

  -- nothing happens to this client
  same_known : (e : Event) (clients : List Client) → slice_get clients k ≡ slice_get here.race.clients k → Known (events ++ e ∷ []) p k clients
  same_known e clients same c at = history_on events e p k c (known c (sym same ∙ at))

  -- a client that has this command takes a step
  put_known : (j : ℕ) (d : Client) (given : Command) → slice_get here.race.clients j ≡ Some d → client_command here.race.index here.race.object d ≡ Some given
      → (j ≡ k) ⊎ (j ≡ k → ⊥)
      → Known (events ++ event.Step j ∷ []) p k (set here.race.clients j (client_after here.race.index here.race.object here.race.tables d (respond given here.state).0))
  put_known j d given at is (inr apart) = same_known (event.Step j) _ (set_other here.race.clients j k _ apart)
  put_known j d given at is (inl same) =
      subst (λ (i : ℕ). Known (events ++ event.Step i ∷ []) p k (set here.race.clients i (client_after here.race.index here.race.object here.race.tables d (respond given here.state).0))) (sym same)
      (λ c put.
      let mine : slice_get here.race.clients k ≡ Some d = subst (λ (i : ℕ). slice_get here.race.clients i ≡ Some d) same at in
      let next = client_after here.race.index here.race.object here.race.tables d (respond given here.state).0 in
      subst (History (events ++ event.Step k ∷ []) p k) (same_client next c (sym (set_here here.race.clients k d next mine) ∙ put))
      (own events p k d given (object_kept events p) mine is (known d mine)))

  step_by : (j : ℕ) (o : Option Client) → slice_get here.race.clients j ≡ o → (given : Option Command) → command_in here.race.index here.race.object o ≡ given
      → Known (events ++ event.Step j ∷ []) p k (played_by (event.Step j) given here).race.clients
  step_by j o at None is = same_known (event.Step j) _ refl
  step_by j None at (Some given) is = cc
  step_by j (Some d) at (Some given) is =
      subst (Known (events ++ event.Step j ∷ []) p k) (sym (ap (λ o. clients_in here.race j o (respond given here.state).0) at)) (put_known j d given at is (cases_eq j k))

  one_known : (e : Event) → Known (events ++ e ∷ []) p k (played_one e here).race.clients
  one_known (event.Step j) = step_by j (slice_get here.race.clients j) refl (race_command here.race (event.Step j)) refl
  one_known (event.Stranger c) = same_known (event.Stranger c) _ refl
  one_known (event.Update pin table root) = same_known (event.Update pin table root) _ refl

-- ---- all events

all_known : (events rest : List Event) (p : Playing) (k : ℕ) → Known events p k (played events p).race.clients
    → Known (events ++ rest) p k (played (events ++ rest) p).race.clients
all_known events [] p k known = subst (λ (xs : List Event). Known xs p k (played xs p).race.clients) (sym (append-nil events)) known
all_known events (e ∷ rest) p k known =
    subst (λ (xs : List Event). Known xs p k (played xs p).race.clients) (append_assoc events (e ∷ []) rest)
    (all_known (events ++ e ∷ []) rest p k
    (subst (λ (q : Playing). Known (events ++ e ∷ []) p k q.race.clients) (sym (played_push events e p)) (one_known events p k known e)))

new_known : (p : Playing) (k : ℕ) → IsNew p.race → Known [] p k p.race.clients
new_known p k new c at = subst (History [] p k) (sym (all_at (λ (one : Client). one ≡ client.Fresh) p.race.clients k c new at)) tt

ended_known : (events : List Event) (p : Playing) (k : ℕ) (secret : List ℕ) (c : Client) → History events p k c → outcome_of c ≡ outcome.Key secret → HasUnsealed events p k secret
ended_known events p k secret client.Fresh h e = cc
ended_known events p k secret (client.Prepared ready) h e = cc
ended_known events p k secret (client.Started place) h e = cc
ended_known events p k secret (client.Branched past) h e = cc
ended_known events p k secret (client.Authorised past) h e = cc
ended_known events p k secret (client.Closing session end) h e = cc
ended_known events p k secret (client.Ended end) h e = subst (Came events p k) e h

found_known : (events : List Event) (p : Playing) (k : ℕ) (secret : List ℕ) (o : Option Client) → ((c : Client) → o ≡ Some c → History events p k c)
    → outcome_in o ≡ outcome.Key secret → HasUnsealed events p k secret
found_known events p k secret None known e = cc
found_known events p k secret (Some c) known e = ended_known events p k secret c (known c refl) e

-- a client of a new race that has a key was given it by these steps
pub key_steps : (events : List Event) (p : Playing) (k : ℕ) (secret : List ℕ) → IsNew p.race → race_outcome (played events p).race k ≡ outcome.Key secret → HasUnsealed events p k secret
key_steps events p k secret new e =
    found_known events p k secret (slice_get (played events p).race.clients k) (all_known [] events p k (new_known p k new)) e
