-- Each Unseal of a list of events opens by what the object is bound to.
use Rattle.std.proofs.Common.{◌≡◌, ℕ, List, [], ◌∷◌, ◌++◌, sym, ap, subst, ◌∙◌, Contains}
use Rattle.std.specs.Prelude.{None, Some}
use Rattle.std.specs.FinMap.{get}
use Rattle.std.specs.List.{AllByRecursion}
use Rattle.std.proofs.lemmas.List.Elements.{Contains-append_left}
use Rattle.hash_bank.specs.declared.bank.Bank.{Bank}
use Rattle.hash_bank.specs.declared.bank.Bank.TheVariants.{Sha256}
use Rattle.nv_index.proofs.Lists.{all_at}
use Rattle.policy_digest.specs.PlainTable.{root_of}
use Rattle.tpm_model.specs.declared.object.Object.{Object}
use Rattle.tpm_model.specs.declared.parts.Parts.{Parts}
use Rattle.tpm_model.specs.declared.response.Response.TheVariants as answer
use Rattle.tpm_model.specs.declared.sessions.Session.{Session}
use Rattle.tpm_model.specs.declared.trail.TrailEntry.{TrailEntry}
use Rattle.tpm_model.specs.declared.trail.TrailEntry.TheVariants.{AuthorizeNv}
use Rattle.tpm_model.specs.Binding.{Index}
use Rattle.tpm_model.specs.Events.{Clean, Event, command_of, world_after}
use Rattle.tpm_model.specs.ObjectCommands.{unseal}
use Rattle.tpm_model.specs.Opening.{Open}
use Rattle.tpm_model.specs.Orderly.{Orderly}
use Rattle.tpm_model.specs.Respond.{respond}
use Rattle.tpm_model.specs.Rules.{HasRules}
use Rattle.tpm_model.specs.SessionCommands.{noted_before}
use Rattle.tpm_model.specs.Sessions.{session_place}
use Rattle.tpm_model.specs.Tied.{IsHeld}
use Rattle.tpm_model.specs.World.{World}
use Rattle.tpm_model.proofs.FromRules.{orderly_from}
use Rattle.tpm_walks.proofs.Tied.{valid_rows}
use Rattle.tpm_worlds.specs.EventLists.{AreFair, Safe, world_after_all}
use Rattle.tpm_worlds.specs.SteadySessions.{HasReads, IsGood, SeesNow, SteadySessions}
use Rattle.tpm_worlds.specs.WholeEvents.{AreSoundEvents, FullTie, OwnTie}
use Rattle.tpm_worlds.proofs.Cases.{by_unseal}
use Rattle.tpm_worlds.proofs.EachUnseal.{each_opens as each_by_value, safe_before, same_object}
use Rattle.tpm_worlds.proofs.Members.{member}
use Rattle.tpm_worlds.proofs.OrderlyAfter.{orderly_after}
use Rattle.tpm_worlds.proofs.Sessions.{saw_so_far}
use Rattle.tpm_worlds.proofs.WholeAfter.{fair_from, sessions_after, sessions_from}
use Rattle.tpm_worlds.proofs.WholeLists.{clean_before, grows_events, own_next}
use Rattle.tpm_unseals.specs.ByPolicy.{EachOpens, EachOpensByPolicy, IsAuthorized, IsOpenedByPolicy, OpensByPolicy, written_name}
use Rattle.tpm_unseals.proofs.Authorized.{sha256, session_authorized}
use Rattle.tpm_unseals.proofs.Opens.{walk_opens}

module _ (s : Parts) (w : World) (own : OwnTie s w) (sessions : SteadySessions s w) (clean : Clean w) (safe : Safe w) where
  -- a session that was authorized, and noted no other counter, saw its table open
  still_open : (x : Session) (index : ℕ) (pin : List ℕ) → IsGood s w x → x.hash ≡ Sha256 → noted_before x.noted s.update_counter ≡ None → (by : IsAuthorized w x.trail index pin)
      → Open by.update.table s.banks s.pcrs
  still_open x index pin good same free by =
      let entry = AuthorizeNv (written_name index pin) (root_of by.update.table) by.update.number in
      let all : AllByRecursion (SeesNow s w Sha256) x.trail = subst (λ (h : Bank). AllByRecursion (SeesNow s w h) x.trail) same (saw_so_far s w x good free) in
      let saw = λ (e : TrailEntry) (at : Contains by.walk e). member (SeesNow s w Sha256) (by.walk ++ entry ∷ []) e (subst (AllByRecursion (SeesNow s w Sha256)) by.authorized all)
      (Contains-append_left by.walk (entry ∷ []) e at) in
      walk_opens s w safe by.walk saw by.update.table (own.base.updates by.update by.wrote) (valid_rows by.update.table (own.indices.updates by.update by.wrote).table) by.walks

  one_unseal : (session handle index : ℕ) (answered secret pin : List ℕ) → (unseal session handle s).0 ≡ answer.Secret answered
      → get w.objects handle ≡ Some (record { secret = secret; binding = Index index pin }) → IsOpenedByPolicy s w session index pin secret answered
  one_unseal session handle index answered secret pin told bound =
      by_unseal (λ r. r.0 ≡ answer.Secret answered → IsOpenedByPolicy s w session index pin secret answered) session handle s
      (λ _ e. cc)
      (λ x object at found free policy e.
      let held : IsHeld s w handle (record { secret = secret; binding = Index index pin }) = own.base.objects handle (record { secret = secret; binding = Index index pin }) bound in
      let range = own.ranges handle (record { secret = secret; binding = Index index pin }) bound in
      let same : object ≡ held.object = same_object object held.object (sym found ∙ held.found) in
      let bytes : object.secret ≡ answered = cc in
      let digest = policy ∙ ap (λ (o : Object). o.policy) same ∙ held.policy in
      let good : IsGood s w x = all_at (IsGood s w) s.sessions (session_place session s.sessions) x sessions.good at in
      let reads : HasReads w x = all_at (HasReads w) s.sessions (session_place session s.sessions) x sessions.reads at in
      let by = session_authorized s w index pin own safe clean range held.sound held.strings x good reads digest in
      record {
        bytes = sym bytes ∙ ap (λ (o : Object). o.secret) same ∙ held.secret;
        asked = x;
        found = at;
        by = by;
        opens = still_open x index pin good (sha256 s w index pin own safe clean range held.sound held.strings x good digest) free by;
      })
      told

  opens : (event : Event) → OpensByPolicy event s w
  opens event = λ session handle index answered secret pin is told bound.
      one_unseal session handle index answered secret pin (sym (ap (λ c. (respond c s).0) is) ∙ told) bound

each_opens : (events : List Event) (s : Parts) (w : World) → Orderly s → OwnTie s w → SteadySessions s w → AreSoundEvents events s w
    → Clean (world_after_all events s w) → Safe (world_after_all events s w) → EachOpensByPolicy events s w
each_opens [] s w orderly own sessions sound clean safe = tt
each_opens (event ∷ events) s w orderly own sessions sound clean safe =
    let whole = grows_events (event ∷ events) s w in
    let last = world_after_all (event ∷ events) s w in
    let next = world_after event s w in (
      opens s w own sessions (clean_before w last whole clean) (safe_before w last whole.strings safe) event,
      each_opens events (respond (command_of event) s).1 next (orderly_after (command_of event) s orderly) (own_next event events s w orderly sound.0 own clean safe)
          (sessions_after event s w orderly own.known own.indices sessions) sound.1 clean safe,
    )

are_fair : (events : List Event) (s : Parts) (w : World) → AreSoundEvents events s w → AreFair events s w
are_fair [] s w sound = tt
are_fair (event ∷ events) s w sound = (fair_from event w sound.0, are_fair events (respond (command_of event) s).1 (world_after event s w) sound.1)

-- from every orderly state and every world that hangs together with it
pub each_unseal : (events : List Event) (s : Parts) (w : World) → Orderly s → OwnTie s w → SteadySessions s w → AreSoundEvents events s w
    → Clean (world_after_all events s w) → Safe (world_after_all events s w) → EachOpens events s w
each_unseal events s w orderly own sessions sound clean safe = record {
  values = each_by_value events s w (record { values = orderly.values; order = orderly.objects; tied = own.base; sessions = sessions.good; filed = own.filed }) (are_fair events s w sound) safe;
  policies = each_opens events s w orderly own sessions sound clean safe;
}

-- from a state with the rules
pub each_unseal_ruled : (events : List Event) (s : Parts) (w : World) → HasRules s → FullTie s w → AreSoundEvents events s w
    → Clean (world_after_all events s w) → Safe (world_after_all events s w) → EachOpens events s w
each_unseal_ruled events s w rules tie sound clean safe = each_unseal events s w (orderly_from s rules) tie.own (sessions_from s w rules tie.sessions) sound clean safe
