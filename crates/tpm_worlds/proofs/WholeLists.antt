-- A list of events leaves the state and the world hanging together in all parts.
use Rattle.std.proofs.Common.{◌≡◌, ℕ, List, [], ◌∷◌, map, sym, ◌∙◌, arith}
use Rattle.std.specs.Prelude.{None, Some}
use Rattle.std.specs.FinMap.{get-empty}
use Rattle.std.specs.Ordering.{nat_cmp}
use Rattle.std.proofs.lemmas.List.Elements.{Contains-append_left}
use Rattle.hash_bank.specs.declared.banks.Banks.{Banks}
use Rattle.tpm_model.specs.declared.command.Command.{Command}
use Rattle.tpm_model.specs.declared.parts.Parts.{Parts}
use Rattle.tpm_model.specs.Events.{Clean, Event, Other, command_of, event_strings, world_after}
use Rattle.tpm_model.specs.Fresh.{fresh_parts}
use Rattle.tpm_model.specs.Orderly.{Orderly}
use Rattle.tpm_model.specs.Respond.{respond}
use Rattle.tpm_model.specs.Rules.{HasRules}
use Rattle.tpm_model.specs.WholeTie.{IsLive}
use Rattle.tpm_model.specs.World.{BoundObject, LiveIndex, World, hashed_world}
use Rattle.tpm_worlds.specs.CommandLists.{state_after}
use Rattle.tpm_worlds.specs.EventLists.{Safe, world_after_all}
use Rattle.tpm_worlds.specs.FreshWorld.{fresh_world}
use Rattle.tpm_worlds.specs.WholeEvents.{AreSoundEvents, FullTie, IsSoundEvent, OwnTie}
use Rattle.tpm_model.proofs.FromRules.{orderly_from}
use Rattle.tpm_worlds.proofs.EachUnseal.{safe_before}
use Rattle.tpm_worlds.proofs.Fresh.{fresh_tied}
use Rattle.tpm_worlds.proofs.OrderlyAfter.{orderly_after}
use Rattle.tpm_worlds.proofs.TrailReads.{GrowsAll}
use Rattle.tpm_worlds.proofs.WholeAfter.{SteadySessions, grows_accepted, own_after, sessions_after, sessions_from, tied_sessions}

-- what grew twice grew
pub joined : (u v w : World) → GrowsAll u v → GrowsAll v w → GrowsAll u w
joined u v w a b = record {
  strings = λ x k. b.strings x (a.strings x k);
  pins = λ x k. b.pins x (a.pins x k);
  strange = λ x k. b.strange x (a.strange x k);
  writes = λ x k. b.writes x (a.writes x k);
}

-- nothing of this is lost at an event, nor over a list
pub grows_event : (event : Event) (s : Parts) (w : World) → GrowsAll w (world_after event s w)
grows_event event s w =
    let more = event_strings event s in
    let r = respond (command_of event) s in
    let v = hashed_world more w in
    joined w v (world_after event s w) (record { strings = λ x k. Contains-append_left w.hashed more x k; pins = λ _ k. k; strange = λ _ k. k; writes = λ _ k. k })
    (grows_accepted event r.0 r.1 v)

pub grows_events : (events : List Event) (s : Parts) (w : World) → GrowsAll w (world_after_all events s w)
grows_events [] s w = record { strings = λ _ k. k; pins = λ _ k. k; strange = λ _ k. k; writes = λ _ k. k }
grows_events (event ∷ events) s w =
    joined w (world_after event s w) (world_after_all events (respond (command_of event) s).1 (world_after event s w)) (grows_event event s w)
    (grows_events events (respond (command_of event) s).1 (world_after event s w))

pub clean_before : (w v : World) → GrowsAll w v → Clean v → Clean w
clean_before w v grows clean = λ pin ours foreign. clean pin (grows.pins pin ours) (grows.strange pin foreign)

-- after a list of events the state is orderly
pub orderly_after_all : (commands : List Command) (s : Parts) → Orderly s → Orderly (state_after commands s)
orderly_after_all [] s orderly = orderly
orderly_after_all (c ∷ commands) s orderly = orderly_after_all commands (respond c s).1 (orderly_after c s orderly)

-- what an event leaves, from what is known after all
module _ (event : Event) (events : List Event) (s : Parts) (w : World) (orderly : Orderly s) (sound : IsSoundEvent event w) (own : OwnTie s w)
    (clean : Clean (world_after_all (event ∷ events) s w)) (safe : Safe (world_after_all (event ∷ events) s w)) where
  pub own_next : OwnTie (respond (command_of event) s).1 (world_after event s w)
  own_next =
      let t = (respond (command_of event) s).1 in
      let v = world_after event s w in
      let grows = grows_events events t v in
      own_after event s w orderly sound own (clean_before v (world_after_all events t v) grows clean) (safe_before v (world_after_all events t v) grows.strings safe)

-- the tie of all that sessions don't touch, after a list of events
pub own_after_all : (events : List Event) (s : Parts) (w : World) → Orderly s → AreSoundEvents events s w → OwnTie s w
    → Clean (world_after_all events s w) → Safe (world_after_all events s w) → OwnTie (state_after (map command_of events) s) (world_after_all events s w)
own_after_all [] s w orderly sound own clean safe = own
own_after_all (event ∷ events) s w orderly sound own clean safe =
    own_after_all events (respond (command_of event) s).1 (world_after event s w) (orderly_after (command_of event) s orderly) sound.1
    (own_next event events s w orderly sound.0 own clean safe) clean safe

-- and what is kept of sessions
pub sessions_after_all : (events : List Event) (s : Parts) (w : World) → Orderly s → AreSoundEvents events s w → OwnTie s w → SteadySessions s w
    → Clean (world_after_all events s w) → Safe (world_after_all events s w) → SteadySessions (state_after (map command_of events) s) (world_after_all events s w)
sessions_after_all [] s w orderly sound own sessions clean safe = sessions
sessions_after_all (event ∷ events) s w orderly sound own sessions clean safe =
    sessions_after_all events (respond (command_of event) s).1 (world_after event s w) (orderly_after (command_of event) s orderly) sound.1
    (own_next event events s w orderly sound.0 own clean safe) (sessions_after event s w orderly own.known own.indices sessions) clean safe

-- the full tie, from a state with the rules
pub full_after_all : (events : List Event) (s : Parts) (w : World) → HasRules s → AreSoundEvents events s w → FullTie s w
    → Clean (world_after_all events s w) → Safe (world_after_all events s w) → FullTie (state_after (map command_of events) s) (world_after_all events s w)
full_after_all events s w rules sound tie clean safe =
    let orderly = orderly_from s rules in
    record {
      own = own_after_all events s w orderly sound tie.own clean safe;
      sessions = tied_sessions (state_after (map command_of events) s) (world_after_all events s w)
          (sessions_after_all events s w orderly sound tie.own (sessions_from s w rules tie.sessions) clean safe);
    }

-- a TPM that was never used hangs together with the world in which nobody has done anything
pub fresh_full : (banks : Banks) → FullTie (fresh_parts banks) (fresh_world banks)
fresh_full banks = record {
  own = record {
    base = (fresh_tied banks).base;
    indices = record {
      live = λ handle live. ((λ e. absurd (nothing_live live (sym (get-empty nat_cmp handle) ∙ e))), λ l. absurd (no_index l));
      roots = λ handle live e. absurd (nothing_live live (sym (get-empty nat_cmp handle) ∙ e));
      updates = λ update k. absurd (omega (arith, k.1));
      others = λ x written k was. absurd (omega (arith, k.1));
    };
    filed = tt;
    known = λ update k. absurd (omega (arith, k.1));
    ranges = λ handle bound e. absurd (nothing_bound bound (sym (get-empty nat_cmp handle) ∙ e));
  };
  sessions = tt;
}
  where
    nothing_bound : (bound : BoundObject) → None ≡ Some bound → ⊥
    nothing_bound bound e = cc

    nothing_live : (live : LiveIndex) → None ≡ Some live → ⊥
    nothing_live live e = cc

    no_index : {handle : ℕ} {live : LiveIndex} → IsLive (fresh_parts banks) (fresh_world banks) handle live → ⊥
    no_index l = let e = l.found in cc

-- nothing is asked of commands of anyone
pub others_sound : (commands : List Command) (s : Parts) (w : World) → AreSoundEvents (map Other commands) s w
others_sound [] s w = tt
others_sound (c ∷ commands) s w = (tt, others_sound commands (respond c s).1 (world_after (Other c) s w))
