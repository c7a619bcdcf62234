-- A play is a list of events of the world.
use Rattle.std.proofs.Common.{◌≡◌, ℕ, List, [], ◌∷◌, ◌++◌, map, refl, sym, ap, subst, ◌∙◌, append_assoc}
use Rattle.std.specs.Prelude.{Option, None, Some}
use Rattle.std.specs.List.{AllByRecursion}
use Rattle.race_core.specs.declared.event.Event.{Event as Played}
use Rattle.race_core.specs.declared.event.Event.TheVariants as played_event
use Rattle.race_core.specs.Playing.{Playing, played, played_by, played_one}
use Rattle.race_core.specs.Racing.{IsEvent, Racing, race_command}
use Rattle.tpm_model.specs.declared.command.Command.{Command}
use Rattle.tpm_model.specs.Events.{Event, command_of, world_after}
use Rattle.tpm_model.specs.Respond.{respond}
use Rattle.tpm_model.specs.World.{World}
use Rattle.tpm_worlds.specs.WholeEvents.{AreSoundEvents, IsSoundEvent}
use Rattle.race_newest.specs.Moments.{state_behind}
use Rattle.race_newest.specs.RaceEvents.{event_by, events_by, world_events}
use Rattle.race_newest.specs.Stillness.{AreStill, IsStill}
use Rattle.race_newest.proofs.Since.{AreQuiet}

same_command : (a b : Command) → Some a ≡ Some b → a ≡ b
same_command a b e = cc

-- the command is the event's
command_is : (race : Racing) (e : Played) (given : Command) → race_command race e ≡ Some given → command_of (event_by race e given) ≡ given
command_is race (played_event.Step number) given is = refl
command_is race (played_event.Stranger own) given is = refl
command_is race (played_event.Update pin table root) given is = same_command _ given is

-- ---- the state behind

state_by : (e : Played) (o : Option Command) (p : Playing) → race_command p.race e ≡ o → (rest : List Event)
    → state_behind (events_by p.race e o ++ rest) p.state ≡ state_behind rest (played_by e o p).state
state_by e None p is rest = refl
state_by e (Some given) p is rest = ap (λ (c : Command). state_behind rest (respond c p.state).1) (command_is p.race e given is)

pub played_state : (events : List Played) (p : Playing) → state_behind (world_events events p) p.state ≡ (played events p).state
played_state [] p = refl
played_state (e ∷ events) p = state_by e (race_command p.race e) p refl (world_events events (played_one e p)) ∙ played_state events (played_one e p)

-- ---- some events, and then others

pub played_append : (before behind : List Played) (p : Playing) → played (before ++ behind) p ≡ played behind (played before p)
played_append [] behind p = refl
played_append (e ∷ before) behind p = played_append before behind (played_one e p)

pub events_append : (before behind : List Played) (p : Playing) → world_events (before ++ behind) p ≡ world_events before p ++ world_events behind (played before p)
events_append [] behind p = refl
events_append (e ∷ before) behind p =
    ap (λ xs. events_by p.race e (race_command p.race e) ++ xs) (events_append before behind (played_one e p))
    ∙ sym (append_assoc (events_by p.race e (race_command p.race e)) (world_events before (played_one e p)) (world_events behind (played before (played_one e p))))

-- ---- they are sound

sound_one : (e : Played) (given : Command) (race : Racing) (clients : ℕ) (w : World) → IsEvent clients e → IsSoundEvent (event_by race e given) w
sound_one (played_event.Step number) given race clients w is = tt
sound_one (played_event.Stranger own) given race clients w is = tt
sound_one (played_event.Update pin table root) given race clients w is = record { table = table; valid = is.0; same = refl }

sound_by : (e : Played) (o : Option Command) (p : Playing) (w : World) (clients : ℕ) → race_command p.race e ≡ o → IsEvent clients e → (rest : List Event)
    → ((v : World) → AreSoundEvents rest (played_by e o p).state v) → AreSoundEvents (events_by p.race e o ++ rest) p.state w
sound_by e None p w clients is event rest sound = sound w
sound_by e (Some given) p w clients is event rest sound =
    let own = event_by p.race e given in (
      sound_one e given p.race clients w event,
      subst (λ (c : Command). AreSoundEvents rest (respond c p.state).1 (world_after own p.state w)) (sym (command_is p.race e given is)) (sound (world_after own p.state w)),
    )

pub sound_events : (events : List Played) (p : Playing) (w : World) (clients : ℕ) → AllByRecursion (IsEvent clients) events → AreSoundEvents (world_events events p) p.state w
sound_events [] p w clients all = tt
sound_events (e ∷ events) p w clients all =
    sound_by e (race_command p.race e) p w clients refl all.0 (world_events events (played_one e p)) (λ v. sound_events events (played_one e p) v clients all.1)

-- ---- where no command moves PCRs, no event does

still_by : (e : Played) (o : Option Command) (p : Playing) → race_command p.race e ≡ o → (rest : List Event)
    → AreQuiet (map command_of (events_by p.race e o ++ rest)) p.state → IsStill o p.state × AreQuiet (map command_of rest) (played_by e o p).state
still_by e None p is rest quiet = (tt, quiet)
still_by e (Some given) p is rest quiet =
    subst (λ (c : Command). IsStill (Some c) p.state × AreQuiet (map command_of rest) (respond c p.state).1) (command_is p.race e given is) (quiet.0, quiet.1)

pub still_from : (events : List Played) (p : Playing) → AreQuiet (map command_of (world_events events p)) p.state → AreStill events p
still_from [] p quiet = tt
still_from (e ∷ events) p quiet =
    let both = still_by e (race_command p.race e) p refl (world_events events (played_one e p)) quiet in
    (both.0, still_from events (played_one e p) both.1)
