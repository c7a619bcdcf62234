-- `tpm-exec` comes to its act, and each of its commands keeps a tie.
use Rattle.std.proofs.Common.{◌≡◌, ℕ, List, [], ◌∷◌, ◌++◌, map, refl, sym, ap, subst}
use Rattle.std.specs.Prelude.{Contains, Result, Ok, Err}
use Rattle.hash_bank.specs.HashedString.{HashedString}
use Rattle.tpm_model.specs.declared.command.Command.{Command}
use Rattle.tpm_model.specs.Events.{Other, world_after}
use Rattle.tpm_model.specs.Respond.{respond}
use Rattle.tpm_model.specs.Strings.{command_strings}
use Rattle.tpm_model.specs.World.{World}
use Rattle.tpm_worlds.specs.CommandLists.{state_after}
use Rattle.pcrlock_answer.specs.declared.answer.Answer.{Answer}
use Rattle.pcrlock_line.specs.Machine.{Live, Machine, machine}
use Rattle.pcrlock_line.specs.Outcome.{Ending, Fine, refused_line}
use Rattle.pcrlock_deeds.specs.Acts.{IsAct, IsDone, IsSoundAct, SameStops, act_outcome, act_world}
use Rattle.pcrlock_deeds.specs.Doings.{after, ending, hashed, outcome, stops, world}
use Rattle.pcrlock_deeds.specs.Sound.{FileRule, IsSound}
use Rattle.pcrlock_deeds.specs.Steps.{sent_live}
use Rattle.pcrlock_deeds.proofs.Done.{done_itself, sound_on, works_on, world_on}
use Rattle.pcrlock_exec.specs.Acts.{exec_act, exec_by, executing, sending}
use Rattle.pcrlock_exec.specs.Exec.{at_state, exec_outcome, exec_states, exec_strings, exec_text, exec_world, executed_line, tpm_exec_line}
use Rattle.pcrlock_exec.specs.Input.{commands_at}
use Rattle.pcrlock_exec.specs.Worlds.{read_world, tpm_exec_world}

sent_ending : (commands : List Command) (last : Ending) (m : Live) → ending (sending commands last) m ≡ last
sent_ending [] last m = refl
sent_ending (c ∷ commands) last m = sent_ending commands last (sent_live (Other c) m)

sent_after : (commands : List Command) (last : Ending) (m : Live) → machine (after (sending commands last) m) ≡ at_state m (state_after commands m.state)
sent_after [] last m = refl
sent_after (c ∷ commands) last m = sent_after commands last (sent_live (Other c) m)

sent_hashed : (commands : List Command) (last : Ending) (m : Live) → hashed (sending commands last) m ≡ exec_strings commands m.state
sent_hashed [] last m = refl
sent_hashed (c ∷ commands) last m = ap (λ more. command_strings c m.state ++ more) (sent_hashed commands last (sent_live (Other c) m))

sent_stops : (commands : List Command) (last : Ending) (m : Live) → stops (sending commands last) m ≡ map (at_state m) (exec_states commands m.state)
sent_stops [] last m = refl
sent_stops (c ∷ commands) last m = ap (λ more. machine m ∷ more) (sent_stops commands last (sent_live (Other c) m))

pub sent_world : (commands : List Command) (last : Ending) (m : Live) (w : World) → world (sending commands last) m w ≡ exec_world commands m.state w
sent_world [] last m w = refl
sent_world (c ∷ commands) last m w = sent_world commands last (sent_live (Other c) m) (world_after (Other c) m.state w)

-- the commands are executed, with this end
pub sends_as : (commands : List Command) (last : Ending) (m : Live) → IsDone (record (executed_line commands m) { ending = last }) (outcome (sending commands last) m)
sends_as commands last m = record {
  ending = sym (sent_ending commands last m);
  after = sym (sent_after commands last m);
  stops = subst (λ more. SameStops (executed_line commands m).stops more) (sym (sent_stops commands last m)) (done_itself (executed_line commands m)).stops;
  hashed = λ x h. subst (λ (strings : List HashedString). Contains strings x) (sym (sent_hashed commands last m)) h;
}

pub exec_is : (state commands : List ℕ) → IsAct (tpm_exec_line state commands) state (exec_act commands)
unfolding exec_act
exec_is state commands m w = by (commands_at m.files commands)
  where
    by : (read : Result (List Command) Answer) → IsDone (exec_outcome state read m) (act_outcome (exec_by read) state m)
    by (Err why) = done_itself (refused_line why m)
    by (Ok list) = works_on (executed_line list) (executing list) state m (λ live. sends_as list (Fine (exec_text list live.state)) live)

-- the world is the one after the commands
pub exec_world_is : (commands : List ℕ) (m : Machine) (w : World) → act_world (exec_act commands m w) m w ≡ tpm_exec_world commands m w
unfolding exec_act
exec_world_is commands m w = by (commands_at m.files commands)
  where
    by : (read : Result (List Command) Answer) → act_world (exec_by read) m w ≡ read_world read m w
    by (Err why) = refl
    by (Ok list) = world_on (executing list) (λ live v. exec_world list live.state v) m w
        (λ s e. sent_world list (Fine (exec_text list s)) (record { files = m.files; state = s; draws = m.draws }) w)

module _ (Files : FileRule) where
  pub sending_sound : (commands : List Command) (last : Ending) (m : Live) (w : World) → IsSound Files (sending commands last) m w
  sending_sound [] last m w = tt
  sending_sound (c ∷ commands) last m w = (tt, sending_sound commands last (sent_live (Other c) m) (world_after (Other c) m.state w))

  pub exec_sound : (commands : List ℕ) (m : Machine) (w : World) → IsSoundAct Files (exec_act commands m w) m w
  unfolding exec_act
  exec_sound commands m w = by (commands_at m.files commands)
    where
      by : (read : Result (List Command) Answer) → IsSoundAct Files (exec_by read) m w
      by (Err why) = tt
      by (Ok list) = sound_on Files (executing list) m w (λ s e. sending_sound list (Fine (exec_text list s)) (record { files = m.files; state = s; draws = m.draws }) w)
