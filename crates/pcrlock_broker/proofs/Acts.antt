-- `broker` comes to its act, and each of its commands keeps a tie.
use Rattle.std.proofs.Common.{ℕ, List}
use Rattle.std.specs.Prelude.{Result, Ok, Err}
use Rattle.tpm_model.specs.declared.command.Command.{Command}
use Rattle.tpm_model.specs.World.{World}
use Rattle.pcrlock_answer.specs.declared.answer.Answer.{Answer}
use Rattle.pcrlock_line.specs.Machine.{Live, Machine}
use Rattle.pcrlock_line.specs.Outcome.{Fine, refused_line}
use Rattle.pcrlock_deeds.specs.Acts.{IsAct, IsDone, IsSoundAct, act_outcome}
use Rattle.pcrlock_deeds.specs.Sound.{FileRule}
use Rattle.pcrlock_deeds.proofs.Done.{done_itself, sound_on, works_on}
use Rattle.pcrlock_exec.proofs.Acts.{sending_sound, sends_as}
use Rattle.pcrlock_broker.specs.Acts.{broker_act, serve_by, serving}
use Rattle.pcrlock_broker.specs.Broker.{answers_text, asked_line, broker_line, brokered, brokered_line, new_clients}
use Rattle.pcrlock_broker.specs.Input.{asked_at}

pub broker_is : (state commands : List ℕ) (count : ℕ) → IsAct (broker_line state commands count) state (broker_act commands count)
unfolding broker_act
broker_is state commands count m w = by (asked_at m.files commands count)
  where
    by : (read : Result (List (ℕ × Command)) Answer) → IsDone (asked_line state count read m) (act_outcome (serve_by count read) state m)
    by (Err why) = done_itself (refused_line why m)
    by (Ok list) = works_on (brokered_line count list) (serving count list) state m
        (λ live. sends_as (brokered count list live.state) (Fine (answers_text list (new_clients count) live.state)) live)

module _ (Files : FileRule) where
  pub broker_sound : (commands : List ℕ) (count : ℕ) (m : Machine) (w : World) → IsSoundAct Files (broker_act commands count m w) m w
  unfolding broker_act
  broker_sound commands count m w = by (asked_at m.files commands count)
    where
      by : (read : Result (List (ℕ × Command)) Answer) → IsSoundAct Files (serve_by count read) m w
      by (Err why) = tt
      by (Ok list) = sound_on Files (serving count list) m w
          (λ s e. let live : Live = record { files = m.files; state = s; draws = m.draws } in
          sending_sound Files (brokered count list s) (Fine (answers_text list (new_clients count) s)) live w)
