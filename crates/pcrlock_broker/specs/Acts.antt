-- `broker` as an act.
use Rattle.std.specs.Prelude.{ℕ, List, Result, Ok, Err}
use Rattle.tpm_model.specs.declared.command.Command.{Command}
use Rattle.tpm_model.specs.World.{World}
use Rattle.pcrlock_answer.specs.declared.answer.Answer.{Answer}
use Rattle.pcrlock_line.specs.Machine.{Live, Machine}
use Rattle.pcrlock_line.specs.Outcome.{Fine, Refused}
use Rattle.pcrlock_deeds.specs.Acts.{Act, says, works}
use Rattle.pcrlock_deeds.specs.Deed.{Deed, sees}
use Rattle.pcrlock_exec.specs.Acts.{sending}
use Rattle.pcrlock_broker.specs.Broker.{answers_text, brokered, new_clients}
use Rattle.pcrlock_broker.specs.Input.{asked_at}

-- what the TPM gets goes to it as commands of anyone, and the clients' answers are printed
abbrev pub serving : ℕ → List (ℕ × Command) → Deed
serving count list = sees (λ (m : Live). sending (brokered count list m.state) (Fine (answers_text list (new_clients count) m.state)))

-- by what reading the file of commands gave
abbrev pub serve_by : ℕ → Result (List (ℕ × Command)) Answer → Act
serve_by count (Err why) = says (Refused why)
serve_by count (Ok list) = works (serving count list)

-- `broker`
unfoldable pub broker_act : List ℕ → ℕ → Machine → World → Act
broker_act commands count m w = serve_by count (asked_at m.files commands count)
