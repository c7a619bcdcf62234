use Rattle.std.proofs.Common.{ℕ, List, ap, subst, sym, ◌∙◌, ◌≡◌}
use Rattle.std.specs.Prelude.{◌<◌, All, Result, Ok, IfErr}
use Rattle.tpm_model.specs.declared.command.Command.{Command}
use Rattle.pcrlock_answer.specs.declared.answer.Answer.{Answer}
use Rattle.pcrlock_line.specs.Stopped.{StandsAmong}
use Rattle.pcrlock_line.proofs.Devices.{stands}
use Rattle.pcrlock_exec.proofs.Stands.{read_causes, unread_causes}
use Rattle.pcrlock_broker.specs.Broker.{asked_line}
use Rattle.pcrlock_broker.specs.Input.{AreOfClients, asked_at, asked_found}
use Rattle.pcrlock_broker.proofs.Stands.{stands_unread}
use Rattle.pcrlock_broker.proofs.brokering.broker.Goals as goal

pub returns-in-Ok-Commands-clause-causes : goal.returns-in-Ok-Commands-clause-causes
returns-in-Ok-Commands-clause-causes g c =
    read_causes (g.F.Files.faults c.args.files.now) (g.F.Files.faults c.find_asked.new.files) (g.T.Tpm.faults c.args.tpm.now) (g.T.Tpm.faults c.broker_on.new.tpm)
    c.find_asked.result c.broker_on.result c.find_asked.ensures.causes c.broker_on.ensures.causes

pub returns-in-Ok-Commands-clause-stops : goal.returns-in-Ok-Commands-clause-stops
returns-in-Ok-Commands-clause-stops g c = λ words m tells.
    subst (λ (r : Result (List (ℕ × Command)) Answer). IfErr c.broker_on.result (λ _. StandsAmong (g.F.Files.held c.find_asked.new.files) (g.T.Tpm.stored c.broker_on.new.tpm) (asked_line c.args.path.now c.args.clients r m).stops))
    (ap Ok c.as_slice.ensures ∙ ap asked_found (sym c.in-Ok-Commands.field-0-is) ∙ c.in-Ok-Commands.ensures.told m.files tells.files)
    (c.broker_on.ensures.stops (g.F.Files.held c.find_asked.new.files) words m (record { files = c.find_asked.ensures.same ∙ tells.files; state = tells.state; draws = tells.draws }))

pub returns-in-Err-clause-causes : goal.returns-in-Err-clause-causes
returns-in-Err-clause-causes g c =
    unread_causes (g.F.Files.faults c.args.files.now) (g.F.Files.faults c.find_asked.new.files) (g.T.Tpm.faults c.args.tpm.now) c.find_asked.result c.in-Err.stop
    c.find_asked.ensures.causes c.in-Err.is

pub returns-in-Err-clause-stops : goal.returns-in-Err-clause-stops
returns-in-Err-clause-stops g c = λ words m tells.
    stands_unread (g.F.Files.held c.find_asked.new.files) _ c.args.path.now m c.args.clients (asked_at m.files c.args.commands.now c.args.clients)
    (stands (g.F.Files.held c.find_asked.new.files) _ words m (record { files = c.find_asked.ensures.same ∙ tells.files; state = tells.state; draws = tells.draws }))

pub broker_on-requires-clause-numbers : goal.broker_on-requires-clause-numbers
broker_on-requires-clause-numbers g c =
    subst (All (λ (one : ℕ × Command). one.0 < c.args.clients)) (sym c.as_slice.ensures) (subst (AreOfClients c.args.clients) c.in-Ok-Commands.field-0-is c.in-Ok-Commands.ensures.numbers)
