use Rattle.std.proofs.Common.{List, ap, subst, sym, ◌∙◌}
use Rattle.std.specs.Prelude.{Result, Ok, IfErr}
use Rattle.tpm_model.specs.declared.command.Command.{Command}
use Rattle.pcrlock_answer.specs.declared.answer.Answer.{Answer}
use Rattle.pcrlock_line.specs.Stopped.{StandsAmong}
use Rattle.pcrlock_line.proofs.Devices.{stands}
use Rattle.pcrlock_exec.specs.Exec.{exec_outcome}
use Rattle.pcrlock_exec.specs.Input.{commands_at, input_found}
use Rattle.pcrlock_exec.proofs.Stands.{read_causes, stands_unread, unread_causes}
use Rattle.pcrlock_exec.proofs.Kept.{exec_hashed, exec_kept}
use Rattle.pcrlock_exec.proofs.Steps.{each_opens, opens_by_value, sealed_after_all}
use Rattle.pcrlock_exec.proofs.exec.tpm_exec.Goals as goal

pub returns-in-Ok-Commands-clause-causes : goal.returns-in-Ok-Commands-clause-causes
returns-in-Ok-Commands-clause-causes g c =
    read_causes (g.F.Files.faults c.args.files.now) (g.F.Files.faults c.find_commands.new.files) (g.T.Tpm.faults c.args.tpm.now) (g.T.Tpm.faults c.exec.new.tpm)
    c.find_commands.result c.exec.result c.find_commands.ensures.causes c.exec.ensures.causes

pub returns-in-Ok-Commands-clause-stops : goal.returns-in-Ok-Commands-clause-stops
returns-in-Ok-Commands-clause-stops g c = λ words m tells.
    subst (λ (r : Result (List Command) Answer). IfErr c.exec.result (λ _. StandsAmong (g.F.Files.held c.find_commands.new.files) (g.T.Tpm.stored c.exec.new.tpm) (exec_outcome c.args.path.now r m).stops))
    (ap Ok c.as_slice.ensures ∙ ap input_found (sym c.in-Ok-Commands.field-0-is) ∙ c.in-Ok-Commands.ensures.told m.files tells.files)
    (c.exec.ensures.stops (g.F.Files.held c.find_commands.new.files) words m (record { files = c.find_commands.ensures.same ∙ tells.files; state = tells.state; draws = tells.draws }))

pub returns-in-Err-clause-causes : goal.returns-in-Err-clause-causes
returns-in-Err-clause-causes g c =
    unread_causes (g.F.Files.faults c.args.files.now) (g.F.Files.faults c.find_commands.new.files) (g.T.Tpm.faults c.args.tpm.now) c.find_commands.result c.in-Err.stop
    c.find_commands.ensures.causes c.in-Err.is

pub returns-in-Err-clause-stops : goal.returns-in-Err-clause-stops
returns-in-Err-clause-stops g c = λ words m tells.
    stands_unread (g.F.Files.held c.find_commands.new.files) _ c.args.path.now m (commands_at m.files c.args.commands.now)
    (stands (g.F.Files.held c.find_commands.new.files) _ words m (record { files = c.find_commands.ensures.same ∙ tells.files; state = tells.state; draws = tells.draws }))

pub returns-in-Ok-Commands-clause-tied : goal.returns-in-Ok-Commands-clause-tied
returns-in-Ok-Commands-clause-tied g c = λ m w tie. exec_kept c.args.path.now c.args.commands.now m w tie

pub returns-in-Ok-Commands-clause-hashed : goal.returns-in-Ok-Commands-clause-hashed
returns-in-Ok-Commands-clause-hashed g c = λ list s w. exec_hashed list s w

pub returns-in-Ok-Commands-clause-sealed : goal.returns-in-Ok-Commands-clause-sealed
returns-in-Ok-Commands-clause-sealed g c = λ list s w rules tie. sealed_after_all list s w rules tie

pub returns-in-Ok-Commands-clause-unseals : goal.returns-in-Ok-Commands-clause-unseals
returns-in-Ok-Commands-clause-unseals g c = λ list s w rules tie safe. opens_by_value list s w rules tie safe

pub returns-in-Ok-Refused-clause-tied : goal.returns-in-Ok-Refused-clause-tied
returns-in-Ok-Refused-clause-tied g c = λ m w tie. exec_kept c.args.path.now c.args.commands.now m w tie

pub returns-in-Ok-Refused-clause-hashed : goal.returns-in-Ok-Refused-clause-hashed
returns-in-Ok-Refused-clause-hashed g c = λ list s w. exec_hashed list s w

pub returns-in-Ok-Refused-clause-sealed : goal.returns-in-Ok-Refused-clause-sealed
returns-in-Ok-Refused-clause-sealed g c = λ list s w rules tie. sealed_after_all list s w rules tie

pub returns-in-Ok-Refused-clause-unseals : goal.returns-in-Ok-Refused-clause-unseals
returns-in-Ok-Refused-clause-unseals g c = λ list s w rules tie safe. opens_by_value list s w rules tie safe

pub returns-in-Err-clause-tied : goal.returns-in-Err-clause-tied
returns-in-Err-clause-tied g c = λ m w tie. exec_kept c.args.path.now c.args.commands.now m w tie

pub returns-in-Err-clause-hashed : goal.returns-in-Err-clause-hashed
returns-in-Err-clause-hashed g c = λ list s w. exec_hashed list s w

pub returns-in-Err-clause-sealed : goal.returns-in-Err-clause-sealed
returns-in-Err-clause-sealed g c = λ list s w rules tie. sealed_after_all list s w rules tie

pub returns-in-Err-clause-unseals : goal.returns-in-Err-clause-unseals
returns-in-Err-clause-unseals g c = λ list s w rules tie safe. opens_by_value list s w rules tie safe

pub returns-in-Ok-Commands-clause-opens : goal.returns-in-Ok-Commands-clause-opens
returns-in-Ok-Commands-clause-opens g c = λ list s w orderly own sessions clean safe. each_opens list s w orderly own sessions clean safe

pub returns-in-Ok-Refused-clause-opens : goal.returns-in-Ok-Refused-clause-opens
returns-in-Ok-Refused-clause-opens g c = λ list s w orderly own sessions clean safe. each_opens list s w orderly own sessions clean safe

pub returns-in-Err-clause-opens : goal.returns-in-Err-clause-opens
returns-in-Err-clause-opens g c = λ list s w orderly own sessions clean safe. each_opens list s w orderly own sessions clean safe
