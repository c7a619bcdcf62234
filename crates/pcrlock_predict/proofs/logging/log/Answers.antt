use Rattle.std.proofs.Common.{◌≡◌, ◌∙◌, option_copied}
use Rattle.std.specs.Prelude.{Err}
use Rattle.pcrlock_line.specs.Machine.{Tells}
use Rattle.pcrlock_line.proofs.Composed.{if_err}
use Rattle.pcrlock_input.specs.declared.error.InputError.TheVariants as errors
use Rattle.pcrlock_predict.specs.Inputs.{inputs_of, plain_inputs}
use Rattle.pcrlock_predict.specs.Log.{logged_at}
use Rattle.pcrlock_predict.proofs.Ended.{files_read, gives_found}
use Rattle.pcrlock_predict.proofs.logging.log.Goals as goal

pub returns-in-Ok-clause-causes : goal.returns-in-Ok-clause-causes
returns-in-Ok-clause-causes g c =
    files_read (g.F.Files.faults c.args.files.now) (g.F.Files.faults c.read_inputs.new.files) (g.T.Tpm.faults c.args.tpm.now) (g.T.Tpm.faults c.log_from.new.tpm)
    (c.read_inputs.result ≡ Err errors.Failed) c.log_from.result c.read_inputs.ensures.cause c.log_from.ensures.causes

pub returns-in-Ok-clause-told : goal.returns-in-Ok-clause-told
returns-in-Ok-clause-told g c = λ words m tells.
    gives_found _ _ words m (inputs_of m.files (option_copied c.args.firmware) (option_copied c.args.user) c.args.folders.now) (plain_inputs c.in-Ok.inputs)
    (λ inputs. logged_at c.args.path.now c.args.bank inputs m.device) c.log_from.result
    (c.in-Ok.ensures.told m.files tells.files)
    (record { files = c.read_inputs.ensures.same ∙ tells.files; state = c.log_from.ensures.same m.device tells.state; draws = tells.draws })
    (c.log_from.ensures.told m.device tells.state)

pub returns-in-Ok-clause-stops : goal.returns-in-Ok-clause-stops
returns-in-Ok-clause-stops g c = λ words m tells.
    if_err (Tells (g.F.Files.held c.read_inputs.new.files) (g.T.Tpm.stored c.log_from.new.tpm) words m) c.log_from.result
    (record { files = c.read_inputs.ensures.same ∙ tells.files; state = c.log_from.ensures.same m.device tells.state; draws = tells.draws })
