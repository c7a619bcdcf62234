use Rattle.std.proofs.Common.{sym, ◌∙◌, subst}
use Rattle.std.specs.Prelude.{◌≡◌, Result, Err, IfErr}
use Rattle.pcrlock_answer.specs.declared.answer.Answer.{Answer}
use Rattle.pcrlock_line.specs.Stopped.{StandsAmong}
use Rattle.pcrlock_input.specs.Logs.{PlainLogs}
use Rattle.pcrlock_tpm.specs.Boot.{boot_outcome}
use Rattle.pcrlock_input.specs.declared.error.InputError.TheVariants as errors
use Rattle.pcrlock_tpm.proofs.Boots.{boot_tied, files_read}
use Rattle.pcrlock_tpm.proofs.boot.tpm_boot.Goals as goal

pub returns-in-Ok-clause-causes : goal.returns-in-Ok-clause-causes
returns-in-Ok-clause-causes g c =
    files_read (g.F.Files.faults c.args.files.now) (g.F.Files.faults c.read_logs.new.files) (g.T.Tpm.faults c.args.tpm.now) (g.T.Tpm.faults c.boot.new.tpm)
    (c.read_logs.result ≡ Err errors.Failed) c.boot.result c.read_logs.ensures.cause c.boot.ensures.causes

pub returns-in-Ok-clause-stops : goal.returns-in-Ok-clause-stops
returns-in-Ok-clause-stops g c = λ words m tells.
    subst (λ (r : Result PlainLogs Answer). IfErr c.boot.result (λ _. StandsAmong (g.F.Files.held c.read_logs.new.files) (g.T.Tpm.stored c.boot.new.tpm) (boot_outcome c.args.path.now c.args.locality c.args.banks r m).stops))
    (sym (c.in-Ok.ensures.told m.files tells.files))
    (c.boot.ensures.stops (g.F.Files.held c.read_logs.new.files) words m (record { files = c.read_logs.ensures.same ∙ tells.files; state = tells.state; draws = tells.draws }))

pub returns-in-Ok-clause-tied : goal.returns-in-Ok-clause-tied
returns-in-Ok-clause-tied g c = λ logs s w tie. boot_tied c.args.locality c.args.banks logs s w tie

pub returns-in-Err-Refused-clause-tied : goal.returns-in-Err-Refused-clause-tied
returns-in-Err-Refused-clause-tied g c = λ logs s w tie. boot_tied c.args.locality c.args.banks logs s w tie

pub returns-in-Err-Failed-clause-tied : goal.returns-in-Err-Failed-clause-tied
returns-in-Err-Failed-clause-tied g c = λ logs s w tie. boot_tied c.args.locality c.args.banks logs s w tie

pub returns-in-Err-Memory-clause-tied : goal.returns-in-Err-Memory-clause-tied
returns-in-Err-Memory-clause-tied g c = λ logs s w tie. boot_tied c.args.locality c.args.banks logs s w tie
