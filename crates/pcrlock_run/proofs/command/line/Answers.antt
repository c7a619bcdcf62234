use Rattle.std.specs.Prelude.{IfOk, IfErr}
use Rattle.pcrlock_line.specs.declared.reply.Reply.{Reply}
use Rattle.pcrlock_line.specs.Outcome.{Outcome, Gives}
use Rattle.pcrlock_line.specs.Stopped.{StandsAmong}
use Rattle.pcrlock_run.specs.Leaves.{Safe}
use Rattle.pcrlock_run.specs.Setting.{setting_of}
use Rattle.pcrlock_run.proofs.Commands.{by_outcome}
use Rattle.pcrlock_run.proofs.Firsts.{line_first}
use Rattle.pcrlock_run.proofs.Texts.{line_as}
use Rattle.pcrlock_run.proofs.command.line.Goals as goal

pub returns-in-Ok-clause-told : goal.returns-in-Ok-clause-told
returns-in-Ok-clause-told g c = λ m tells. by_outcome _ _
    (λ (o : Outcome). Safe o.hashed → IfOk c.command.result (λ (r : Reply). Gives (g.F.Files.held c.command.new.files) (g.T.Tpm.stored c.command.new.tpm) (g.E.Entropy.draws c.command.new.entropy) r o))
    (line_as (setting_of c.args.setting.now) c.args.words.now c.in-Ok.request m c.in-Ok.ensures.spelled) (c.command.ensures.told m tells)

pub returns-in-Ok-clause-stops : goal.returns-in-Ok-clause-stops
returns-in-Ok-clause-stops g c = λ m tells. by_outcome _ _
    (λ (o : Outcome). Safe o.hashed → IfErr c.command.result (λ _. StandsAmong (g.F.Files.held c.command.new.files) (g.T.Tpm.stored c.command.new.tpm) o.stops))
    (line_as (setting_of c.args.setting.now) c.args.words.now c.in-Ok.request m c.in-Ok.ensures.spelled) (c.command.ensures.stops m tells)

pub returns-in-Err-Memory-clause-stops : goal.returns-in-Err-Memory-clause-stops
returns-in-Err-Memory-clause-stops g c = λ m tells safe. line_first _ _ _ (setting_of c.args.setting.now) c.args.words.now m tells
