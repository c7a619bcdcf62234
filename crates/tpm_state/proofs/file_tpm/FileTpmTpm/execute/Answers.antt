use Rattle.std.proofs.Common.{sym, ◌∙◌}
use Rattle.tpm_state.proofs.Looks.{look_told}
use Rattle.tpm_state.proofs.file_tpm.FileTpmTpm.execute.Goals as goal

pub returns-then-is_look-clause-told : goal.returns-then-is_look-clause-told
returns-then-is_look-clause-told g c = λ s live.
    look_told c.args.command.now s c.look.result c.look.new.self.live (sym c.is_look.ensures ∙ c.if-is_look.true) (c.look.ensures.live ∙ live) (c.look.ensures.answered s live) c.look.ensures.memory
