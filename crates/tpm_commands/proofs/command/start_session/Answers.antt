use Rattle.std.proofs.Common.{Bor, List, ℕ, ap, sym, ◌∙◌}
use Rattle.std.specs.Prelude.{not, option_map}
use Rattle.tpm_commands.proofs.Sessions.{start_none_behind}
use Rattle.tpm_commands.proofs.command.start_session.Goals as goal

pub returns-in_err-one_part : goal.returns-in_err-one_part
returns-in_err-one_part c =
    c.from_residual.ensures
    ∙ sym (start_none_behind c.args.words (c.is_none.ensures ∙ ap not c.if-is_none.false)
    (sym c.one_part.ensures ∙ ap (option_map (λ (part : Bor (List ℕ)). part.now)) c.in_err-one_part.was))
