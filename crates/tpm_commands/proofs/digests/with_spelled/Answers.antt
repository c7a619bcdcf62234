use Rattle.std.proofs.Common.{ap, sym, ◌∙◌}
use Rattle.std.specs.Prelude.{is_some}
use Rattle.tpm_commands.proofs.Sizes.{spelled_is}
use Rattle.tpm_commands.proofs.digests.with_spelled.Goals as goal

pub returns : goal.returns
returns c =
    spelled_is c.args.digests c.set_digest.new.digests c.args.text.now c.in_ok-name.name.now c.in_ok-name.digest.now c.in_ok-digest.digest c.in_ok-bank.bank
    (sym c.in_ok-name.ensures) (sym c.in_ok-bank.ensures)
    (ap is_some (sym c.get.ensures.value) ∙ sym c.is_some.ensures ∙ c.if-is_some.false)
    (sym c.in_ok-digest.ensures.value) c.in_ok-digest.ensures.size c.set_digest.ensures
