use Rattle.std.proofs.Common.{[], ◌∷◌, ◌++◌, ap, ◌∙◌}
use Rattle.std.specs.Prelude.{codes}
use Rattle.hash_bank.specs.Hash.{name_in}
use Rattle.tpm_commands.proofs.Texts.{three_joined}
use Rattle.tpm_commands.proofs.response.push_bank_absent.Goals as goal

pub returns : goal.returns
returns c =
    three_joined c.push-3.result c.args.text.now.items c.push.new.text.items c.push-2.new.text.items c.push-3.new.text.items
    (codes "refused bank-absent ") (name_in c.args.bank) (10 ∷ [])
    c.in_ok-push.ensures
    (c.in_ok-push-2.ensures ∙ ap (λ name. c.push.new.text.items ++ name) (c.as_bytes.ensures.value ∙ c.name.ensures))
    c.push-3.ensures
