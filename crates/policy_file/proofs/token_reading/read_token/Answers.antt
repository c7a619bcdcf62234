use Rattle.std.proofs.Common.{ap, ◌∙◌, arith}
use Rattle.policy_file.specs.TokenReading.{token_in}
use Rattle.policy_file.proofs.Tokens.{is_spelled, token_again}
use Rattle.policy_file.proofs.token_reading.read_token.Goals as goal

pub returns-clause-spelled : goal.returns-clause-spelled
returns-clause-spelled c = is_spelled c.args.bytes.now c.read_all.result (λ i. omega (arith, c.type_inv.bytes i)) c.read_all.ensures

pub returns-clause-read : goal.returns-clause-read
returns-clause-read c = λ t is e. c.read_all.ensures ∙ ap token_in e ∙ token_again t is
