use Rattle.std.proofs.Common.{arith}
use Rattle.policy_file.proofs.Policies.{is_spelled, is_read}
use Rattle.policy_file.proofs.policy_reading.read_policy.Goals as goal

pub returns-clause-spelled : goal.returns-clause-spelled
returns-clause-spelled c = is_spelled c.args.bytes.now c.read_all.result (λ i. omega (arith, c.type_inv.bytes i)) c.read_all.ensures

pub returns-clause-read : goal.returns-clause-read
returns-clause-read c = is_read c.args.bytes.now c.read_all.result c.read_all.ensures
