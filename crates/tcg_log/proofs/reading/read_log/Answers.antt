use Rattle.std.proofs.Common.{arith}
use Rattle.tcg_log.proofs.LogLaws.{is_found, is_only, is_over, is_more}
use Rattle.tcg_log.proofs.reading.read_log.Goals as goal

pub returns-clause-found : goal.returns-clause-found
returns-clause-found c = is_found c.args.bytes.now c.log.result (λ i. omega (arith, c.type_inv.bytes i)) c.requires c.log.ensures

pub returns-clause-only : goal.returns-clause-only
returns-clause-only c = is_only c.args.bytes.now c.log.result c.log.ensures

pub returns-clause-too_many : goal.returns-clause-too_many
returns-clause-too_many c = is_over c.args.bytes.now c.log.result (λ i. omega (arith, c.type_inv.bytes i)) c.log.ensures

pub returns-clause-more : goal.returns-clause-more
returns-clause-more c = is_more c.args.bytes.now c.log.result c.log.ensures
