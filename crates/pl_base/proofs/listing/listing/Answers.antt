use Rattle.std.proofs.Common.{arith, ◌∙◌}
use Rattle.pl_base.proofs.Listed.{none_listed, many_listed, all_listed}
use Rattle.pl_base.proofs.listing.listing.Goals as goal

pub returns-then-count-eq0-clause-gives : goal.returns-then-count-eq0-clause-gives
returns-then-count-eq0-clause-gives c = none_listed c.args.files.now c.args.path.now c.in-Ok.names c.len-count.ensures.ordered c.in-Ok.ensures (omega arith)

pub returns-then-count-limit-clause-gives : goal.returns-then-count-limit-clause-gives
returns-then-count-limit-clause-gives c = many_listed c.args.files.now c.args.path.now c.in-Ok.names c.len-count.ensures.ordered c.in-Ok.ensures c.args.limit (omega arith)

pub returns-in-Ok-entries-clause-gives : goal.returns-in-Ok-entries-clause-gives
returns-in-Ok-entries-clause-gives c = all_listed c.args.files.now c.args.path.now c.in-Ok.names c.len-count.ensures.ordered c.in-Ok.ensures c.args.limit c.from_vec.result (c.from_vec.ensures ∙ c.in-Ok-entries.ensures) (omega arith) (omega arith)
