use Rattle.std.proofs.Common.{sym, ◌∙◌}
use Rattle.component_tree.proofs.Records.{few_read, refused_bytes}
use Rattle.component_tree.proofs.reading.read_bytes.Goals as goal

pub returns-in-Ok-clause-few : goal.returns-in-Ok-clause-few
returns-in-Ok-clause-few c = few_read c.args.bytes.now c.in-Ok.records c.in-Ok.ensures

pub returns-in-Err-clause-gives : goal.returns-in-Err-clause-gives
returns-in-Err-clause-gives c = refused_bytes c.args.path.now c.args.bytes.now c.in-Err.kind c.refusal.result (sym c.is_empty.ensures ∙ c.if-is_empty.false) c.in-Err.ensures c.refusal.ensures.gives
