use Rattle.pcrlock_input.proofs.Rows.{told, few}
use Rattle.pcrlock_input.proofs.logs.Logs.combined.Goals as goal

pub returns-clause-told : goal.returns-clause-told
returns-clause-told c = told c.args.self.now _ _ c.combined.result c.as_ref.ensures.value c.as_slice.ensures c.combined.ensures

pub returns-clause-few : goal.returns-clause-few
returns-clause-few c = few c.args.self.now c.combined.result c.requires (returns-clause-told c)
