use Rattle.std.proofs.Common.{rules}
use Rattle.tpm_broker.proofs.ClientRows.{kept_started}
use Rattle.tpm_broker.proofs.rows.Rows.start.Goals as goal

pub invariant_of-self : goal.invariant_of-self
invariant_of-self c = (
  kept_started c.self.inside.had c.args.tpm c.self.inside.sessions.items c.push.new.self.items c.self.invariant.0
      (rw (← c.self.view_is) at c.requires.few) (rw (← c.self.view_is) at c.requires.numbers) (search rules),
  search rules,
)
