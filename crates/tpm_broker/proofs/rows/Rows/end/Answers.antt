use Rattle.std.proofs.Common.{rules, sym, ◌∙◌}
use Rattle.tpm_broker.proofs.ClientRows.{ended, kept_ended, unchanged}
use Rattle.tpm_broker.proofs.rows.Rows.end.Goals as goal

pub invariant_of-self : goal.invariant_of-self
invariant_of-self c = (kept_ended c.self.inside.had c.in-Some.place c.self.inside.sessions.items c.remove-ended.new.self.items c.self.invariant.0 (search rules) c.remove-ended.ensures.items, search rules)

pub returns-in-Some : goal.returns-in-Some
returns-in-Some c =
    rw (← c.self.view_is)
    (ended c.self.inside.had c.args.own c.in-Some.place c.self.inside.sessions.items c.remove-ended.new.self.items
    (rw c.as_slice.ensures.value at (sym c.find_place.ensures ∙ c.in-Some.is)) c.remove-ended.ensures.items)

pub returns-in-None : goal.returns-in-None
returns-in-None c =
    rw (← c.self.view_is) (unchanged c.self.inside.had c.args.own c.self.inside.sessions.items (rw c.as_slice.ensures.value at (sym c.find_place.ensures ∙ c.in-None.is)))
