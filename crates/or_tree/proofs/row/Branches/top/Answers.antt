use Rattle.std.proofs.Common.{◌≤◌, length, subst, sym, ap, ◌∙◌}
use Rattle.policy_digest.specs.Levels.{top_of_leaves, up}
use Rattle.or_tree.specs.Plan.{RowPlan}
use Rattle.or_tree.proofs.Groups.{third_size, top_of_third}
use Rattle.or_tree.proofs.row.Branches.top.Goals as goal

pub raised-requires-clause-some : goal.raised-requires-clause-some
raised-requires-clause-some c =
    let i = c.self.invariant in
    subst (λ third. 1 ≤ length third) (sym c.as_slice.ensures) (third_size _ _ _ i.0 i.1 i.2 i.3).0

pub raised-requires-clause-few : goal.raised-requires-clause-few
raised-requires-clause-few c =
    let i = c.self.invariant in
    subst (λ third. length third ≤ 8) (sym c.as_slice.ensures) (third_size _ _ _ i.0 i.1 i.2 i.3).1

pub returns-clause-value : goal.returns-clause-value
returns-clause-value c =
    let i = c.self.invariant in
    c.raised.ensures.value ∙ ap up c.as_slice.ensures ∙ top_of_third _ _ _ i.0 i.1 i.2 i.3
    ∙ ap (λ (row : RowPlan). top_of_leaves row.leaves) c.self.view_is
