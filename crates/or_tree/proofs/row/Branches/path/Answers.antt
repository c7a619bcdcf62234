use Rattle.std.proofs.Common.{◌≡◌, ℕ, ◌/◌, ◌<◌, length, subst, sym}
use Rattle.policy_digest.specs.Levels.{group_count}
use Rattle.or_tree.specs.Plan.{RowPlan}
use Rattle.or_tree.proofs.Groups.{second_place, third_place}
use Rattle.or_tree.proofs.row.Branches.path.Goals as goal

-- a leaf of the row that contracts see is one of those that are kept
kept : (row other : RowPlan) (leaf : ℕ) → row ≡ other → leaf < length other.leaves → leaf < length row.leaves
kept row other leaf e h = subst (λ (r : RowPlan). leaf < length r.leaves) (sym e) h

pub list_group-requires-2 : goal.list_group-requires-2
list_group-requires-2 c =
    let i = c.self.invariant in
    subst (λ level. c.args.leaf / 8 / 8 < group_count level) (sym c.as_slice-2.ensures)
    (second_place _ _ c.args.leaf (kept _ _ c.args.leaf c.self.view_is c.requires) i.2)

pub list_group-requires-3 : goal.list_group-requires-3
list_group-requires-3 c =
    let i = c.self.invariant in
    subst (λ level. c.args.leaf / 8 / 8 / 8 < group_count level) (sym c.as_slice-3.ensures)
    (third_place _ _ _ c.args.leaf (kept _ _ c.args.leaf c.self.view_is c.requires) i.2 i.3)
