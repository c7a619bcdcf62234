use Rattle.std.proofs.Common.{◌≡◌, ℕ, ◌+◌, ◌<◌, ◌≤◌, List, [], ◌∷◌, ◌++◌, length, map, get_or, ap, subst, ◌∙◌}
use Rattle.std.proofs.lemmas.List.{length_push}
use Rattle.hash_bank.specs.declared.bank.Bank.TheVariants.{Sha256}
use Rattle.hash_bank.specs.Hash.{zeros_in}
use Rattle.policy_digest.specs.Levels.{top_of_leaves}
use Rattle.policy_digest.specs.Plain.{plain_row}
use Rattle.policy_digest.specs.declared.table.Row.{Row}
use Rattle.or_tree.specs.Plan.{RowPlan, rows_after}
use Rattle.or_tree.proofs.Rows.{all_rows, last_root, more_rows, next_root}
use Rattle.or_tree.proofs.plan.build.Goals as goal

pub loop-row-preserved : goal.loop-row-preserved
loop-row-preserved c =
    let i = c.loop-row.invariant in
    let rows = c.args.table.now.rows in
    let inside = subst (λ (xs : List Row). c.loop-row.row-index < length xs) c.as_slice-row-items.ensures c.loop-row-test.true in
    let found = subst (λ (xs : List Row). c.row-item.result ≡ get_or xs c.loop-row.row-index c.row-item.result) c.as_slice-row-items.ensures c.row-item.is in
    let pushed = c.in_ok-push.ensures ∙ ap (λ (one : RowPlan). c.loop-row.rows ++ one ∷ []) c.in_ok-branches.ensures in
    let top = c.top-root.ensures.value ∙ ap (λ (one : RowPlan). top_of_leaves one.leaves) c.in_ok-branches.ensures in (
      more_rows c.args.table.now.bank rows c.loop-row.root c.loop-row.rows c.push.new.self _ c.loop-row.row-index c.row-item.result c.top-root.result inside found i.0 pushed top,
      next_root c.args.table.now.bank rows c.loop-row.root _ c.loop-row.row-index c.row-item.result c.top-root.result inside found i.1 top,
      c.top-root.ensures.size,
      ap length c.in_ok-push.ensures ∙ length_push _ _ ∙ ap (λ n. n + 1) i.3,
    )

pub returns : goal.returns
returns c =
    let i = c.loop-row.invariant in
    let past = subst (λ (xs : List Row). length xs ≤ c.loop-row.row-index) c.as_slice-row-items.ensures c.loop-row-test.false in
    let rows = all_rows c.args.table.now.bank c.args.table.now.rows c.loop-row.root c.loop-row.rows _ c.loop-row.row-index past i.0 in
    let root = last_root c.args.table.now.bank c.args.table.now.rows c.loop-row.root _ c.loop-row.row-index past i.1 in
    ap (λ (so_far : List RowPlan). record { bank = c.args.table.now.bank; rows = so_far; root = c.loop-row.root }) rows
    ∙ ap (λ (last : List ℕ). record { bank = c.args.table.now.bank; rows = rows_after c.args.table.now.bank (zeros_in Sha256) (map plain_row c.args.table.now.rows); root = last }) root
