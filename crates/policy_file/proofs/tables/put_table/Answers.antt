use Rattle.std.proofs.Common.{List, length, ◌≤◌, subst, sym}
use Rattle.std.specs.List.{AllByRecursion}
use Rattle.policy_digest.specs.declared.table.Row.{Row}
use Rattle.policy_file.proofs.TableLaws.{few_in_table}
use Rattle.policy_file.proofs.tables.put_table.Goals as goal

pub put_rows-requires : goal.put_rows-requires
put_rows-requires c = subst (λ (rows : List Row). AllByRecursion (λ (row : Row). length row.choices ≤ 512) rows) (sym c.as_slice-rows.ensures) (few_in_table c.args.table.now c.requires)
