use Rattle.std.proofs.Common.{◌≡◌, ◌∷◌, ◌++◌, length, take}
use Rattle.std.specs.List.{flat_map}
use Rattle.policy_file.specs.PolicyText.{table_text}
use Rattle.policy_file.proofs.tables.put_tables.Given as goal

abbrev pub invariant-loop-table : goal.invariant-loop-table
invariant-loop-table l = l.out.items ≡ l.fn.out.items ++ (length l.tables ∷ flat_map (table_text l.version) (take l.table-index l.tables))
