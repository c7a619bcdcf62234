-- A table as plain data.
use Rattle.std.specs.Prelude.{map}
use Rattle.policy_digest.specs.declared.table.Row.{Row}
use Rattle.policy_digest.specs.declared.table.Table.{Table}
use Rattle.policy_digest.specs.PlainTable.{PlainRow, PlainTable}
use Rattle.policy_digest.specs.Strings.{values_string}

-- a row: each list is its values joined, ascending by PCR
abbrev pub plain_row : Row → PlainRow
plain_row row = record { pcrs = row.pcrs; lists = map values_string row.choices }

-- a table
abbrev pub plain_table : Table → PlainTable
plain_table table = record { bank = table.bank; rows = map plain_row table.rows }
