use Rattle.std.proofs.Common.{◌≡◌, ◌++◌, drop, string_bytes}
use Rattle.component_tree.specs.PlainTree.{plain}
use Rattle.pcr_replay.specs.Row.{rows}
use Rattle.pcrlock_words.specs.LogText.{records_from}
use Rattle.pcrlock_words.proofs.log.write_records.Given as goal

abbrev pub invariant-loop-number : goal.invariant-loop-number
invariant-loop-number l = string_bytes l.text ++ records_from (plain l.tree.components) l.bank l.number (rows (drop l.number l.list)) ≡ string_bytes l.fn.text ++ records_from (plain l.tree.components) l.bank 0 (rows l.list)
