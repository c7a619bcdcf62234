use Rattle.std.proofs.Common.{◌≡◌, ◌++◌, string_bytes}
use Rattle.component_tree.specs.PlainTree.{plain}
use Rattle.pcrlock_words.specs.PredictText.{each_count, one_pcr_count}
use Rattle.pcrlock_words.proofs.Ranges.{texts_from}
use Rattle.pcrlock_words.proofs.counts.write_each_count.Given as goal

abbrev pub invariant-loop-pcr : goal.invariant-loop-pcr
invariant-loop-pcr l = string_bytes l.text ++ texts_from (one_pcr_count l.protection (plain l.tree.components)) l.pcr ≡ string_bytes l.fn.text ++ each_count l.protection (plain l.tree.components)
