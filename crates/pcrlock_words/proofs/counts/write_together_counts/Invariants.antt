use Rattle.std.proofs.Common.{◌≡◌, ◌++◌, take, flat_map, string_bytes}
use Rattle.pcrlock_words.specs.PredictText.{together_count}
use Rattle.pcrlock_words.proofs.counts.write_together_counts.Given as goal

abbrev pub invariant-loop-row : goal.invariant-loop-row
invariant-loop-row l = string_bytes l.text ≡ string_bytes l.fn.text ++ flat_map together_count (take l.row-index l.rows)
