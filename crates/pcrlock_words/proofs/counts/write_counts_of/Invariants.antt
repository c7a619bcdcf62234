use Rattle.std.proofs.Common.{◌≡◌, ◌++◌, take, flat_map, string_bytes}
use Rattle.std.specs.Prelude.{filter}
use Rattle.policy_digest.specs.Mask.{has_pcr}
use Rattle.pcrlock_words.specs.PredictText.{count_text}
use Rattle.pcrlock_words.proofs.counts.write_counts_of.Given as goal

abbrev pub invariant-loop-row : goal.invariant-loop-row
invariant-loop-row l = string_bytes l.text ≡ string_bytes l.fn.text ++ flat_map (count_text l.pcr) (filter (λ row. has_pcr row.pcrs l.pcr) (take l.row-index l.rows))
