use Rattle.std.proofs.Common.{◌≡◌, ◌++◌, take, flat_map, string_bytes}
use Rattle.std.specs.Prelude.{filter}
use Rattle.policy_digest.specs.Mask.{has_pcr}
use Rattle.pcrlock_words.specs.PredictText.{value_text}
use Rattle.pcrlock_words.proofs.predict.write_rows_of.Given as goal

abbrev pub invariant-loop-row : goal.invariant-loop-row
invariant-loop-row l = string_bytes l.text ≡ string_bytes l.fn.text ++ flat_map (λ row. flat_map (value_text l.pcr) row.choices) (filter (λ row. has_pcr row.pcrs l.pcr) (take l.row-index l.rows))
