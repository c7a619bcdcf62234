use Rattle.std.proofs.Common.{◌≡◌, ◌++◌, take, flat_map, string_bytes}
use Rattle.pcrlock_words.specs.PredictText.{together_text}
use Rattle.pcrlock_words.proofs.predict.write_rows.Given as goal

abbrev pub invariant-loop-row : goal.invariant-loop-row
invariant-loop-row l = string_bytes l.text ≡ string_bytes l.fn.text ++ flat_map (λ row. flat_map (together_text row.pcrs) row.choices) (take l.row-index l.rows)
