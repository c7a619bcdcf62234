use Rattle.std.proofs.Common.{◌≡◌, ◌++◌, take, flat_map, string_bytes}
use Rattle.pcrlock_words.specs.PredictText.{value_text}
use Rattle.pcrlock_words.proofs.predict.write_choices.Given as goal

abbrev pub invariant-loop-values : goal.invariant-loop-values
invariant-loop-values l = string_bytes l.text ≡ string_bytes l.fn.text ++ flat_map (value_text l.pcr) (take l.values-index l.choices)
