use Rattle.std.proofs.Common.{◌≡◌, ◌++◌, [], string_bytes, None}
use Rattle.std.specs.Prelude.{slice_index_or}
use Rattle.pcrlock_words.specs.LogText.{pcr_text}
use Rattle.pcrlock_words.proofs.Ranges.{texts_from}
use Rattle.pcrlock_words.proofs.log.write_pcrs.Given as goal

abbrev pub invariant-loop-pcr : goal.invariant-loop-pcr
invariant-loop-pcr l = string_bytes l.text ++ texts_from (λ pcr. pcr_text pcr (slice_index_or l.replayed pcr None) (slice_index_or l.now pcr [])) l.pcr ≡ string_bytes l.fn.text ++ texts_from (λ pcr. pcr_text pcr (slice_index_or l.replayed pcr None) (slice_index_or l.now pcr [])) 0
