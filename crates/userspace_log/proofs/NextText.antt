-- Records that are written one after another.
use Rattle.std.proofs.Common.{◌≡◌, ◌<◌, ◌+◌, ℕ, List, ◌++◌, drop, get_or, length, map, sym, ap, ◌∙◌, add-one}
use Rattle.std.proofs.Math.Seq.{drop-cons}
use Rattle.cel_record.specs.declared.record.CelRecord.{CelRecord}
use Rattle.cel_record.specs.Spelled.{spelled}
use Rattle.userspace_log.specs.Written.{seq_text, written_text}

-- the next record, and those behind it
pub next_text : (rs : List CelRecord) (i : ℕ) (r : CelRecord) → i < length rs → r ≡ get_or rs i r
    → seq_text (map spelled (drop i rs)) ≡ written_text (spelled r) ++ seq_text (map spelled (drop (i + 1) rs))
next_text rs i r h is =
    (let e : seq_text (map spelled (drop i rs)) ≡ written_text (spelled (get_or rs i r)) ++ seq_text (map spelled (drop (i + 1) rs)) =
    rw add-one (ap (λ l. seq_text (map spelled l)) (drop-cons rs i r h)) in e)
    ∙ ap (λ x. written_text (spelled x) ++ seq_text (map spelled (drop (i + 1) rs))) (sym is)
