-- A written log reads as the records that were written.
use Rattle.std.proofs.Common.{◌≡◌, ◌≤◌, ◌+◌, ◌-◌, ℕ, true, false, nat_le, nat_lt, ◌&&◌, List, [], ◌∷◌, ◌++◌, length, map, take, get_or, Some, Ok, refl, ap, ◌∙◌, arith, append-nil, ne_eqb}
use Rattle.std.specs.Prelude.{All}
use Rattle.std.specs.List.{slice_split}
use Rattle.std.proofs.lemmas.Grind.{common_steps}
use Rattle.std.proofs.lemmas.List.Elements.{All-head, All-tail, All-nil, All-cons}
use Rattle.std.proofs.lemmas.List.Splits.{slice_split_at, slice_split_none}
use Rattle.std.proofs.lemmas.Bool.{and_parts}
use Rattle.cel_record.specs.Proper.{IsProper}
use Rattle.cel_record.specs.Spelled.{Spelled}
use Rattle.cel_record.specs.Step.{◌>>=◌}
use Rattle.cel_record.specs.Written.{record_text}
use Rattle.cel_record.proofs.PlainTexts.{is_plain, is_plain-record_text, json_of-record_text}
use Rattle.cel_record.proofs.RecordData.{record_of-record_data}
use Rattle.serde_json.specs.Data.{no_members}
use Rattle.userspace_log.specs.Found.{with_first}
use Rattle.userspace_log.specs.UserText.{is_separator, found_from, log_of, piece_says, text_limit, text_says, without_feed}
use Rattle.userspace_log.specs.Written.{piece_text, seq_text}

-- ---- the cut

-- printable ASCII and a line feed hold no separator
no_separator : (x : ℕ) → nat_le 32 x ≡ true → is_separator x ≡ false
no_separator x h = grind arith

clean : (t : List ℕ) → is_plain t ≡ true → All (λ x. is_separator x ≡ false) (t ++ 0x0A ∷ [])
clean [] h = All-cons (λ x. is_separator x ≡ false) 0x0A [] refl (All-nil (λ x. is_separator x ≡ false))
clean (x ∷ xs) h =
    let parts = and_parts (nat_le 32 x && nat_lt x 128) (is_plain xs) h in
    let byte = and_parts (nat_le 32 x) (nat_lt x 128) parts.0 in
    All-cons (λ x. is_separator x ≡ false) x (xs ++ 0x0A ∷ []) (no_separator x byte.0) (clean xs parts.1)

-- each record is as the program holds it
abbrev AreProper : List Spelled → Type 0
AreProper [] = Unit {0}
AreProper (r ∷ rs) = IsProper r × AreProper rs

AreProper-all : (rs : List Spelled) → All IsProper rs → AreProper rs
AreProper-all [] h = tt
AreProper-all (r ∷ rs) h = (All-head IsProper r rs h, AreProper-all rs (All-tail IsProper r rs h))

pieces : (r : Spelled) (rs : List Spelled) → IsProper r → AreProper rs
    → slice_split is_separator (piece_text r ++ seq_text rs) ≡ piece_text r ∷ map piece_text rs
pieces r [] h hs = ap (slice_split is_separator) (append-nil (piece_text r)) ∙ slice_split_none is_separator (piece_text r) (clean (record_text r) (is_plain-record_text r h))
pieces r (q ∷ qs) h hs =
    slice_split_at is_separator (piece_text r) 0x1E (piece_text q ++ seq_text qs) (clean (record_text r) (is_plain-record_text r h)) refl
    ∙ ap (λ ps. piece_text r ∷ ps) (pieces q qs hs.0 hs.1)

-- ---- the pieces

last_byte : (t : List ℕ) → get_or (t ++ 0x0A ∷ []) (length (t ++ 0x0A ∷ []) - 1) 0 ≡ 0x0A
last_byte t = grind (arith, common_steps)

front : (t : List ℕ) → take (length (t ++ 0x0A ∷ []) - 1) (t ++ 0x0A ∷ []) ≡ t
front t = grind (arith, common_steps)

without_feed-piece : (t : List ℕ) → without_feed (t ++ 0x0A ∷ []) ≡ Some t
without_feed-piece t = rw (last_byte t, front t) refl

text_says-record : (r : Spelled) → IsProper r → text_says (record_text r) ≡ Ok (Some r)
text_says-record r h = rw (json_of-record_text r h) (ap (λ o. o >>= λ x. Ok (Some x)) (record_of-record_data no_members r h))

found_from-pieces : (n place : ℕ) (rs : List Spelled) → n + length rs ≤ text_limit → AreProper rs
    → found_from n place (map piece_text rs) ≡ Ok (record { records = rs; skipped = 0 })
found_from-pieces n place [] few h = refl
found_from-pieces n place (r ∷ rs) few h =
    let end = place + 1 + length (piece_text r) in
    let says : piece_says n end (piece_text r) ≡ Ok (Some r) =
    rw (ne_eqb n 4096 (λ e. omega arith), without_feed-piece (record_text r), text_says-record r h.0) refl in
    ap (λ o. o >>= λ said. found_from (n + 1) end (map piece_text rs) >>= λ f. Ok (with_first said f)) says
    ∙ ap (λ o. o >>= λ f. Ok (with_first (Some r) f)) (found_from-pieces (n + 1) end rs (omega arith) h.1)

pub log_of-seq_text : (rs : List Spelled) → length rs ≤ text_limit → All IsProper rs → log_of (seq_text rs) ≡ Ok (record { records = rs; skipped = 0 })
log_of-seq_text [] few all = refl
log_of-seq_text (r ∷ rs) few all =
    let h = AreProper-all (r ∷ rs) all in
    ap (found_from 0 0) (pieces r rs h.0 h.1) ∙ found_from-pieces 0 0 (r ∷ rs) (omega arith) h
