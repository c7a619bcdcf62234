-- What was put at the end piece by piece.
use Rattle.std.proofs.Common.{◌≡◌, ℕ, ◌+◌, ◌<◌, List, [], ◌∷◌, ◌++◌, length, get_or, take, sym, ap, ◌∙◌, append_assoc}
use Rattle.std.specs.List.{flat_map}
use Rattle.std.proofs.lemmas.List.{append-nil, take_more}
use Rattle.std.proofs.lemmas.Grind.{flat_map-append}
use Rattle.tcg_log.specs.declared.record.FirmwareRecord.{FirmwareRecord}
use Rattle.tcg_log.specs.Text.{record_text}

pub append_four : {p q r s : List ℕ} (o a b d e : List ℕ) → p ≡ o ++ a → q ≡ p ++ b → r ≡ q ++ d → s ≡ r ++ e → s ≡ o ++ (a ++ (b ++ (d ++ e)))
append_four o a b d e h i j k = k ∙ ap (λ x. x ++ e) (j ∙ ap (λ x. x ++ d) (i ∙ ap (λ x. x ++ b) h)) ∙ simp append_assoc

pub append_five : {p q r s t : List ℕ} (o a b d e f : List ℕ) → p ≡ o ++ a → q ≡ p ++ b → r ≡ q ++ d → s ≡ r ++ e → t ≡ s ++ f → t ≡ o ++ (a ++ (b ++ (d ++ (e ++ f))))
append_five o a b d e f h i j k l = l ∙ ap (λ x. x ++ f) (append_four o a b d e h i j k) ∙ simp append_assoc

-- the texts of records, and that of one more
pub records_more : (rs : List FirmwareRecord) (r : FirmwareRecord) → flat_map record_text (rs ++ r ∷ []) ≡ flat_map record_text rs ++ record_text r
records_more rs r = flat_map-append record_text rs (r ∷ []) ∙ ap (λ x. flat_map record_text rs ++ x) (append-nil (record_text r))

-- one more record behind the first ones
pub append_record : (old new spec : List ℕ) (records : List FirmwareRecord) (i : ℕ) (r : FirmwareRecord) → i < length records → r ≡ get_or records i r
    → old ≡ spec ++ flat_map record_text (take i records) → new ≡ old ++ record_text r → new ≡ spec ++ flat_map record_text (take (i + 1) records)
append_record old new spec records i r lt is so_far h =
    let next : take (i + 1) records ≡ take i records ++ r ∷ [] = take_more records i r lt ∙ ap (λ x. take i records ++ x ∷ []) (sym is) in
    let more : flat_map record_text (take (i + 1) records) ≡ flat_map record_text (take i records) ++ record_text r = ap (λ rs. flat_map record_text rs) next ∙ records_more (take i records) r in
    h ∙ ap (λ x. x ++ record_text r) so_far ∙ append_assoc spec (flat_map record_text (take i records)) (record_text r) ∙ ap (λ x. spec ++ x) (sym more)
