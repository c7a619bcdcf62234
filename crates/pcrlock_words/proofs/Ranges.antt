-- Texts of the 24 PCRs, one after the other.
use Rattle.std.proofs.Common.{◌≡◌, ℕ, suc, ◌+◌, ◌-◌, ◌<◌, ◌≤◌, List, ◌++◌, flat_map, sym, ap, ◌∙◌, arith, append-nil, append_assoc}
use Rattle.std.specs.List.{range_with_len}

-- the texts of the PCRs from one on
abbrev pub texts_from : (ℕ → List ℕ) → ℕ → List ℕ
texts_from text pcr = flat_map text (range_with_len pcr (24 - pcr))

next_text : (text : ℕ → List ℕ) (pcr : ℕ) → pcr < 24 → texts_from text pcr ≡ text pcr ++ texts_from text (pcr + 1)
next_text text pcr below =
    let n : 24 - pcr ≡ suc (24 - (pcr + 1)) = omega (arith, below) in
    ap (λ m. flat_map text (range_with_len pcr m)) n

-- one more is written
pub more_text : (text : ℕ → List ℕ) (pcr : ℕ) (done more all : List ℕ) → pcr < 24 → done ++ texts_from text pcr ≡ all → more ≡ done ++ text pcr → more ++ texts_from text (pcr + 1) ≡ all
more_text text pcr done more all below so_far written =
    ap (λ t. t ++ texts_from text (pcr + 1)) written
    ∙ append_assoc done (text pcr) (texts_from text (pcr + 1))
    ∙ ap (λ t. done ++ t) (sym (next_text text pcr below))
    ∙ so_far

-- none is left
pub all_texts : (text : ℕ → List ℕ) (pcr : ℕ) (done all : List ℕ) → 24 ≤ pcr → done ++ texts_from text pcr ≡ all → done ≡ all
all_texts text pcr done all whole so_far =
    let none : 24 - pcr ≡ 0 = omega (arith, whole) in
    sym (append-nil done) ∙ ap (λ m. done ++ flat_map text (range_with_len pcr m)) (sym none) ∙ so_far
