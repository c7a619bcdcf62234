-- What is kept over one cut more.
use Rattle.std.proofs.Common.{◌≡◌, ℕ, zero, suc, ◌+◌, ◌-◌, ◌<◌, ◌≤◌, Bool, true, false, cond, leb, eqb, List, [], ◌∷◌, ◌++◌, refl, sym, ap, ◌∙◌, inl, inr, arith}
use Rattle.std.specs.List.{flat_map, range_with_len}
use Rattle.std.proofs.lemmas.Bool.{cases_lt, lt-leb, le-leb, ne_eqb}
use Rattle.std.proofs.lemmas.List.{append-nil}
use Rattle.std.proofs.lemmas.List.Concat.{flat_map-append}
use Rattle.predictor.specs.Cuts.{cuts_between}
use Rattle.predictor.specs.Distinct.{put_all, distinct}
use Rattle.predictor.specs.Foreseen.{over_cuts}
use Rattle.predictor.proofs.Repeats.{Tells, all_put-append}
use Rattle.predictor.proofs.Firsts.{by_view, put_firsts}

pub range_split : (a m k : ℕ) → range_with_len a (m + k) ≡ range_with_len a m ++ range_with_len (a + m) k
range_split a zero k = let z : 0 + k ≡ k = omega arith in let b : a ≡ a + 0 = omega arith in ap (range_with_len a) z ∙ ap (λ n. range_with_len n k) b
range_split a (suc m) k =
    let s : suc m + k ≡ suc (m + k) = omega arith in
    let b : a + 1 + m ≡ a + suc m = omega arith in
    ap (range_with_len a) s ∙ ap (λ (l : List ℕ). a ∷ l) (range_split (a + 1) m k ∙ ap (λ n. range_with_len (a + 1) m ++ range_with_len n k) b)

cuts_more : (first k : ℕ) → first ≤ k + 1 → cuts_between first (k + 1) ≡ cuts_between first k ++ (k + 1) ∷ []
cuts_more first k le =
    let n : k + 1 + 1 - first ≡ (k + 1 - first) + 1 = omega arith in
    let m : first + (k + 1 - first) ≡ k + 1 = omega arith in
    ap (range_with_len first) n ∙ range_split first (k + 1 - first) 1 ∙ ap (λ j. range_with_len first (k + 1 - first) ++ j ∷ []) m

no_cuts : (first k : ℕ) → k < first → cuts_between first k ≡ []
no_cuts first k lt = let n : k + 1 - first ≡ 0 = omega arith in ap (range_with_len first) n

module _ {A : Type 0} (same : A → A → Bool) (reach : ℕ → List A) where
  pub over_more : (first k : ℕ) → over_cuts same reach (cuts_between first (k + 1)) ≡ put_all same (over_cuts same reach (cuts_between first k)) (cond (leb first (k + 1)) (reach (k + 1)) [])
  over_more first k =
      elim (cases_lt (k + 1) first) [
        | inl lt ↦
            ap (over_cuts same reach) (no_cuts first (k + 1) lt ∙ sym (no_cuts first k (omega arith)))
            ∙ ap (λ b. put_all same (over_cuts same reach (cuts_between first k)) (cond b (reach (k + 1)) [])) (sym (lt-leb first (k + 1) lt))
        | inr le ↦
            ap (over_cuts same reach) (cuts_more first k le)
            ∙ ap (distinct same) (flat_map-append reach (cuts_between first k) ((k + 1) ∷ []) ∙ ap (λ (l : List A). flat_map reach (cuts_between first k) ++ l) (append-nil (reach (k + 1))))
            ∙ all_put-append same [] (flat_map reach (cuts_between first k)) (reach (k + 1))
            ∙ ap (λ b. put_all same (over_cuts same reach (cuts_between first k)) (cond b (reach (k + 1)) [])) (sym (le-leb first (k + 1) le))
      ]

  pub over_none : (first : ℕ) → over_cuts same reach (cuts_between first 0) ≡ put_all same [] (cond (eqb first 0) (reach 0) [])
  over_none zero = ap (distinct same) (append-nil (reach 0))
  over_none (suc first) = ap (over_cuts same reach) (no_cuts (suc first) 0 (omega arith)) ∙ ap (λ b. put_all same [] (cond b (reach 0) [])) (sym (ne_eqb (suc first) 0 (λ e. omega arith)))

-- repeats are dropped before a cut's members are put
pub cut_put : {A C : Type 0} (view : A → C) (eq : C → C → Bool) → Tells eq → (list reached : List A) (b : Bool) → put_all (by_view view eq) list (cond b (distinct (by_view view eq) reached) []) ≡ put_all (by_view view eq) list (cond b reached [])
cut_put view eq t list reached true = put_firsts view eq t list reached
cut_put view eq t list reached false = refl
