-- The end of a window alone says less than all its cuts, and choices of each PCR's own say more than one choice.
use Rattle.std.proofs.Common.{◌≡◌, ◌≢◌, ℕ, List, [], ◌∷◌, Some, inl, inr, refl, sym, ap, subst, ◌∙◌, lit<, Contains}
use Rattle.hash_bank.specs.declared.bank.Bank.TheVariants.{Sha256}
use Rattle.hash_bank.specs.Extending.{start_of}
use Rattle.hash_bank.specs.Hash.{zeros_in}
use Rattle.policy_digest.specs.Mask.{pcrs_of}
use Rattle.record_match.specs.Choices.{choices}
use Rattle.record_match.specs.Extends.{variants_of}
use Rattle.predict_proof.proofs.Members.{first_or_later}
use Rattle.forecasts.specs.Forecast.{Holds, HoldsAlone, HoldTogether, IsProtected, before_cut, measured_by}
use Rattle.forecasts.proofs.Found.{nothing_in}
use Rattle.pcrlock_foretold.specs.Examples.{HoldAtTheEnd, HoldEachItsOwn, measured_twice, once, one_of_two, started, stepwise}

some_is : (a b : List ℕ) → Some a ≡ Some b → a ≡ b
some_is a b e = cc

zeros_at : (p : ℕ) → p ≡ 1 → start_of Sha256 p 0 ≡ zeros_in Sha256
unfolding start_of
zeros_at p e = subst (λ q. start_of Sha256 q 0 ≡ zeros_in Sha256) (sym e) refl

module _ (digest : List ℕ) where
  -- ---- before and after a component

  pub stepwise_protects : IsProtected (stepwise digest) 1
  unfolding pcrs_of start_of
  stepwise_protects = record {
    asked = (0, lit< tt, refl);
    explained = record { list = digest ∷ []; measured = refl; replayed = refl; complete = refl; choice = 0 ∷ []; chosen = (0, lit< tt, refl); explains = refl };
  }

  pub stepwise_holds : Holds (stepwise digest) started
  stepwise_holds = λ p x. record { cut = 0; choice = []; state = record { in_window = (0, lit< tt, refl); chosen = (0, lit< tt, refl) }; holds = refl }

  by_choice : once digest ≢ zeros_in Sha256 → (choice : List ℕ) → Contains ((0 ∷ []) ∷ []) choice → Some (start_of Sha256 1 0) ≡ Some (measured_by (stepwise digest) 1 choice 1) → ⊥
  unfolding start_of
  by_choice apart choice chosen holds = elim (first_or_later (0 ∷ []) [] choice chosen) [
    | inl here ↦
        let now = subst (λ c. Some (start_of Sha256 1 0) ≡ Some (measured_by (stepwise digest) 1 c 1)) (sym here) holds in
        apart (sym (some_is (start_of Sha256 1 0) (measured_by (stepwise digest) 1 (0 ∷ []) 1) now))
    | inr later ↦ absurd (nothing_in choice later)
  ]

  pub end_alone : once digest ≢ zeros_in Sha256 → HoldAtTheEnd (stepwise digest) started → ⊥
  end_alone apart hold = let h = hold 1 stepwise_protects in by_choice apart h.choice h.chosen h.holds

  -- ---- one of two

  first_protected : IsProtected (one_of_two digest) 1
  unfolding pcrs_of start_of
  first_protected = record {
    asked = (0, lit< tt, refl);
    explained = record { list = digest ∷ []; measured = refl; replayed = refl; complete = refl; choice = 0 ∷ []; chosen = (0, lit< tt, refl); explains = refl };
  }

  second_protected : IsProtected (one_of_two digest) 2
  unfolding pcrs_of start_of
  second_protected = record {
    asked = (1, lit< tt, refl);
    explained = record { list = []; measured = refl; replayed = refl; complete = refl; choice = 0 ∷ []; chosen = (0, lit< tt, refl); explains = refl };
  }

  first_alone : HoldsAlone (one_of_two digest) (measured_twice digest) 1
  unfolding start_of
  first_alone = record { cut = 1; choice = 0 ∷ []; state = record { in_window = (0, lit< tt, refl); chosen = (0, lit< tt, refl) }; holds = refl }

  second_alone : HoldsAlone (one_of_two digest) (measured_twice digest) 2
  unfolding start_of
  second_alone = record { cut = 1; choice = 1 ∷ []; state = record { in_window = (0, lit< tt, refl); chosen = (1, lit< tt, refl) }; holds = refl }

  by_pcr : (p : ℕ) → Contains (1 ∷ 2 ∷ []) p → HoldsAlone (one_of_two digest) (measured_twice digest) p
  by_pcr p asked = elim (first_or_later 1 (2 ∷ []) p asked) [
    | inl first ↦ subst (HoldsAlone (one_of_two digest) (measured_twice digest)) first first_alone
    | inr more ↦ elim (first_or_later 2 [] p more) [
      | inl second ↦ subst (HoldsAlone (one_of_two digest) (measured_twice digest)) second second_alone
      | inr none ↦ absurd (nothing_in p none)
    ]
  ]

  pub each_its_own : HoldEachItsOwn (one_of_two digest) (measured_twice digest)
  unfolding pcrs_of
  each_its_own = λ p x. by_pcr p x.asked

  -- what a boot state would have to measure
  abbrev Measures : ℕ → List ℕ → ℕ → Type 0
  Measures cut choice p = Some (once digest) ≡ Some (measured_by (one_of_two digest) cut choice p)

  -- the first choice leaves PCR 2, and the second PCR 1
  at_choice : once digest ≢ zeros_in Sha256 → (choice : List ℕ) → Contains ((0 ∷ []) ∷ (1 ∷ []) ∷ []) choice → Measures 1 choice 1 → Measures 1 choice 2 → ⊥
  unfolding start_of
  at_choice apart choice chosen one two = elim (first_or_later (0 ∷ []) ((1 ∷ []) ∷ []) choice chosen) [
    | inl first ↦ apart (some_is (once digest) (measured_by (one_of_two digest) 1 (0 ∷ []) 2) (subst (λ c. Measures 1 c 2) (sym first) two))
    | inr more ↦ elim (first_or_later (1 ∷ []) [] choice more) [
      | inl second ↦ apart (some_is (once digest) (measured_by (one_of_two digest) 1 (1 ∷ []) 1) (subst (λ c. Measures 1 c 1) (sym second) one))
      | inr none ↦ absurd (nothing_in choice none)
    ]
  ]

  at_cut : once digest ≢ zeros_in Sha256 → (cut : ℕ) (choice : List ℕ) → Contains (1 ∷ []) cut → Contains (choices (variants_of (before_cut (one_of_two digest) cut))) choice
      → Measures cut choice 1 → Measures cut choice 2 → ⊥
  at_cut apart cut choice in_window = elim (first_or_later 1 [] cut in_window) [
    | inl here ↦
        subst (λ k. Contains (choices (variants_of (before_cut (one_of_two digest) k))) choice → Measures k choice 1 → Measures k choice 2 → ⊥) here (at_choice apart choice)
    | inr none ↦ absurd (nothing_in cut none)
  ]

  pub not_together : once digest ≢ zeros_in Sha256 → Holds (one_of_two digest) (measured_twice digest) → ⊥
  not_together apart h =
      let state : HoldTogether (one_of_two digest) (measured_twice digest) = h in
      at_cut apart state.cut state.choice state.state.in_window state.state.chosen (state.hold 1 first_protected) (state.hold 2 second_protected)
