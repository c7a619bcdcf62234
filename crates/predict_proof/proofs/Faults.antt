-- A member without a fault is proved, and a fault is the first part that fails.
use Rattle.std.proofs.Common.{◌≡◌, ℕ, ◌+◌, ◌-◌, ◌≤◌, Bool, true, false, cond, leb, List, [], ◌∷◌, ◌++◌, length, take, map, Option, Some, None, refl, sym, ap, ◌∙◌, subst, inl, inr, arith}
use Rattle.std.specs.Prelude.{unwrap_or}
use Rattle.std.specs.List.{Contains}
use Rattle.std.specs.Str.{bytes_eq}
use Rattle.std.proofs.lemmas.Bool.{cases_Bool, and_parts, and_from, leb-true, le-leb, true≢false}
use Rattle.std.proofs.lemmas.List.{map-append, append_cancel_left, take-map}
use Rattle.hash_bank.specs.declared.bank.Bank.{Bank}
use Rattle.component_tree.specs.declared.tree.Component.{Component}
use Rattle.component_tree.specs.PlainTree.{PlainComponent, plain, plain_component}
use Rattle.policy_digest.specs.Mask.{pcrs_of}
use Rattle.record_match.specs.Choices.{chosen}
use Rattle.record_match.specs.Extends.{variants_of, reached_by}
use Rattle.predictor.specs.Cuts.{cuts_between}
use Rattle.predictor.proofs.Insides.{plain_count}
use Rattle.predictor.proofs.Repeats.{bytes_tell}
use Rattle.predict_proof.specs.declared.proof.Proof.{Proof}
use Rattle.predict_proof.specs.declared.error.CheckError.{CheckError}
use Rattle.predict_proof.specs.declared.error.CheckError.TheVariants as errors
use Rattle.predict_proof.specs.Chosen.{is_choice}
use Rattle.predict_proof.specs.Fault.{first_differing, differing, fault_by, fault_of, is_cut}
use Rattle.predict_proof.specs.Proved.{HasCut, HasChoice, HasDigests, ProvedInside, FirstDiffers, FailsBy, some_lacks, held_by}
use Rattle.predict_proof.proofs.Members.{range_in, range_from}
use Rattle.predict_proof.proofs.ChoiceLists.{choice_in, choice_of}

-- ---- the cut

cut_in : (first last cut : ℕ) → is_cut first last cut ≡ true → Contains (cuts_between first last) cut
cut_in first last cut h =
    let parts = and_parts (leb first cut) (leb cut last) h in
    let low = leb-true first cut parts.0 in
    let high = leb-true cut last parts.1 in
    range_in first (last + 1 - first) cut low (omega arith)

cut_of : (first last cut : ℕ) → Contains (cuts_between first last) cut → is_cut first last cut ≡ true
cut_of first last cut h =
    let within = range_from first (last + 1 - first) cut h in
    let high : cut ≤ last = omega (arith, within.0, within.1) in
    and_from (leb first cut) (leb cut last) (le-leb first cut within.0) (le-leb cut last high)

-- ---- the values

all_held : (held : ℕ → List ℕ) (pcrs : List ℕ) (values : List (List ℕ)) → length values ≡ length pcrs → first_differing held pcrs values ≡ None → values ≡ map held pcrs
all_held held [] [] n h = refl
all_held held [] (v ∷ values) n h = absurd (omega arith)
all_held held (p ∷ pcrs) [] n h = absurd (omega arith)
all_held held (p ∷ pcrs) (v ∷ values) n h =
    elim (cases_Bool (bytes_eq (held p) v)) [
      | inl same ↦
          let rest = all_held held pcrs values (omega arith) (sym (ap (λ b. cond b (first_differing held pcrs values) (Some (p, held p))) same) ∙ h) in
          ap (λ x. x ∷ values) (sym (bytes_tell.equal (held p) v same)) ∙ ap (λ (xs : List (List ℕ)). held p ∷ xs) rest
      | inr other ↦ let e : Some (p, held p) ≡ None = sym (ap (λ b. cond b (first_differing held pcrs values) (Some (p, held p))) other) ∙ h in absurd cc
    ]

pub one_differs : (held : ℕ → List ℕ) (pcrs : List ℕ) (values : List (List ℕ)) (at : ℕ × List ℕ) → first_differing held pcrs values ≡ Some at → FirstDiffers held pcrs values at.0 at.1
one_differs held [] values at h = absurd cc
one_differs held (p ∷ pcrs) [] at h = absurd cc
one_differs held (p ∷ pcrs) (v ∷ values) at h =
    elim (cases_Bool (bytes_eq (held p) v)) [
      | inl same ↦
          let later = one_differs held pcrs values at (sym (ap (λ b. cond b (first_differing held pcrs values) (Some (p, held p))) same) ∙ h) in
          record {
            before = p ∷ later.before;
            after = later.after;
            value = later.value;
            rest = later.rest;
            pcrs_are = ap (λ (xs : List ℕ). p ∷ xs) later.pcrs_are;
            values_are = ap (λ x. x ∷ values) (sym (bytes_tell.equal (held p) v same)) ∙ ap (λ (xs : List (List ℕ)). held p ∷ xs) later.values_are;
            reached_is = later.reached_is;
            differs = later.differs;
          }
      | inr other ↦
          let e : Some (p, held p) ≡ Some at = sym (ap (λ b. cond b (first_differing held pcrs values) (Some (p, held p))) other) ∙ h in
          let is : (p, held p) ≡ at = ap (λ o. unwrap_or o (p, held p)) e in
          let here : FirstDiffers held (p ∷ pcrs) (v ∷ values) p (held p) =
          record {
            before = [];
            after = pcrs;
            value = v;
            rest = values;
            pcrs_are = refl;
            values_are = refl;
            reached_is = refl;
            differs = λ same. true≢false (sym (bytes_tell.itself v) ∙ ap (λ x. bytes_eq x v) same ∙ other);
          } in
          subst (λ (x : ℕ × List ℕ). FirstDiffers held (p ∷ pcrs) (v ∷ values) x.0 x.1) is here
    ]

differs_not_held : (held : ℕ → List ℕ) (pcrs : List ℕ) (values : List (List ℕ)) (pcr : ℕ) (reached : List ℕ) → FirstDiffers held pcrs values pcr reached → values ≡ map held pcrs → ⊥
differs_not_held held pcrs values pcr reached d same =
    let both : map held d.before ++ d.value ∷ d.rest ≡ map held d.before ++ held pcr ∷ map held d.after = sym d.values_are ∙ same ∙ ap (map held) d.pcrs_are ∙ map-append held d.before (pcr ∷ d.after) in
    let ends : d.value ∷ d.rest ≡ held pcr ∷ map held d.after = append_cancel_left (map held d.before) (d.value ∷ d.rest) (held pcr ∷ map held d.after) both in
    let first : d.value ≡ held pcr = cc in
    d.differs (first ∙ sym d.reached_is)

-- ---- all parts

module _ (bank : Bank) (locality first : ℕ) (inside : List PlainComponent) (n : ℕ) (q : Proof) where
  abbrev has_cut : Bool
  has_cut = is_cut first (length inside) q.cut

  abbrev has_choice : Bool
  has_choice = is_choice (variants_of (take q.cut inside)) q.choice

  abbrev lacking : Bool
  lacking = some_lacks bank q.pcrs (chosen (variants_of (take q.cut inside)) q.choice)

  abbrev at : Option (ℕ × List ℕ)
  at = first_differing (held_by bank locality inside q) (pcrs_of q.pcrs) q.values

  no_cut : has_cut ≡ false → HasCut first inside q → ⊥
  no_cut lost h = true≢false (sym (cut_of first (length inside) q.cut h) ∙ lost)

  no_choice : has_choice ≡ false → HasChoice inside q → ⊥
  no_choice lost h = true≢false (sym (choice_of (variants_of (take q.cut inside)) q.choice h) ∙ lost)

  by_differing : (o : Option (ℕ × List ℕ)) (e : CheckError) → at ≡ o → HasCut first inside q → HasChoice inside q → HasDigests bank inside q → differing n o ≡ Some e → FailsBy bank locality first inside n q e
  by_differing None e is cut choice digests h = absurd cc
  by_differing (Some x) e is cut choice digests h =
      let same : errors.Differs n x.0 x.1 ≡ e = ap (λ o. unwrap_or o (errors.Cut n)) h in
      subst (FailsBy bank locality first inside n q) same (refl, cut, choice, digests, one_differs (held_by bank locality inside q) (pcrs_of q.pcrs) q.values x is)

  -- a fault is the first part that fails
  pub fails_by : (e : CheckError) → fault_of bank locality first inside n q ≡ Some e → FailsBy bank locality first inside n q e
  fails_by e h =
      elim (cases_Bool has_cut) [
        | inr lost ↦
            let same : errors.Cut n ≡ e = ap (λ o. unwrap_or o (errors.Cut n)) (sym (ap (λ b. fault_by b has_choice lacking at n) lost) ∙ h) in
            subst (FailsBy bank locality first inside n q) same (refl, no_cut lost)
        | inl held ↦
            let cut = cut_in first (length inside) q.cut held in
            let h1 : fault_by true has_choice lacking at n ≡ Some e = sym (ap (λ b. fault_by b has_choice lacking at n) held) ∙ h in
            elim (cases_Bool has_choice) [
              | inr lost ↦
                  let same : errors.Choice n ≡ e = ap (λ o. unwrap_or o (errors.Cut n)) (sym (ap (λ b. fault_by true b lacking at n) lost) ∙ h1) in
                  subst (FailsBy bank locality first inside n q) same (refl, cut, no_choice lost)
              | inl chose ↦
                  let choice = choice_in (variants_of (take q.cut inside)) q.choice chose in
                  let h2 : fault_by true true lacking at n ≡ Some e = sym (ap (λ b. fault_by true b lacking at n) chose) ∙ h1 in
                  elim (cases_Bool lacking) [
                    | inl some ↦
                        let same : errors.NoDigest n ≡ e = ap (λ o. unwrap_or o (errors.Cut n)) (sym (ap (λ b. fault_by true true b at n) some) ∙ h2) in
                        subst (FailsBy bank locality first inside n q) same (refl, cut, choice, λ none. true≢false (sym some ∙ none))
                    | inr none ↦
                        let h3 : differing n at ≡ Some e = sym (ap (λ b. fault_by true true b at n) none) ∙ h2 in
                        by_differing at e refl cut choice none h3
                  ]
            ]
      ]

  none_differs : (o : Option (ℕ × List ℕ)) → differing n o ≡ None → o ≡ None
  none_differs None h = refl
  none_differs (Some x) h = absurd cc

  -- without a fault each part holds
  pub proved_by : length q.values ≡ length (pcrs_of q.pcrs) → fault_of bank locality first inside n q ≡ None → ProvedInside bank locality first inside q
  proved_by long h =
      elim (cases_Bool has_cut) [
        | inr lost ↦ let e : Some (errors.Cut n) ≡ None = sym (ap (λ b. fault_by b has_choice lacking at n) lost) ∙ h in absurd cc
        | inl held ↦
            let h1 : fault_by true has_choice lacking at n ≡ None = sym (ap (λ b. fault_by b has_choice lacking at n) held) ∙ h in
            elim (cases_Bool has_choice) [
              | inr lost ↦ let e : Some (errors.Choice n) ≡ None = sym (ap (λ b. fault_by true b lacking at n) lost) ∙ h1 in absurd cc
              | inl chose ↦
                  let h2 : fault_by true true lacking at n ≡ None = sym (ap (λ b. fault_by true b lacking at n) chose) ∙ h1 in
                  elim (cases_Bool lacking) [
                    | inl some ↦ let e : Some (errors.NoDigest n) ≡ None = sym (ap (λ b. fault_by true true b at n) some) ∙ h2 in absurd cc
                    | inr none ↦
                        let h3 : differing n at ≡ None = sym (ap (λ b. fault_by true true b at n) none) ∙ h2 in
                        record {
                          cut = cut_in first (length inside) q.cut held;
                          choice = choice_in (variants_of (take q.cut inside)) q.choice chose;
                          digests = none;
                          values = all_held (held_by bank locality inside q) (pcrs_of q.pcrs) q.values long (none_differs at h3);
                        }
                  ]
            ]
      ]

  -- and a proved member fails by none
  pub proved_not : (e : CheckError) → FailsBy bank locality first inside n q e → ProvedInside bank locality first inside q → ⊥
  proved_not (errors.Cut number) f p = f.1 p.cut
  proved_not (errors.Choice number) f p = f.2 p.choice
  proved_not (errors.NoDigest number) f p = f.3 p.digests
  proved_not (errors.Differs number pcr reached) f p = differs_not_held (held_by bank locality inside q) (pcrs_of q.pcrs) q.values pcr reached f.4 p.values

  fault_is : (a b c : Bool) (o : Option (ℕ × List ℕ)) → has_cut ≡ a → has_choice ≡ b → lacking ≡ c → at ≡ o → fault_of bank locality first inside n q ≡ fault_by a b c o n
  fault_is a b c o cut choice lacks differs =
      ap (λ x. fault_by x has_choice lacking at n) cut ∙ ap (λ x. fault_by a x lacking at n) choice ∙ ap (λ x. fault_by a b x at n) lacks ∙ ap (λ x. fault_by a b c x n) differs

-- ---- by the tests of the code

module _ (bank : Bank) (locality first : ℕ) (components before : List Component) (choice : List ℕ) (n : ℕ) (q : Proof) where
  abbrev pub IsBefore : Type 0
  IsBefore = (before ≡ take q.cut components) × (choice ≡ q.choice) × (first ≤ q.cut) × (q.cut ≤ length components)

  cut_is : IsBefore → is_cut first (length (plain components)) q.cut ≡ true
  cut_is h = and_from (leb first q.cut) (leb q.cut (length (plain components))) (le-leb first q.cut h.2) (le-leb q.cut (length (plain components)) (omega (arith, h.3, plain_count components)))

  plain_is : IsBefore → plain before ≡ take q.cut (plain components)
  plain_is h = ap plain h.0 ∙ sym (take-map plain_component q.cut components)

  choice_is : (b : Bool) → IsBefore → b ≡ is_choice (variants_of (plain before)) choice → is_choice (variants_of (take q.cut (plain components))) q.choice ≡ b
  choice_is b h is = sym (is ∙ ap (λ cs. is_choice (variants_of cs) choice) (plain_is h) ∙ ap (is_choice (variants_of (take q.cut (plain components)))) h.1)

  lacking_is : (b : Bool) → IsBefore → b ≡ some_lacks bank q.pcrs (chosen (variants_of (plain before)) choice) → some_lacks bank q.pcrs (chosen (variants_of (take q.cut (plain components))) q.choice) ≡ b
  lacking_is b h is = sym (is ∙ ap (λ cs. some_lacks bank q.pcrs (chosen (variants_of cs) choice)) (plain_is h) ∙ ap (λ ch. some_lacks bank q.pcrs (chosen (variants_of (take q.cut (plain components))) ch)) h.1)

  differing_is : (values : List (List ℕ)) (o : Option (ℕ × List ℕ)) → IsBefore → values ≡ q.values → o ≡ first_differing (λ p. reached_by bank p locality (plain before) choice) (pcrs_of q.pcrs) values
      → first_differing (held_by bank locality (plain components) q) (pcrs_of q.pcrs) q.values ≡ o
  differing_is values o h vs is = sym (is ∙ ap (λ cs. first_differing (λ p. reached_by bank p locality cs choice) (pcrs_of q.pcrs) values) (plain_is h)
      ∙ ap (λ ch. first_differing (λ p. reached_by bank p locality (take q.cut (plain components)) ch) (pcrs_of q.pcrs) values) h.1
      ∙ ap (first_differing (held_by bank locality (plain components) q) (pcrs_of q.pcrs)) vs)

  pub no_such_choice : IsBefore → false ≡ is_choice (variants_of (plain before)) choice → Some (errors.Choice n) ≡ fault_of bank locality first (plain components) n q
  no_such_choice h chosen_is = sym (fault_is bank locality first (plain components) n q true false (lacking bank locality first (plain components) n q) (at bank locality first (plain components) n q) (cut_is h) (choice_is false h chosen_is) refl refl)

  pub digest_lacks : IsBefore → true ≡ is_choice (variants_of (plain before)) choice → true ≡ some_lacks bank q.pcrs (chosen (variants_of (plain before)) choice) → Some (errors.NoDigest n) ≡ fault_of bank locality first (plain components) n q
  digest_lacks h chosen_is lack = sym (fault_is bank locality first (plain components) n q true true true (at bank locality first (plain components) n q) (cut_is h) (choice_is true h chosen_is) (lacking_is true h lack) refl)

  pub differs_at : (values : List (List ℕ)) (o : Option (ℕ × List ℕ)) → IsBefore → true ≡ is_choice (variants_of (plain before)) choice → false ≡ some_lacks bank q.pcrs (chosen (variants_of (plain before)) choice) → values ≡ q.values
      → o ≡ first_differing (λ p. reached_by bank p locality (plain before) choice) (pcrs_of q.pcrs) values → differing n o ≡ fault_of bank locality first (plain components) n q
  differs_at values o h chosen_is lack vs is = sym (fault_is bank locality first (plain components) n q true true false o (cut_is h) (choice_is true h chosen_is) (lacking_is false h lack) (differing_is values o h vs is))
