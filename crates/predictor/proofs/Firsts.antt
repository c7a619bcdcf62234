-- Members that are told apart by a view of them: of those with one view the first is kept.
use Rattle.std.proofs.Common.{◌≡◌, Bool, true, false, cond, ◌||◌, List, [], ◌∷◌, ◌++◌, map, Some, None, refl, sym, ap, ◌∙◌, subst, inl, inr, append_assoc}
use Rattle.std.specs.Prelude.{find, ◌⊎◌}
use Rattle.std.specs.List.{All, list_any, flat_map}
use Rattle.std.specs.Option.{option_or}
use Rattle.std.proofs.lemmas.Bool.{cases_Bool, or_cases, or_left, or_parts, or_right, false≢true, false_from_ne_true}
use Rattle.std.proofs.lemmas.List.{append-nil, map-append}
use Rattle.std.proofs.lemmas.List.Concat.{flat_map-append}
use Rattle.std.proofs.lemmas.List.Elements.{All-nil, All-push, All-weaker}
use Rattle.record_match.proofs.Searches.{any-append, find-append}
use Rattle.record_match.proofs.Plainly.{list_any-map}
use Rattle.predictor.specs.Distinct.{put, put_all, distinct}
use Rattle.predictor.proofs.Repeats.{Tells, all_put-append, all_put_there, put_again, put_viewed}

abbrev pub by_view : {A C : Type 0} → (A → C) → (C → C → Bool) → A → A → Bool
by_view view eq a b = eq (view a) (view b)

pub any_viewed : {A C : Type 0} (view : A → C) (eq : C → C → Bool) (x : A) (list : List A) → list_any (by_view view eq x) list ≡ list_any (eq (view x)) (map view list)
any_viewed view eq x list = sym (list_any-map view (eq (view x)) list)

pub view_put : {A C : Type 0} (view : A → C) (eq : C → C → Bool) (list xs : List A) → map view (put_all (by_view view eq) list xs) ≡ put_all eq (map view list) (map view xs)
view_put view eq list xs = sym (put_viewed (by_view view eq) eq view (λ a b. refl) list xs)

-- ---- dropped before they are put to another list

put_there : {A C : Type 0} (view : A → C) (eq : C → C → Bool) (t : Tells eq) (list seen : List A) (x : A) → list_any (by_view view eq x) seen ≡ true → list_any (by_view view eq x) (put_all (by_view view eq) list seen) ≡ true
put_there view eq t list seen x h =
    any_viewed view eq x (put_all (by_view view eq) list seen) ∙ ap (list_any (eq (view x))) (view_put view eq list seen)
    ∙ all_put_there eq t (map view list) (map view seen) (view x) (sym (any_viewed view eq x seen) ∙ h)

twice : {A C : Type 0} (view : A → C) (eq : C → C → Bool) (t : Tells eq) (list seen xs : List A) → put_all (by_view view eq) list (put_all (by_view view eq) seen xs) ≡ put_all (by_view view eq) (put_all (by_view view eq) list seen) xs
twice view eq t list seen [] = refl
twice view eq t list seen (x ∷ xs) =
    let same = by_view view eq in
    elim (cases_Bool (list_any (same x) seen)) [
      | inl there ↦
          ap (λ b. put_all same list (put_all same (cond b seen (seen ++ x ∷ [])) xs)) there
          ∙ twice view eq t list seen xs
          ∙ ap (λ l. put_all same l xs) (sym (put_again same (put_all same list seen) x (put_there view eq t list seen x there)))
      | inr absent ↦
          ap (λ b. put_all same list (put_all same (cond b seen (seen ++ x ∷ [])) xs)) absent
          ∙ twice view eq t list (seen ++ x ∷ []) xs
          ∙ ap (λ l. put_all same l xs) (all_put-append same list seen (x ∷ []))
    ]

pub put_firsts : {A C : Type 0} (view : A → C) (eq : C → C → Bool) (t : Tells eq) (list xs : List A) → put_all (by_view view eq) list (distinct (by_view view eq) xs) ≡ put_all (by_view view eq) list xs
put_firsts view eq t list xs = twice view eq t list [] xs

-- ---- dropped before each is mapped to several

-- what the one has the other has
abbrev Within : {C : Type 0} → (C → C → Bool) → List C → List C → Type 0
Within {C} eq xs ys = (y : C) → list_any (eq y) xs ≡ true → list_any (eq y) ys ≡ true

put_none : {A C : Type 0} (view : A → C) (eq : C → C → Bool) (t : Tells eq) (list xs : List A) → Within eq (map view xs) (map view list) → put_all (by_view view eq) list xs ≡ list
put_none view eq t list [] h = refl
put_none view eq t list (x ∷ xs) h =
    let same = by_view view eq in
    let here : list_any (same x) list ≡ true = any_viewed view eq x list ∙ h (view x) (or_left (eq (view x) (view x)) (list_any (eq (view x)) (map view xs)) (t.itself (view x))) in
    ap (λ l. put_all same l xs) (put_again same list x here)
    ∙ put_none view eq t list xs (λ y i. h y (or_right (eq y (view x)) (list_any (eq y) (map view xs)) i))

module _ {A B C D : Type 0} (view : A → C) (eq : C → C → Bool) (t : Tells eq) (view_b : B → D) (eq_b : D → D → Bool) (tb : Tells eq_b) (f : A → List B) (alike : (x y : A) → view x ≡ view y → map view_b (f x) ≡ map view_b (f y)) where
  abbrev same : A → A → Bool
  same = by_view view eq

  abbrev same_b : B → B → Bool
  same_b = by_view view_b eq_b

  seen_within : (x : A) (seen : List A) → list_any (same x) seen ≡ true → Within eq_b (map view_b (f x)) (map view_b (flat_map f seen))
  seen_within x [] h = absurd (false≢true h)
  seen_within x (s ∷ seen) h = λ y i.
      let split : list_any (eq_b y) (map view_b (f s ++ flat_map f seen)) ≡ (list_any (eq_b y) (map view_b (f s)) || list_any (eq_b y) (map view_b (flat_map f seen))) =
      ap (list_any (eq_b y)) (map-append view_b (f s) (flat_map f seen)) ∙ any-append (eq_b y) (map view_b (f s)) (map view_b (flat_map f seen)) in
      elim (or_cases (same x s) (list_any (same x) seen) h) [
        | inl here ↦
            let own : list_any (eq_b y) (map view_b (f s)) ≡ true = ap (list_any (eq_b y)) (sym (alike x s (t.equal (view x) (view s) here))) ∙ i in
            split ∙ or_left (list_any (eq_b y) (map view_b (f s))) (list_any (eq_b y) (map view_b (flat_map f seen))) own
        | inr later ↦ split ∙ or_right (list_any (eq_b y) (map view_b (f s))) (list_any (eq_b y) (map view_b (flat_map f seen))) (seen_within x seen later y i)
      ]

  kept_within : (seen : List A) → Within eq_b (map view_b (flat_map f seen)) (map view_b (distinct same_b (flat_map f seen)))
  kept_within seen = λ y i. ap (list_any (eq_b y)) (view_put view_b eq_b [] (flat_map f seen)) ∙ all_put_there eq_b tb [] (map view_b (flat_map f seen)) y i

  early : (seen xs : List A) → put_all same_b (distinct same_b (flat_map f seen)) (flat_map f xs) ≡ distinct same_b (flat_map f (put_all same seen xs))
  early seen [] = refl
  early seen (x ∷ xs) =
      let d = distinct same_b (flat_map f seen) in
      all_put-append same_b d (f x) (flat_map f xs)
      ∙ elim (cases_Bool (list_any (same x) seen)) [
        | inl there ↦
            ap (λ l. put_all same_b l (flat_map f xs)) (put_none view_b eq_b tb d (f x) (λ y i. kept_within seen y (seen_within x seen there y i)))
            ∙ early seen xs
            ∙ ap (λ l. distinct same_b (flat_map f (put_all same l xs))) (sym (put_again same seen x there))
        | inr absent ↦
            let pushed : flat_map f (seen ++ x ∷ []) ≡ flat_map f seen ++ f x = flat_map-append f seen (x ∷ []) ∙ ap (λ l. flat_map f seen ++ l) (append-nil (f x)) in
            ap (λ l. put_all same_b l (flat_map f xs)) (sym (all_put-append same_b [] (flat_map f seen) (f x)) ∙ ap (distinct same_b) (sym pushed))
            ∙ early (seen ++ x ∷ []) xs
            ∙ ap (λ b. distinct same_b (flat_map f (put_all same (cond b seen (seen ++ x ∷ [])) xs))) (sym absent)
      ]

  pub firsts_early : (xs : List A) → distinct same_b (flat_map f (distinct same xs)) ≡ distinct same_b (flat_map f xs)
  firsts_early xs = sym (early [] xs)

-- ---- what is kept is the first with its view

none_found : {A : Type 0} (test : A → Bool) (xs : List A) → list_any test xs ≡ false → find test xs ≡ None
none_found test [] h = refl
none_found test (x ∷ xs) h =
    let both = or_parts (test x) (list_any test xs) h in
    ap (λ b. cond b (Some x) (find test xs)) both.0 ∙ none_found test xs both.1

found_still : {A : Type 0} (test : A → Bool) (xs ys : List A) (x : A) → find test xs ≡ Some x → find test (xs ++ ys) ≡ Some x
found_still test xs ys x h = find-append test xs ys ∙ ap (λ o. option_or o (find test ys)) h

module _ {A C : Type 0} (view : A → C) (eq : C → C → Bool) (t : Tells eq) where
  abbrev alike : A → A → Bool
  alike = by_view view eq

  -- each is the first of those that were seen, and each view that was seen is there
  record Keeps (seen list : List A) : Type 0 where
    firsts : All (λ q. find (alike q) seen ≡ Some q) list
    views : (y : A) → list_any (alike y) seen ≡ true → list_any (alike y) list ≡ true

  seen_still : (seen list : List A) (x : A) → Keeps seen list → All (λ q. find (alike q) (seen ++ x ∷ []) ≡ Some q) list
  seen_still seen list x k = All-weaker (λ q. find (alike q) seen ≡ Some q) (λ q. find (alike q) (seen ++ x ∷ []) ≡ Some q) (λ q h. found_still (alike q) seen (x ∷ []) q h) list k.firsts

  seen_or : (seen : List A) (x y : A) → list_any (alike y) (seen ++ x ∷ []) ≡ true → (list_any (alike y) seen ≡ true) ⊎ (view y ≡ view x)
  seen_or seen x y h =
      elim (or_cases (list_any (alike y) seen) (list_any (alike y) (x ∷ [])) (sym (any-append (alike y) seen (x ∷ [])) ∙ h)) [
        | inl before ↦ inl before
        | inr last ↦ elim (or_cases (alike y x) false last) [ inl same ↦ inr (t.equal (view y) (view x) same) | inr never ↦ absurd (false≢true never) ]
      ]

  keeps_there : (seen list : List A) (x : A) → Keeps seen list → list_any (alike x) list ≡ true → Keeps (seen ++ x ∷ []) list
  keeps_there seen list x k there = record {
    firsts = seen_still seen list x k;
    views = λ y h. elim (seen_or seen x y h) [ inl before ↦ k.views y before | inr same ↦ ap (λ v. list_any (λ q. eq v (view q)) list) same ∙ there ];
  }

  keeps_new : (seen list : List A) (x : A) → Keeps seen list → list_any (alike x) list ≡ false → Keeps (seen ++ x ∷ []) (list ++ x ∷ [])
  keeps_new seen list x k absent =
      let unseen : list_any (alike x) seen ≡ false = false_from_ne_true (list_any (alike x) seen) (λ h. false≢true (sym absent ∙ k.views x h)) in
      let found : find (alike x) (seen ++ x ∷ []) ≡ Some x =
      find-append (alike x) seen (x ∷ []) ∙ ap (λ o. option_or o (find (alike x) (x ∷ []))) (none_found (alike x) seen unseen) ∙ ap (λ b. cond b (Some x) None) (t.itself (view x)) in
      record {
        firsts = All-push (λ q. find (alike q) (seen ++ x ∷ []) ≡ Some q) list x (seen_still seen list x k) found;
        views = λ y h.
            any-append (alike y) list (x ∷ []) ∙ elim (seen_or seen x y h) [
              | inl before ↦ or_left (list_any (alike y) list) (list_any (alike y) (x ∷ [])) (k.views y before)
              | inr same ↦ or_right (list_any (alike y) list) (list_any (alike y) (x ∷ [])) (or_left (alike y x) false (ap (λ v. eq v (view x)) same ∙ t.itself (view x)))
            ];
      }

  keeps_all : (seen list xs : List A) → Keeps seen list → Keeps (seen ++ xs) (put_all alike list xs)
  keeps_all seen list [] k = subst (λ s. Keeps s list) (sym (append-nil seen)) k
  keeps_all seen list (x ∷ xs) k =
      let whole : (seen ++ x ∷ []) ++ xs ≡ seen ++ (x ∷ xs) = append_assoc seen (x ∷ []) xs in
      elim (cases_Bool (list_any (alike x) list)) [
        | inl there ↦
            subst (λ s. Keeps s (put_all alike (put alike list x) xs)) whole (subst (λ l. Keeps ((seen ++ x ∷ []) ++ xs) (put_all alike l xs)) (sym (put_again alike list x there))
            (keeps_all (seen ++ x ∷ []) list xs (keeps_there seen list x k there)))
        | inr absent ↦
            subst (λ s. Keeps s (put_all alike (put alike list x) xs)) whole (subst (λ l. Keeps ((seen ++ x ∷ []) ++ xs) (put_all alike l xs)) (sym (ap (λ b. cond b list (list ++ x ∷ [])) absent))
            (keeps_all (seen ++ x ∷ []) (list ++ x ∷ []) xs (keeps_new seen list x k absent)))
      ]

  pub firsts_kept : (xs : List A) → All (λ q. find (alike q) xs ≡ Some q) (distinct alike xs)
  firsts_kept xs = (keeps_all [] [] xs (record { firsts = All-nil (λ q. find (alike q) [] ≡ Some q); views = λ y h. absurd (false≢true h) })).firsts
