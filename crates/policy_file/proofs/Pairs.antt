-- Items of which each was tested against those before it.
use Rattle.std.proofs.Common.{◌≡◌, Bool, true, ◌&&◌, List, [], ◌∷◌, ◌++◌, refl, sym, ◌∙◌}
use Rattle.std.specs.List.{list_all}
use Rattle.std.proofs.lemmas.Bool.{and_parts}
use Rattle.std.proofs.lemmas.List.Folds.{list_all-append}
use Rattle.pl_layout.proofs.Repeats.{FitBehind}
use Rattle.policy_digest.specs.Table.{each_pair}

both : (a b : Bool) → a ≡ true → b ≡ true → (a && b) ≡ true
both a b x y = rw (x, y) refl

module _ {A : Type 0} (ok : A → Bool) (test : A → A → Bool) where
  -- an item that is allowed, and passes the test with each before it
  abbrev pub Behind : List A → A → Type 0
  Behind before a = (ok a ≡ true) × (list_all (λ b. test b a) before ≡ true)

  -- each of some items passes the test with each of some more
  abbrev pub crossed : List A → List A → Bool
  crossed before more = list_all (λ b. list_all (test b) more) before

  record Paired (before more : List A) : Type 0 where
    allowed : list_all ok more ≡ true
    pairs : each_pair test more ≡ true
    across : crossed before more ≡ true

  -- nothing more is in question
  crossed_none : (before : List A) → crossed before [] ≡ true
  crossed_none [] = refl
  crossed_none (b ∷ before) = crossed_none before

  -- one more with all others
  crossed_more : (before more : List A) (a : A) → list_all (λ b. test b a) before ≡ true → crossed before more ≡ true → crossed before (a ∷ more) ≡ true
  crossed_more [] more a h k = refl
  crossed_more (b ∷ before) more a h k =
      let p = and_parts (test b a) (list_all (λ b. test b a) before) h in
      let q = and_parts (list_all (test b) more) (crossed before more) k in
      both _ _ (both _ _ p.0 q.0) (crossed_more before more a p.1 q.1)

  crossed_less : (before more : List A) (a : A) → crossed before (a ∷ more) ≡ true → (list_all (λ b. test b a) before ≡ true) × (crossed before more ≡ true)
  crossed_less [] more a k = (refl, refl)
  crossed_less (b ∷ before) more a k =
      let p = and_parts (test b a && list_all (test b) more) (crossed before (a ∷ more)) k in
      let q = and_parts (test b a) (list_all (test b) more) p.0 in
      let r = crossed_less before more a p.1 in
      (both _ _ q.0 r.0, both _ _ q.1 r.1)

  -- the last of those before
  crossed_last : (before more : List A) (a : A) → crossed (before ++ a ∷ []) more ≡ true → (crossed before more ≡ true) × (list_all (test a) more ≡ true)
  crossed_last before more a k =
      let p = and_parts (crossed before more) (crossed (a ∷ []) more) (sym (list_all-append (λ b. list_all (test b) more) before (a ∷ [])) ∙ k) in
      let q = and_parts (list_all (test a) more) true p.1 in
      (p.0, q.0)

  crossed_end : (before more : List A) (a : A) → crossed before more ≡ true → list_all (test a) more ≡ true → crossed (before ++ a ∷ []) more ≡ true
  crossed_end before more a k h = list_all-append (λ b. list_all (test b) more) before (a ∷ []) ∙ both _ _ k (both _ _ h refl)

  to_paired : (before more : List A) → FitBehind Behind before more → Paired before more
  to_paired before [] fits = record { allowed = refl; pairs = refl; across = crossed_none before }
  to_paired before (a ∷ more) fits =
      let rest = to_paired (before ++ a ∷ []) more fits.1 in
      let last = crossed_last before more a rest.across in
      record {
        allowed = both _ _ fits.0.0 rest.allowed;
        pairs = both _ _ last.1 rest.pairs;
        across = crossed_more before more a fits.0.1 last.0;
      }

  from_paired : (before more : List A) → Paired before more → FitBehind Behind before more
  from_paired before [] h = tt
  from_paired before (a ∷ more) h =
      let ok_parts = and_parts (ok a) (list_all ok more) h.allowed in
      let pair_parts = and_parts (list_all (test a) more) (each_pair test more) h.pairs in
      let cross = crossed_less before more a h.across in
      ((ok_parts.0, cross.0), from_paired (before ++ a ∷ []) more (record { allowed = ok_parts.1; pairs = pair_parts.1; across = crossed_end before more a cross.1 pair_parts.0 }))

  -- of all items
  pub all_paired : (all : List A) → FitBehind Behind [] all → (list_all ok all ≡ true) × (each_pair test all ≡ true)
  all_paired all fits = let p = to_paired [] all fits in (p.allowed, p.pairs)

  pub paired_all : (all : List A) → list_all ok all ≡ true → each_pair test all ≡ true → FitBehind Behind [] all
  paired_all all allowed pairs = from_paired [] all (record { allowed = allowed; pairs = pairs; across = refl })
