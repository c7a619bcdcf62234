-- Keys beside a list: the order tells the states apart, and both grow together.
use Rattle.std.proofs.Common.{◌≡◌, ℕ, ◌-◌, ◌≤◌, ◌<◌, Bool, true, false, cond, ◌||◌, List, [], ◌∷◌, ◌++◌, length, drop, refl, sym, ap, ◌∙◌, arith}
use Rattle.std.specs.List.{list_any, remove}
use Rattle.std.specs.Ordering.{nat_cmp}
use Rattle.std.specs.Cmp.{eq_by_cmp_equiv}
use Rattle.std.specs.Cmp.Lexicographic.{slice_cmp, texts_ties, lists_ties}
use Rattle.std.specs.declared.cmp.Ordering.TheVariants.{Less}
use Rattle.std.specs.BTreeMap.{is_at}
use Rattle.std.proofs.lemmas.List.{append-nil, drop_more}
use Rattle.std.proofs.Math.ListN.{drop_of_length-le}
use Rattle.std.proofs.lemmas.List.Edits.{remove-append_right}
use Rattle.record_match.proofs.Searches.{any-append}
use Rattle.policy_digest.specs.Table.{values_eq}
use Rattle.predictor.specs.declared.reached.Reached.{Reached}
use Rattle.predictor.specs.StateOrder.{state_cmp, state_total, has_values, HasKeys}

abbrev State : Type 0
State = List (List ℕ)

-- ---- equal in the order, or the same

same_state : (a b : State) → values_eq a b ≡ is_at (state_cmp a) b
same_state a b = lists_ties (slice_cmp nat_cmp) texts_ties a b

-- the other way round
at_back : (a b : State) → is_at (state_cmp a) b ≡ is_at (state_cmp b) a
at_back a b = (eq_by_cmp_equiv state_total).symm a b

-- ---- the keys and the list grow together

or_more : (a b : Bool) → cond a true b ≡ (b || (a || false))
or_more true true = refl
or_more true false = refl
or_more false true = refl
or_more false false = refl

pub keys_more : (keys new : List (List (List ℕ))) (list : List Reached) (key : List (List ℕ)) (s : Reached) → key ≡ s.values → HasKeys keys list
    → ((q : List (List ℕ)) → list_any (is_at (state_cmp q)) new ≡ cond (is_at (state_cmp key) q) true (list_any (is_at (state_cmp q)) keys)) → HasKeys new (list ++ s ∷ [])
keys_more keys new list key s same has grown q =
    grown q ∙ ap (cond (is_at (state_cmp key) q) true) (has q) ∙ or_more (is_at (state_cmp key) q) (has_values q list)
    ∙ ap (λ b. has_values q list || (b || false)) (at_back key q ∙ sym (same_state q key) ∙ ap (values_eq q) same)
    ∙ sym (any-append (λ (r : Reached). values_eq q r.values) list (s ∷ []))

-- a member that was just put is taken back
pub taken_back : {A : Type 0} (xs : List A) (y : A) → remove (xs ++ y ∷ []) (length xs) ≡ xs
taken_back xs y =
    let none : length xs - length xs ≡ 0 = omega arith in
    remove-append_right xs (y ∷ []) (length xs) (length xs) refl (omega arith) ∙ ap (λ i. xs ++ remove (y ∷ []) i) none ∙ append-nil xs

-- ---- one digest after the other

-- the first list is at its end, and the second isn't
pub shorter_first : (a b : List (List ℕ)) (i : ℕ) → length a ≤ i → i < length b → state_cmp (drop i a) (drop i b) ≡ state_cmp a b → Less ≡ state_cmp a b
shorter_first a b i all more rest = rw (drop_of_length-le a all, drop_more b i [] more) at rest
