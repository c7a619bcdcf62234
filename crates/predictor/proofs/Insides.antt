-- The components inside a window's end are the first ones.
use Rattle.std.proofs.Common.{◌≡◌, ℕ, suc, ◌≤◌, true, false, cond, not, List, [], ◌∷◌, length, take, map, refl, sym, ap, ◌∙◌, inl, inr, arith}
use Rattle.std.specs.declared.cmp.Ordering.{Ordering}
use Rattle.std.specs.declared.cmp.Ordering.TheVariants.{Less, Equal, Greater}
use Rattle.std.specs.Ordering.{nat_cmp, is_lt, is_gt}
use Rattle.std.specs.Cmp.{upto}
use Rattle.std.specs.Cmp.Lexicographic.{slice_cmp, nat_list_cmp_total}
use Rattle.std.proofs.lemmas.Bool.{cases_Bool, and_parts, true≢false, false≢true}
use Rattle.std.proofs.lemmas.List.{length-map}
use Rattle.component_tree.specs.declared.tree.Component.{Component}
use Rattle.component_tree.specs.Ascending.{ascend}
use Rattle.component_tree.specs.PlainTree.{plain, plain_component, PlainComponent}
use Rattle.predictor.specs.Ends.{is_greater}
use Rattle.predictor.specs.Cuts.{is_inside, inside_of}

below_not_above : (r : Ordering) → is_lt r ≡ true → is_gt r ≡ false
below_not_above Less h = refl
below_not_above Equal h = refl
below_not_above Greater h = absurd (false≢true h)

-- what is above one that is greater than the end is greater than it
still_greater : (x y end : List ℕ) → is_lt (slice_cmp nat_cmp x y) ≡ true → is_greater x end ≡ true → is_greater y end ≡ true
still_greater x y end below above =
    elim (cases_Bool (is_greater y end)) [
      | inl greater ↦ greater
      | inr within ↦ absurd (true≢false (sym above ∙ upto nat_list_cmp_total x y end (below_not_above (slice_cmp nat_cmp x y) below) within))
    ]

none_inside : (end x : List ℕ) (cs : List Component) → ascend (x ∷ map (λ c. c.id) cs) ≡ true → is_greater x end ≡ true → inside_of end (plain cs) ≡ []
none_inside end x [] up above = refl
none_inside end x (c ∷ cs) up above =
    let h = and_parts (is_lt (slice_cmp nat_cmp x c.id)) (ascend (c.id ∷ map (λ c. c.id) cs)) up in
    let greater = still_greater x c.id end h.0 above in
    ap (λ b. cond (not b) (plain_component c ∷ inside_of end (plain cs)) (inside_of end (plain cs))) greater ∙ none_inside end c.id cs h.1 greater

ascend_rest : (x : List ℕ) (names : List (List ℕ)) → ascend (x ∷ names) ≡ true → ascend names ≡ true
ascend_rest x [] up = refl
ascend_rest x (y ∷ names) up = (and_parts (is_lt (slice_cmp nat_cmp x y)) (ascend (y ∷ names)) up).1

pub first_inside : (end : List ℕ) (cs : List Component) → ascend (map (λ c. c.id) cs) ≡ true → plain (take (length (inside_of end (plain cs))) cs) ≡ inside_of end (plain cs)
first_inside end [] up = refl
first_inside end (c ∷ cs) up =
    elim (cases_Bool (is_greater c.id end)) [
      | inl greater ↦
          let none : inside_of end (plain (c ∷ cs)) ≡ [] = ap (λ b. cond (not b) (plain_component c ∷ inside_of end (plain cs)) (inside_of end (plain cs))) greater ∙ none_inside end c.id cs up greater in
          ap (λ (l : List PlainComponent). plain (take (length l) (c ∷ cs))) none ∙ sym none
      | inr within ↦
          let some : inside_of end (plain (c ∷ cs)) ≡ plain_component c ∷ inside_of end (plain cs) = ap (λ b. cond (not b) (plain_component c ∷ inside_of end (plain cs)) (inside_of end (plain cs))) within in
          ap (λ (l : List PlainComponent). plain (take (length l) (c ∷ cs))) some
          ∙ ap (λ (l : List PlainComponent). plain_component c ∷ l) (first_inside end cs (ascend_rest c.id (map (λ c. c.id) cs) up)) ∙ sym some
    ]

pub few_inside : (end : List ℕ) (cs : List PlainComponent) → length (inside_of end cs) ≤ length cs
few_inside end [] = omega arith
few_inside end (c ∷ cs) =
    let more = few_inside end cs in
    elim (is_inside end c) as (λ b. length (cond b (c ∷ inside_of end cs) (inside_of end cs)) ≤ suc (length cs)) [ true ↦ omega arith | false ↦ omega arith ]

pub plain_count : (cs : List Component) → length (plain cs) ≡ length cs
plain_count cs = length-map cs plain_component
