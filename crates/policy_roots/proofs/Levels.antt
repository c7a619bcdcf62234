-- A level tells the one below it, group by group, and the top of a row its leaves.
use Rattle.std.proofs.Common.{◌≡◌, ℕ, zero, suc, ◌+◌, ◌-◌, ◌*◌, ◌≤◌, List, [], ◌∷◌, ◌++◌, map, length, take, drop, refl, sym, ap, ap₂, subst, ◌∙◌, arith, drop-drop, length-drop, take-append-drop}
use Rattle.std.specs.List.{flat_map, range_with_len}
use Rattle.std.proofs.lemmas.List.{map-append}
use Rattle.std.proofs.lemmas.List.Elements.{All-take, Contains-append_left, Contains-append_right}
use Rattle.hash_bank.specs.HashedString.{HashedString, NoClash}
use Rattle.policy_digest.specs.Levels.{first_of, group, group_count, groups, listed, next_level, top_of_leaves, up}
use Rattle.policy_digest.specs.TableStrings.{level_strings, levels_strings, or_string}
use Rattle.or_tree.proofs.Groups.{next_length, third_size}
use Rattle.policy_roots.specs.Depth.{HasDepth, IsJoined, IsLevel, IsPlaced, IsWithin}
use Rattle.policy_roots.specs.Held.{AreHeld}
use Rattle.policy_roots.proofs.Depths.{exactly, level_drop, level_sizes, one_depth, one_more, same_list}

-- ---- the first group, and the rest

later_groups : (level : List (List ℕ)) (first count : ℕ) → map (group level) (range_with_len (first + 1) count) ≡ map (group (drop 8 level)) (range_with_len first count)
later_groups level first zero = refl
later_groups level first (suc count) =
    let place : 8 + 8 * first ≡ 8 * (first + 1) = omega arith in
    let here : group level (first + 1) ≡ group (drop 8 level) first = ap (λ (n : ℕ). take 8 (drop n level)) (sym place) ∙ ap (take 8) (sym (drop-drop (8 * first) 8 level)) in
    ap₂ (λ (g : List (List ℕ)) (gs : List (List (List ℕ))). g ∷ gs) here (later_groups level (first + 1) count)

first_group : (digest : List ℕ) (rest : List (List ℕ)) → groups (digest ∷ rest) ≡ take 8 (digest ∷ rest) ∷ groups (drop 8 (digest ∷ rest))
first_group digest rest =
    let level = digest ∷ rest in
    let left : length (drop 8 level) ≡ length level - 8 = length-drop 8 level in
    let more : group_count level ≡ suc (group_count (drop 8 level)) = omega arith in
    ap (λ (count : ℕ). map (group level) (range_with_len 0 count)) more
    ∙ ap (λ (gs : List (List (List ℕ))). take 8 level ∷ gs) (later_groups level 0 (group_count (drop 8 level)))

next_first : (digest : List ℕ) (rest : List (List ℕ)) → next_level (digest ∷ rest) ≡ up (take 8 (digest ∷ rest)) ∷ next_level (drop 8 (digest ∷ rest))
unfolding next_level
next_first digest rest = ap (map up) (first_group digest rest)

next_none : next_level [] ≡ []
unfolding next_level
next_none = refl

strings_first : (digest : List ℕ) (rest : List (List ℕ))
    → level_strings (digest ∷ rest) ≡ map or_string (listed (take 8 (digest ∷ rest))) ++ level_strings (drop 8 (digest ∷ rest))
unfolding level_strings
strings_first digest rest =
    let level = digest ∷ rest in
    ap (λ (gs : List (List (List ℕ))). map or_string (flat_map listed gs)) (first_group digest rest)
    ∙ map-append or_string (listed (take 8 level)) (flat_map listed (groups (drop 8 level)))

-- ---- strings

module _ (S : HashedString → Type 0) where
  pub held_left : (some others : List HashedString) → AreHeld S (some ++ others) → AreHeld S some
  held_left some others held s at = held s (Contains-append_left some others s at)

  pub held_right : (some others : List HashedString) → AreHeld S (some ++ others) → AreHeld S others
  held_right some others held s at = held s (Contains-append_right some others s at)

  pub held_head : (s : HashedString) (strings : List HashedString) → AreHeld S (s ∷ strings) → S s
  held_head s strings held = held s (0, omega arith, refl)

  pub held_tail : (s : HashedString) (strings : List HashedString) → AreHeld S (s ∷ strings) → AreHeld S strings
  held_tail s strings held t at = held t (suc at.0, omega (arith, at.1), at.2)

  held_group : (digest : List ℕ) (rest : List (List ℕ)) → AreHeld S (level_strings (digest ∷ rest)) → AreHeld S (map or_string (listed (take 8 (digest ∷ rest))))
  held_group digest rest held = held_left _ (level_strings (drop 8 (digest ∷ rest))) (subst (AreHeld S) (strings_first digest rest) held)

  held_rest : (digest : List ℕ) (rest : List (List ℕ)) → AreHeld S (level_strings (digest ∷ rest)) → AreHeld S (level_strings (drop 8 (digest ∷ rest)))
  held_rest digest rest held = held_right (map or_string (listed (take 8 (digest ∷ rest)))) _ (subst (AreHeld S) (strings_first digest rest) held)

  -- ---- one level up

  -- what stands for a first group of several is their PolicyOR, one deeper than the level
  joined_group : (number : ℕ) (d e : List ℕ) (ds : List (List ℕ)) → IsLevel S number (d ∷ e ∷ ds) → S (or_string (d ∷ e ∷ take 6 ds))
      → IsJoined S (d ∷ e ∷ take 6 ds) (up (d ∷ e ∷ take 6 ds))
  joined_group number d e ds level string = record {
    sizes = All-take (λ (x : List ℕ). length x ≡ 32) 8 (d ∷ e ∷ ds) (level_sizes S (d ∷ e ∷ ds) number level);
    string = string;
    same = refl;
  }

  joined_depth : (number : ℕ) (d e : List ℕ) (ds : List (List ℕ)) → IsLevel S number (d ∷ e ∷ ds) → S (or_string (d ∷ e ∷ take 6 ds))
      → HasDepth S (up (d ∷ e ∷ take 6 ds)) (suc number)
  joined_depth number d e ds level string = (d ∷ e ∷ take 6 ds, joined_group number d e ds level string, level.0)

  -- what stands for the first group
  raised_first : (number : ℕ) (digest : List ℕ) (rest : List (List ℕ)) → IsLevel S number (digest ∷ rest) → AreHeld S (map or_string (listed (take 8 (digest ∷ rest))))
      → IsPlaced S (suc number) (up (take 8 (digest ∷ rest))) (next_level (drop 8 (digest ∷ rest)))
  raised_first number digest [] level held = subst (IsPlaced S (suc number) digest) (sym next_none) (one_more S digest number level.0)
  raised_first number digest (next ∷ rest) level held =
      exactly S (up (digest ∷ next ∷ take 6 rest)) (next_level (drop 6 rest)) (suc number) (joined_depth number digest next rest level (held_head _ [] held))

  next_is_level : (size number : ℕ) (level : List (List ℕ)) → length level ≤ size → IsLevel S number level → AreHeld S (level_strings level)
      → IsLevel S (suc number) (next_level level)
  next_is_level size number [] few is held = subst (IsLevel S (suc number)) (sym next_none) tt
  next_is_level zero number (digest ∷ rest) few is held = absurd (omega (arith, few))
  next_is_level (suc size) number (digest ∷ rest) few is held =
      let left = drop 8 (digest ∷ rest) in
      let fewer : length left ≤ size = omega (arith, few, length-drop 8 (digest ∷ rest)) in
      subst (IsLevel S (suc number)) (sym (next_first digest rest)) (
        raised_first number digest rest is (held_group digest rest held),
        next_is_level size number left fewer (level_drop S 8 (digest ∷ rest) number is) (held_rest digest rest held),
      )

  pub level_above : (number : ℕ) (level : List (List ℕ)) → IsLevel S number level → AreHeld S (level_strings level) → IsLevel S (suc number) (next_level level)
  level_above number level is held = next_is_level (length level) number level (omega arith) is held

  module _ (safe : NoClash S) where
    -- ---- one level down

    -- a digest that was passed up is no PolicyOR of the level
    alone_or_joined : (number : ℕ) (d joined : List ℕ) → IsWithin S d number → HasDepth S joined (suc number) → d ≡ joined → ⊥
    alone_or_joined number d joined within deep e =
        let same = one_depth S safe d within.depth (suc number) within.has (subst (λ (x : List ℕ). HasDepth S x (suc number)) (sym e) deep) in
        omega (arith, within.few, same)

    same_group : (number : ℕ) (d : List ℕ) (ds : List (List ℕ)) (e : List ℕ) (es : List (List ℕ)) → IsLevel S number (d ∷ ds) → IsLevel S number (e ∷ es)
        → AreHeld S (map or_string (listed (take 8 (d ∷ ds)))) → AreHeld S (map or_string (listed (take 8 (e ∷ es))))
        → up (take 8 (d ∷ ds)) ≡ up (take 8 (e ∷ es)) → take 8 (d ∷ ds) ≡ take 8 (e ∷ es)
    same_group number d [] e [] a b held kept same = ap (λ (x : List ℕ). x ∷ []) same
    same_group number d [] e (f ∷ es) a b held kept same =
        absurd (alone_or_joined number d (up (e ∷ f ∷ take 6 es)) a.0 (joined_depth number e f es b (held_head _ [] kept)) same)
    same_group number d (c ∷ ds) e [] a b held kept same =
        absurd (alone_or_joined number e (up (d ∷ c ∷ take 6 ds)) b.0 (joined_depth number d c ds a (held_head _ [] held)) (sym same))
    same_group number d (c ∷ ds) e (f ∷ es) a b held kept same =
        same_list S safe (up (d ∷ c ∷ take 6 ds)) (d ∷ c ∷ take 6 ds) (e ∷ f ∷ take 6 es) (joined_group number d c ds a (held_head _ [] held))
        (subst (IsJoined S (e ∷ f ∷ take 6 es)) (sym same) (joined_group number e f es b (held_head _ [] kept)))

    same_below : (size number : ℕ) (a b : List (List ℕ)) → length a ≤ size → IsLevel S number a → IsLevel S number b
        → AreHeld S (level_strings a) → AreHeld S (level_strings b) → next_level a ≡ next_level b → a ≡ b
    same_below size number [] [] few h k held kept same = refl
    same_below size number [] (e ∷ es) few h k held kept same = let wrong = sym next_none ∙ same ∙ next_first e es in absurd cc
    same_below size number (d ∷ ds) [] few h k held kept same = let wrong = sym next_none ∙ sym same ∙ next_first d ds in absurd cc
    same_below zero number (d ∷ ds) (e ∷ es) few h k held kept same = absurd (omega (arith, few))
    same_below (suc size) number (d ∷ ds) (e ∷ es) few h k held kept same =
        let a = d ∷ ds in
        let b = e ∷ es in
        let whole : up (take 8 a) ∷ next_level (drop 8 a) ≡ up (take 8 b) ∷ next_level (drop 8 b) = sym (next_first d ds) ∙ same ∙ next_first e es in
        let first : up (take 8 a) ≡ up (take 8 b) = cc in
        let others : next_level (drop 8 a) ≡ next_level (drop 8 b) = cc in
        let fewer : length (drop 8 a) ≤ size = omega (arith, few, length-drop 8 a) in
        let front = same_group number d ds e es h k (held_group d ds held) (held_group e es kept) first in
        let back = same_below size number (drop 8 a) (drop 8 b) fewer (level_drop S 8 a number h) (level_drop S 8 b number k) (held_rest d ds held) (held_rest e es kept) others in
        sym (take-append-drop 8 a) ∙ ap₂ (λ (x y : List (List ℕ)). x ++ y) front back ∙ take-append-drop 8 b

    level_below : (number : ℕ) (a b : List (List ℕ)) → IsLevel S number a → IsLevel S number b
        → AreHeld S (level_strings a) → AreHeld S (level_strings b) → next_level a ≡ next_level b → a ≡ b
    level_below number a b h k held kept same = same_below (length a) number a b (omega arith) h k held kept same

  -- ---- the three levels of a row

  -- the levels above some leaves, of which the third is the top alone
  pub record AreLevels (leaves : List (List ℕ)) : Type 0 where
    pub first : IsLevel S 1 (next_level leaves)
    pub second : IsLevel S 2 (next_level (next_level leaves))
    pub third : IsLevel S 3 (next_level (next_level (next_level leaves)))
    pub held_leaves : AreHeld S (level_strings leaves)
    pub held_first : AreHeld S (level_strings (next_level leaves))
    pub held_second : AreHeld S (level_strings (next_level (next_level leaves)))
    pub single : next_level (next_level (next_level leaves)) ≡ top_of_leaves leaves ∷ []

  single_is : (level : List (List ℕ)) → length level ≡ 1 → level ≡ first_of level ∷ []
  single_is [] one = absurd (omega arith)
  single_is (d ∷ []) one = refl
  single_is (d ∷ e ∷ ds) one = absurd (omega (arith, one))

  pub levels_of : (leaves : List (List ℕ)) → 1 ≤ length leaves → length leaves ≤ 512 → IsLevel S 0 leaves → AreHeld S (levels_strings leaves) → AreLevels leaves
  levels_of leaves some few is held =
      let one = next_level leaves in
      let two = next_level one in
      let below = held_left (level_strings leaves ++ level_strings one) (level_strings two) held in
      let a = held_left (level_strings leaves) (level_strings one) below in
      let b = held_right (level_strings leaves) (level_strings one) below in
      let c = held_right (level_strings leaves ++ level_strings one) (level_strings two) held in
      let first = level_above 0 leaves is a in
      let second = level_above 1 one first b in
      let third = level_above 2 two second c in
      let sizes = third_size leaves one two some few refl refl in
      let count : length (next_level two) ≡ group_count two = next_length two in
      let alone : length (next_level two) ≡ 1 = omega (arith, sizes.0, sizes.1, count) in
      record { first = first; second = second; third = third; held_leaves = a; held_first = b; held_second = c; single = single_is (next_level two) alone }

  -- the top is one of the third level
  pub top_within : (leaves : List (List ℕ)) → 1 ≤ length leaves → length leaves ≤ 512 → IsLevel S 0 leaves → AreHeld S (levels_strings leaves)
      → IsWithin S (top_of_leaves leaves) 3
  top_within leaves some few is held =
      let levels = levels_of leaves some few is held in
      (subst (IsLevel S 3) levels.single levels.third).0

  -- one top, one list of leaves
  pub same_leaves : NoClash S → (a b : List (List ℕ)) → 1 ≤ length a → length a ≤ 512 → 1 ≤ length b → length b ≤ 512 → IsLevel S 0 a → IsLevel S 0 b
      → AreHeld S (levels_strings a) → AreHeld S (levels_strings b) → top_of_leaves a ≡ top_of_leaves b → a ≡ b
  same_leaves safe a b some few more less h k held kept same =
      let p = levels_of a some few h held in
      let q = levels_of b more less k kept in
      let third : next_level (next_level (next_level a)) ≡ next_level (next_level (next_level b)) = p.single ∙ ap (λ (d : List ℕ). d ∷ []) same ∙ sym q.single in
      let second = level_below safe 2 (next_level (next_level a)) (next_level (next_level b)) p.second q.second p.held_second q.held_second third in
      let first = level_below safe 1 (next_level a) (next_level b) p.first q.first p.held_first q.held_first second in
      level_below safe 0 a b h k p.held_leaves q.held_leaves first
