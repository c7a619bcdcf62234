-- The lists of PolicyORs lead from a leaf to its row's top.
use Rattle.std.proofs.Common.{◌≡◌, ℕ, zero, suc, ◌+◌, ◌-◌, ◌*◌, ◌/◌, ◌<◌, ◌≤◌, List, [], ◌∷◌, ◌++◌, map, length, drop, get_or, Contains, refl, sym, ap, subst, ◌∙◌, append_assoc, append-nil, arith}
use Rattle.std.specs.List.{range_with_len}
use Rattle.std.proofs.lemmas.List.{get_or-map, get_or-take, get_or-drop, get_or_default, length-take, length-drop, length-append}
use Rattle.std.proofs.lemmas.List.FromFn.{get_or-map-range_with_len, length-map-range_with_len}
use Rattle.policy_digest.specs.Levels.{first_of, group, group_count, listed, next_level, path_of, top_of_leaves, up}
use Rattle.or_tree.specs.Leading.{Leads}
use Rattle.or_tree.proofs.Groups.{next_length}

-- the digest above a group
pub raised_at : (level : List (List ℕ)) (number : ℕ) → number < group_count level → get_or (next_level level) number [] ≡ up (group level number)
unfolding next_level
raised_at level number inside =
    get_or-map up (map (group level) (range_with_len 0 (group_count level))) number [] [] (omega (arith, length-map-range_with_len (group level) 0 (group_count level)))
    ∙ ap up (get_or-map-range_with_len (group level) 0 (group_count level) number number [] inside (omega arith))

-- a digest is one of its group
pub in_group : (level : List (List ℕ)) (place : ℕ) → place < length level → Contains (group level (place / 8)) (get_or level place [])
in_group level place inside =
    let start = 8 * (place / 8) in
    let d = get_or level place [] in
    let within : place - start < 8 = omega arith in
    let back : start + (place - start) ≡ place = omega arith in (
      place - start,
      omega (arith, length-take 8 (drop start level), length-drop start level),
      get_or-take 8 (drop start level) (place - start) d within
          ∙ get_or-drop start level (place - start) d
          ∙ ap (λ n. get_or level n d) back
          ∙ get_or_default level place d [] inside,
    )

-- a group of one is its digest
alone : (only d : List ℕ) (k : ℕ) → k < 1 → get_or (only ∷ []) k d ≡ d → only ≡ d
alone only d zero inside e = e
alone only d (suc k) inside e = absurd (omega (arith, inside))

-- from a digest of a group to what stands for the group, and on
through : (g : List (List ℕ)) (d top : List ℕ) (lists : List (List (List ℕ))) → length g ≤ 8 → Contains g d → Leads (up g) lists top → Leads d (listed g ++ lists) top
through [] d top lists few at on = absurd (omega (arith, at.1))
through (only ∷ []) d top lists few at on = subst (λ e. Leads e lists top) (alone only d at.0 at.1 at.2) on
through (first ∷ second ∷ g) d top lists few at on = (omega arith, few, at, on)

-- one level up
rises : (level : List (List ℕ)) (place : ℕ) (top : List ℕ) (lists : List (List (List ℕ))) → place < length level
    → Leads (get_or (next_level level) (place / 8) []) lists top → Leads (get_or level place []) (listed (group level (place / 8)) ++ lists) top
rises level place top lists inside on =
    through (group level (place / 8)) (get_or level place []) top lists (omega (arith, length-take 8 (drop (8 * (place / 8)) level))) (in_group level place inside)
    (subst (λ d. Leads d lists top) (raised_at level (place / 8) (omega arith)) on)

first_is : (level : List (List ℕ)) → get_or level 0 [] ≡ first_of level
first_is [] = refl
first_is (d ∷ ds) = refl

-- from a leaf up to the top
pub leads : (leaves : List (List ℕ)) (leaf : ℕ) → leaf < length leaves → length leaves ≤ 512 → Leads (get_or leaves leaf []) (path_of leaves leaf) (top_of_leaves leaves)
leads leaves leaf inside few =
    let second = next_level leaves in
    let third = next_level second in
    let top = top_of_leaves leaves in
    let a = listed (group leaves (leaf / 8)) in
    let b = listed (group second (leaf / 8 / 8)) in
    let c = listed (group third (leaf / 8 / 8 / 8)) in
    let two : length second ≡ (length leaves + 7) / 8 = next_length leaves in
    let three : length third ≡ (length second + 7) / 8 = next_length second in
    let single : leaf / 8 / 8 / 8 ≡ 0 = omega arith in
    let at_top : Leads (get_or (next_level third) (leaf / 8 / 8 / 8) []) [] top = ap (λ n. get_or (next_level third) n []) single ∙ first_is (next_level third) in
    let from_third = rises third (leaf / 8 / 8) top [] (omega arith) at_top in
    let from_second = rises second (leaf / 8) top (c ++ []) (omega arith) from_third in
    let from_leaf = rises leaves leaf top (b ++ (c ++ [])) inside from_second in
    let whole : a ++ (b ++ (c ++ [])) ≡ (a ++ b) ++ c = ap (λ cs. a ++ (b ++ cs)) (append-nil c) ∙ sym (append_assoc a b c) in
    subst (λ lists. Leads (get_or leaves leaf []) lists top) whole from_leaf

-- a group gives one list at most
one_at_most : (g : List (List ℕ)) → length (listed g) ≤ 1
one_at_most [] = omega arith
one_at_most (only ∷ []) = omega arith
one_at_most (first ∷ second ∷ g) = omega arith

-- at most three lists lead up
pub few_lists : (leaves : List (List ℕ)) (leaf : ℕ) → length (path_of leaves leaf) ≤ 3
few_lists leaves leaf =
    let second = next_level leaves in
    let a = listed (group leaves (leaf / 8)) in
    let b = listed (group second (leaf / 8 / 8)) in
    let c = listed (group (next_level second) (leaf / 8 / 8 / 8)) in
    let one = one_at_most (group leaves (leaf / 8)) in
    let two = one_at_most (group second (leaf / 8 / 8)) in
    let three = one_at_most (group (next_level second) (leaf / 8 / 8 / 8)) in
    let long : length ((a ++ b) ++ c) ≡ length (a ++ b) + length c = length-append (a ++ b) c in
    let front : length (a ++ b) ≡ length a + length b = length-append a b in
    omega arith
