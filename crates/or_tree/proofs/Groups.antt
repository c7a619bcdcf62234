-- The groups of a level, one after the other.
use Rattle.std.proofs.Common.{◌≡◌, ℕ, ◌+◌, ◌*◌, ◌/◌, ◌<◌, ◌≤◌, List, [], ◌∷◌, ◌++◌, map, length, drop, ap, sym, subst, ◌∙◌, arith}
use Rattle.std.specs.List.{All, range_with_len}
use Rattle.std.proofs.lemmas.List.Elements.{All-take, All-drop, All-push}
use Rattle.std.proofs.lemmas.List.{length-map, map-append, take_all}
use Rattle.std.proofs.lemmas.List.FromFn.{length-map-range_with_len, map-range_with_len_more}
use Rattle.policy_digest.specs.Levels.{first_of, group, group_count, next_level, top_of_leaves, up}

-- what stands for the first groups
abbrev pub raised_groups : List (List ℕ) → ℕ → List (List ℕ)
raised_groups level count = map up (map (group level) (range_with_len 0 count))

-- one group more
pub raised_more : (level : List (List ℕ)) (count : ℕ) → raised_groups level (count + 1) ≡ raised_groups level count ++ up (group level count) ∷ []
raised_more level count =
    ap (map up) (map-range_with_len_more (group level) 0 count count (omega arith))
    ∙ map-append up (map (group level) (range_with_len 0 count)) (group level count ∷ [])

-- a group's digests are of 32 bytes where the level's are
pub group_sizes : (level : List (List ℕ)) (number : ℕ) → All (λ d. length d ≡ 32) level → All (λ d. length d ≡ 32) (group level number)
group_sizes level number h = All-take (λ d. length d ≡ 32) 8 (drop (8 * number) level) (All-drop (λ d. length d ≡ 32) (8 * number) level h)

-- one digest of 32 bytes more
pub pushed_sizes : (before now : List (List ℕ)) (d : List ℕ) → now ≡ before ++ d ∷ [] → All (λ d. length d ≡ 32) before → length d ≡ 32 → All (λ d. length d ≡ 32) now
pushed_sizes before now d e all size = subst (All (λ d. length d ≡ 32)) (sym e) (All-push (λ d. length d ≡ 32) before d all size)

-- a level has as many digests as the one below has groups
pub next_length : (level : List (List ℕ)) → length (next_level level) ≡ group_count level
unfolding next_level
next_length level =
    length-map (map (group level) (range_with_len 0 (group_count level))) up
    ∙ length-map-range_with_len (group level) 0 (group_count level)

-- above a level of one group stands what stands for all of it
pub top_above : (level : List (List ℕ)) → 1 ≤ length level → length level ≤ 8 → first_of (next_level level) ≡ up level
unfolding next_level
top_above level some few =
    let one : group_count level ≡ 1 = omega arith in
    ap (λ count. first_of (map up (map (group level) (range_with_len 0 count)))) one
    ∙ ap up (take_all 8 level few)

-- the third level of at most 512 leaves is one group
pub third_size : (leaves second third : List (List ℕ)) → 1 ≤ length leaves → length leaves ≤ 512 → second ≡ next_level leaves → third ≡ next_level second
    → (1 ≤ length third) × (length third ≤ 8)
third_size leaves second third some few e f =
    let two : length second ≡ (length leaves + 7) / 8 = ap length e ∙ next_length leaves in
    let three : length third ≡ (length second + 7) / 8 = ap length f ∙ next_length second in
    (omega arith, omega arith)

-- the top of the leaves
pub top_of_third : (leaves second third : List (List ℕ)) → 1 ≤ length leaves → length leaves ≤ 512 → second ≡ next_level leaves → third ≡ next_level second
    → up third ≡ top_of_leaves leaves
top_of_third leaves second third some few e f =
    let sizes = third_size leaves second third some few e f in
    sym (top_above third sizes.0 sizes.1) ∙ ap (λ level. first_of (next_level level)) (f ∙ ap next_level e)

-- the way up from a leaf stays within each level
pub second_place : (leaves second : List (List ℕ)) (leaf : ℕ) → leaf < length leaves → second ≡ next_level leaves → leaf / 8 / 8 < group_count second
second_place leaves second leaf inside e =
    let two : length second ≡ (length leaves + 7) / 8 = ap length e ∙ next_length leaves in
    omega arith

pub third_place : (leaves second third : List (List ℕ)) (leaf : ℕ) → leaf < length leaves → second ≡ next_level leaves → third ≡ next_level second
    → leaf / 8 / 8 / 8 < group_count third
third_place leaves second third leaf inside e f =
    let two : length second ≡ (length leaves + 7) / 8 = ap length e ∙ next_length leaves in
    let three : length third ≡ (length second + 7) / 8 = ap length f ∙ next_length second in
    omega arith
