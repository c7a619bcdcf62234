-- The first choice whose digests, joined, are a list, found from each place of the list on. A step has the
-- alternatives of one component, each as its digests.
use Rattle.std.specs.Prelude.{◌≡◌, ◌≤◌, ◌<◌, ◌+◌, ◌-◌, ℕ, Bool, false, ◌&&◌, List, [], ◌∷◌, length, take, drop, slice_index_or, is_some, Option, Some, None, if◌then◌else◌}
use Rattle.std.specs.List.{position_from}
use Rattle.std.specs.Option.{option_map, option_or}
use Rattle.record_match.specs.Subsequence.{digests_eq}

-- whether the list begins with the digests
abbrev pub begins : List (List ℕ) → List (List ℕ) → Bool
begins digests list = digests_eq digests (take (length digests) list)

-- the first alternative, by its number from n on, with which the list begins so that the rest of it can be explained, and how
abbrev pub first_from : (List (List ℕ) → Option (List ℕ)) → List (List ℕ) → ℕ → List (List (List ℕ)) → Option (List ℕ)
first_from later list n [] = None
first_from later list n (ds ∷ alternatives) = option_or (if begins ds list then option_map (λ c. n ∷ c) (later (drop (length ds) list)) else None) (first_from later list (n + 1) alternatives)

abbrev pub first_choice : List (List (List (List ℕ))) → List (List ℕ) → Option (List ℕ)
first_choice [] list = if digests_eq [] list then Some [] else None
first_choice (alternatives ∷ more) list = first_from (first_choice more) list 0 alternatives

-- a place is noted exactly where some choice explains the list from there on
pub record Noted (steps : List (List (List (List ℕ)))) (list : List (List ℕ)) (noted : List Bool) : Type 0 where
  pub count : length noted ≡ length list + 1
  pub noted_at : (p : ℕ) → p ≤ length list → slice_index_or noted p false ≡ is_some (first_choice steps (drop p list))

-- the list begins with the digests, and the place behind them is noted
abbrev pub leads_on : List (List ℕ) → List Bool → List (List ℕ) → Bool
leads_on list noted digests = begins digests list && slice_index_or noted (length digests) false

-- a place is noted exactly where one of the alternatives leads from it to a place that was noted
pub record LeadBack (alternatives : List (List (List ℕ))) (list : List (List ℕ)) (noted before : List Bool) : Type 0 where
  pub count : length before ≡ length noted
  pub leads_at : (p : ℕ) → p < length noted → slice_index_or before p false ≡ is_some (position_from (leads_on (drop p list) (drop p noted)) 0 alternatives)

-- for each number of steps up to n, counted from the last one back, the places from which some choice of them
-- explains the rest
pub record AllNoted (steps : List (List (List (List ℕ)))) (list : List (List ℕ)) (n : ℕ) (sets : List (List Bool)) : Type 0 where
  pub count : length sets ≡ n + 1
  pub noted_for : (k : ℕ) → k ≤ n → Noted (drop (length steps - k) steps) list (slice_index_or sets k [])
