-- How far the digests of components reach in a list, where other members may stand between them. A place is the
-- number of members before it.
use Rattle.std.specs.Prelude.{ℕ, ◌+◌, nat_lt, List, [], ◌∷◌, drop, fold, Option, Some, None, if◌then◌else◌, option_and_then}
use Rattle.std.specs.List.{position_from}
use Rattle.std.specs.Option.{option_map}
use Rattle.std.specs.Str.{bytes_eq}

-- the place behind the first digest from the place on that is this one
abbrev pub found_from : List (List ℕ) → ℕ → List ℕ → Option ℕ
found_from list place digest = option_map (λ k. place + k + 1) (position_from (bytes_eq digest) 0 (drop place list))

-- the place behind the last of these digests, where each is taken as early as it can be
abbrev pub followed_from : List (List ℕ) → ℕ → List (List ℕ) → Option ℕ
followed_from list place [] = Some place
followed_from list place (digest ∷ digests) = option_and_then (λ next. followed_from list next digests) (found_from list place digest)

abbrev pub sooner : Option ℕ → Option ℕ → Option ℕ
sooner None other = other
sooner (Some a) None = Some a
sooner (Some a) (Some b) = if nat_lt b a then Some b else Some a

-- the earliest place that one of the alternatives leads to
abbrev pub earliest_from : List (List ℕ) → ℕ → List (List (List ℕ)) → Option ℕ
earliest_from list place alternatives = fold (λ best digests. sooner best (followed_from list place digests)) None alternatives

abbrev pub missing_after : Option ℕ → ℕ → (ℕ → Option ℕ) → Option ℕ
missing_after None n later = Some n
missing_after (Some place) n later = later place

-- the first step, by its number from n on, that none of its alternatives leads over
abbrev pub missing_from : List (List ℕ) → ℕ → ℕ → List (List (List (List ℕ))) → Option ℕ
missing_from list n place [] = None
missing_from list n place (alternatives ∷ steps) = missing_after (earliest_from list place alternatives) n (λ next. missing_from list (n + 1) next steps)
