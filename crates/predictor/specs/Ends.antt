-- The text of a window: two ids around a colon, or one id that is both.
use Rattle.std.specs.Prelude.{ℕ, Bool, ◌==◌, ◌||◌, nat_lt, List, length, Option, Some, None, if◌then◌else◌}
use Rattle.std.specs.Ordering.{nat_cmp, is_gt}
use Rattle.std.specs.Cmp.Lexicographic.{slice_cmp}
use Rattle.std.specs.List.{list_any, position_or_len, before_first, after_first}

abbrev pub is_colon : ℕ → Bool
is_colon b = b == 58

-- the texts before and after the first colon, where there is one
abbrev pub around_colon : List ℕ → Option (List ℕ × List ℕ)
around_colon text = if nat_lt (position_or_len is_colon text) (length text) then Some (before_first is_colon text, after_first is_colon text) else None

-- by the bytes
abbrev pub is_greater : List ℕ → List ℕ → Bool
is_greater a b = is_gt (slice_cmp nat_cmp a b)

-- two ends of a window: both are there, and the first isn't greater
abbrev pub ends_of : List ℕ → List ℕ → Option (List ℕ × List ℕ)
ends_of start end = if (length start == 0) || (length end == 0) || is_greater start end then None else Some (start, end)

-- the ends on both sides of one colon
abbrev pub ends_around : List ℕ → List ℕ → Option (List ℕ × List ℕ)
ends_around start end = if list_any is_colon end then None else ends_of start end

abbrev pub ends_by : Option (List ℕ × List ℕ) → List ℕ → Option (List ℕ × List ℕ)
ends_by None text = ends_of text text
ends_by (Some sides) text = ends_around sides.0 sides.1

-- the start and the end that a text gives
abbrev pub window_of : List ℕ → Option (List ℕ × List ℕ)
window_of text = ends_by (around_colon text) text
