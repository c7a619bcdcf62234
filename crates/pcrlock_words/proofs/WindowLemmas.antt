-- Windows that are read.
use Rattle.std.proofs.Common.{◌≡◌, ℕ, ◌≤◌, Bool, true, false, List, [], ◌∷◌, length, Some, None, refl, sym, ap, ap₂, ◌∙◌, true≢false, arith}
use Rattle.std.specs.Prelude.{option_and_then}
use Rattle.std.specs.Coded.{le_prop}
use mathlib.Core.Bool.{Bool-set}
use Rattle.predictor.specs.Ends.{is_greater, window_of}
use Rattle.predictor.specs.declared.window.Window.{Window}
use Rattle.pcrlock_words.specs.Windows.{location_of, ordered_window, window_with}

abbrev window_at : (start end : List ℕ) → 1 ≤ length start → 1 ≤ length end → is_greater start end ≡ false → Window
window_at start end some_start some_end ordered = record {
  start = start;
  end = end;
  some_start = some_start;
  some_end = some_end;
  in_order = ordered;
}

-- two windows with the same ends are the same
same_window : (start end : List ℕ) (a c : 1 ≤ length start) (b d : 1 ≤ length end) (e f : is_greater start end ≡ false) → window_at start end a b e ≡ window_at start end c d f
same_window start end a c b d e f =
    ap₂ (λ x y. window_at start end x y e) (le_prop a c) (le_prop b d)
    ∙ ap (window_at start end c d) (Bool-set (is_greater start end) false e f)

ordered_is : (start end : List ℕ) (a c : 1 ≤ length start) (b d : 1 ≤ length end) (greater : Bool) (e : is_greater start end ≡ greater) (f : is_greater start end ≡ false) → ordered_window start end a b greater e ≡ Some (window_at start end c d f)
ordered_is start end a c b d true e f = absurd (true≢false (sym e ∙ f))
ordered_is start end a c b d false e f = ap Some (same_window start end a c b d e f)

with_ends : (start end : List ℕ) (c : 1 ≤ length start) (d : 1 ≤ length end) (f : is_greater start end ≡ false) → window_with start end ≡ Some (window_at start end c d f)
with_ends [] end c d f = absurd (omega (arith, c))
with_ends (x ∷ start) [] c d f = absurd (omega (arith, d))
with_ends (x ∷ start) (y ∷ end) c d f = ordered_is (x ∷ start) (y ∷ end) _ c _ d (is_greater (x ∷ start) (y ∷ end)) refl f

-- a window is the one with its ends
pub window_is : (text : List ℕ) (window : Window) → window_of text ≡ Some (window.start, window.end) → location_of text ≡ Some window
window_is text window ends =
    ap (option_and_then (λ ends. window_with ends.0 ends.1)) ends
    ∙ with_ends window.start window.end window.some_start window.some_end window.in_order

-- a text without ends gives none
pub no_window : (text : List ℕ) → window_of text ≡ None → location_of text ≡ None
no_window text none = ap (option_and_then (λ ends. window_with ends.0 ends.1)) none
