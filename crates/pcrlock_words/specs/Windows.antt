-- How a window of boots is read.
use Rattle.std.specs.Prelude.{◌≡◌, ℕ, ◌≤◌, Bool, true, false, List, [], ◌∷◌, length, codes, Option, Some, None, option_and_then, refl, unwrap_or}
use Rattle.std.proofs.Common.{zero-le, suc-le-suc}
use Rattle.predictor.specs.Ends.{is_greater, window_of}
use Rattle.predictor.specs.declared.window.Window.{Window}

-- two ends of which the first isn't greater
abbrev pub ordered_window : (start end : List ℕ) → 1 ≤ length start → 1 ≤ length end → (greater : Bool) → is_greater start end ≡ greater → Option Window
ordered_window start end some_start some_end true greater = None
ordered_window start end some_start some_end false ordered = Some (record {
  start = start;
  end = end;
  some_start = some_start;
  some_end = some_end;
  in_order = ordered;
})

-- the window with these ends: neither is empty, and the first isn't greater
abbrev pub window_with : List ℕ → List ℕ → Option Window
window_with [] end = None
window_with (b ∷ start) [] = None
window_with (b ∷ start) (c ∷ end) = ordered_window (b ∷ start) (c ∷ end) (suc-le-suc zero-le) (suc-le-suc zero-le) (is_greater (b ∷ start) (c ∷ end)) refl

-- the window that a text gives
abbrev pub location_of : List ℕ → Option Window
location_of text = option_and_then (λ ends. window_with ends.0 ends.1) (window_of text)

-- the window of --location, or its default: the runtime of userspace, from the initrd to the shutdown
-- (systemd-pcrlock(8))
abbrev pub location_in_force : Option (List ℕ) → Option Window
location_in_force value = location_of (unwrap_or value (codes "760-:940-"))
