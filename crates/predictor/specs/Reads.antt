-- What a text is read as.
use Rattle.std.specs.Prelude.{◌≡◌, ℕ, List, Option, Some, None, Result, Ok, Err}
use Rattle.predictor.specs.declared.error.WindowError.{WindowError}
use Rattle.predictor.specs.declared.error.WindowError.TheVariants as errors
use Rattle.predictor.specs.declared.window.Window.{Window}

-- the window has the ends; a text with none is refused, and memory may run out
abbrev pub ReadsAs : Result Window WindowError → Option (List ℕ × List ℕ) → Type 0
ReadsAs (Ok window) ends = ends ≡ Some (window.start, window.end)
ReadsAs (Err errors.BadLocation) ends = ends ≡ None
ReadsAs (Err errors.Memory) ends = Unit {0}
