use Rattle.std.proofs.Common.{◌≡◌, ◌<◌, ℕ, List, false}
use Rattle.pcr_replay.specs.Row.{Row}
use Rattle.component_make.specs.Lock.{lacks_separator}
use Rattle.component_make.specs.Parting.{IsMarked}
use Rattle.component_make.proofs.marks.Marks.first_lacking.Given as goal

abbrev pub invariant-loop-pcr : goal.invariant-loop-pcr
invariant-loop-pcr l = (rows : List Row) → IsMarked rows l.self → (k : ℕ) → k < l.pcr → lacks_separator l.pcrs rows k ≡ false
