use Rattle.std.proofs.Common.{◌≡◌, drop}
use Rattle.component_tree.specs.PlainTree.{plain}
use Rattle.pcr_replay.specs.Row.{rows}
use Rattle.predictor.specs.Foreseen.{foreseen}
use Rattle.predictor.specs.Protected.{standing_in, refused_for, rows_of}
use Rattle.predictor.proofs.Sorts.{before_rows}
use Rattle.predictor.proofs.protecting.protect_each.Given as goal

abbrev pub invariant-loop-pcr : goal.invariant-loop-pcr
invariant-loop-pcr l =
    let tree = plain l.tree.components in
    let all = rows_of (standing_in tree l.window l.bank (rows l.log) l.locality l.now) (λ p. refused_for p (foreseen l.bank l.locality p l.window tree)) in
    before_rows l.rows l.left (all (drop l.pcr-index l.pcrs)) ≡ all l.pcrs
