use Rattle.std.proofs.Common.{◌≡◌, ◌≤◌, length, drop}
use Rattle.std.specs.List.{All}
use Rattle.component_tree.specs.PlainTree.{plain}
use Rattle.pcr_replay.specs.Row.{rows}
use Rattle.predictor.specs.Protected.{standing_in, kept_of}
use Rattle.predictor.proofs.Sorts.{before_kept}
use Rattle.predictor.proofs.protecting.keep.Given as goal

abbrev pub invariant-loop-pcr : goal.invariant-loop-pcr
invariant-loop-pcr l = record {
  rest : before_kept l.kept l.left (kept_of (standing_in (plain l.tree.components) l.window l.bank (rows l.log) l.locality l.now) (drop l.pcr-index l.pcrs)) ≡ kept_of (standing_in (plain l.tree.components) l.window l.bank (rows l.log) l.locality l.now) l.pcrs;
  few : length l.kept ≤ l.pcr-index;
  in_range : All (λ p. p ≤ 23) l.kept;
}
