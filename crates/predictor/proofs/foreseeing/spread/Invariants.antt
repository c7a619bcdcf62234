use Rattle.std.proofs.Common.{length}
use Rattle.std.specs.List.{All}
use Rattle.predictor.specs.Spread.{HasState}
use Rattle.predictor.proofs.Spreads.{Spreading}
use Rattle.predictor.proofs.foreseeing.spread.Given as goal

abbrev pub invariant-loop-number : goal.invariant-loop-number
invariant-loop-number l = record {
  spread : Spreading l.bank l.locality l.pcrs l.components l.first l.number l.states l.reached;
  all_fit : All (HasState l.bank (length l.pcrs)) l.states;
}
