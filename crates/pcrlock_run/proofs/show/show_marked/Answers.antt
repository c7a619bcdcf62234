use Rattle.pcrlock_line.proofs.Composed.{then_stops}
use Rattle.pcrlock_line.specs.Outcome.{ending_of}
use Rattle.std.proofs.Common.{inl}
use Rattle.pcrlock_run.proofs.Fronts.{halted_as, mark_halts}
use Rattle.pcrlock_run.proofs.show.show_marked.Goals as goal

pub returns-in-Err-mark-clause-causes : goal.returns-in-Err-mark-clause-causes
returns-in-Err-mark-clause-causes g c = then_stops _ _ _ c.show_alone.result c.mark.result c.in-Err-mark.stop c.show_alone.ensures.causes c.mark.ensures.causes c.in-Err-mark.is

pub returns-in-Err-mark-clause-halts : goal.returns-in-Err-mark-clause-halts
returns-in-Err-mark-clause-halts g c =
    mark_halts _ _ _ _ _ _ _ _ _ _ (ending_of c.args.reply.now) _ c.show_alone.ensures.causes.out c.in-Ok.ensures.status c.in-Ok.ensures.told c.in-Ok.ensures.said c.in-Err-mark.ensures.front

pub returns-in-Err-clause-halts : goal.returns-in-Err-clause-halts
returns-in-Err-clause-halts g c = halted_as _ _ _ _ _ _ _ _ (λ printed spoken h. inl h) c.in-Err.ensures.halts
