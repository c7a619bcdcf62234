use Rattle.std.proofs.Common.{◌∙◌, sym, ap}
use Rattle.pcrlock_line.specs.declared.reply.Reply.{Reply}
use Rattle.pcrlock_line.specs.Outcome.{ending_of}
use Rattle.pcrlock_run.specs.Status.{out_of}
use Rattle.pcrlock_run.proofs.Fronts.{answer_halts, anyway, err_as, fine_halts}
use Rattle.pcrlock_run.proofs.show.show.Goals as goal

pub returns-in-Fine-clause-halts : goal.returns-in-Fine-clause-halts
returns-in-Fine-clause-halts g c =
    err_as _ _ c.write.result
    (fine_halts _ _ _ _ _ _ (ending_of c.args.reply.now) _ (c.as_slice.ensures.value ∙ ap (λ (r : Reply). out_of (ending_of r)) (sym c.in-Fine.is))) c.write.ensures.front

pub returns-in_err-tell-in-Refused-clause-halts : goal.returns-in_err-tell-in-Refused-clause-halts
returns-in_err-tell-in-Refused-clause-halts g c =
    anyway _ c.from_residual.result (answer_halts _ _ _ _ _ _ (ending_of c.args.reply.now) c.in_err-tell-in-Refused.ensures.unsaid)
