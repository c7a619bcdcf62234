use Rattle.std.proofs.Common.{sym, ap, ◌∙◌}
use Rattle.std.specs.Prelude.{Ok}
use Rattle.pcrlock_line.proofs.Composed.{without_fault}
use Rattle.pcrlock_predict.specs.Inputs.{plain_inputs}
use Rattle.pcrlock_predict.specs.Log.{all_pcrs, logged}
use Rattle.pcrlock_predict.specs.Present.{values_at}
use Rattle.pcrlock_predict.proofs.Ended.{reply_found, reply_refused}
use Rattle.pcrlock_predict.proofs.logging.log_from.Goals as goal

pub returns-in-Ok-Ok-clause-causes : goal.returns-in-Ok-Ok-clause-causes
returns-in-Ok-Ok-clause-causes g c =
    without_fault (0, 0, g.T.Tpm.faults c.args.tpm.now, 0) (0, 0, g.T.Tpm.faults c.read_values.new.tpm, 0) c.read_values.result c.logged_reply.result c.read_values.ensures.causes c.logged_reply.ensures.cause

pub returns-in-Ok-Ok-clause-told : goal.returns-in-Ok-Ok-clause-told
returns-in-Ok-Ok-clause-told g c = λ kept is.
    reply_found (values_at c.args.path.now c.args.bank all_pcrs kept) c.as_slice.result.now (λ now. Ok (logged c.args.bank (plain_inputs c.args.inputs.now) now)) c.logged_reply.result
    (ap Ok c.as_slice.ensures ∙ sym c.in-Ok-Ok.field-0-is ∙ c.in-Ok-Ok.ensures.told kept is) c.logged_reply.ensures.told

pub returns-in-Ok-Err-clause-told : goal.returns-in-Ok-Err-clause-told
returns-in-Ok-Err-clause-told g c = λ kept is.
    reply_refused (values_at c.args.path.now c.args.bank all_pcrs kept) c.in-Ok-Err.answer (λ now. Ok (logged c.args.bank (plain_inputs c.args.inputs.now) now))
    (sym c.in-Ok-Err.field-0-is ∙ c.in-Ok-Err.ensures.told kept is)
