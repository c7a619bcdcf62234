use Rattle.std.proofs.Common.{sym, ◌∙◌}
use Rattle.pcrlock_seal.proofs.Stops.{not_sealed, not_written}
use Rattle.pcrlock_seal.proofs.enrolling.answered.Goals as goal

pub returns-in-Err-clause-stops : goal.returns-in-Err-clause-stops
returns-in-Err-clause-stops g c = λ stored s m files kept.
    not_written _ stored c.args.path.now c.args.condition.now _ c.in-Some.handle c.args.response.now s m (sym c.sealed_handle.ensures.value ∙ c.in-Some.is) kept
    (c.in-Err.ensures.stops m.files files)

pub returns-in-Err-seal_refusal-clause-stops : goal.returns-in-Err-seal_refusal-clause-stops
returns-in-Err-seal_refusal-clause-stops g c = λ stored s m files kept.
    not_sealed _ stored c.args.path.now c.args.condition.now _ c.args.response.now s m files kept
