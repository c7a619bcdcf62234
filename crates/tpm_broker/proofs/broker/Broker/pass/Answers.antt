use Rattle.std.proofs.Common.{refl}
use Rattle.tpm_model.specs.Respond.{respond}
use Rattle.tpm_broker.specs.Served.{settled}
use Rattle.tpm_broker.proofs.Passing.{not_served, not_stored}
use Rattle.tpm_broker.proofs.broker.Broker.pass.Goals as goal

pub returns-in-Err-clause-told : goal.returns-in-Err-clause-told
returns-in-Err-clause-told g c = λ s live.
    not_served (settled c.args.client c.args.command.now (respond c.args.passed.now s) c.args.self.now) c.args.passed.now s c.in-Err.stop c.args.self.now _ _ (c.in-Err.ensures.told s live)

pub returns-in-Err-clause-stored : goal.returns-in-Err-clause-stored
returns-in-Err-clause-stored g c = λ s live stored.
    not_stored (settled c.args.client c.args.command.now (respond c.args.passed.now s) c.args.self.now) c.args.passed.now s c.in-Err.stop _ refl (c.in-Err.ensures.stored s live stored)
