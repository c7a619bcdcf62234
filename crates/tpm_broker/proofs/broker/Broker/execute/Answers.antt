use Rattle.tpm_broker.proofs.Passing.{pass_on_stored, pass_on_told, pass_stored, pass_told}
use Rattle.tpm_broker.proofs.broker.Broker.execute.Goals as goal

pub returns-in-Pass-clause-told : goal.returns-in-Pass-clause-told
returns-in-Pass-clause-told g c = λ s live.
    pass_told c.args.client c.args.command.now c.args.self.now c.pass.new.self s c.plan_for.result c.pass.result _ c.plan_for.ensures c.in-Pass.is (c.pass.ensures.told s live)

pub returns-in-PassOn-clause-told : goal.returns-in-PassOn-clause-told
returns-in-PassOn-clause-told g c = λ s live.
    pass_on_told c.args.client c.in-PassOn.session c.args.command.now c.on_session-passed.result c.args.self.now c.pass-in-PassOn.new.self s c.plan_for.result c.pass-in-PassOn.result _
    c.plan_for.ensures c.in-PassOn.is c.on_session-passed.ensures (c.pass-in-PassOn.ensures.told s live)

pub returns-in-Pass-clause-stored : goal.returns-in-Pass-clause-stored
returns-in-Pass-clause-stored g c = λ s live stored.
    pass_stored c.args.client c.args.command.now c.args.self.now s c.plan_for.result c.pass.result _ c.plan_for.ensures c.in-Pass.is (c.pass.ensures.stored s live stored)

pub returns-in-PassOn-clause-stored : goal.returns-in-PassOn-clause-stored
returns-in-PassOn-clause-stored g c = λ s live stored.
    pass_on_stored c.args.client c.in-PassOn.session c.args.command.now c.on_session-passed.result c.args.self.now s c.plan_for.result c.pass-in-PassOn.result _
    c.plan_for.ensures c.in-PassOn.is c.on_session-passed.ensures (c.pass-in-PassOn.ensures.stored s live stored)
