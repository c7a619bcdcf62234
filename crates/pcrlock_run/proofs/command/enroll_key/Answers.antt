use Rattle.std.proofs.Common.{ℕ, subst}
use Rattle.std.specs.Prelude.{Option, IfSome}
use Rattle.pcrlock_words.specs.ProperRequest.{IsPcr}
use Rattle.std.specs.Prelude.{IfOk, IfErr}
use Rattle.pcrlock_line.specs.declared.reply.Reply.{Reply}
use Rattle.pcrlock_line.specs.Outcome.{Outcome, Gives}
use Rattle.pcrlock_line.specs.Stopped.{StandsAmong}
use Rattle.pcrlock_run.proofs.Commands.{enrolls_under, enrolls_bound, by_outcome}
use Rattle.pcrlock_run.proofs.command.enroll_key.Goals as goal

pub enroll-requires : goal.enroll-requires
enroll-requires g c = subst (λ (o : Option ℕ). IfSome o IsPcr) c.in-Some.is c.requires

pub returns-in-Some-clause-told : goal.returns-in-Some-clause-told
returns-in-Some-clause-told g c = λ m tells. by_outcome _ _
    (λ (o : Outcome). IfOk c.enroll.result (λ (r : Reply). Gives (g.F.Files.held c.enroll.new.files) (g.T.Tpm.stored c.enroll.new.tpm) (g.E.Entropy.draws c.enroll.new.entropy) r o))
    (enrolls_under c.args.state.now c.args.token.now c.args.policy.now c.args.key.now c.args.literal c.in-Some.pcr c.args.bank m c.in-Some.is)
    (c.enroll.ensures.told m tells)

pub returns-in-Some-clause-stops : goal.returns-in-Some-clause-stops
returns-in-Some-clause-stops g c = λ m tells. by_outcome _ _
    (λ (o : Outcome). IfErr c.enroll.result (λ _. StandsAmong (g.F.Files.held c.enroll.new.files) (g.T.Tpm.stored c.enroll.new.tpm) o.stops))
    (enrolls_under c.args.state.now c.args.token.now c.args.policy.now c.args.key.now c.args.literal c.in-Some.pcr c.args.bank m c.in-Some.is)
    (c.enroll.ensures.stops m tells)

pub returns-in-None-clause-told : goal.returns-in-None-clause-told
returns-in-None-clause-told g c = λ m tells. by_outcome _ _
    (λ (o : Outcome). IfOk c.enroll_bound.result (λ (r : Reply). Gives (g.F.Files.held c.enroll_bound.new.files) (g.T.Tpm.stored c.enroll_bound.new.tpm) (g.E.Entropy.draws c.enroll_bound.new.entropy) r o))
    (enrolls_bound c.args.state.now c.args.token.now c.args.policy.now c.args.key.now c.args.literal c.args.bank m c.in-None.is)
    (c.enroll_bound.ensures.told m tells)

pub returns-in-None-clause-stops : goal.returns-in-None-clause-stops
returns-in-None-clause-stops g c = λ m tells. by_outcome _ _
    (λ (o : Outcome). IfErr c.enroll_bound.result (λ _. StandsAmong (g.F.Files.held c.enroll_bound.new.files) (g.T.Tpm.stored c.enroll_bound.new.tpm) o.stops))
    (enrolls_bound c.args.state.now c.args.token.now c.args.policy.now c.args.key.now c.args.literal c.args.bank m c.in-None.is)
    (c.enroll_bound.ensures.stops m tells)
