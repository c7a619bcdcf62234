use Rattle.pcrlock_line.proofs.Composed.{stops, on_tpm}
use Rattle.std.proofs.Common.{sym, ap, subst, ◌∙◌}
use Rattle.std.specs.Prelude.{Some, IfOk, IfErr}
use Rattle.pcrlock_line.specs.declared.reply.Reply.{Reply}
use Rattle.pcrlock_line.specs.Machine.{Live}
use Rattle.pcrlock_line.specs.Outcome.{Outcome, Gives}
use Rattle.pcrlock_line.specs.Stopped.{StandsAmong}
use Rattle.pcrlock_line.proofs.Devices.{begun_by, tells_begun, kept_tells, gives_refused, stops_first, stands}
use Rattle.pcrlock_seal.specs.declared.condition.Condition.{Condition}
use Rattle.pcrlock_seal.specs.Condition.{index_condition}
use Rattle.pcrlock_seal.specs.Enroll.{bound_line, with_key}
use Rattle.pcrlock_seal.proofs.Stops.{key_first, at_state}
use Rattle.pcrlock_seal.proofs.enrolling.enroll_under.Goals as goal

pub returns-in-Err-clause-causes : goal.returns-in-Err-clause-causes
returns-in-Err-clause-causes g c =
    let F = g.F.Files.faults in let E = g.E.Entropy.faults in let T = g.T.Tpm.faults in
    stops (F c.args.files.now, E c.args.entropy.now, T c.args.tpm.now, 0) (F c.args.files.now, E c.args.entropy.now, T c.ready.new.tpm, 0) c.ready.result c.in-Err.stop
    (on_tpm (F c.args.files.now) (E c.args.entropy.now) 0 (T c.args.tpm.now) (T c.ready.new.tpm) c.ready.result c.ready.ensures.causes) c.in-Err.is

pub returns-in-Ok-None-clause-told : goal.returns-in-Ok-None-clause-told
returns-in-Ok-None-clause-told g c = λ m tells.
    begun_by m.device c.args.state.now m (bound_line c.args.path.now c.args.policy.now c.args.key)
    (λ (o : Outcome). IfOk c.seal_under.result (λ (r : Reply). Gives (g.F.Files.held c.seal_under.new.files) (g.T.Tpm.stored c.seal_under.new.tpm) (g.E.Entropy.draws c.seal_under.new.entropy) r o))
    (sym c.in-Ok-None.field-0-is ∙ c.in-Ok-None.ensures.told m.device tells.state)
    (λ s e. let live : Live = record { files = m.files; state = s; draws = m.draws } in
    subst (λ (x : Condition). IfOk c.seal_under.result (λ (r : Reply). Gives (g.F.Files.held c.seal_under.new.files) (g.T.Tpm.stored c.seal_under.new.tpm) (g.E.Entropy.draws c.seal_under.new.entropy) r (with_key c.args.path.now x c.args.key m.draws live)))
    c.of_policy-condition.ensures
    (c.seal_under.ensures.told live (tells_begun _ _ _ _ m s c.ready.ensures.same e tells) (c.in-Ok-None.ensures.live s (tells.state ∙ ap Some e)).live_is))

pub returns-in-Ok-None-clause-stops : goal.returns-in-Ok-None-clause-stops
returns-in-Ok-None-clause-stops g c = λ m tells.
    begun_by m.device c.args.state.now m (bound_line c.args.path.now c.args.policy.now c.args.key)
    (λ (o : Outcome). IfErr c.seal_under.result (λ _. StandsAmong (g.F.Files.held c.seal_under.new.files) (g.T.Tpm.stored c.seal_under.new.tpm) o.stops))
    (sym c.in-Ok-None.field-0-is ∙ c.in-Ok-None.ensures.told m.device tells.state)
    (λ s e. let live : Live = record { files = m.files; state = s; draws = m.draws } in
    subst (λ (x : Condition). IfErr c.seal_under.result (λ _. StandsAmong (g.F.Files.held c.seal_under.new.files) (g.T.Tpm.stored c.seal_under.new.tpm) (with_key c.args.path.now x c.args.key m.draws live).stops))
    c.of_policy-condition.ensures
    (c.seal_under.ensures.stops live (tells_begun _ _ _ _ m s c.ready.ensures.same e tells) (c.in-Ok-None.ensures.live s (tells.state ∙ ap Some e)).live_is))

pub returns-in-Ok-Some-clause-told : goal.returns-in-Ok-Some-clause-told
returns-in-Ok-Some-clause-told g c = λ m tells.
    gives_refused _ _ _ c.args.state.now m (bound_line c.args.path.now c.args.policy.now c.args.key) c.in-Ok-Some.answer
    (sym c.in-Ok-Some.field-0-is ∙ c.in-Ok-Some.ensures.told m.device tells.state) (kept_tells _ _ _ _ m c.ready.ensures.same tells)

pub returns-in-Err-clause-stops : goal.returns-in-Err-clause-stops
returns-in-Err-clause-stops g c = λ m tells.
    stops_first _ _ c.args.state.now m (bound_line c.args.path.now c.args.policy.now c.args.key)
    (stands _ _ _ m (kept_tells _ _ _ _ m c.ready.ensures.same tells))
    (λ s e. key_first _ _ c.args.path.now (index_condition c.args.policy.now) c.args.key m.draws (record { files = m.files; state = s; draws = m.draws })
    (at_state _ _ _ (record { files = m.files; state = s; draws = m.draws }) (tells_begun _ _ _ _ m s c.ready.ensures.same e tells)))
