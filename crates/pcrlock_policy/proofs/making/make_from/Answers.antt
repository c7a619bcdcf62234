use Rattle.std.proofs.Common.{sym, ap, option_copied, ◌∙◌}
use Rattle.std.specs.Prelude.{Some, Ok}
use Rattle.pcrlock_line.proofs.Composed.{stops, on_tpm}
use Rattle.pcrlock_line.proofs.Devices.{begun_by, gives_refused, kept_tells, stands, tells_begun}
use Rattle.pcrlock_predict.specs.Inputs.{plain_inputs}
use Rattle.pcrlock_policy.specs.Asked.{asked_of, target_of}
use Rattle.pcrlock_policy.specs.MakePolicy.{policy_on}
use Rattle.pcrlock_policy.proofs.Forced.{Safely, Stands, Told}
use Rattle.pcrlock_policy.proofs.Made.{inputs_first}
use Rattle.pcrlock_policy.proofs.making.make_from.Goals as goal

pub returns-in-Ok-None-clause-told : goal.returns-in-Ok-None-clause-told
returns-in-Ok-None-clause-told g c = λ m tells.
    begun_by m.device c.args.state.now m (policy_on (asked_of c.args.asked.now) (target_of c.args.target.now) (option_copied c.args.found) (plain_inputs c.args.inputs.now))
    (Safely (Told c.make_on.result (g.F.Files.held c.make_on.new.files) (g.T.Tpm.stored c.make_on.new.tpm) (g.E.Entropy.draws c.make_on.new.entropy)))
    (sym c.in-Ok-None.field-0-is ∙ c.in-Ok-None.ensures.told m.device tells.state)
    (λ s e. c.make_on.ensures.told (record { files = m.files; state = s; draws = m.draws }) (tells_begun _ _ _ _ m s c.ready.ensures.same e tells)
    (c.in-Ok-None.ensures.live s (tells.state ∙ ap Some e)).live_is)

pub returns-in-Ok-None-clause-stops : goal.returns-in-Ok-None-clause-stops
returns-in-Ok-None-clause-stops g c = λ m tells.
    begun_by m.device c.args.state.now m (policy_on (asked_of c.args.asked.now) (target_of c.args.target.now) (option_copied c.args.found) (plain_inputs c.args.inputs.now))
    (Safely (Stands c.make_on.result (g.F.Files.held c.make_on.new.files) (g.T.Tpm.stored c.make_on.new.tpm)))
    (sym c.in-Ok-None.field-0-is ∙ c.in-Ok-None.ensures.told m.device tells.state)
    (λ s e. c.make_on.ensures.stops (record { files = m.files; state = s; draws = m.draws }) (tells_begun _ _ _ _ m s c.ready.ensures.same e tells)
    (c.in-Ok-None.ensures.live s (tells.state ∙ ap Some e)).live_is)

pub returns-in-Ok-Some-clause-told : goal.returns-in-Ok-Some-clause-told
returns-in-Ok-Some-clause-told g c = λ m tells safe.
    gives_refused _ _ _ c.args.state.now m (policy_on (asked_of c.args.asked.now) (target_of c.args.target.now) (option_copied c.args.found) (plain_inputs c.args.inputs.now)) c.in-Ok-Some.answer
    (sym c.in-Ok-Some.field-0-is ∙ c.in-Ok-Some.ensures.told m.device tells.state) (kept_tells _ _ _ _ m c.ready.ensures.same tells)

pub returns-in-Err-clause-causes : goal.returns-in-Err-clause-causes
returns-in-Err-clause-causes g c =
    let F = g.F.Files.faults in let E = g.E.Entropy.faults in let T = g.T.Tpm.faults in
    stops (F c.args.files.now, E c.args.entropy.now, T c.args.tpm.now, 0) (F c.args.files.now, E c.args.entropy.now, T c.ready.new.tpm, 0) c.ready.result c.in-Err.stop
    (on_tpm (F c.args.files.now) (E c.args.entropy.now) 0 (T c.args.tpm.now) (T c.ready.new.tpm) c.ready.result c.ready.ensures.causes) c.in-Err.is

pub returns-in-Err-clause-stops : goal.returns-in-Err-clause-stops
returns-in-Err-clause-stops g c = λ m tells safe.
    inputs_first _ _ c.args.state.now (asked_of c.args.asked.now) (target_of c.args.target.now) (option_copied c.args.found) (Ok (plain_inputs c.args.inputs.now)) m
    (stands _ _ _ m (kept_tells _ _ _ _ m c.ready.ensures.same tells))
