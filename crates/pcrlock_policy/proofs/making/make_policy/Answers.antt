use Rattle.std.proofs.Common.{sym, ap, ◌∙◌}
use Rattle.std.specs.Prelude.{Ok}
use Rattle.pcrlock_line.proofs.Composed.{stops, on_files}
use Rattle.pcrlock_line.proofs.Devices.{stands}
use Rattle.pcrlock_policy.specs.Asked.{asked_of, target_of}
use Rattle.pcrlock_policy.specs.MakePolicy.{found_line}
use Rattle.pcrlock_policy.proofs.Forced.{safely_stands_as, safely_told_as}
use Rattle.pcrlock_policy.proofs.Made.{by_policy, make_first}
use Rattle.pcrlock_policy.proofs.making.make_policy.Goals as goal

pub returns-in-Ok-Ok-clause-told : goal.returns-in-Ok-Ok-clause-told
returns-in-Ok-Ok-clause-told g c = λ m tells.
    safely_told_as c.make_found.result _ _ _ _ _
    (by_policy c.args.state.now (asked_of c.args.asked.now) (target_of c.args.target.now) m
    ∙ ap (λ found. found_line c.args.state.now (asked_of c.args.asked.now) (target_of c.args.target.now) found m)
    (sym (c.in-Ok-Ok.ensures.told m.files tells.files) ∙ c.in-Ok-Ok.field-0-is ∙ ap Ok (sym c.as_ref.ensures.value)))
    (c.make_found.ensures.told m (record { files = c.policy_at.ensures.same ∙ tells.files; state = tells.state; draws = tells.draws }))

pub returns-in-Ok-Ok-clause-stops : goal.returns-in-Ok-Ok-clause-stops
returns-in-Ok-Ok-clause-stops g c = λ m tells.
    safely_stands_as c.make_found.result _ _ _ _
    (by_policy c.args.state.now (asked_of c.args.asked.now) (target_of c.args.target.now) m
    ∙ ap (λ found. found_line c.args.state.now (asked_of c.args.asked.now) (target_of c.args.target.now) found m)
    (sym (c.in-Ok-Ok.ensures.told m.files tells.files) ∙ c.in-Ok-Ok.field-0-is ∙ ap Ok (sym c.as_ref.ensures.value)))
    (c.make_found.ensures.stops m (record { files = c.policy_at.ensures.same ∙ tells.files; state = tells.state; draws = tells.draws }))

pub returns-in-Err-clause-causes : goal.returns-in-Err-clause-causes
returns-in-Err-clause-causes g c =
    let F = g.F.Files.faults in let E = g.E.Entropy.faults in let T = g.T.Tpm.faults in
    stops (F c.args.files.now, E c.args.entropy.now, T c.args.tpm.now, 0) (F c.policy_at.new.files, E c.args.entropy.now, T c.args.tpm.now, 0) c.policy_at.result c.in-Err.stop
    (on_files (E c.args.entropy.now) (T c.args.tpm.now) 0 (F c.args.files.now) (F c.policy_at.new.files) c.policy_at.result c.policy_at.ensures.causes) c.in-Err.is

pub returns-in-Err-clause-stops : goal.returns-in-Err-clause-stops
returns-in-Err-clause-stops g c = λ m tells safe.
    make_first _ _ c.args.state.now (asked_of c.args.asked.now) (target_of c.args.target.now) m
    (stands _ _ (g.E.Entropy.draws c.args.entropy.now) m (record { files = c.policy_at.ensures.same ∙ tells.files; state = tells.state; draws = tells.draws }))
