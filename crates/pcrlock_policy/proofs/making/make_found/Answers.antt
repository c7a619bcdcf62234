use Rattle.std.proofs.Common.{ap, option_copied, ◌∙◌}
use Rattle.std.specs.Prelude.{Ok}
use Rattle.pcrlock_line.proofs.Devices.{stands}
use Rattle.pcrlock_policy.specs.Asked.{asked_of, target_of}
use Rattle.pcrlock_policy.specs.MakePolicy.{inputs_line}
use Rattle.pcrlock_policy.proofs.Forced.{safely_stands_as, safely_told_as}
use Rattle.pcrlock_policy.proofs.Made.{found_first}
use Rattle.pcrlock_policy.proofs.making.make_found.Goals as goal

pub returns-in-Ok-clause-told : goal.returns-in-Ok-clause-told
returns-in-Ok-clause-told g c = λ m tells.
    safely_told_as c.make_from.result _ _ _ _ _
    (ap (λ inputs. inputs_line c.args.state.now (asked_of c.args.asked.now) (target_of c.args.target.now) (option_copied c.args.found) inputs m) (c.in-Ok.ensures.told m.files tells.files))
    (c.make_from.ensures.told m (record { files = c.read_inputs.ensures.same ∙ tells.files; state = tells.state; draws = tells.draws }))

pub returns-in-Ok-clause-stops : goal.returns-in-Ok-clause-stops
returns-in-Ok-clause-stops g c = λ m tells.
    safely_stands_as c.make_from.result _ _ _ _
    (ap (λ inputs. inputs_line c.args.state.now (asked_of c.args.asked.now) (target_of c.args.target.now) (option_copied c.args.found) inputs m) (c.in-Ok.ensures.told m.files tells.files))
    (c.make_from.ensures.stops m (record { files = c.read_inputs.ensures.same ∙ tells.files; state = tells.state; draws = tells.draws }))

pub returns-in-Err-Failed-clause-stops : goal.returns-in-Err-Failed-clause-stops
returns-in-Err-Failed-clause-stops g c = λ m tells safe.
    found_first _ _ c.args.state.now (asked_of c.args.asked.now) (target_of c.args.target.now) (Ok (option_copied c.args.found)) m
    (stands _ _ (g.E.Entropy.draws c.args.entropy.now) m (record { files = c.read_inputs.ensures.same ∙ tells.files; state = tells.state; draws = tells.draws }))

pub returns-in-Err-Memory-clause-stops : goal.returns-in-Err-Memory-clause-stops
returns-in-Err-Memory-clause-stops g c = λ m tells safe.
    found_first _ _ c.args.state.now (asked_of c.args.asked.now) (target_of c.args.target.now) (Ok (option_copied c.args.found)) m
    (stands _ _ (g.E.Entropy.draws c.args.entropy.now) m (record { files = c.read_inputs.ensures.same ∙ tells.files; state = tells.state; draws = tells.draws }))
