use Rattle.std.proofs.Common.{sym, ap, inl, refl, ◌∙◌}
use Rattle.std.specs.Prelude.{Ok}
use Rattle.pcrlock_line.proofs.Composed.{stops, on_tpm}
use Rattle.pcrlock_line.specs.declared.reply.Reply.TheVariants as reply
use Rattle.pcrlock_line.specs.Machine.{Live}
use Rattle.pcrlock_open.proofs.Opens.{safe_left}
use Rattle.pcrlock_open.specs.Bound.{held_after, held_by, held_opened, held_strings}
use Rattle.pcrlock_policy.specs.Asked.{target_of}
use Rattle.pcrlock_policy.specs.Foreseen.{foreseen_of}
use Rattle.pcrlock_policy.specs.MakePolicy.{pin_by, unsealed_line}
use Rattle.pcrlock_policy.proofs.Forced.{behind_stands, behind_told, kept_at, stands_as, told_as}
use Rattle.pcrlock_policy.proofs.forcing.update_unsealed.Goals as goal

pub returns-in-Ok-Ok-clause-told : goal.returns-in-Ok-Ok-clause-told
returns-in-Ok-Ok-clause-told g c = λ words m tells live safe.
    let policy = c.args.policy.now in
    let s = m.state in
    let strings = held_strings policy s (held_by policy s) in
    let n : Live = record m { state = held_after policy s (held_by policy s) } in
    let opened = c.in-Ok-Ok.ensures.told s (record { live = live; stored = tells.state }) (safe_left strings _ safe) in
    behind_told c.update_policy.result _ _ words m strings _
    (told_as c.update_policy.result _ _ words _ _
    (ap (λ pin. unsealed_line (target_of c.args.target.now) policy (foreseen_of c.args.foreseen) c.args.content.now pin n) (sym opened.is ∙ c.in-Ok-Ok.field-0-is))
    (c.update_policy.ensures.told words n (record { files = tells.files; state = opened.stored; draws = tells.draws }) opened.now))

pub returns-in-Ok-Ok-clause-stops : goal.returns-in-Ok-Ok-clause-stops
returns-in-Ok-Ok-clause-stops g c = λ words m tells live safe.
    let policy = c.args.policy.now in
    let s = m.state in
    let strings = held_strings policy s (held_by policy s) in
    let n : Live = record m { state = held_after policy s (held_by policy s) } in
    let opened = c.in-Ok-Ok.ensures.told s (record { live = live; stored = tells.state }) (safe_left strings _ safe) in
    let target = target_of c.args.target.now in
    let foreseen = foreseen_of c.args.foreseen in
    let unsealed = pin_by c.args.target.now.path.now c.args.public.now (held_opened policy policy.pin_object s) in
    behind_stands c.update_policy.result _ _ m strings (unsealed_line target policy foreseen c.args.content.now unsealed n)
    (stands_as c.update_policy.result _ _ (unsealed_line target policy foreseen c.args.content.now unsealed n) (unsealed_line target policy foreseen c.args.content.now (Ok c.in-Ok-Ok.pin) n)
    (ap (λ pin. unsealed_line target policy foreseen c.args.content.now pin n) (sym opened.is ∙ c.in-Ok-Ok.field-0-is))
    (c.update_policy.ensures.stops words n (record { files = tells.files; state = opened.stored; draws = tells.draws }) opened.now))

pub returns-in-Ok-Err-clause-told : goal.returns-in-Ok-Err-clause-told
returns-in-Ok-Err-clause-told g c = λ words m tells live safe.
    let policy = c.args.policy.now in
    let s = m.state in
    let strings = held_strings policy s (held_by policy s) in
    let n : Live = record m { state = held_after policy s (held_by policy s) } in
    let opened = c.in-Ok-Err.ensures.told s (record { live = live; stored = tells.state }) (safe_left strings _ safe) in
    behind_told (Ok (reply.Refused c.in-Ok-Err.answer)) _ _ words m strings _
    (told_as (Ok (reply.Refused c.in-Ok-Err.answer)) _ _ words _ _
    (ap (λ pin. unsealed_line (target_of c.args.target.now) policy (foreseen_of c.args.foreseen) c.args.content.now pin n) (sym opened.is ∙ c.in-Ok-Err.field-0-is))
    (record { ending = refl; tells = record { files = tells.files; state = opened.stored; draws = tells.draws } }))

pub returns-in-Err-clause-causes : goal.returns-in-Err-clause-causes
returns-in-Err-clause-causes g c =
    let F = g.F.Files.faults in let T = g.T.Tpm.faults in
    stops (F c.args.files.now, 0, T c.args.tpm.now, 0) (F c.args.files.now, 0, T c.unseal_pin.new.tpm, 0) c.unseal_pin.result c.in-Err.stop
    (on_tpm (F c.args.files.now) 0 0 (T c.args.tpm.now) (T c.unseal_pin.new.tpm) c.unseal_pin.result c.unseal_pin.ensures.causes) c.in-Err.is

pub returns-in-Err-clause-stops : goal.returns-in-Err-clause-stops
returns-in-Err-clause-stops g c = λ words m tells live safe.
    inl (kept_at _ _ _ words m tells (c.in-Err.ensures.kept m.state (record { live = live; stored = tells.state })))
