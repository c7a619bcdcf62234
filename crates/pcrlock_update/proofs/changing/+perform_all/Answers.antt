use Rattle.std.proofs.Common.{◌≡◌, ◌∷◌, sym, ◌∙◌}
use Rattle.pcrlock_line.proofs.Composed.{then}
use Rattle.pcrlock_update.proofs.Lists.{refused_first, stopped_first}
use Rattle.pcrlock_update.proofs.changing.+perform_all.Goals as goal

pub returns-in-Ok-None-clause-causes : goal.returns-in-Ok-None-clause-causes
returns-in-Ok-None-clause-causes g t c =
    let F = g.F.Files.faults in let T = g.T.Tpm.faults in
    then (F c.args.files.now, 0, T c.args.tpm.now, 0) (F c.perform.new.files, 0, T c.perform.new.tpm, 0) (F c.perform_all.new.files, 0, T c.perform_all.new.tpm, 0)
    c.perform.result c.perform_all.result c.perform.ensures.causes c.perform_all.ensures.causes

pub returns-in-Ok-Some-clause-made : goal.returns-in-Ok-Some-clause-made
returns-in-Ok-Some-clause-made g t c = λ m works.
    let cut : c.args.changes.now ≡ c.in-Some.first.now ∷ c.in-Some.others.now = c.in-Some.ensures.cases.0 in
    refused_first _ _ _ c.args.path.now c.in-Some.first.now c.in-Some.others.now c.args.changes.now m c.in-Ok-Some.answer cut
    (let made = c.in-Ok-Some.ensures.made m works in (sym c.in-Ok-Some.field-0-is ∙ made.0, made.1))

pub returns-in-Err-clause-made : goal.returns-in-Err-clause-made
returns-in-Err-clause-made g t c = λ m works.
    let cut : c.args.changes.now ≡ c.in-Some.first.now ∷ c.in-Some.others.now = c.in-Some.ensures.cases.0 in
    stopped_first _ _ c.args.path.now c.in-Some.first.now c.in-Some.others.now c.args.changes.now m cut (c.in-Err.ensures.made m works)
