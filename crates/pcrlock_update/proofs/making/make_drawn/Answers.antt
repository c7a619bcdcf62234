use Rattle.pcrlock_line.proofs.Composed.{then, stops, on_entropy, on_files_tpm}
use Rattle.pcrlock_update.proofs.Drawn.{drawn_told, drawn_stops}
use Rattle.pcrlock_update.proofs.making.make_drawn.Goals as goal

pub returns-in-Ok-with_pin-clause-causes : goal.returns-in-Ok-with_pin-clause-causes
returns-in-Ok-with_pin-clause-causes g c =
    let F = g.F.Files.faults in let E = g.E.Entropy.faults in let T = g.T.Tpm.faults in
    then (F c.args.files.now, E c.args.entropy.now, T c.args.tpm.now, 0) (F c.args.files.now, E c.draw.new.entropy, T c.args.tpm.now, 0) (F c.make_with.new.files, E c.draw.new.entropy, T c.make_with.new.tpm, 0) c.draw.result c.make_with.result
    (on_entropy (F c.args.files.now) (T c.args.tpm.now) 0 (E c.args.entropy.now) (E c.draw.new.entropy) c.draw.result c.draw.ensures.causes)
    (on_files_tpm (E c.draw.new.entropy) 0 (F c.args.files.now) (F c.make_with.new.files) (T c.args.tpm.now) (T c.make_with.new.tpm) c.make_with.result c.make_with.ensures.causes)

pub returns-in-Ok-with_pin-clause-told : goal.returns-in-Ok-with_pin-clause-told
returns-in-Ok-with_pin-clause-told g c = λ m tells live.
    let drawn = c.in-Ok.ensures.told m.draws tells.draws in
    drawn_told c.make_with.result _ _ _ c.args.text.items c.in-Ok-with_pin.text.items c.args.given.now.path.now c.args.old c.args.stands c.args.given.now.index c.args.given.now.table.now c.in-Ok.pin m.draws drawn.0 m drawn.1 c.in-Ok-with_pin.ensures
    (c.make_with.ensures.told (g.E.Entropy.draws c.draw.new.entropy) (record m { draws = drawn.0 })
    (record { files = tells.files; state = tells.state; draws = drawn.2 }) live)

pub returns-in-Ok-with_pin-clause-stops : goal.returns-in-Ok-with_pin-clause-stops
returns-in-Ok-with_pin-clause-stops g c = λ m tells live.
    let drawn = c.in-Ok.ensures.told m.draws tells.draws in
    drawn_stops c.make_with.result _ _ c.args.text.items c.in-Ok-with_pin.text.items c.args.given.now.path.now c.args.old c.args.stands c.args.given.now.index c.args.given.now.table.now c.in-Ok.pin m.draws drawn.0 m drawn.1 c.in-Ok-with_pin.ensures
    (c.make_with.ensures.stops (g.E.Entropy.draws c.draw.new.entropy) (record m { draws = drawn.0 })
    (record { files = tells.files; state = tells.state; draws = drawn.2 }) live)

pub returns-in-Err-clause-causes : goal.returns-in-Err-clause-causes
returns-in-Err-clause-causes g c =
    let F = g.F.Files.faults in let E = g.E.Entropy.faults in let T = g.T.Tpm.faults in
    stops (F c.args.files.now, E c.args.entropy.now, T c.args.tpm.now, 0) (F c.args.files.now, E c.draw.new.entropy, T c.args.tpm.now, 0) c.draw.result c.in-Err.stop
    (on_entropy (F c.args.files.now) (T c.args.tpm.now) 0 (E c.args.entropy.now) (E c.draw.new.entropy) c.draw.result c.draw.ensures.causes) c.in-Err.is
