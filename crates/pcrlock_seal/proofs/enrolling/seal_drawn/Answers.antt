use Rattle.pcrlock_line.proofs.Composed.{then, stops, on_entropy, on_files_tpm}
use Rattle.pcrlock_seal.proofs.Sealed.{drawn_told}
use Rattle.pcrlock_seal.proofs.Stops.{drawn_stops, key_first, at_state}
use Rattle.std.specs.Prelude.{None}
use Rattle.pcrlock_seal.proofs.enrolling.seal_drawn.Goals as goal

pub returns-in-Some-clause-causes : goal.returns-in-Some-clause-causes
returns-in-Some-clause-causes g c =
    let F = g.F.Files.faults in let E = g.E.Entropy.faults in let T = g.T.Tpm.faults in
    then (F c.args.files.now, E c.args.entropy.now, T c.args.tpm.now, 0) (F c.args.files.now, E c.draw.new.entropy, T c.args.tpm.now, 0) (F c.seal_key.new.files, E c.draw.new.entropy, T c.seal_key.new.tpm, 0) c.draw.result c.seal_key.result
    (on_entropy (F c.args.files.now) (T c.args.tpm.now) 0 (E c.args.entropy.now) (E c.draw.new.entropy) c.draw.result c.draw.ensures.causes)
    (on_files_tpm (E c.draw.new.entropy) 0 (F c.args.files.now) (F c.seal_key.new.files) (T c.args.tpm.now) (T c.seal_key.new.tpm) c.seal_key.result c.seal_key.ensures.causes)

pub returns-in-Some-clause-told : goal.returns-in-Some-clause-told
returns-in-Some-clause-told g c = λ m tells live.
    let drawn = c.in-Ok.ensures.told m.draws tells.draws in
    drawn_told c.seal_key.result _ _ _ c.args.path.now c.args.condition.now c.in-Some.key c.in-Ok.word m.draws drawn.0 m drawn.1 c.in-Some.ensures.1
    (c.seal_key.ensures.told (g.E.Entropy.draws c.draw.new.entropy) (record m { draws = drawn.0 })
    (record { files = tells.files; state = tells.state; draws = drawn.2 }) live)

pub returns-in-Err-clause-causes : goal.returns-in-Err-clause-causes
returns-in-Err-clause-causes g c =
    let F = g.F.Files.faults in let E = g.E.Entropy.faults in let T = g.T.Tpm.faults in
    stops (F c.args.files.now, E c.args.entropy.now, T c.args.tpm.now, 0) (F c.args.files.now, E c.draw.new.entropy, T c.args.tpm.now, 0) c.draw.result c.in-Err.stop
    (on_entropy (F c.args.files.now) (T c.args.tpm.now) 0 (E c.args.entropy.now) (E c.draw.new.entropy) c.draw.result c.draw.ensures.causes) c.in-Err.is

pub returns-in-Some-clause-stops : goal.returns-in-Some-clause-stops
returns-in-Some-clause-stops g c = λ m tells live.
    let drawn = c.in-Ok.ensures.told m.draws tells.draws in
    drawn_stops c.seal_key.result _ _ c.args.path.now c.args.condition.now c.in-Some.key c.in-Ok.word m.draws drawn.0 m drawn.1 c.in-Some.ensures.1
    (c.seal_key.ensures.stops (g.E.Entropy.draws c.draw.new.entropy) (record m { draws = drawn.0 })
    (record { files = tells.files; state = tells.state; draws = drawn.2 }) live)

pub returns-in-Err-clause-stops : goal.returns-in-Err-clause-stops
returns-in-Err-clause-stops g c = λ m tells live.
    key_first _ _ c.args.path.now c.args.condition.now None m.draws m (at_state _ _ _ m tells)
