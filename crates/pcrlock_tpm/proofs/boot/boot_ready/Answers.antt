use Rattle.std.proofs.Common.{ap, ◌∙◌}
use Rattle.pcr_replay.specs.Row.{rows}
use Rattle.pcrlock_input.specs.Logs.{plain_logs}
use Rattle.pcrlock_tpm.proofs.Boots.{no_end, stops_of}
use Rattle.pcrlock_tpm.proofs.boot.boot_ready.Goals as goal

pub returns-clause-stops : goal.returns-clause-stops
returns-clause-stops g c = λ held words m tells live.
    stops_of held (g.T.Tpm.stored c.restart_and_extend.new.tpm) m c.args.locality c.args.banks (plain_logs c.args.logs.now) c.as_slice.result.now c.unwrap_or-locality.result c.locality.result
    tells.files (ap rows c.as_slice.ensures ∙ c.in_ok-list.ensures.told) c.unwrap_or-locality.ensures c.locality.ensures.told
    (c.in-Err.ensures.stops m.state (record { live = live; stored = tells.state }))

pub returns-in-Ok-false-clause-told : goal.returns-in-Ok-false-clause-told
returns-in-Ok-false-clause-told g c = λ held words m tells live.
    let told = c.in-Ok-false.ensures.told m.state (record { live = live; stored = tells.state }) in
    no_end c.in-Ok-false.field-0 c.in-Ok-false.field-0-test told.0
