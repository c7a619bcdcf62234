use Rattle.std.proofs.Common.{◌≡◌, ◌≤◌, length, map, arith, ◌∙◌}
use Rattle.std.proofs.lemmas.List.{length-map}
use Rattle.cel_record.specs.Spelled.{spelled}
use Rattle.pcr_replay.specs.Combined.{firmware_row}
use Rattle.component_make.specs.EarlyLate.{unplaced}
use Rattle.component_make.proofs.Rows.{full, fits}
use Rattle.component_make.proofs.parting.put.Goals as goal

pub returns-then-len-gt-RECORD_LIMIT : goal.returns-then-len-gt-RECORD_LIMIT
returns-then-len-gt-RECORD_LIMIT c =
    let long : length (map spelled c.args.list.now) ≡ 257 = omega (arith, length-map c.args.list.now spelled) in
    full (map spelled c.args.list.now) (unplaced (firmware_row c.args.measured.now)) long

pub returns : goal.returns
returns c =
    let few : length (map spelled c.args.list.now) ≤ 256 = omega (arith, length-map c.args.list.now spelled) in
    c.in_ok-push_record.ensures ∙ fits (map spelled c.args.list.now) (unplaced (firmware_row c.args.measured.now)) few
