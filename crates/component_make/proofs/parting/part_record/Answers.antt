use Rattle.std.proofs.Common.{eqb, refl, ap₂, ◌∙◌}
use Rattle.std.proofs.lemmas.Result.{on_ok_weaker}
use Rattle.pcr_replay.specs.Combined.{firmware_row}
use Rattle.component_make.specs.Parting.{side_by}
use Rattle.component_make.proofs.Rows.{parted_early, parted_late, parted_neither, extended_is}
use Rattle.component_make.proofs.parting.part_record.Goals as goal

pub returns-in-Early : goal.returns-in-Early
returns-in-Early c =
    on_ok_weaker c.put.result (λ made rows parted marked.
    let r = firmware_row c.args.measured.now in
    rw (extended_is c.args.measured.now c.if-measured-eq-EV_NO_ACTION.false) (
      parted_early c.args.pcrs rows r c.args.locked.now c.put.new.list (c.in-Early.ensures ∙ ap₂ (λ a b. side_by a b (eqb c.args.measured.now.kind 4)) c.is_in_mask-is_inside.ensures (c.is_separated-is_behind.ensures rows marked)) parted made,
      c.mark.ensures rows r refl refl marked,
    ))
    c.put.ensures

pub returns-in-Late : goal.returns-in-Late
returns-in-Late c =
    on_ok_weaker c.put-in-Late.result (λ made rows parted marked.
    let r = firmware_row c.args.measured.now in
    rw (extended_is c.args.measured.now c.if-measured-eq-EV_NO_ACTION.false) (
      parted_late c.args.pcrs rows r c.args.locked.now c.put-in-Late.new.list (c.in-Late.ensures ∙ ap₂ (λ a b. side_by a b (eqb c.args.measured.now.kind 4)) c.is_in_mask-is_inside.ensures (c.is_separated-is_behind.ensures rows marked)) parted made,
      c.mark.ensures rows r refl refl marked,
    ))
    c.put-in-Late.ensures

pub returns-in-Neither : goal.returns-in-Neither
returns-in-Neither c = λ rows parted marked.
    let r = firmware_row c.args.measured.now in
    rw (extended_is c.args.measured.now c.if-measured-eq-EV_NO_ACTION.false) (
      parted_neither c.args.pcrs rows r c.args.locked.now (c.in-Neither.ensures ∙ ap₂ (λ a b. side_by a b (eqb c.args.measured.now.kind 4)) c.is_in_mask-is_inside.ensures (c.is_separated-is_behind.ensures rows marked)) parted,
      c.mark.ensures rows r refl refl marked,
    )
