use Rattle.std.proofs.Common.{map, arith, inl, inr}
use Rattle.cel_record.specs.Spelled.{spelled}
use Rattle.pcr_replay.specs.Combined.{firmware_rows}
use Rattle.component_make.specs.EarlyLate.{early_of, late_of}
use Rattle.component_make.proofs.Rows.{too_long}
use Rattle.component_make.proofs.Locks.{locks, splits}
use Rattle.component_make.proofs.Explained.{explained_by}
use Rattle.component_make.proofs.locking.lock_firmware.Goals as goal
use Rattle.component_make.proofs.locking.lock_firmware.Goals.{then-len-gt-RECORD_LIMIT-via-then-len-gt-RECORD_LIMIT, then-len-gt-RECORD_LIMIT-via-else-len-gt-RECORD_LIMIT+then-len-gt-RECORD_LIMIT-2}

pub returns-then-len-gt-RECORD_LIMIT-clause-answer :
    goal.returns-then-len-gt-RECORD_LIMIT-clause-answer
returns-then-len-gt-RECORD_LIMIT-clause-answer c =
    let rows = firmware_rows c.args.log.now.records in
    let locked = c.part_log.new.locked in (
      c.in_default.ensures rows c.in-Ok.ensures.marked,
      elim c.then-len-gt-RECORD_LIMIT.branch [
        | then-len-gt-RECORD_LIMIT-via-then-len-gt-RECORD_LIMIT w ↦ inl (too_long locked.early (early_of c.args.pcrs rows) c.in-Ok.ensures.parted.early (omega arith))
        | then-len-gt-RECORD_LIMIT-via-else-len-gt-RECORD_LIMIT+then-len-gt-RECORD_LIMIT-2 w ↦ inr (too_long locked.late (late_of c.args.pcrs rows) c.in-Ok.ensures.parted.late (omega arith))
      ],
    )

pub returns-clause-answer : goal.returns-clause-answer
returns-clause-answer c =
    let rows = firmware_rows c.args.log.now.records in
    locks c.args.pcrs rows c.part_log.new.locked (c.in_default.ensures rows c.in-Ok.ensures.marked) c.in-Ok.ensures.parted (omega arith) (omega arith)

pub returns-clause-split : goal.returns-clause-split
returns-clause-split c =
    let rows = firmware_rows c.args.log.now.records in
    splits c.args.pcrs rows c.part_log.new.locked (locks c.args.pcrs rows c.part_log.new.locked (c.in_default.ensures rows c.in-Ok.ensures.marked) c.in-Ok.ensures.parted (omega arith) (omega arith))

pub returns-clause-explained : goal.returns-clause-explained
returns-clause-explained c = λ bank pcr digests components inside measured lacks three.
    let rows = firmware_rows c.args.log.now.records in
    let locked = c.part_log.new.locked in
    let lock = locks c.args.pcrs rows locked (c.in_default.ensures rows c.in-Ok.ensures.marked) c.in-Ok.ensures.parted (omega arith) (omega arith) in
    explained_by bank pcr rows (map spelled locked.early) (map spelled locked.late) digests components (splits c.args.pcrs rows locked lock bank pcr digests inside measured) lacks three
