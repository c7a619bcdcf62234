use Rattle.pcr_replay.specs.Combined.{firmware_rows}
use Rattle.pcrlock_lock.proofs.Lacking.{lacking_told}
use Rattle.pcrlock_lock.proofs.firmware_lock.lock_log.Goals as goal

pub returns-in-Err-NoSeparator-clause-told : goal.returns-in-Err-NoSeparator-clause-told
returns-in-Err-NoSeparator-clause-told c =
    lacking_told c.args.kind (firmware_rows c.args.log.now.records) c.in-Err-NoSeparator.pcr c.pcrs.result c.in-Err-NoSeparator.field-0
    c.pcrs.ensures.value c.in-Err-NoSeparator.field-0-is c.in-Err-NoSeparator.ensures.answer
