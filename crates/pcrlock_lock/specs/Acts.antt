-- The locks as acts: changes of component files alone, none of which is the policy file.
use Rattle.std.specs.Prelude.{ℕ, List, Option, Result}
use Rattle.component_make.specs.declared.kind.FirmwareKind.{FirmwareKind}
use Rattle.tpm_model.specs.World.{World}
use Rattle.pcrlock_answer.specs.declared.answer.Answer.{Answer}
use Rattle.pcrlock_line.specs.Content.{content_of}
use Rattle.pcrlock_line.specs.Machine.{Machine}
use Rattle.pcrlock_deeds.specs.Acts.{Act, changes}
use Rattle.pcrlock_lock.specs.Changing.{Work, changes_in, ending_in}
use Rattle.pcrlock_lock.specs.LockFirmware.{firmware_work}
use Rattle.pcrlock_lock.specs.LockRaw.{raw_by, raw_limit}
use Rattle.pcrlock_lock.specs.UnlockFirmware.{unlock_work}

-- the changes of some work, and how it ends
abbrev pub work_act : Result Work Answer → Act
work_act given = changes (changes_in given) (ending_in given)

unfoldable pub lock_firmware_act : FirmwareKind → Option (List ℕ) → List ℕ → List ℕ → Machine → World → Act
lock_firmware_act kind named folder variant m w = work_act (firmware_work kind named folder variant m.files)

unfoldable pub unlock_firmware_act : FirmwareKind → List ℕ → List ℕ → Machine → World → Act
unlock_firmware_act kind folder variant m w = work_act (unlock_work kind folder variant m.files)

unfoldable pub lock_raw_act : List ℕ → ℕ → List ℕ → Machine → World → Act
lock_raw_act file pcr output m w = work_act (raw_by file pcr output (content_of m.files file raw_limit))
