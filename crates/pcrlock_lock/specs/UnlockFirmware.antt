-- What `unlock-firmware-code` and `unlock-firmware-config` do: they take out the two files of a lock.
use Rattle.std.specs.Prelude.{ℕ, ◌+◌, Bool, is_some, if◌then◌else◌, List, [], ◌∷◌, length, Result, Ok}
use Rattle.std.specs.FinMap.{get, remove}
use Rattle.pl_base.specs.FileMap.{FileMap}
use Rattle.pcrlock_answer.specs.declared.answer.Answer.{Answer}
use Rattle.pcrlock_answer.specs.Texts.{unlocked_text}
use Rattle.pcrlock_line.specs.Machine.{Machine}
use Rattle.pcrlock_line.specs.Outcome.{Outcome}
use Rattle.component_make.specs.declared.kind.FirmwareKind.{FirmwareKind}
use Rattle.pcrlock_deeds.specs.Acts.{FileStep, Removed}
use Rattle.pcrlock_deeds.specs.Deed.{keeps}
use Rattle.pcrlock_lock.specs.Changing.{Work, changing_line}
use Rattle.component_make.specs.FirmwareFiles.{early_path, late_path}

-- the files at the paths are taken out one after the other; a path at which none stands is passed over
abbrev pub removals : List (List ℕ) → FileMap → List FileStep
removals [] files = []
removals (path ∷ more) files =
    if is_some (get files path) then Removed path keeps ∷ removals more (remove files path) else removals more files

-- how many of the two were there
abbrev pub counted : Bool → Bool → ℕ
counted first second = (if first then 1 else 0) + (if second then 1 else 0)

-- the number of the files that were taken out is printed
abbrev pub removed : List (List ℕ) → FileMap → Work
removed paths files = record { text = unlocked_text (length (removals paths files)); changes = removals paths files }

abbrev pub unlock_work : FirmwareKind → List ℕ → List ℕ → FileMap → Result Work Answer
unlock_work kind folder variant files = Ok (removed (early_path kind folder variant ∷ late_path kind folder variant ∷ []) files)

-- `unlock-firmware-code` or `unlock-firmware-config`, of the files of the variant in the folder
abbrev pub unlock_firmware_line : FirmwareKind → List ℕ → List ℕ → Machine → Outcome
unlock_firmware_line kind folder variant m = changing_line (unlock_work kind folder variant m.files) m
