-- What `lock-firmware-code` and `lock-firmware-config` do: they make two component files of what the firmware
-- measured, before and behind the separators of its PCRs.
use Rattle.std.specs.Prelude.{ℕ, ◌&&◌, nat_le, if◌then◌else◌, List, [], ◌∷◌, codes, length, find, Option, None, Some, Result, Ok, Err}
use Rattle.pl_base.specs.FileMap.{FileMap}
use Rattle.tcg_log.specs.declared.log.FirmwareLog.{FirmwareLog}
use Rattle.cel_record.specs.ComponentText.{record_limit}
use Rattle.cel_record.specs.Spelled.{Spelled}
use Rattle.pcr_replay.specs.Combined.{firmware_rows}
use Rattle.pcr_replay.specs.Row.{Row}
use Rattle.component_make.specs.EarlyLate.{early_of, late_of}
use Rattle.component_make.specs.FirmwareFiles.{pcrs_in, mask_in, early_path, late_path}
use Rattle.component_make.specs.Lock.{lacks_separator}
use Rattle.pcrlock_answer.specs.declared.answer.Answer.{Answer}
use Rattle.pcrlock_answer.specs.declared.answer.Answer.TheVariants as said
use Rattle.pcrlock_answer.specs.Texts.{locked_text}
use Rattle.pcrlock_line.specs.Machine.{Machine}
use Rattle.pcrlock_line.specs.Outcome.{Outcome}
use Rattle.pcrlock_input.specs.Answering.{◌>>=◌}
use Rattle.pcrlock_input.specs.Firmware.{firmware_of}
use Rattle.component_make.specs.declared.kind.FirmwareKind.{FirmwareKind}
use Rattle.pcrlock_deeds.specs.Acts.{Written}
use Rattle.pcrlock_deeds.specs.Deed.{keeps}
use Rattle.pcrlock_lock.specs.Changing.{Work, changing_line}
use Rattle.pcrlock_lock.specs.MadeFiles.{made_text}

-- the records of the two files
pub record Halves : Type 0 where
  pub early : List Spelled
  pub late : List Spelled

-- what the firmware extended, in order; without a log it is nothing
abbrev pub rows_in : Option FirmwareLog → List Row
rows_in None = []
rows_in (Some log) = firmware_rows log.records

-- the records before the first separators of their PCRs, and those behind
abbrev pub halves_of : FirmwareKind → List Row → Halves
halves_of kind rows = record { early = early_of (mask_in kind) rows; late = late_of (mask_in kind) rows }

-- the answer where a component file can't hold all records
abbrev pub too_many : Answer
too_many = said.Limit (codes "records") 257

-- a component file has at most 256 records
abbrev pub fitting : Halves → Result Halves Answer
fitting halves =
    if nat_le (length halves.early) record_limit && nat_le (length halves.late) record_limit
    then Ok halves
    else Err too_many

-- by the first of the PCRs that lacks its separator, if there is one
abbrev pub halves_by : Option ℕ → Halves → Result Halves Answer
halves_by (Some pcr) halves = Err (said.NoSeparator pcr)
halves_by None halves = fitting halves

abbrev pub locked_of : FirmwareKind → List Row → Result Halves Answer
locked_of kind rows = halves_by (find (lacks_separator (mask_in kind) rows) (pcrs_in kind)) (halves_of kind rows)

-- of the log at the path that is named, or at the usual one
abbrev pub halves_in : FirmwareKind → Option (List ℕ) → FileMap → Result Halves Answer
halves_in kind named files = firmware_of files named >>= λ log. locked_of kind (rows_in log)

-- the two files are written, the early one first, and the numbers of their records printed
abbrev pub written : FirmwareKind → List ℕ → List ℕ → Halves → Work
written kind folder variant halves = record {
  text = locked_text (length halves.early) (Some (length halves.late));
  changes = Written (early_path kind folder variant) (made_text halves.early) keeps ∷ Written (late_path kind folder variant) (made_text halves.late) keeps ∷ [];
}

abbrev pub firmware_work : FirmwareKind → Option (List ℕ) → List ℕ → List ℕ → FileMap → Result Work Answer
firmware_work kind named folder variant files = halves_in kind named files >>= λ halves. Ok (written kind folder variant halves)

-- `lock-firmware-code` or `lock-firmware-config`, into files of the variant in the folder
abbrev pub lock_firmware_line : FirmwareKind → Option (List ℕ) → List ℕ → List ℕ → Machine → Outcome
lock_firmware_line kind named folder variant m = changing_line (firmware_work kind named folder variant m.files) m
