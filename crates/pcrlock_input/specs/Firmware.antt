-- What a command takes as the firmware's log.
use Rattle.std.specs.Prelude.{ℕ, Bool, List, codes, is_some, unwrap_or, Option, None, Some, Result, Ok, Err, if◌then◌else◌}
use Rattle.pl_base.specs.FileMap.{FileMap}
use Rattle.tcg_log.specs.declared.error.LogError.{LogError}
use Rattle.tcg_log.specs.declared.error.LogError.TheVariants as log
use Rattle.tcg_log.specs.declared.log.FirmwareLog.{FirmwareLog}
use Rattle.tcg_log.specs.Reading.{log_at}
use Rattle.pcrlock_answer.specs.declared.answer.Answer.{Answer}
use Rattle.pcrlock_answer.specs.declared.answer.Answer.TheVariants as said
use Rattle.pcrlock_answer.specs.declared.place.Place.TheVariants as place
use Rattle.pcrlock_line.specs.Content.{Content, Missing, TooLarge, Bytes, content_of}

-- where the kernel shows the log, which is read where no option names another
abbrev pub firmware_path : List ℕ
firmware_path = codes "/sys/kernel/security/tpm0/binary_bios_measurements"

-- the most bytes that it may have
abbrev pub firmware_limit : ℕ
firmware_limit = 4194304

-- the log that was read, or why there is none. No reading ends for want of memory
abbrev pub firmware_read : List ℕ → Result FirmwareLog LogError → Result (Option FirmwareLog) Answer
firmware_read path (Ok l) = Ok (Some l)
firmware_read path (Err (log.Malformed at kind)) = Err (said.Malformed path (place.At at))
firmware_read path (Err log.TooMany) = Err (said.Limit (codes "firmware-records") 16385)
firmware_read path (Err log.Memory) = Err said.Memory

-- by what stands at the path: a log that was named has to be there
abbrev pub firmware_in : Bool → List ℕ → Content → Result (Option FirmwareLog) Answer
firmware_in named path Missing = if named then Err (said.NoSuchFile path) else Ok None
firmware_in named path (TooLarge size) = Err (said.Limit (codes "firmware-bytes") size)
firmware_in named path (Bytes bytes) = firmware_read path (log_at bytes)

-- the log at the path that is named, else that at the usual path, where one is there
abbrev pub firmware_of : FileMap → Option (List ℕ) → Result (Option FirmwareLog) Answer
firmware_of files named = firmware_in (is_some named) (unwrap_or named firmware_path) (content_of files (unwrap_or named firmware_path) firmware_limit)
