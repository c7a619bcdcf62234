-- The two logs of a boot, and what they say together.
use Rattle.std.specs.Prelude.{◌≡◌, ◌⊎◌, ℕ, ◌≤◌, List, [], ◌++◌, length, map, Option, None, Some, Result, Ok, IfSome}
use Rattle.pl_base.specs.FileMap.{FileMap}
use Rattle.cel_record.specs.Spelled.{Spelled}
use Rattle.tcg_log.specs.Allowed.{IsWritable}
use Rattle.tcg_log.specs.declared.log.FirmwareLog.{FirmwareLog}
use Rattle.tcg_log.specs.Locality.{locality_of}
use Rattle.userspace_log.specs.Found.{Found, found}
use Rattle.userspace_log.specs.UserText.{text_limit}
use Rattle.pcr_replay.specs.declared.record.Origin.TheVariants.{User}
use Rattle.pcr_replay.specs.Combined.{firmware_rows}
use Rattle.pcr_replay.specs.Row.{Row}
use Rattle.pcrlock_answer.specs.declared.answer.Answer.{Answer}
use Rattle.pcrlock_input.specs.declared.logs.Logs.{Logs}
use Rattle.pcrlock_input.specs.Answering.{◌>>=◌}
use Rattle.pcrlock_input.specs.Firmware.{firmware_of}
use Rattle.pcrlock_input.specs.User.{user_of}

-- the firmware's log, where there is one, and the records of userspace
pub record PlainLogs : Type 0 where
  pub firmware : Option FirmwareLog
  pub user : Found

-- logs, without where they lie in memory
abbrev pub plain_logs : Logs → PlainLogs
plain_logs logs = record { firmware = logs.firmware; user = found logs.user }

-- the logs at the paths that are named, or at the usual ones; the firmware's is read first
abbrev pub logs_of : FileMap → Option (List ℕ) → Option (List ℕ) → Result PlainLogs Answer
logs_of files firmware user = firmware_of files firmware >>= λ f. user_of files user >>= λ u. Ok (record { firmware = f; user = u })

-- what the firmware extended
abbrev pub firmware_part : Option FirmwareLog → List Row
firmware_part None = []
firmware_part (Some log) = firmware_rows log.records

abbrev pub user_row : Spelled → Row
user_row r = record { origin = User; pcr = r.pcr; digests = r.digests }

-- what the firmware extended, in order, and then what userspace did
abbrev pub rows_of : PlainLogs → List Row
rows_of logs = firmware_part logs.firmware ++ map user_row logs.user.records

-- the locality that the firmware announced, and 0 where it has no log
abbrev pub locality_in : Option FirmwareLog → ℕ
locality_in None = 0
locality_in (Some log) = locality_of log

-- one of the localities that a machine may start at
abbrev pub IsLocality : ℕ → Type 0
IsLocality locality = (locality ≡ 0) ⊎ ((locality ≡ 3) ⊎ (locality ≡ 4))

-- what every log that was read keeps
pub record AreRead (logs : Logs) : Type 0 where
  pub writable : IfSome logs.firmware IsWritable
  pub few : length logs.user.records ≤ text_limit
