-- The combined log: what the firmware extended, in order, and then what userspace did.
use Rattle.std.specs.Prelude.{ℕ, ◌==◌, if◌then◌else◌, List, ◌++◌, map, find, Option, Some, None}
use Rattle.std.specs.Option.{option_map}
use Rattle.std.specs.List.{filter_map}
use Rattle.hash_bank.specs.Hash.{algorithm_in}
use Rattle.hash_bank.specs.declared.bank.Bank.{Bank}
use Rattle.hash_bank.specs.declared.bank.Bank.TheVariants.{Sha1, Sha256, Sha384, Sha512}
use Rattle.tcg_log.specs.declared.record.Tagged.{Tagged}
use Rattle.tcg_log.specs.declared.record.FirmwareRecord.{FirmwareRecord}
use Rattle.tcg_log.specs.declared.log.FirmwareLog.{FirmwareLog}
use Rattle.cel_record.specs.Listed.{Listed, listed}
use Rattle.cel_record.specs.declared.record.CelRecord.{CelRecord}
use Rattle.pcr_replay.specs.declared.record.Origin.TheVariants.{Firmware, User}
use Rattle.pcr_replay.specs.Row.{Row}

-- the digest that a firmware record has for the bank
abbrev pub tagged_in : Bank → List Tagged → Option (List ℕ)
tagged_in bank digests = option_map (λ t. t.digest) (find (λ t. t.algorithm == algorithm_in bank) digests)

-- its digests in the four banks; those of other algorithms are left out
abbrev pub digests_of : List Tagged → Listed
digests_of digests = record { sha1 = tagged_in Sha1 digests; sha256 = tagged_in Sha256 digests; sha384 = tagged_in Sha384 digests; sha512 = tagged_in Sha512 digests }

abbrev pub firmware_row : FirmwareRecord → Row
firmware_row r = record { origin = Firmware r.kind; pcr = r.pcr; digests = digests_of r.digests }

abbrev pub user_row : CelRecord → Row
user_row r = record { origin = User; pcr = r.pcr; digests = listed r.digests }

-- all but EV_NO_ACTION is extended (TCG PC Client Platform Firmware Profile)
abbrev pub extended_row : FirmwareRecord → Option Row
extended_row r = if r.kind == 3 then None else Some (firmware_row r)

abbrev pub firmware_rows : List FirmwareRecord → List Row
firmware_rows records = filter_map extended_row records

-- the firmware's records, where there is a log of them, and then the user's
abbrev pub combined_of : Option FirmwareLog → List CelRecord → List Row
combined_of None user = map user_row user
combined_of (Some log) user = firmware_rows log.records ++ map user_row user
