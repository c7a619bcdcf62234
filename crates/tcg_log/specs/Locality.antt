-- The locality that the platform started at, as a log announces it.
use Rattle.std.specs.Prelude.{ℕ, Bool, ◌&&◌, ◌||◌, ◌==◌, if◌then◌else◌, List, [], ◌∷◌, ◌++◌, length, take, slice_index, codes, Option, Some, None}
use Rattle.std.specs.List.{filter_map}
use Rattle.std.specs.Str.{bytes_eq}
use Rattle.tcg_log.specs.declared.record.FirmwareRecord.{FirmwareRecord}
use Rattle.tcg_log.specs.declared.log.FirmwareLog.{FirmwareLog}

-- sixteen bytes that a StartupLocality event begins with
abbrev pub announcement : List ℕ
announcement = codes "StartupLocality" ++ 0 ∷ []

-- a StartupLocality event: seventeen bytes, of which the last is 0, 3 or 4
abbrev pub is_startup : List ℕ → Bool
is_startup event =
    (length event == 17) && (bytes_eq (take 16 event) announcement
    && ((slice_index event 16 == 0) || ((slice_index event 16 == 3) || (slice_index event 16 == 4))))

-- what a record announces: it is an EV_NO_ACTION of PCR 0 (TCG PC Client Platform Firmware Profile,
-- TCG_EfiStartupLocalityEvent)
abbrev pub announced : FirmwareRecord → Option ℕ
announced r = if (r.kind == 3) && ((r.pcr == 0) && is_startup r.event) then Some (slice_index r.event 16) else None

-- the first locality that is announced, and 0 where none is
abbrev pub locality_of : FirmwareLog → ℕ
locality_of log = slice_index (filter_map announced log.records) 0
