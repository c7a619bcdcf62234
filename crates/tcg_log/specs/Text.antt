-- The text of a log: which bytes spell it, field by field and lowest byte first
-- (TCG PC Client Platform Firmware Profile, event logging).
use Rattle.std.specs.Prelude.{ℕ, ◌+◌, ◌*◌, List, [], ◌∷◌, ◌++◌, length, replicate, codes}
use Rattle.std.specs.List.{flat_map}
use Rattle.std.specs.Int.{w16, w32, to_le_bytes}
use Rattle.tcg_log.specs.declared.record.Tagged.{Tagged}
use Rattle.tcg_log.specs.declared.record.FirmwareRecord.{FirmwareRecord}
use Rattle.tcg_log.specs.declared.spec_id.Algorithm.{Algorithm}
use Rattle.tcg_log.specs.declared.spec_id.SpecId.{SpecId}
use Rattle.tcg_log.specs.declared.log.FirmwareLog.{FirmwareLog}

-- a digest behind its algorithm's number (TPMT_HA)
abbrev pub tagged_text : Tagged → List ℕ
tagged_text t = to_le_bytes w16 t.algorithm ++ t.digest

-- digests behind their count (TPML_DIGEST_VALUES)
abbrev pub digests_text : List Tagged → List ℕ
digests_text digests = to_le_bytes w32 (length digests) ++ flat_map tagged_text digests

-- bytes behind their number
abbrev pub event_text : List ℕ → List ℕ
event_text event = to_le_bytes w32 (length event) ++ event

-- a record: PCR, type, digests and event (TCG_PCR_EVENT2)
abbrev pub record_text : FirmwareRecord → List ℕ
record_text r = to_le_bytes w32 r.pcr ++ (to_le_bytes w32 r.kind ++ (digests_text r.digests ++ event_text r.event))

-- an algorithm's number and the size of its digests
abbrev pub algorithm_text : Algorithm → List ℕ
algorithm_text a = to_le_bytes w16 a.number ++ to_le_bytes w16 a.size

-- algorithms behind their number
abbrev pub algorithms_text : List Algorithm → List ℕ
algorithms_text algorithms = to_le_bytes w32 (length algorithms) ++ flat_map algorithm_text algorithms

-- the platform's class and the versions
abbrev pub class_text : SpecId → List ℕ
class_text s = to_le_bytes w32 s.platform ++ s.minor ∷ s.major ∷ s.errata ∷ s.uintn ∷ []

-- the vendor's bytes behind their number
abbrev pub vendor_text : List ℕ → List ℕ
vendor_text vendor = length vendor ∷ vendor

-- how many bytes the event of the Spec ID record has
abbrev pub event_size : ℕ → ℕ → ℕ
event_size algorithms vendor = 29 + 4 * algorithms + vendor

-- PCR 0, EV_NO_ACTION, a digest of zeros, and the event's size
abbrev pub head_text : ℕ → List ℕ
head_text size = to_le_bytes w32 0 ++ (to_le_bytes w32 3 ++ (replicate 20 0 ++ to_le_bytes w32 size))

-- what the event begins with
abbrev pub signature : List ℕ
signature = codes "Spec ID Event03" ++ 0 ∷ []

-- the Spec ID record (TCG_EfiSpecIDEvent in a TCG_PCClientPCREvent)
abbrev pub spec_text : SpecId → List ℕ
spec_text s =
    head_text (event_size (length s.algorithms) (length s.vendor))
    ++ (signature ++ (class_text s ++ (algorithms_text s.algorithms ++ vendor_text s.vendor)))

-- the log: the Spec ID record, and then the records
abbrev pub log_text : FirmwareLog → List ℕ
log_text log = spec_text log.spec ++ flat_map record_text log.records
