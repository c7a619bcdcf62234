-- Reading a log from left to right: the value with the bytes after it, or the first fault.
use Rattle.std.specs.Prelude.{◌≡◌, ℕ, zero, suc, not, nat_lt, ◌==◌, if◌then◌else◌, List, [], ◌∷◌, ◌++◌, length, take, drop, replicate, None, Result, Ok, Err, ok_or}
use Rattle.std.specs.Int.{w16, w32, to_le_bytes}
use Rattle.std.specs.Str.{bytes_eq}
use Rattle.pl_layout.specs.Reading.{◌>>=◌, place, bytes_at, little_at, byte_at, counted_at}
use Rattle.tcg_log.specs.declared.error.LogKind.{LogKind}
use Rattle.tcg_log.specs.declared.error.LogKind.TheVariants.{Cut, NoSpecId, Algorithms, SpecSize, PcrNumber, Count, DigestAlgorithm}
use Rattle.tcg_log.specs.declared.error.LogError.{LogError}
use Rattle.tcg_log.specs.declared.error.LogError.TheVariants.{Malformed, TooMany, Memory}
use Rattle.tcg_log.specs.declared.record.Tagged.{Tagged}
use Rattle.tcg_log.specs.declared.record.FirmwareRecord.{FirmwareRecord}
use Rattle.tcg_log.specs.declared.spec_id.Algorithm.{Algorithm}
use Rattle.tcg_log.specs.declared.spec_id.SpecId.{SpecId}
use Rattle.tcg_log.specs.declared.log.FirmwareLog.{FirmwareLog}
use Rattle.tcg_log.specs.Text.{signature, event_size}
use Rattle.tcg_log.specs.Allowed.{is_named, size_fits, is_tagged, size_named, has_pcr}

-- What a function returned, seen by view, is what reading gives, unless memory ran out.
abbrev pub Fails : {Y : Type 0} → LogError → Result Y LogError → Type 0
Fails Memory read = Unit {0}
Fails TooMany read = read ≡ Err TooMany
Fails (Malformed place kind) read = read ≡ Err (Malformed place kind)

abbrev pub Gives : {X Y : Type 0} → (X → Y) → Result X LogError → Result Y LogError → Type 0
Gives view (Ok x) read = read ≡ Ok (view x)
Gives view (Err e) read = Fails e read

-- the fault of the field that begins with these bytes, the last of all that there are
abbrev pub fault : ℕ → LogKind → List ℕ → LogError
fault all kind bytes = Malformed (place all bytes) kind

-- that of a field that ends after the bytes
abbrev pub cut : ℕ → List ℕ → LogError
cut all = fault all Cut

-- what a Spec ID record has in this place
abbrev pub constant_at : ℕ → List ℕ → List ℕ → Result (List ℕ) LogError
constant_at all text bytes =
    if nat_lt (length bytes) (length text) then Err (cut all bytes)
    else if bytes_eq (take (length text) bytes) text then Ok (drop (length text) bytes) else Err (fault all NoSpecId bytes)

-- ---- the Spec ID record

-- up to its event: the size that it states
unfoldable pub head_at : ℕ → List ℕ → Result (ℕ × List ℕ) LogError
head_at all bytes = do
  kind ← constant_at all (to_le_bytes w32 0) bytes
  digest ← constant_at all (to_le_bytes w32 3) kind
  size ← constant_at all (replicate 20 0) digest
  little_at (cut all) w32 size

-- an algorithm that is none of those read before
unfoldable pub algorithm_at : ℕ → List Algorithm → List ℕ → Result (Algorithm × List ℕ) LogError
algorithm_at all before bytes = do
  number ← little_at (cut all) w16 bytes
  if is_named before number.0 then Err (fault all Algorithms bytes) else do
    size ← little_at (cut all) w16 number.1
    if size_fits number.0 size.0 then Ok (record { number = number.0; size = size.0 }, size.1) else Err (fault all Algorithms number.1)

-- the algorithms behind their number
unfoldable pub named_at : ℕ → List ℕ → Result (List Algorithm × List ℕ) LogError
named_at all bytes = counted_at (little_at (cut all) w32) 1 16 (fault all Algorithms) (algorithm_at all) bytes

-- the vendor's bytes behind their number, with which the stated size has to be that of the event
unfoldable pub vendor_at : ℕ → ℕ → ℕ → List ℕ → Result (List ℕ × List ℕ) LogError
vendor_at all size algorithms bytes = do
  n ← byte_at (cut all) bytes
  if size == event_size algorithms n.0 then bytes_at (cut all) n.0 n.1 else Err (Malformed 28 SpecSize)

-- the platform's class and the versions, in a value that has nothing else yet
unfoldable pub class_at : ℕ → List ℕ → Result (SpecId × List ℕ) LogError
class_at all bytes = do
  platform ← little_at (cut all) w32 bytes
  minor ← byte_at (cut all) platform.1
  major ← byte_at (cut all) minor.1
  errata ← byte_at (cut all) major.1
  uintn ← byte_at (cut all) errata.1
  Ok (record { platform = platform.0; minor = minor.0; major = major.0; errata = errata.0; uintn = uintn.0; algorithms = []; vendor = [] }, uintn.1)

unfoldable pub spec_at : ℕ → List ℕ → Result (SpecId × List ℕ) LogError
spec_at all bytes = do
  size ← head_at all bytes
  event ← constant_at all signature size.1
  class ← class_at all event
  algorithms ← named_at all class.1
  vendor ← vendor_at all size.0 (length algorithms.0) algorithms.1
  Ok (record class.0 { algorithms = algorithms.0; vendor = vendor.0 }, vendor.1)

-- ---- records

-- a digest of one of the algorithms, none of those read before
unfoldable pub tagged_at : ℕ → List Algorithm → List Tagged → List ℕ → Result (Tagged × List ℕ) LogError
tagged_at all algorithms before bytes = do
  number ← little_at (cut all) w16 bytes
  size ← ok_or (if is_tagged before number.0 then None else size_named algorithms number.0) (fault all DigestAlgorithm bytes)
  digest ← bytes_at (cut all) size number.1
  Ok (record { algorithm = number.0; digest = digest.0 }, digest.1)

-- the digests behind their count
unfoldable pub digests_at : ℕ → List Algorithm → List ℕ → Result (List Tagged × List ℕ) LogError
digests_at all algorithms bytes = counted_at (little_at (cut all) w32) 1 (length algorithms) (fault all Count) (tagged_at all algorithms) bytes

-- the event behind its size
unfoldable pub event_at : ℕ → List ℕ → Result (List ℕ × List ℕ) LogError
event_at all bytes = do
  size ← little_at (cut all) w32 bytes
  bytes_at (cut all) size.0 size.1

unfoldable pub record_at : ℕ → List Algorithm → List ℕ → Result (FirmwareRecord × List ℕ) LogError
record_at all algorithms bytes = do
  pcr ← little_at (cut all) w32 bytes
  kind ← little_at (cut all) w32 pcr.1
  if not (has_pcr kind.0 pcr.0) then Err (fault all PcrNumber bytes) else do
    digests ← digests_at all algorithms kind.1
    event ← event_at all digests.1
    Ok (record { pcr = pcr.0; kind = kind.0; digests = digests.0; event = event.0 }, event.1)

-- the records to the end of the bytes, of which there may be this many more
unfoldable pub records_at : ℕ → List Algorithm → ℕ → List FirmwareRecord → List ℕ → Result (List FirmwareRecord) LogError
records_at all algorithms more before [] = Ok before
records_at all algorithms zero before (b ∷ bytes) = Err TooMany
records_at all algorithms (suc more) before (b ∷ bytes) = do
  r ← record_at all algorithms (b ∷ bytes)
  records_at all algorithms more (before ++ r.0 ∷ []) r.1

unfoldable pub log_at : List ℕ → Result FirmwareLog LogError
log_at bytes = do
  spec ← spec_at (length bytes) bytes
  records ← records_at (length bytes) spec.0.algorithms 16384 [] spec.1
  Ok (record { spec = spec.0; records = records })
