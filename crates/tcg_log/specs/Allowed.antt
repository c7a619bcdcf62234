-- Which logs have a text: each field has an allowed value, and each number fits its field.
use Rattle.std.specs.Prelude.{◌≡◌, ℕ, ◌<◌, ◌≤◌, ◌^◌, Bool, true, false, ◌&&◌, ◌||◌, not, nat_le, nat_lt, ◌==◌, List, [], ◌∷◌, ◌++◌, length, slice_index, Option, find}
use Rattle.std.specs.List.{All, AllByRecursion, list_any, list_all}
use Rattle.std.specs.Option.{option_map, option_map_or}
use Rattle.hash_bank.specs.Hash.{size_in, bank_of_algorithm}
use Rattle.tcg_log.specs.declared.record.Tagged.{Tagged}
use Rattle.tcg_log.specs.declared.record.FirmwareRecord.{FirmwareRecord}
use Rattle.tcg_log.specs.declared.spec_id.Algorithm.{Algorithm}
use Rattle.tcg_log.specs.declared.spec_id.SpecId.{SpecId}
use Rattle.tcg_log.specs.declared.log.FirmwareLog.{FirmwareLog}
use Rattle.tcg_log.specs.Text.{log_text}

-- ---- allowed values

-- a bank's digests have the bank's size, and all others 1 to 64 bytes
abbrev pub size_fits : ℕ → ℕ → Bool
size_fits number size = option_map_or (λ bank. size == size_in bank) (bank_of_algorithm number) (nat_le 1 size && nat_le size 64)

-- each algorithm's digests have 1 to 64 bytes
abbrev pub AreSized : List Algorithm → Type 0
AreSized algorithms = All (λ a. (1 ≤ a.size) × (a.size ≤ 64)) algorithms

-- the number is that of one of the algorithms
abbrev pub is_named : List Algorithm → ℕ → Bool
is_named algorithms number = list_any (λ a. a.number == number) algorithms

-- each algorithm is none of those before it, and has a size that fits
abbrev pub are_algorithms : List Algorithm → List Algorithm → Bool
are_algorithms before [] = true
are_algorithms before (a ∷ more) = (not (is_named before a.number) && size_fits a.number a.size) && are_algorithms (before ++ a ∷ []) more

abbrev pub is_spec : SpecId → Bool
is_spec s =
    (nat_le 1 (length s.algorithms) && nat_le (length s.algorithms) 16)
    && (are_algorithms [] s.algorithms && nat_lt (length s.vendor) 256)

-- the size that the algorithms give a number
abbrev pub size_named : List Algorithm → ℕ → Option ℕ
size_named algorithms number = option_map (λ a. a.size) (find (λ a. a.number == number) algorithms)

-- the algorithm is that of one of the digests
abbrev pub is_tagged : List Tagged → ℕ → Bool
is_tagged digests algorithm = list_any (λ t. t.algorithm == algorithm) digests

-- a digest is of none of the algorithms before, but of one of the given, and has its size
abbrev pub tagged_fits : List Algorithm → List Tagged → Tagged → Bool
tagged_fits algorithms before t =
    not (is_tagged before t.algorithm) && option_map_or (λ size. length t.digest == size) (size_named algorithms t.algorithm) false

-- so is each digest, after those before it
abbrev pub are_digests : List Algorithm → List Tagged → List Tagged → Bool
are_digests algorithms before [] = true
are_digests algorithms before (t ∷ more) =
    tagged_fits algorithms before t
    && are_digests algorithms (before ++ t ∷ []) more

-- what is extended (all but EV_NO_ACTION) is extended into a PCR that there is
abbrev pub has_pcr : ℕ → ℕ → Bool
has_pcr kind pcr = (kind == 3) || nat_le pcr 23

abbrev pub is_record : List Algorithm → FirmwareRecord → Bool
is_record algorithms r =
    (has_pcr r.kind r.pcr && (nat_le 1 (length r.digests) && nat_le (length r.digests) (length algorithms)))
    && (are_digests algorithms [] r.digests && nat_lt (length r.event) (2 ^ 32))

abbrev pub is_log : FirmwareLog → Bool
is_log log = is_spec log.spec && list_all (is_record log.spec.algorithms) log.records

-- ---- numbers that fit their fields, as they do in each log in memory

abbrev pub IsBytes : List ℕ → Type 0
IsBytes bytes = (i : ℕ) → slice_index bytes i < 256

pub record AlgorithmFits (a : Algorithm) : Type 0 where
  pub number : a.number < 2 ^ 16
  pub size : a.size < 2 ^ 16

pub record SpecFits (s : SpecId) : Type 0 where
  pub platform : s.platform < 2 ^ 32
  pub minor : s.minor < 256
  pub major : s.major < 256
  pub errata : s.errata < 256
  pub uintn : s.uintn < 256
  pub algorithms : AllByRecursion AlgorithmFits s.algorithms
  pub vendor : IsBytes s.vendor

pub record TaggedFits (t : Tagged) : Type 0 where
  pub algorithm : t.algorithm < 2 ^ 16
  pub digest : IsBytes t.digest

pub record RecordFits (r : FirmwareRecord) : Type 0 where
  pub pcr : r.pcr < 2 ^ 32
  pub kind : r.kind < 2 ^ 32
  pub digests : AllByRecursion TaggedFits r.digests
  pub event : IsBytes r.event

pub record LogFits (log : FirmwareLog) : Type 0 where
  pub spec : SpecFits log.spec
  pub records : AllByRecursion RecordFits log.records

-- ---- the grammar

-- the bytes are the text of the log
pub record FirmwareText (bytes : List ℕ) (log : FirmwareLog) : Type 0 where
  pub allowed : is_log log ≡ true
  pub fits : LogFits log
  pub text : bytes ≡ log_text log

-- the log has a text of a length and a number of records within the limits
pub record IsWritable (log : FirmwareLog) : Type 0 where
  pub allowed : is_log log ≡ true
  pub fits : LogFits log
  pub records : length log.records ≤ 16384
  pub short : length (log_text log) ≤ 4194304

-- the bytes begin with the text of a log that has as many records as there may be, and go on
pub record HoldsMore (bytes : List ℕ) : Type 0 where
  pub log : FirmwareLog
  pub rest : List ℕ
  pub front : FirmwareText (log_text log) log
  pub full : length log.records ≡ 16384
  pub more : 0 < length rest
  pub parts : bytes ≡ log_text log ++ rest
