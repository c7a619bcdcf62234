-- Which JSON value is which record (TCG Canonical Event Log, in JSON).
use Rattle.std.specs.Prelude.{ℕ, List, codes, nat_le, Option, Some, None, is_some, option_and_then, Result, Ok, Err, if◌then◌else◌}
use Rattle.std.specs.Option.{ok_or}
use Rattle.serde_json.specs.Data.{Data, Items, no_items, item}
use Rattle.serde_json.specs.Find.{as_object}
use Rattle.hash_bank.specs.declared.bank.Bank.{Bank}
use Rattle.cel_record.specs.declared.kind.RecordKind.{RecordKind}
use Rattle.cel_record.specs.declared.kind.RecordKind.TheVariants as kinds
use Rattle.cel_record.specs.JsonValue.{unsigned_at, array_at}
use Rattle.cel_record.specs.Listed.{Listed, listed_in, with_digest, none_listed}
use Rattle.cel_record.specs.Spelled.{Spelled}
use Rattle.cel_record.specs.Member.{member_of}
use Rattle.cel_record.specs.Step.{◌>>=◌}

-- a PCR's number, of the 24 that a PC has
abbrev pub pcr_number : ℕ → Option ℕ
pcr_number n = if nat_le n 23 then Some n else None

-- the digests with one more, of a bank that has none yet
abbrev pub with_member : Listed → Option (Bank × List ℕ) → Result Listed RecordKind
with_member l None = Ok l
with_member l (Some d) = if is_some (listed_in d.0 l) then Err kinds.DigestTwice else Ok (with_digest d.0 d.1 l)

-- the digests with what a member says
abbrev pub digests_with : Listed → Data → Result Listed RecordKind
digests_with l m = member_of m >>= with_member l

-- the digests that the members list, after those of l
abbrev pub digests_after : Listed → Items → Result Listed RecordKind
digests_after l no_items = Ok l
digests_after l (item m ms) = digests_with l m >>= λ more. digests_after more ms

-- the record that a value is, or the first test that it fails
abbrev pub record_of : Data → Result Spelled RecordKind
record_of d = do
  members ← ok_or (as_object d) kinds.NotObject
  pcr ← ok_or (option_and_then pcr_number (unsigned_at (codes "pcr") d)) kinds.Pcr
  items ← ok_or (array_at (codes "digests") d) kinds.Digests
  digests ← digests_after none_listed items
  Ok (record { pcr = pcr; digests = digests })
