-- The lines of `log`: what was measured, and each PCR as it is replayed and as it is now.
use Rattle.std.specs.Prelude.{ℕ, ◌+◌, ◌==◌, if◌then◌else◌, List, [], ◌∷◌, ◌++◌, flat_map, slice_get, slice_index_or, codes, Option, Some, None, option_map, unwrap_or}
use Rattle.std.specs.List.{range_with_len}
use Rattle.std.specs.Option.{option_map_or}
use Rattle.std.specs.Str.{bytes_eq}
use Rattle.std.specs.Fmt.{decimal}
use Rattle.hex.specs.Hex.{encode_lower}
use Rattle.hash_bank.specs.declared.bank.Bank.{Bank}
use Rattle.cel_record.specs.Listed.{listed_in}
use Rattle.component_tree.specs.PlainTree.{PlainComponent}
use Rattle.pcr_replay.specs.Row.{Row}
use Rattle.pcr_replay.specs.Measured.{replayed_in}
use Rattle.pcr_replay.specs.declared.record.Origin.{Origin}
use Rattle.pcr_replay.specs.declared.record.Origin.TheVariants.{Firmware, User}
use Rattle.record_match.specs.ListedBy.{listed_by_of}
use Rattle.pl_text.specs.Texts.{handle_text}
use Rattle.pcrlock_answer.specs.Texts.{line_end}

-- a text, or a dash where there is none
abbrev pub or_dash : Option (List ℕ) → List ℕ
or_dash text = unwrap_or text (codes "-")

-- a digest in digits, or a dash
abbrev pub digest_text : Option (List ℕ) → List ℕ
digest_text digest = or_dash (option_map encode_lower digest)

-- the name of an event type (TCG PC Client Platform Firmware Profile), for those that are printed by name
abbrev pub event_name : ℕ → Option (List ℕ)
event_name kind =
    if kind == 3 then Some (codes "EV_NO_ACTION")
    else if kind == 4 then Some (codes "EV_SEPARATOR")
    else if kind == 5 then Some (codes "EV_ACTION")
    else if kind == 0xD then Some (codes "EV_IPL")
    else if kind == 0x80000003 then Some (codes "EV_EFI_BOOT_SERVICES_APPLICATION")
    else if kind == 0x80000007 then Some (codes "EV_EFI_ACTION")
    else if kind == 0x800000E0 then Some (codes "EV_EFI_VARIABLE_AUTHORITY")
    else None

-- an event type by its name, or else by its number in eight digits
abbrev pub event_text : ℕ → List ℕ
event_text kind = unwrap_or (event_name kind) (codes "0x" ++ handle_text kind)

-- who measured a record
abbrev pub origin_text : Origin → List ℕ
origin_text (Firmware kind) = event_text kind
origin_text User = codes "user"

-- the id of the component of this number
abbrev pub id_at : List PlainComponent → ℕ → List ℕ
id_at components number = option_map_or (λ c. c.id) (slice_get components number) []

-- the component that lists a record, or a dash
abbrev pub lister_text : List PlainComponent → Row → List ℕ
lister_text components entry = or_dash (option_map (id_at components) (listed_by_of entry components))

-- a record of this number: its PCR, who measured it, its digest in the bank, and the component that lists it
abbrev pub record_text : List PlainComponent → Bank → ℕ → Row → List ℕ
record_text components bank number entry =
    decimal number ++ codes " " ++ decimal entry.pcr ++ codes " " ++ origin_text entry.origin ++ codes " "
    ++ digest_text (listed_in bank entry.digests) ++ codes " " ++ lister_text components entry ++ line_end

-- the records, which are numbered from the first number on
abbrev pub records_from : List PlainComponent → Bank → ℕ → List Row → List ℕ
records_from components bank number [] = []
records_from components bank number (entry ∷ rows) =
    record_text components bank number entry ++ records_from components bank (number + 1) rows

-- how a PCR's replay and its value compare; there is no replay where a record has no digest in the bank
abbrev pub compared_text : Option (List ℕ) → List ℕ → List ℕ
compared_text None now = codes "nodigest"
compared_text (Some replay) now = if bytes_eq replay now then codes "ok" else codes "differs"

-- a PCR: its replay, its value now, and how they compare
abbrev pub pcr_text : ℕ → Option (List ℕ) → List ℕ → List ℕ
pcr_text pcr replay now =
    codes "pcr " ++ decimal pcr ++ codes " " ++ digest_text replay ++ codes " " ++ encode_lower now ++ codes " "
    ++ compared_text replay now ++ line_end

-- the 24 PCRs
abbrev pub pcrs_text : Bank → ℕ → List Row → List (List ℕ) → List ℕ
pcrs_text bank locality rows now =
    flat_map (λ pcr. pcr_text pcr (replayed_in bank pcr locality rows) (slice_index_or now pcr [])) (range_with_len 0 24)

-- how many records of the userspace log were skipped
abbrev pub skipped_text : ℕ → List ℕ
skipped_text skipped = codes "skipped " ++ decimal skipped ++ line_end

-- the records in order, the PCRs, and the count of skipped records
unfoldable pub log_text : List Row → List PlainComponent → Bank → ℕ → List (List ℕ) → ℕ → List ℕ
log_text rows components bank locality now skipped =
    records_from components bank 0 rows ++ pcrs_text bank locality rows now ++ skipped_text skipped
