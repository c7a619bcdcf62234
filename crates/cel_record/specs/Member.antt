-- What one member of a record's `digests` says (TCG Canonical Event Log, TPMT_HA in JSON).
use Rattle.std.specs.Prelude.{ℕ, List, codes, Option, Some, None, Result, Ok, Err, if◌then◌else◌}
use Rattle.std.specs.Option.{ok_or}
use Rattle.std.specs.Str.{bytes_eq}
use Rattle.serde_json.specs.Data.{Data}
use Rattle.hash_bank.specs.declared.bank.Bank.{Bank}
use Rattle.hash_bank.specs.declared.bank.Bank.TheVariants.{Sha1, Sha256, Sha384, Sha512}
use Rattle.hash_bank.specs.declared.digest.HexError.{HexError}
use Rattle.hash_bank.specs.Hash.{name_in}
use Rattle.hash_bank.specs.Hexadecimal.{digest_of_hex}
use Rattle.cel_record.specs.declared.kind.RecordKind.{RecordKind}
use Rattle.cel_record.specs.declared.kind.RecordKind.TheVariants.{HashAlg}
use Rattle.cel_record.specs.Kind.{kind_of_hex}
use Rattle.cel_record.specs.JsonValue.{text_at}
use Rattle.cel_record.specs.Step.{◌>>=◌}

-- the bank of this name, if it is one that is read
abbrev pub bank_named : List ℕ → Option Bank
bank_named name =
    if bytes_eq name (name_in Sha1) then Some Sha1
    else if bytes_eq name (name_in Sha256) then Some Sha256
    else if bytes_eq name (name_in Sha384) then Some Sha384
    else if bytes_eq name (name_in Sha512) then Some Sha512
    else None

-- the bank's digest that a text of hexadecimal digits spells
abbrev pub digest_text : Bank → Result (List ℕ) HexError → Result (Bank × List ℕ) RecordKind
digest_text b (Ok bytes) = Ok (b, bytes)
digest_text b (Err e) = Err (kind_of_hex e)

-- a digest of the bank, or nothing under a name that is passed over
abbrev pub digest_under : Option Bank → List ℕ → Result (Option (Bank × List ℕ)) RecordKind
digest_under None text = Ok None
digest_under (Some b) text = digest_text b (digest_of_hex b text) >>= λ d. Ok (Some d)

-- The texts `hashAlg` and `digest`; whatever the second says under a name that isn't read.
abbrev pub member_of : Data → Result (Option (Bank × List ℕ)) RecordKind
member_of m = do
  name ← ok_or (text_at (codes "hashAlg") m) HashAlg
  text ← ok_or (text_at (codes "digest") m) HashAlg
  digest_under (bank_named name) text
