-- Which refusal of a record a refused digest text is.
use Rattle.hash_bank.specs.declared.digest.HexError.{HexError}
use Rattle.hash_bank.specs.declared.digest.HexError.TheVariants.{BadLength, BadHex}
use Rattle.cel_record.specs.declared.kind.RecordKind.{RecordKind}
use Rattle.cel_record.specs.declared.kind.RecordKind.TheVariants.{Hex, Length}

abbrev pub kind_of_hex : HexError → RecordKind
kind_of_hex BadLength = Length
kind_of_hex (BadHex n) = Hex
