-- The text that records are written as: members in the order of their keys, with no space (RFC 8259).
use Rattle.std.specs.Prelude.{ℕ, ◌+◌, List, [], ◌∷◌, ◌++◌, codes, decimal, flat_map, Option, Some, None}
use Rattle.std.specs.List.{join_with_byte}
use Rattle.hex.specs.Hex.{encode_lower}
use Rattle.hash_bank.specs.declared.bank.Bank.{Bank}
use Rattle.hash_bank.specs.declared.bank.Bank.TheVariants.{Sha1, Sha256, Sha384, Sha512}
use Rattle.hash_bank.specs.Hash.{name_in}
use Rattle.cel_record.specs.Listed.{Listed, listed_in}
use Rattle.cel_record.specs.Spelled.{Spelled}

-- texts with a comma between each two
abbrev pub with_commas : List (List ℕ) → List ℕ
with_commas = join_with_byte 44

-- a digest of a bank
unfoldable pub digest_text : Bank → List ℕ → List ℕ
digest_text b x = codes "{\"digest\":\"" ++ encode_lower x ++ codes "\",\"hashAlg\":\"" ++ name_in b ++ codes "\"}"

abbrev pub text_of_digest : Bank → Option (List ℕ) → List (List ℕ)
text_of_digest b None = []
text_of_digest b (Some x) = digest_text b x ∷ []

-- the digest of a bank, if there is one
abbrev pub digest_texts_in : Listed → Bank → List (List ℕ)
digest_texts_in l b = text_of_digest b (listed_in b l)

-- the digests in the order of their banks
abbrev pub digest_texts : Listed → List (List ℕ)
digest_texts l = flat_map (digest_texts_in l) (Sha1 ∷ Sha256 ∷ Sha384 ∷ Sha512 ∷ [])

-- what stands before the digests
unfoldable pub record_opening : List ℕ
record_opening = codes "{\"digests\":["

-- what stands after them, up to the PCR
unfoldable pub pcr_text : ℕ → List ℕ
pcr_text pcr = codes "],\"pcr\":" ++ decimal pcr

-- a record up to its PCR, without the closing brace
abbrev pub record_front : Spelled → List ℕ
record_front r = record_opening ++ with_commas (digest_texts r.digests) ++ pcr_text r.pcr

-- a record that stands alone
abbrev pub record_text : Spelled → List ℕ
record_text r = record_front r ++ 125 ∷ []

-- a record's number in its file, and the closing brace
unfoldable pub number_text : ℕ → List ℕ
number_text n = codes ",\"recnum\":" ++ decimal n ++ codes "}"

-- a record with its number in the file
abbrev pub numbered_text : ℕ → Spelled → List ℕ
numbered_text n r = record_front r ++ number_text n

-- the records with their numbers, of which the first is n
abbrev pub numbered_texts : ℕ → List Spelled → List (List ℕ)
numbered_texts n [] = []
numbered_texts n (r ∷ rs) = numbered_text n r ∷ numbered_texts (n + 1) rs

-- a component file of the records
unfoldable pub component_text : List Spelled → List ℕ
component_text rs = 91 ∷ (with_commas (numbered_texts 0 rs) ++ 93 ∷ [])
