-- Which components may list a record, as numbers that are noted for the digests of a tree's records. The
-- components below the least number that is noted for a record list nothing of it.
use Rattle.std.specs.Prelude.{◌≡◌, ℕ, ◌<◌, ◌≤◌, min, List, [], ◌∷◌, length, slice_index, slice_index_or, Option, Some, None, option_and_then}
use Rattle.std.specs.Option.{IsSomeAnd}
use Rattle.std.specs.List.{All}
use Rattle.std.specs.Int.{from_be_bytes, w64}
use Rattle.std.specs.Ordering.{nat_cmp}
use Rattle.std.specs.BTreeMap.{BTreeMap, get}
use Rattle.hash_bank.specs.declared.bank.Bank.{Bank}
use Rattle.cel_record.specs.Listed.{Listed, listed_in}
use Rattle.cel_record.specs.Spelled.{Spelled}
use Rattle.component_tree.specs.PlainTree.{PlainComponent, PlainVariant}
use Rattle.record_match.specs.declared.noting.Listing.{Listing}

-- the key of a digest of a PCR: the PCR, and the digest's first seven bytes
abbrev pub key_of : ℕ → List ℕ → ℕ
key_of pcr digest = from_be_bytes w64
    (pcr ∷ slice_index digest 0 ∷ slice_index digest 1 ∷ slice_index digest 2 ∷ slice_index digest 3 ∷ slice_index digest 4 ∷ slice_index digest 5
    ∷ slice_index digest 6 ∷ [])

-- the number that is noted under a key
abbrev pub noted : BTreeMap ℕ ℕ → ℕ → Option ℕ
noted numbers key = get nat_cmp numbers key

-- the number that is noted for a digest of a PCR, where it is there
abbrev pub noted_for : BTreeMap ℕ ℕ → ℕ → Option (List ℕ) → Option ℕ
noted_for numbers pcr digest = option_and_then (λ d. noted numbers (key_of pcr d)) digest

-- a number, or what is noted where that is less
abbrev pub lowest : Option ℕ → ℕ → ℕ
lowest None number = number
lowest (Some n) number = min n number

-- the lesser of two numbers, where they are there
abbrev pub lesser : Option ℕ → Option ℕ → Option ℕ
lesser None b = b
lesser (Some a) None = Some a
lesser (Some a) (Some b) = Some (min a b)

-- the least number that is noted for the digests of a PCR
abbrev pub least_noted : BTreeMap ℕ ℕ → ℕ → Listed → Option ℕ
least_noted numbers pcr digests =
    lesser (lesser (noted_for numbers pcr digests.sha1) (noted_for numbers pcr digests.sha256))
    (lesser (noted_for numbers pcr digests.sha384) (noted_for numbers pcr digests.sha512))

-- there is a number, and it is not above this one
abbrev pub IsUpTo : ℕ → Option ℕ → Type 0
IsUpTo number found = IsSomeAnd found (λ n. n ≤ number)

-- for each digest that a record has a number up to this one is noted
abbrev pub NotesRecord : BTreeMap ℕ ℕ → ℕ → Spelled → Type 0
NotesRecord numbers number r = (b : Bank) (d : List ℕ) → listed_in b r.digests ≡ Some d → IsUpTo number (noted numbers (key_of r.pcr d))

abbrev pub NotesVariant : BTreeMap ℕ ℕ → ℕ → PlainVariant → Type 0
NotesVariant numbers number v = All (NotesRecord numbers number) v.records

abbrev pub NotesComponent : BTreeMap ℕ ℕ → ℕ → PlainComponent → Type 0
NotesComponent numbers number c = All (NotesVariant numbers number) c.variants

-- so for each of the components, with its own number
abbrev pub NotesAll : BTreeMap ℕ ℕ → List PlainComponent → Type 0
NotesAll numbers components = (i : ℕ) (d : PlainComponent) → i < length components → NotesComponent numbers i (slice_index_or components i d)

-- what is noted stays, or a lesser number takes its place
abbrev pub Lowers : BTreeMap ℕ ℕ → BTreeMap ℕ ℕ → Type 0
Lowers old new = (key n : ℕ) → noted old key ≡ Some n → IsUpTo n (noted new key)

-- the listing is one of these components
unfoldable pub IsListingOf : Listing → List PlainComponent → Type 0
IsListingOf listing components = NotesAll listing.numbers components
