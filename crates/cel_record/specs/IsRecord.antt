-- What it means that a JSON value is a record, whatever order its members stand in (TCG Canonical
-- Event Log, in JSON).
use Rattle.std.specs.Prelude.{◌≡◌, ◌≤◌, ◌⊎◌, ◌↔◌, ℕ, List, codes, Some, Ok, IsOk, ⊤}
use Rattle.serde_json.specs.Data.{Data, Items, no_items, item}
use Rattle.hash_bank.specs.declared.bank.Bank.{Bank}
use Rattle.cel_record.specs.JsonValue.{unsigned_at, array_at}
use Rattle.cel_record.specs.Listed.{listed_in}
use Rattle.cel_record.specs.Member.{member_of}
use Rattle.cel_record.specs.Spelled.{Spelled}

-- a value stands in the array
abbrev pub Among : Data → Items → Type 0
Among m no_items = ⊥
Among m (item d ds) = (m ≡ d) ⊎ Among m ds

-- some member of the array states that the bank has this digest
abbrev pub States : Items → Bank → List ℕ → Type 0
States ms b x = (m : Data) × Among m ms × (member_of m ≡ Ok (Some (b, x)))

-- each member states a digest, or is passed over
abbrev pub AreGood : Items → Type 0
AreGood ms = (m : Data) → Among m ms → IsOk (member_of m)

-- no later member names the bank of an earlier one
abbrev pub AreDistinct : Items → Type 0
AreDistinct no_items = ⊤
AreDistinct (item m ms) = ((b : Bank) (x y : List ℕ) → member_of m ≡ Ok (Some (b, x)) → States ms b y → ⊥) × AreDistinct ms

-- the array lists the digests of a record, and nothing else of the four banks
pub record AreDigestsOf (ms : Items) (r : Spelled) : Type 0 where
  pub good : AreGood ms
  pub distinct : AreDistinct ms
  pub stated : (b : Bank) (x : List ℕ) → listed_in b r.digests ≡ Some x ↔ States ms b x

-- the value has the record's PCR, and an array of its digests
pub record IsRecord (d : Data) (r : Spelled) : Type 0 where
  pub pcr : unsigned_at (codes "pcr") d ≡ Some r.pcr
  pub in_range : r.pcr ≤ 23
  pub members : Items
  pub digests : array_at (codes "digests") d ≡ Some members
  pub listed : AreDigestsOf members r
