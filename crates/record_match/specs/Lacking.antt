-- The first record of a PCR that lacks a bank.
use Rattle.std.specs.Prelude.{ℕ, ◌+◌, Bool, ◌&&◌, ◌==◌, List, [], ◌∷◌, Option, Some, None, is_none}
use Rattle.std.specs.List.{position_from}
use Rattle.std.specs.Option.{option_map}
use Rattle.hash_bank.specs.declared.bank.Bank.{Bank}
use Rattle.cel_record.specs.Listed.{listed_in}
use Rattle.cel_record.specs.Spelled.{Spelled}
use Rattle.component_tree.specs.PlainTree.{PlainVariant, PlainComponent}
use Rattle.record_match.specs.declared.lacking.RecordPlace.{RecordPlace}

abbrev pub at_or : {B : Type 0} → ℕ → Option B → Option (ℕ × B) → Option (ℕ × B)
at_or n (Some y) later = Some (n, y)
at_or n None later = later

-- the first member that gives something, by its number from n on, and what it gives
abbrev pub first_giving : {A B : Type 0} → (A → Option B) → ℕ → List A → Option (ℕ × B)
first_giving f n [] = None
first_giving f n (x ∷ xs) = at_or n (f x) (first_giving f (n + 1) xs)

-- a record of the PCR that lacks the bank
abbrev pub lacks : Bank → ℕ → Spelled → Bool
lacks bank pcr r = (r.pcr == pcr) && is_none (listed_in bank r.digests)

abbrev pub lacking_in : Bank → ℕ → PlainVariant → Option ℕ
lacking_in bank pcr v = position_from (lacks bank pcr) 0 v.records

abbrev pub lacking_among : Bank → ℕ → PlainComponent → Option (ℕ × ℕ)
lacking_among bank pcr c = first_giving (lacking_in bank pcr) 0 c.variants

abbrev pub place_at : ℕ × (ℕ × ℕ) → RecordPlace
place_at at = record { component = at.0; variant = at.1.0; place = at.1.1 }

-- the first such record in the order of components, variants and records
abbrev pub lacking_of : Bank → ℕ → List PlainComponent → Option RecordPlace
lacking_of bank pcr components = option_map place_at (first_giving (lacking_among bank pcr) 0 components)
