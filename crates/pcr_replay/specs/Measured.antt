-- What was measured into a PCR in a bank, and the value that the PCR has after it.
use Rattle.std.specs.Prelude.{ℕ, ◌==◌, List, [], ◌∷◌, map, filter, fold, Option, Some, None}
use Rattle.std.specs.Option.{option_map}
use Rattle.hash_bank.specs.Extending.{extended, start_of}
use Rattle.hash_bank.specs.declared.bank.Bank.{Bank}
use Rattle.cel_record.specs.Listed.{listed_in}
use Rattle.pcr_replay.specs.Row.{Row}

-- what stands in a list, if each place of it has something
abbrev pub all_present : {A : Type 0} → List (Option A) → Option (List A)
all_present [] = Some []
all_present (None ∷ more) = None
all_present (Some x ∷ more) = option_map (λ xs. x ∷ xs) (all_present more)

-- the bank's digests of the PCR's records, in order, if each of these has one
abbrev pub measured_in : Bank → ℕ → List Row → Option (List (List ℕ))
measured_in bank pcr rows = all_present (map (λ r. listed_in bank r.digests) (filter (λ r. r.pcr == pcr) rows))

-- the value after extends by these digests, one after the other (TPM 2.0 Library Part 1, "PCR
-- Operations")
abbrev pub extended_by : Bank → List ℕ → List (List ℕ) → List ℕ
extended_by bank value digests = fold (λ v d. extended bank v d) value digests

-- the PCR's value after all that was measured since a restart at the locality
abbrev pub replayed_in : Bank → ℕ → ℕ → List Row → Option (List ℕ)
replayed_in bank pcr locality rows = option_map (extended_by bank (start_of bank pcr locality)) (measured_in bank pcr rows)

-- a value after an extend by a digest, where both are there
abbrev pub value_after : Bank → Option (List ℕ) → Option (List ℕ) → Option (List ℕ)
value_after bank None d = None
value_after bank (Some v) None = None
value_after bank (Some v) (Some d) = Some (extended bank v d)

-- a value after all that was measured into the PCR, where each is there
abbrev pub replay_on : Bank → ℕ → Option (List ℕ) → List Row → Option (List ℕ)
replay_on bank pcr None rows = None
replay_on bank pcr (Some v) rows = option_map (extended_by bank v) (measured_in bank pcr rows)
