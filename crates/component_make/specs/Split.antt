-- What the two lists of a lock and the separators between them say of one PCR.
use Rattle.std.specs.Prelude.{◌≡◌, ℕ, ◌==◌, if◌then◌else◌, List, ◌++◌, length, map, filter, find, Option, Some}
use Rattle.std.specs.Option.{option_to_list}
use Rattle.hash_bank.specs.declared.bank.Bank.{Bank}
use Rattle.cel_record.specs.Listed.{listed_in}
use Rattle.cel_record.specs.Spelled.{Spelled}
use Rattle.pcr_replay.specs.Measured.{all_present}
use Rattle.pcr_replay.specs.Row.{Row}
use Rattle.component_make.specs.EarlyLate.{separates, unplaced}
use Rattle.component_make.specs.Lock.{is_extended}

-- the bank's digests of some records, in order, if each of these has one
abbrev pub digests_of_each : Bank → List Spelled → Option (List (List ℕ))
digests_of_each bank records = all_present (map (λ r. listed_in bank r.digests) records)

-- the records of the PCR
abbrev pub of_pcr : ℕ → List Spelled → List Spelled
of_pcr pcr records = filter (λ r. r.pcr == pcr) records

-- the first separator of the PCR, if there is one
abbrev pub first_separator : ℕ → List Row → List Spelled
first_separator pcr rows = map unplaced (option_to_list (find (separates pcr) rows))

-- what was measured into the PCR is what early has of it, then the digest of its first separator, where
-- something was extended into the PCR at all, and then what late has of it
pub record IsSplit (bank : Bank) (pcr : ℕ) (rows : List Row) (early late : List Spelled) (digests : List (List ℕ)) : Type 0 where
  pub before : List (List ℕ)
  pub between : List (List ℕ)
  pub behind : List (List ℕ)
  pub in_early : digests_of_each bank (of_pcr pcr early) ≡ Some before
  pub in_separator : digests_of_each bank (first_separator pcr rows) ≡ Some between
  pub in_late : digests_of_each bank (of_pcr pcr late) ≡ Some behind
  pub one : length between ≡ (if is_extended pcr rows then 1 else 0)
  pub joined : digests ≡ before ++ (between ++ behind)
