-- What a choice of variants extends a PCR by in a bank, and the value that it leads to.
use Rattle.std.specs.Prelude.{ℕ, ◌==◌, List, map, filter}
use Rattle.std.specs.List.{flat_map, filter_map}
use Rattle.hash_bank.specs.Extending.{start_of}
use Rattle.hash_bank.specs.declared.bank.Bank.{Bank}
use Rattle.cel_record.specs.Listed.{listed_in}
use Rattle.cel_record.specs.Spelled.{Spelled}
use Rattle.component_tree.specs.PlainTree.{PlainVariant, PlainComponent}
use Rattle.pcr_replay.specs.Measured.{extended_by}
use Rattle.record_match.specs.Choices.{chosen}

-- the bank's digests of the PCR's records, in order; a record that lacks the bank gives none
abbrev pub digests_in : Bank → ℕ → List Spelled → List (List ℕ)
digests_in bank pcr records = filter_map (λ r. listed_in bank r.digests) (filter (λ r. r.pcr == pcr) records)

-- the variants of each component
abbrev pub variants_of : List PlainComponent → List (List PlainVariant)
variants_of components = map (λ c. c.variants) components

-- the digests of the chosen variants, one variant after the other
abbrev pub extends_of : Bank → ℕ → List PlainComponent → List ℕ → List (List ℕ)
extends_of bank pcr components choice = flat_map (λ v. digests_in bank pcr v.records) (chosen (variants_of components) choice)

-- the PCR's value after these extends since a restart at the locality
abbrev pub reached_by : Bank → ℕ → ℕ → List PlainComponent → List ℕ → List ℕ
reached_by bank pcr locality components choice = extended_by bank (start_of bank pcr locality) (extends_of bank pcr components choice)
