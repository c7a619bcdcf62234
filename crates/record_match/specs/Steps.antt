-- What each variant of each component extends a PCR by in a bank.
use Rattle.std.specs.Prelude.{ℕ, List, map}
use Rattle.hash_bank.specs.declared.bank.Bank.{Bank}
use Rattle.component_tree.specs.PlainTree.{PlainVariant, PlainComponent}
use Rattle.record_match.specs.Extends.{digests_in}

abbrev pub alternatives_of : Bank → ℕ → List PlainVariant → List (List (List ℕ))
alternatives_of bank pcr variants = map (λ v. digests_in bank pcr v.records) variants

abbrev pub steps_of : Bank → ℕ → List PlainComponent → List (List (List (List ℕ)))
steps_of bank pcr components = map (λ c. alternatives_of bank pcr c.variants) components
