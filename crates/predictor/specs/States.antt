-- The values that PCRs may have after some components.
use Rattle.std.specs.Prelude.{ℕ, List, map}
use Rattle.hash_bank.specs.declared.bank.Bank.{Bank}
use Rattle.component_tree.specs.PlainTree.{PlainComponent}
use Rattle.record_match.specs.Choices.{choices}
use Rattle.record_match.specs.Extends.{variants_of, reached_by}

-- the PCR's value after each choice of variants, in the order of the choices
abbrev pub values_after : Bank → ℕ → ℕ → List PlainComponent → List (List ℕ)
values_after bank locality pcr components = map (λ c. reached_by bank pcr locality components c) (choices (variants_of components))

-- the values of these PCRs after each choice of variants, in the order of the choices
abbrev pub states_after : Bank → ℕ → List ℕ → List PlainComponent → List (List (List ℕ))
states_after bank locality pcrs components = map (λ c. map (λ p. reached_by bank p locality components c) pcrs) (choices (variants_of components))
