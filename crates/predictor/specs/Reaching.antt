-- What choices of variants lead to: states, each with the cut and the choice that lead to it. Of those with one state the first is kept.
use Rattle.std.specs.Prelude.{ℕ, Bool, List, map, take}
use Rattle.std.specs.List.{flat_map}
use Rattle.hash_bank.specs.declared.bank.Bank.{Bank}
use Rattle.component_tree.specs.PlainTree.{PlainComponent}
use Rattle.policy_digest.specs.Table.{values_eq}
use Rattle.record_match.specs.Choices.{choices}
use Rattle.record_match.specs.Extends.{variants_of, reached_by}
use Rattle.predictor.specs.declared.reached.Reached.{Reached}
use Rattle.predictor.specs.declared.window.Window.{Window}
use Rattle.predictor.specs.Cuts.{inside_of, cuts_between}
use Rattle.predictor.specs.Foreseen.{over_cuts, first_cut, last_cut}

-- the state that a choice of these components' variants leads to, which are all that stand before the cut
abbrev pub reached_with : Bank → ℕ → List ℕ → ℕ → List PlainComponent → List ℕ → Reached
reached_with bank locality pcrs cut components choice =
    record { cut = cut; choice = choice; values = map (λ p. reached_by bank p locality components choice) pcrs }

-- one for each choice, in lexicographic order
abbrev pub reached_at : Bank → ℕ → List ℕ → ℕ → List PlainComponent → List Reached
reached_at bank locality pcrs cut components = map (reached_with bank locality pcrs cut components) (choices (variants_of components))

-- one for each cut of the window, in order, and each choice of the components before it, in order
abbrev pub all_reached : Bank → ℕ → List ℕ → Window → List PlainComponent → List Reached
all_reached bank locality pcrs window tree =
    flat_map (λ k. reached_at bank locality pcrs k (take k (inside_of window.end tree))) (cuts_between (first_cut window tree) (last_cut window tree))

abbrev pub same_values : Reached → Reached → Bool
same_values a b = values_eq a.values b.values

-- those with values that came before are dropped
abbrev pub first_reached : Bank → ℕ → List ℕ → Window → List PlainComponent → List Reached
first_reached bank locality pcrs window tree =
    over_cuts same_values (λ k. reached_at bank locality pcrs k (take k (inside_of window.end tree))) (cuts_between (first_cut window tree) (last_cut window tree))

abbrev pub values_in : List Reached → List (List (List ℕ))
values_in states = map (λ s. s.values) states
