-- The proofs of what is foreseen: for each state the first one.
use Rattle.std.specs.Prelude.{◌≡◌, ℕ, Bool, List, map, find, Some}
use Rattle.hash_bank.specs.declared.bank.Bank.{Bank}
use Rattle.component_tree.specs.PlainTree.{PlainComponent}
use Rattle.policy_digest.specs.Mask.{pcrs_of}
use Rattle.policy_digest.specs.Table.{values_eq}
use Rattle.predictor.specs.declared.reached.Reached.{Reached}
use Rattle.predictor.specs.declared.window.Window.{Window}
use Rattle.predictor.specs.Reaching.{all_reached, first_reached}
use Rattle.predict_proof.specs.declared.proof.Proof.{Proof}

-- a state of the mask's PCRs, with what leads to it
abbrev pub proof_of : ℕ → Reached → Proof
proof_of mask s = record { pcrs = mask; cut = s.cut; choice = s.choice; values = s.values }

-- one for each cut of the window, in order, and each choice of the components before it, in order
abbrev pub all_proofs : Bank → ℕ → ℕ → Window → List PlainComponent → List Proof
all_proofs bank locality mask window tree = map (proof_of mask) (all_reached bank locality (pcrs_of mask) window tree)

abbrev pub same_values : Proof → Proof → Bool
same_values a b = values_eq a.values b.values

-- the first of all with its values
abbrev pub IsFirstOf : List Proof → Proof → Type 0
IsFirstOf proofs q = find (same_values q) proofs ≡ Some q

-- those with values that came before are dropped
abbrev pub first_proofs : Bank → ℕ → ℕ → Window → List PlainComponent → List Proof
first_proofs bank locality mask window tree = map (proof_of mask) (first_reached bank locality (pcrs_of mask) window tree)

abbrev pub values_in : List Proof → List (List (List ℕ))
values_in proofs = map (λ q. q.values) proofs
