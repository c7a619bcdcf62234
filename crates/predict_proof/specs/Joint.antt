-- What a proved state has to do with what is foreseen.
use Rattle.std.specs.Prelude.{◌≡◌, ℕ, List, [], ◌∷◌, take, None, Ok}
use Rattle.std.specs.List.{Contains}
use Rattle.std.specs.Str.{bytes_eq}
use Rattle.hash_bank.specs.declared.bank.Bank.{Bank}
use Rattle.component_tree.specs.PlainTree.{PlainComponent}
use Rattle.policy_digest.specs.Levels.{first_of}
use Rattle.policy_digest.specs.Mask.{pcrs_of}
use Rattle.policy_digest.specs.Table.{values_eq}
use Rattle.record_match.specs.Lacking.{lacking_of}
use Rattle.predictor.specs.declared.window.Window.{Window}
use Rattle.predictor.specs.Cuts.{inside_of, cuts_between}
use Rattle.predictor.specs.States.{values_after, states_after}
use Rattle.predictor.specs.Foreseen.{over_cuts, first_cut, last_cut, lacking_in_any, foreseen_joint}
use Rattle.predict_proof.specs.declared.proof.Proof.{Proof}

-- the states of these PCRs over all cuts of the window and all choices of the components before a cut, where later repeats
-- are dropped
abbrev pub joint_states : Bank → ℕ → List ℕ → Window → List PlainComponent → List (List (List ℕ))
joint_states bank locality pcrs window tree =
    over_cuts values_eq (λ k. states_after bank locality pcrs (take k (inside_of window.end tree))) (cuts_between (first_cut window tree) (last_cut window tree))

-- the values of one PCR likewise
abbrev pub lone_values : Bank → ℕ → ℕ → Window → List PlainComponent → List (List ℕ)
lone_values bank locality pcr window tree =
    over_cuts bytes_eq (λ k. values_after bank locality pcr (take k (inside_of window.end tree))) (cuts_between (first_cut window tree) (last_cut window tree))

-- the proof's values are foreseen of its PCRs, where all of their records have the bank
pub record IsForeseen (bank : Bank) (locality : ℕ) (window : Window) (tree : List PlainComponent) (q : Proof) : Type 0 where
  pub joint : lacking_in_any bank (pcrs_of q.pcrs) (inside_of window.end tree) ≡ None → Contains (joint_states bank locality (pcrs_of q.pcrs) window tree) q.values
  pub given : (states : List (List (List ℕ))) → foreseen_joint bank locality (pcrs_of q.pcrs) window tree ≡ Ok states → Contains states q.values
  pub alone : (pcr : ℕ) → pcrs_of q.pcrs ≡ pcr ∷ [] → lacking_of bank pcr (inside_of window.end tree) ≡ None → Contains (lone_values bank locality pcr window tree) (first_of q.values)
