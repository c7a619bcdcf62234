-- A proved state is foreseen.
use Rattle.std.proofs.Common.{◌≡◌, ℕ, List, [], ◌∷◌, take, map, Option, Some, None, Ok, sym, ap, ◌∙◌, subst}
use Rattle.std.specs.List.{All, Contains, flat_map}
use Rattle.std.specs.Str.{bytes_eq}
use Rattle.std.specs.Result.{result_unwrap_or}
use Rattle.std.proofs.lemmas.List.Elements.{All-weaker}
use Rattle.hash_bank.specs.declared.bank.Bank.{Bank}
use Rattle.component_tree.specs.PlainTree.{PlainComponent}
use Rattle.policy_digest.specs.Levels.{first_of}
use Rattle.policy_digest.specs.Mask.{pcrs_of}
use Rattle.policy_digest.specs.Table.{values_eq}
use Rattle.record_match.specs.Choices.{choices}
use Rattle.record_match.specs.Extends.{variants_of, reached_by}
use Rattle.record_match.specs.declared.lacking.RecordPlace.{RecordPlace}
use Rattle.predictor.specs.declared.window.Window.{Window}
use Rattle.predictor.specs.Cuts.{inside_of, cuts_between}
use Rattle.predictor.specs.States.{values_after, states_after}
use Rattle.predictor.specs.Foreseen.{first_cut, last_cut, foreseen_joint, foreseen_unless, too_many_at, lacking_in_any}
use Rattle.predictor.proofs.Repeats.{bytes_tell, values_tell}
use Rattle.predict_proof.specs.declared.proof.Proof.{Proof}
use Rattle.predict_proof.specs.Proved.{Proved, held_by}
use Rattle.predict_proof.specs.Joint.{joint_states, lone_values, IsForeseen}
use Rattle.predict_proof.proofs.Members.{mapped_in, joined_in, distinct_in}

module _ (bank : Bank) (locality : ℕ) (window : Window) (tree : List PlainComponent) (q : Proof) where
  abbrev inside : List PlainComponent
  inside = inside_of window.end tree

  -- the state that the choice leads to is one of those over the cuts
  state_in : (pcrs : List ℕ) → Proved bank locality window tree q → Contains (joint_states bank locality pcrs window tree) (map (held_by bank locality inside q) pcrs)
  state_in pcrs p =
      let reach : ℕ → List (List (List ℕ)) = λ k. states_after bank locality pcrs (take k inside) in
      let cuts = cuts_between (first_cut window tree) (last_cut window tree) in
      distinct_in values_eq values_tell (flat_map reach cuts) (map (held_by bank locality inside q) pcrs)
      (joined_in reach cuts q.cut (map (held_by bank locality inside q) pcrs) p.cut
      (mapped_in (λ c. map (λ p. reached_by bank p locality (take q.cut inside) c) pcrs) (choices (variants_of (take q.cut inside))) q.choice p.choice))

  value_in : (pcr : ℕ) → Proved bank locality window tree q → Contains (lone_values bank locality pcr window tree) (held_by bank locality inside q pcr)
  value_in pcr p =
      let reach : ℕ → List (List ℕ) = λ k. values_after bank locality pcr (take k inside) in
      let cuts = cuts_between (first_cut window tree) (last_cut window tree) in
      distinct_in bytes_eq bytes_tell (flat_map reach cuts) (held_by bank locality inside q pcr)
      (joined_in reach cuts q.cut (held_by bank locality inside q pcr) p.cut
      (mapped_in (λ c. reached_by bank pcr locality (take q.cut inside) c) (choices (variants_of (take q.cut inside))) q.choice p.choice))

  joint_in : Proved bank locality window tree q → Contains (joint_states bank locality (pcrs_of q.pcrs) window tree) q.values
  joint_in p = subst (Contains (joint_states bank locality (pcrs_of q.pcrs) window tree)) (sym p.values) (state_in (pcrs_of q.pcrs) p)

  given_list : {A : Type 0} (lacking : Option RecordPlace) (many : Option ℕ) (list states : List A) → foreseen_unless lacking many list ≡ Ok states → list ≡ states
  given_list (Some at) many list states h = absurd cc
  given_list None (Some k) list states h = absurd cc
  given_list None None list states h = ap (λ r. result_unwrap_or r list) h

  given_in : Proved bank locality window tree q → (states : List (List (List ℕ))) → foreseen_joint bank locality (pcrs_of q.pcrs) window tree ≡ Ok states → Contains states q.values
  unfolding foreseen_joint
  given_in p states h =
      let reach : ℕ → List (List (List ℕ)) = λ k. states_after bank locality (pcrs_of q.pcrs) (take k inside) in
      subst (λ list. Contains list q.values) (given_list (lacking_in_any bank (pcrs_of q.pcrs) inside) (too_many_at values_eq reach (first_cut window tree) (last_cut window tree)) (joint_states bank locality (pcrs_of q.pcrs) window tree) states h) (joint_in p)

  lone_in : Proved bank locality window tree q → (pcr : ℕ) → pcrs_of q.pcrs ≡ pcr ∷ [] → Contains (lone_values bank locality pcr window tree) (first_of q.values)
  lone_in p pcr one =
      let is : q.values ≡ held_by bank locality inside q pcr ∷ [] = p.values ∙ ap (map (held_by bank locality inside q)) one in
      subst (Contains (lone_values bank locality pcr window tree)) (ap first_of (sym is)) (value_in pcr p)

  pub proved_foreseen : Proved bank locality window tree q → IsForeseen bank locality window tree q
  proved_foreseen p = record {
    joint = λ _. joint_in p;
    given = given_in p;
    alone = λ pcr one _. lone_in p pcr one;
  }

pub all_foreseen : (bank : Bank) (locality : ℕ) (window : Window) (tree : List PlainComponent) (list : List Proof) → All (Proved bank locality window tree) list → All (IsForeseen bank locality window tree) list
all_foreseen bank locality window tree list all = All-weaker (Proved bank locality window tree) (IsForeseen bank locality window tree) (proved_foreseen bank locality window tree) list all
