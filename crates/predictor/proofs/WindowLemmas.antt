-- What is foreseen over a window, said of the components inside its end.
use Rattle.std.proofs.Common.{◌≡◌, ℕ, List, [], ◌∷◌, length, take, map, Some, None, Result, Ok, sym, ap, ◌∙◌, subst}
use Rattle.std.specs.Str.{bytes_eq}
use Rattle.hash_bank.specs.declared.bank.Bank.{Bank}
use Rattle.component_tree.specs.declared.tree.Component.{Component}
use Rattle.component_tree.specs.PlainTree.{PlainComponent, plain}
use Rattle.policy_digest.specs.Levels.{first_of}
use Rattle.policy_digest.specs.Table.{values_eq}
use Rattle.record_match.specs.Lacking.{lacking_of}
use Rattle.record_match.specs.declared.lacking.RecordPlace.{RecordPlace}
use Rattle.predictor.specs.declared.error.ForeseeError.{ForeseeError}
use Rattle.predictor.specs.declared.reached.Reached.{Reached}
use Rattle.predictor.specs.declared.window.Window.{Window}
use Rattle.predictor.specs.Cuts.{cuts_between, inside_of}
use Rattle.predictor.specs.States.{values_after, states_after}
use Rattle.predictor.specs.Foreseen.{first_cut, foreseen, foreseen_joint, foreseen_by, lacking_error, lacking_in_any, over_cuts, Answers, Refuses}
use Rattle.predictor.specs.Reaching.{reached_at, first_reached, same_values}
use Rattle.predictor.proofs.OnePcr.{states_alone, ok_alone, err_alone}
use Rattle.predictor.proofs.Insides.{plain_count}

-- the values of one PCR, by the components inside
one_is : (bank : Bank) (locality pcr : ℕ) (window : Window) (tree inside : List PlainComponent) → inside ≡ inside_of window.end tree
    → foreseen bank locality pcr window tree ≡ foreseen_by bytes_eq (λ k. values_after bank locality pcr (take k inside)) (first_cut window tree) (length inside) (lacking_of bank pcr inside)
unfolding foreseen
one_is bank locality pcr window tree inside is =
    sym (ap (λ (cs : List PlainComponent). foreseen_by bytes_eq (λ k. values_after bank locality pcr (take k cs)) (first_cut window tree) (length cs) (lacking_of bank pcr cs)) is)

joint_is : (bank : Bank) (locality : ℕ) (pcrs : List ℕ) (window : Window) (tree inside : List PlainComponent) → inside ≡ inside_of window.end tree
    → foreseen_joint bank locality pcrs window tree ≡ foreseen_by values_eq (λ k. states_after bank locality pcrs (take k inside)) (first_cut window tree) (length inside) (lacking_in_any bank pcrs inside)
unfolding foreseen_joint
joint_is bank locality pcrs window tree inside is =
    sym (ap (λ (cs : List PlainComponent). foreseen_by values_eq (λ k. states_after bank locality pcrs (take k cs)) (first_cut window tree) (length cs) (lacking_in_any bank pcrs cs)) is)

-- ---- one PCR

pub one_lacks : (bank : Bank) (locality pcr : ℕ) (window : Window) (tree : List PlainComponent) (components : List Component) (at : RecordPlace) → plain components ≡ inside_of window.end tree → Some at ≡ lacking_of bank pcr (plain components)
    → Refuses {A = List (List ℕ)} (lacking_error at) (foreseen bank locality pcr window tree)
one_lacks bank locality pcr window tree components at is lacks =
    one_is bank locality pcr window tree (plain components) is
    ∙ ap (foreseen_by bytes_eq (λ k. values_after bank locality pcr (take k (plain components))) (first_cut window tree) (length (plain components))) (sym lacks)

one_has : (bank : Bank) (locality pcr : ℕ) (window : Window) (tree : List PlainComponent) (components : List Component) → plain components ≡ inside_of window.end tree → None ≡ lacking_of bank pcr (plain components)
    → foreseen bank locality pcr window tree ≡ foreseen_by bytes_eq (λ k. values_after bank locality pcr (take k (plain components))) (first_cut window tree) (length components) None
one_has bank locality pcr window tree components is has =
    let reach : ℕ → List (List ℕ) = λ k. values_after bank locality pcr (take k (plain components)) in
    one_is bank locality pcr window tree (plain components) is
    ∙ ap (foreseen_by bytes_eq reach (first_cut window tree) (length (plain components))) (sym has)
    ∙ ap (λ n. foreseen_by bytes_eq reach (first_cut window tree) n None) (plain_count components)

pub one_ok : (bank : Bank) (locality pcr : ℕ) (window : Window) (tree : List PlainComponent) (components : List Component) (first : ℕ) (states : List (List (List ℕ))) (list : List (List ℕ)) → plain components ≡ inside_of window.end tree → None ≡ lacking_of bank pcr (plain components) → first ≡ first_cut window tree
    → Answers (Ok states) (foreseen_by values_eq (λ k. states_after bank locality (pcr ∷ []) (take k (plain components))) first (length components) None) → list ≡ map first_of states → foreseen bank locality pcr window tree ≡ Ok list
one_ok bank locality pcr window tree components first states list is has from_first h values =
    let reach : ℕ → List (List ℕ) = λ k. values_after bank locality pcr (take k (plain components)) in
    one_has bank locality pcr window tree components is has
    ∙ ap (λ n. foreseen_by bytes_eq reach n (length components) None) (sym from_first)
    ∙ ok_alone reach (λ k. states_after bank locality (pcr ∷ []) (take k (plain components))) (λ k. states_alone bank locality pcr (take k (plain components))) first (length components) states h
    ∙ ap Ok (sym values)

pub one_err : (bank : Bank) (locality pcr : ℕ) (window : Window) (tree : List PlainComponent) (components : List Component) (first : ℕ) (e : ForeseeError) → plain components ≡ inside_of window.end tree → None ≡ lacking_of bank pcr (plain components) → first ≡ first_cut window tree
    → Refuses e (foreseen_by values_eq (λ k. states_after bank locality (pcr ∷ []) (take k (plain components))) first (length components) None) → Refuses e (foreseen bank locality pcr window tree)
one_err bank locality pcr window tree components first e is has from_first h =
    let reach : ℕ → List (List ℕ) = λ k. values_after bank locality pcr (take k (plain components)) in
    subst (λ (r : Result (List (List ℕ)) ForeseeError). Refuses e r) (sym (one_has bank locality pcr window tree components is has ∙ ap (λ n. foreseen_by bytes_eq reach n (length components) None) (sym from_first)))
    (err_alone reach (λ k. states_after bank locality (pcr ∷ []) (take k (plain components))) (λ k. states_alone bank locality pcr (take k (plain components))) first (length components) e h)

-- ---- several PCRs

pub joint_lacks : (bank : Bank) (locality : ℕ) (pcrs : List ℕ) (window : Window) (tree : List PlainComponent) (components : List Component) (at : RecordPlace) → plain components ≡ inside_of window.end tree → Some at ≡ lacking_in_any bank pcrs (plain components)
    → Refuses {A = List (List (List ℕ))} (lacking_error at) (foreseen_joint bank locality pcrs window tree)
joint_lacks bank locality pcrs window tree components at is lacks =
    joint_is bank locality pcrs window tree (plain components) is
    ∙ ap (foreseen_by values_eq (λ k. states_after bank locality pcrs (take k (plain components))) (first_cut window tree) (length (plain components))) (sym lacks)

pub joint_has : (bank : Bank) (locality : ℕ) (pcrs : List ℕ) (window : Window) (tree : List PlainComponent) (components : List Component) (first : ℕ) (result : Result (List (List (List ℕ))) ForeseeError) → plain components ≡ inside_of window.end tree → None ≡ lacking_in_any bank pcrs (plain components) → first ≡ first_cut window tree
    → Answers result (foreseen_by values_eq (λ k. states_after bank locality pcrs (take k (plain components))) first (length components) None) → Answers result (foreseen_joint bank locality pcrs window tree)
joint_has bank locality pcrs window tree components first result is has from_first h =
    let reach : ℕ → List (List (List ℕ)) = λ k. states_after bank locality pcrs (take k (plain components)) in
    subst (λ (r : Result (List (List (List ℕ))) ForeseeError). Answers result r)
    (sym (joint_is bank locality pcrs window tree (plain components) is
    ∙ ap (foreseen_by values_eq reach (first_cut window tree) (length (plain components))) (sym has)
    ∙ ap (λ n. foreseen_by values_eq reach (first_cut window tree) n None) (plain_count components)
    ∙ ap (λ n. foreseen_by values_eq reach n (length components) None) (sym from_first))) h

-- what is kept over the cuts, as the code counts them
pub are_first : (bank : Bank) (locality : ℕ) (pcrs : List ℕ) (window : Window) (tree : List PlainComponent) (components : List Component) (first : ℕ) (list : List Reached) → plain components ≡ inside_of window.end tree → first ≡ first_cut window tree
    → list ≡ over_cuts same_values (λ k. reached_at bank locality pcrs k (take k (plain components))) (cuts_between first (length components)) → list ≡ first_reached bank locality pcrs window tree
are_first bank locality pcrs window tree components first list is from_first h =
    let inside = inside_of window.end tree in
    h
    ∙ ap (λ n. over_cuts same_values (λ k. reached_at bank locality pcrs k (take k (plain components))) (cuts_between first n)) (sym (plain_count components))
    ∙ ap (λ (cs : List PlainComponent). over_cuts same_values (λ k. reached_at bank locality pcrs k (take k cs)) (cuts_between first (length cs))) is
    ∙ ap (λ n. over_cuts same_values (λ k. reached_at bank locality pcrs k (take k inside)) (cuts_between n (length inside))) from_first
