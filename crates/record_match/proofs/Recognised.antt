-- The answer for a list, by what the body finds.
use Rattle.std.proofs.Common.{◌≡◌, ℕ, List, Option, Some, None, Ok, Err, sym, ap, ◌∙◌}
use Rattle.hash_bank.specs.declared.bank.Bank.{Bank}
use Rattle.component_tree.specs.PlainTree.{PlainComponent}
use Rattle.record_match.specs.Lacking.{lacking_of}
use Rattle.record_match.specs.Steps.{steps_of}
use Rattle.record_match.specs.Walk.{first_choice}
use Rattle.record_match.specs.Follow.{missing_from}
use Rattle.record_match.specs.Recognition.{first_case, missing_of, recognised, no_digest}
use Rattle.record_match.specs.declared.lacking.RecordPlace.{RecordPlace}
use Rattle.record_match.specs.declared.error.MatchError.TheVariants as errors
use Rattle.record_match.proofs.FirstChoice.{explaining_is}
use Rattle.record_match.proofs.MissingOne.{missing_is}

recognised_is : (bank : Bank) (pcr : ℕ) (components : List PlainComponent) (list : List (List ℕ)) → recognised bank pcr components list ≡ first_case (lacking_of bank pcr components) (first_choice (steps_of bank pcr components) list) (missing_from list 0 0 (steps_of bank pcr components))
unfolding recognised
recognised_is bank pcr components list =
    ap (λ (o : Option (List ℕ)). first_case (lacking_of bank pcr components) o (missing_of bank pcr components list)) (explaining_is bank pcr components list)
    ∙ ap (first_case (lacking_of bank pcr components) (first_choice (steps_of bank pcr components) list)) (missing_is bank pcr components list)

pub recognised_lacking : (bank : Bank) (pcr : ℕ) (components : List PlainComponent) (list : List (List ℕ)) (at : RecordPlace) → Some at ≡ lacking_of bank pcr components → recognised bank pcr components list ≡ Err (no_digest at)
recognised_lacking bank pcr components list at lacks =
    recognised_is bank pcr components list ∙ ap (λ (o : Option RecordPlace). first_case o (first_choice (steps_of bank pcr components) list) (missing_from list 0 0 (steps_of bank pcr components))) (sym lacks)

pub recognised_explained : (bank : Bank) (pcr : ℕ) (components : List PlainComponent) (list : List (List ℕ)) (choice : List ℕ) → None ≡ lacking_of bank pcr components → Some choice ≡ first_choice (steps_of bank pcr components) list → recognised bank pcr components list ≡ Ok choice
recognised_explained bank pcr components list choice has explains =
    recognised_is bank pcr components list ∙ ap (λ (o : Option RecordPlace). first_case o (first_choice (steps_of bank pcr components) list) (missing_from list 0 0 (steps_of bank pcr components))) (sym has)
    ∙ ap (λ (o : Option (List ℕ)). first_case None o (missing_from list 0 0 (steps_of bank pcr components))) (sym explains)

pub recognised_missing : (bank : Bank) (pcr : ℕ) (components : List PlainComponent) (list : List (List ℕ)) (i : ℕ) → None ≡ lacking_of bank pcr components → None ≡ first_choice (steps_of bank pcr components) list → Some i ≡ missing_from list 0 0 (steps_of bank pcr components) → recognised bank pcr components list ≡ Err (errors.MissingComponent i)
recognised_missing bank pcr components list i has explains missing =
    recognised_is bank pcr components list ∙ ap (λ (o : Option RecordPlace). first_case o (first_choice (steps_of bank pcr components) list) (missing_from list 0 0 (steps_of bank pcr components))) (sym has)
    ∙ ap (λ (o : Option (List ℕ)). first_case None o (missing_from list 0 0 (steps_of bank pcr components))) (sym explains) ∙ ap (first_case None None) (sym missing)

pub recognised_not : (bank : Bank) (pcr : ℕ) (components : List PlainComponent) (list : List (List ℕ)) → None ≡ lacking_of bank pcr components → None ≡ first_choice (steps_of bank pcr components) list → None ≡ missing_from list 0 0 (steps_of bank pcr components) → recognised bank pcr components list ≡ Err errors.Unrecognised
recognised_not bank pcr components list has explains missing =
    recognised_is bank pcr components list ∙ ap (λ (o : Option RecordPlace). first_case o (first_choice (steps_of bank pcr components) list) (missing_from list 0 0 (steps_of bank pcr components))) (sym has)
    ∙ ap (λ (o : Option (List ℕ)). first_case None o (missing_from list 0 0 (steps_of bank pcr components))) (sym explains) ∙ ap (first_case None None) (sym missing)
