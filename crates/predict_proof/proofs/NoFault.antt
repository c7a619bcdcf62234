-- A list of proved members has no fault.
use Rattle.std.proofs.Common.{◌≡◌, ℕ, ◌+◌, List, [], ◌∷◌, Option, None, Some, refl, ap, ◌∙◌}
use Rattle.std.specs.List.{All}
use Rattle.std.specs.Option.{option_or}
use Rattle.std.proofs.lemmas.List.Elements.{All-head, All-tail}
use Rattle.hash_bank.specs.declared.bank.Bank.{Bank}
use Rattle.component_tree.specs.PlainTree.{PlainComponent}
use Rattle.predictor.specs.declared.window.Window.{Window}
use Rattle.predictor.specs.Cuts.{inside_of}
use Rattle.predictor.specs.Foreseen.{first_cut}
use Rattle.predict_proof.specs.declared.proof.Proof.{Proof}
use Rattle.predict_proof.specs.declared.error.CheckError.{CheckError}
use Rattle.predict_proof.specs.Fault.{fault_of, first_fault, first_fault_from}
use Rattle.predict_proof.specs.Proved.{Proved, ProvedInside}
use Rattle.predict_proof.proofs.Faults.{fails_by, proved_not}

none_given : {A : Type 0} (given : Option A) → ((x : A) → given ≡ Some x → ⊥) → given ≡ None
none_given None never = refl
none_given (Some x) never = absurd (never x refl)

module _ (bank : Bank) (locality first : ℕ) (inside : List PlainComponent) where
  none_from : (n : ℕ) (list : List Proof) → All (ProvedInside bank locality first inside) list → first_fault_from bank locality first inside n list ≡ None
  none_from n [] proved = refl
  none_from n (q ∷ list) proved =
      let here : fault_of bank locality first inside n q ≡ None =
      none_given (fault_of bank locality first inside n q)
      (λ e is. proved_not bank locality first inside n q e (fails_by bank locality first inside n q e is) (All-head (ProvedInside bank locality first inside) q list proved)) in
      ap (λ (fault : Option CheckError). option_or fault (first_fault_from bank locality first inside (n + 1) list)) here
      ∙ none_from (n + 1) list (All-tail (ProvedInside bank locality first inside) q list proved)

pub no_fault : (bank : Bank) (locality : ℕ) (window : Window) (tree : List PlainComponent) (list : List Proof) → All (Proved bank locality window tree) list → first_fault bank locality window tree list ≡ None
no_fault bank locality window tree list proved = none_from bank locality (first_cut window tree) (inside_of window.end tree) 0 list proved
