-- A list, member after member.
use Rattle.std.proofs.Common.{◌≡◌, ℕ, ◌+◌, ◌<◌, ◌≤◌, true, List, ◌∷◌, ◌++◌, length, get_or, take, drop, Option, Some, None, Ok, Err, refl, sym, ap, ◌∙◌, subst, arith}
use Rattle.std.specs.Prelude.{is_ok, ◌↔◌}
use Rattle.std.specs.Option.{option_or}
use Rattle.std.specs.List.{All, Contains}
use Rattle.std.proofs.lemmas.Bool.{false≢true}
use Rattle.std.proofs.lemmas.List.{take-append-drop, length-take-le, take_all, drop_all}
use Rattle.std.proofs.lemmas.List.Elements.{All-more, All-contains, Contains-append_right}
use Rattle.hash_bank.specs.declared.bank.Bank.{Bank}
use Rattle.component_tree.specs.declared.tree.Component.{Component}
use Rattle.component_tree.specs.PlainTree.{PlainComponent, plain}
use Rattle.record_match.proofs.Plainly.{next}
use Rattle.predictor.specs.declared.window.Window.{Window}
use Rattle.predictor.specs.Cuts.{inside_of}
use Rattle.predictor.specs.Foreseen.{first_cut}
use Rattle.predict_proof.specs.declared.proof.Proof.{Proof}
use Rattle.predict_proof.specs.declared.error.CheckError.{CheckError}
use Rattle.predict_proof.specs.Fault.{fault_of, first_fault_from, first_fault, unless}
use Rattle.predict_proof.specs.Proved.{HasShape, Proved, FailsBy, FailsFirst}
use Rattle.predict_proof.proofs.Members.{first_in}
use Rattle.predict_proof.proofs.Faults.{proved_by, fails_by, proved_not}

module _ (bank : Bank) (locality : ℕ) (window : Window) (tree : List PlainComponent) (list : List Proof) where
  same_fault : (components : List Component) (first n : ℕ) (q : Proof) (o : Option CheckError) → plain components ≡ inside_of window.end tree → first ≡ first_cut window tree → o ≡ fault_of bank locality first (plain components) n q
      → fault_of bank locality (first_cut window tree) (inside_of window.end tree) n q ≡ o
  same_fault components first n q o is from h =
      sym (h ∙ ap (λ k. fault_of bank locality k (plain components) n q) from ∙ ap (λ cs. fault_of bank locality (first_cut window tree) cs n q) is)

  pub next_proved : (components : List Component) (first i : ℕ) (q : Proof) → plain components ≡ inside_of window.end tree → first ≡ first_cut window tree → i < length list → q ≡ get_or list i q → All (HasShape bank) list
      → None ≡ fault_of bank locality first (plain components) i q → All (Proved bank locality window tree) (take i list) → All (Proved bank locality window tree) (take (i + 1) list)
  next_proved components first i q is from lt at shaped h so_far =
      let shape : HasShape bank q = subst (HasShape bank) (sym at) (shaped i q lt) in
      let here : Proved bank locality window tree q = proved_by bank locality (first_cut window tree) (inside_of window.end tree) i q shape.values.long (same_fault components first i q None is from h) in
      All-more (Proved bank locality window tree) list i q lt so_far (subst (Proved bank locality window tree) at here)

  pub refused_here : (components : List Component) (first i : ℕ) (q : Proof) (e : CheckError) → plain components ≡ inside_of window.end tree → first ≡ first_cut window tree → i < length list → q ≡ get_or list i q
      → Some e ≡ fault_of bank locality first (plain components) i q → All (Proved bank locality window tree) (take i list) → FailsFirst bank locality window tree list e
  refused_here components first i q e is from lt at h so_far =
      let fails = fails_by bank locality (first_cut window tree) (inside_of window.end tree) i q e (same_fault components first i q (Some e) is from h) in
      let n : length (take i list) ≡ i = length-take-le i list (omega arith) in
      record {
        before = take i list;
        member = q;
        after = drop (i + 1) list;
        list_is = sym (take-append-drop i list) ∙ ap (λ rest. take i list ++ rest) (next list i q lt at);
        proved = so_far;
        fails = subst (λ k. FailsBy bank locality (first_cut window tree) (inside_of window.end tree) k q e) (sym n) fails;
      }

  not_all : (e : CheckError) → FailsFirst bank locality window tree list e → All (Proved bank locality window tree) list → ⊥
  not_all e f all =
      let there : Contains list f.member = subst (λ l. Contains l f.member) (sym f.list_is) (Contains-append_right f.before (f.member ∷ f.after) f.member (first_in f.member f.after)) in
      proved_not bank locality (first_cut window tree) (inside_of window.end tree) (length f.before) f.member e f.fails (All-contains (Proved bank locality window tree) list f.member all there)

  pub exactly_err : (e : CheckError) → FailsFirst bank locality window tree list e → (is_ok {T = Unit {0}} (Err e) ≡ true) ↔ All (Proved bank locality window tree) list
  exactly_err e f = (λ ok. absurd (false≢true ok), λ all. absurd (not_all e f all))

  pub all_proved : (i : ℕ) → length list ≤ i → All (Proved bank locality window tree) (take i list) → All (Proved bank locality window tree) list
  all_proved i end so_far = subst (All (Proved bank locality window tree)) (take_all i list end) so_far

  pub exactly_ok : All (Proved bank locality window tree) list → (is_ok {T = Unit {0}} {E = CheckError} (Ok tt) ≡ true) ↔ All (Proved bank locality window tree) list
  exactly_ok all = (λ _. all, λ _. refl)

  -- ---- the first fault

  abbrev pub faults_from : ℕ → Option CheckError
  faults_from i = first_fault_from bank locality (first_cut window tree) (inside_of window.end tree) i (drop i list)

  fault_at : (components : List Component) (first i : ℕ) (q : Proof) (o : Option CheckError) → plain components ≡ inside_of window.end tree → first ≡ first_cut window tree → i < length list → q ≡ get_or list i q
      → o ≡ fault_of bank locality first (plain components) i q → faults_from i ≡ option_or o (faults_from (i + 1))
  fault_at components first i q o is from lt at h =
      ap (first_fault_from bank locality (first_cut window tree) (inside_of window.end tree) i) (next list i q lt at)
      ∙ ap (λ (f : Option CheckError). option_or f (faults_from (i + 1))) (same_fault components first i q o is from h)

  pub no_fault_here : (components : List Component) (first i : ℕ) (q : Proof) → plain components ≡ inside_of window.end tree → first ≡ first_cut window tree → i < length list → q ≡ get_or list i q
      → None ≡ fault_of bank locality first (plain components) i q → faults_from i ≡ first_fault bank locality window tree list → faults_from (i + 1) ≡ first_fault bank locality window tree list
  no_fault_here components first i q is from lt at h so_far = sym (fault_at components first i q None is from lt at h) ∙ so_far

  pub fault_here : (components : List Component) (first i : ℕ) (q : Proof) (e : CheckError) → plain components ≡ inside_of window.end tree → first ≡ first_cut window tree → i < length list → q ≡ get_or list i q
      → Some e ≡ fault_of bank locality first (plain components) i q → faults_from i ≡ first_fault bank locality window tree list → Err e ≡ unless (first_fault bank locality window tree list)
  fault_here components first i q e is from lt at h so_far = ap unless (sym (fault_at components first i q (Some e) is from lt at h) ∙ so_far)

  pub no_fault : (i : ℕ) → length list ≤ i → faults_from i ≡ first_fault bank locality window tree list → Ok tt ≡ unless (first_fault bank locality window tree list)
  no_fault i end so_far =
      ap unless (sym (ap (first_fault_from bank locality (first_cut window tree) (inside_of window.end tree) i) (drop_all i list end)) ∙ so_far)
