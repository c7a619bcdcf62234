-- What is said on standard error, one after the other.
use Rattle.std.proofs.Common.{◌≡◌, ℕ, ◌≤◌, List, [], ◌++◌, sym, ap, ◌∙◌, subst, append_assoc, arith}
use Rattle.std.specs.Prelude.{Option, Some, Result, Ok, OnOk}
use Rattle.std.proofs.lemmas.List.{append-nil}
use Rattle.pl_base.specs.Faults.{Rose}
use Rattle.pcrlock_run.specs.Says.{Says}

first_rose : (a b c : ℕ) → b ≤ c → ¬ Rose a c → ¬ Rose a b
first_rose a b c h none = λ r. none (omega (arith, h, r))

second_rose : (a b c : ℕ) → a ≤ b → ¬ Rose a c → ¬ Rose b c
second_rose a b c h none = λ r. none (omega (arith, h, r))

-- nothing was written
pub says_nothing : (n : ℕ) (w : Option (List ℕ)) → Says n w n w []
says_nothing n w = record { later = omega arith; appended = λ said e none. e ∙ ap Some (sym (append-nil said)) }

-- one text after the other
pub says_then : (a : ℕ) (u : Option (List ℕ)) (b : ℕ) (v : Option (List ℕ)) (c : ℕ) (w : Option (List ℕ)) (xs ys : List ℕ) → Says a u b v xs → Says b v c w ys → Says a u c w (xs ++ ys)
says_then a u b v c w xs ys h k = record {
  later = omega (arith, h.later, k.later);
  appended = λ said e none. k.appended (said ++ xs) (h.appended said e (first_rose a b c k.later none)) (second_rose a b c h.later none) ∙ ap Some (append_assoc said xs ys);
}

-- the same text
pub says_same : (a : ℕ) (u : Option (List ℕ)) (b : ℕ) (v : Option (List ℕ)) (xs ys : List ℕ) → xs ≡ ys → Says a u b v xs → Says a u b v ys
says_same a u b v xs ys e h = subst (λ (t : List ℕ). Says a u b v t) e h

-- a text that was told
pub says_told : {E : Type 0} (a : ℕ) (u : Option (List ℕ)) (b : ℕ) (v : Option (List ℕ)) (text : List ℕ) (result : Result Unit E) → result ≡ Ok tt → a ≤ b
    → ((before : List ℕ) → u ≡ Some before → ¬ Rose a b → OnOk result (v ≡ Some (before ++ text))) → Says a u b v text
says_told a u b v text result is later h = record {
  later = later;
  appended = λ said e none. let P : Result Unit _ → Type 0 = λ r. OnOk r (v ≡ Some (said ++ text)) in subst P is (h said e none);
}
