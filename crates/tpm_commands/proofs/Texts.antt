-- Texts that are written one behind the other.
use Rattle.std.proofs.Common.{◌≡◌, ℕ, List, ◌++◌, Result, Ok, Err, ap, ◌∙◌, append_assoc}
use Rattle.std.specs.Prelude.{OnOk}

pub three_joined : {E : Type 0} (result : Result Unit E) (first second third last a b c : List ℕ) → second ≡ first ++ a → third ≡ second ++ b → OnOk result (last ≡ third ++ c)
    → OnOk result (last ≡ first ++ (a ++ (b ++ c)))
three_joined (Ok x) first second third last a b c one two three =
    three ∙ ap (λ t. t ++ c) (two ∙ ap (λ t. t ++ b) one ∙ append_assoc first a b) ∙ append_assoc first (a ++ b) c ∙ ap (λ t. first ++ t) (append_assoc a b c)
three_joined (Err e) first second third last a b c one two three = tt
