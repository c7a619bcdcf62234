-- What was put at the end piece by piece.
use Rattle.std.proofs.Common.{◌≡◌, ℕ, List, ◌++◌, ap, ◌∙◌, append_assoc}

pub append_four : {p q r s : List ℕ} (o a b d e : List ℕ) → p ≡ o ++ a → q ≡ p ++ b → r ≡ q ++ d → s ≡ r ++ e → s ≡ o ++ (a ++ (b ++ (d ++ e)))
append_four o a b d e h i j k = k ∙ ap (λ x. x ++ e) (j ∙ ap (λ x. x ++ d) (i ∙ ap (λ x. x ++ b) h)) ∙ simp append_assoc

-- a text of pieces before a rest
pub regroup_two : (a b rest : List ℕ) → (a ++ b) ++ rest ≡ a ++ (b ++ rest)
regroup_two a b rest = append_assoc a b rest

pub regroup_three : (a b c rest : List ℕ) → (a ++ (b ++ c)) ++ rest ≡ a ++ (b ++ (c ++ rest))
regroup_three a b c rest = simp append_assoc

pub regroup_four : (a b c d rest : List ℕ) → (a ++ (b ++ (c ++ d))) ++ rest ≡ a ++ (b ++ (c ++ (d ++ rest)))
regroup_four a b c d rest = simp append_assoc

pub regroup_five : (a b c d e rest : List ℕ) → (a ++ (b ++ (c ++ (d ++ e)))) ++ rest ≡ a ++ (b ++ (c ++ (d ++ (e ++ rest))))
regroup_five a b c d e rest = simp append_assoc
