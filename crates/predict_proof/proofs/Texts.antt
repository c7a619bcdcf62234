-- Texts with commas between.
use Rattle.std.proofs.Common.{◌≡◌, ℕ, List, [], ◌∷◌, ◌++◌, map, flat_map, sym, ap, ◌∙◌, append-nil, append_assoc}
use Rattle.std.specs.Prelude.{codes}
use Rattle.std.specs.List.{join_with_byte}

-- by the first
joined_first : {X : Type 0} (text : X → List ℕ) (x : X) (xs : List X) → join_with_byte 44 (map text (x ∷ xs)) ≡ text x ++ flat_map (λ y. codes "," ++ text y) xs
joined_first text x [] = sym (append-nil (text x))
joined_first text x (y ∷ ys) = ap (λ (t : List ℕ). text x ++ (44 ∷ t)) (joined_first text y ys)

-- the first is written, and then the others
pub joined_written : {X : Type 0} (text : X → List ℕ) (x : X) (xs all : List X) (old mid new : List ℕ) → all ≡ x ∷ xs → mid ≡ old ++ text x → new ≡ mid ++ flat_map (λ y. codes "," ++ text y) xs → new ≡ old ++ join_with_byte 44 (map text all)
joined_written {X} text x xs all old mid new is first more =
    let rest : List ℕ = flat_map (λ y. codes "," ++ text y) xs in
    more
    ∙ ap (λ (t : List ℕ). t ++ rest) first
    ∙ append_assoc old (text x) rest
    ∙ ap (λ (t : List ℕ). old ++ t) (sym (joined_first text x xs) ∙ ap (λ (ys : List X). join_with_byte 44 (map text ys)) (sym is))

-- ---- the words of a line, one written after the other

spaced_step : (x y t : List ℕ) → ((x ++ 32 ∷ []) ++ y) ++ t ≡ x ++ (32 ∷ (y ++ t))
spaced_step x y t = append_assoc (x ++ 32 ∷ []) y t ∙ append_assoc x (32 ∷ []) (y ++ t)

pub pieces_are : (a b c d : List ℕ) → a ++ codes " " ++ b ++ codes " " ++ c ++ codes " " ++ d ++ codes "\n" ≡ join_with_byte 32 (a ∷ b ∷ c ∷ d ∷ []) ++ 10 ∷ []
pieces_are a b c d =
    let end : List ℕ = 10 ∷ [] in
    spaced_step ((((a ++ 32 ∷ []) ++ b) ++ 32 ∷ []) ++ c) d end
    ∙ spaced_step ((a ++ 32 ∷ []) ++ b) c (32 ∷ (d ++ end))
    ∙ spaced_step a b (32 ∷ (c ++ (32 ∷ (d ++ end))))
    ∙ sym (append_assoc a (32 ∷ (b ++ (32 ∷ (c ++ (32 ∷ d))))) end
    ∙ ap (λ (t : List ℕ). a ++ (32 ∷ t)) (append_assoc b (32 ∷ (c ++ (32 ∷ d))) end ∙ ap (λ (t : List ℕ). b ++ (32 ∷ t)) (append_assoc c (32 ∷ d) end)))
