-- Texts with another one between.
use Rattle.std.proofs.Common.{◌≡◌, ℕ, List, [], ◌∷◌, ◌++◌, map, flat_map, sym, ap, ◌∙◌, append-nil, append_assoc}
use Rattle.pl_text.specs.Texts.{with_between}

-- by their first
between_first : {X : Type 0} (between : List ℕ) (text : X → List ℕ) (x : X) (xs : List X) → with_between between (map text (x ∷ xs)) ≡ text x ++ flat_map (λ y. between ++ text y) xs
between_first between text x [] = sym (append-nil (text x))
between_first between text x (y ∷ ys) =
    let rest : List ℕ = flat_map (λ z. between ++ text z) ys in
    ap (λ (t : List ℕ). text x ++ between ++ t) (between_first between text y ys)
    ∙ append_assoc (text x) between (text y ++ rest)
    ∙ ap (λ (t : List ℕ). text x ++ t) (sym (append_assoc between (text y) rest))

-- the first is written, and then the others
pub between_written : {X : Type 0} (between : List ℕ) (text : X → List ℕ) (x : X) (xs all : List X) (old mid new : List ℕ) → all ≡ x ∷ xs → mid ≡ old ++ text x → new ≡ mid ++ flat_map (λ y. between ++ text y) xs → new ≡ old ++ with_between between (map text all)
between_written {X} between text x xs all old mid new is first more =
    let rest : List ℕ = flat_map (λ y. between ++ text y) xs in
    more
    ∙ ap (λ (t : List ℕ). t ++ rest) first
    ∙ append_assoc old (text x) rest
    ∙ ap (λ (t : List ℕ). old ++ t) (sym (between_first between text x xs) ∙ ap (λ (ys : List X). with_between between (map text ys)) (sym is))
