-- Byte strings joined one by one.
use Rattle.std.proofs.Common.{◌≡◌, ℕ, ◌+◌, ◌<◌, List, [], ◌∷◌, ◌++◌, length, get_or, take}
use Rattle.std.specs.List.{concat}
use Rattle.std.proofs.lemmas.List.{append_assoc, append-nil, take_more}
use Rattle.std.proofs.lemmas.List.Folds.{concat-append}

-- one more string behind the first i
pub joined_more : (m : List ℕ) (xs : List (List ℕ)) (i : ℕ) (x : List ℕ) → i < length xs → x ≡ get_or xs i x
    → m ++ concat (take (i + 1) xs) ≡ (m ++ concat (take i xs)) ++ x
joined_more m xs i x lt is =
    let more : take (i + 1) xs ≡ take i xs ++ x ∷ [] = rw is (take_more xs i x lt) in
    rw (more, concat-append, append-nil, append_assoc)
