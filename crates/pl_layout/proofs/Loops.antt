-- One step of a loop that reads items, as reading says it.
use Rattle.std.proofs.Common.{◌≡◌, ℕ, suc, ◌-◌, ◌+◌, ◌≤◌, ◌<◌, List, [], ◌∷◌, ◌++◌, refl, sym, ◌∙◌, arith}
use Rattle.std.specs.Prelude.{Result, Ok, Err}
use Rattle.pl_layout.specs.Reading.{◌>>=◌, repeat_at}
use Rattle.pl_layout.proofs.Steps.{bind_err}

-- an item and the rest
pub repeat_step : {E A : Type 0} (item : List A → List ℕ → Result (A × List ℕ) E) (count i : ℕ) (before : List A) (bytes : List ℕ) → i < count
    → repeat_at item (count - i) before bytes ≡ (item before bytes >>= λ a. repeat_at item (count - (i + 1)) (before ++ a.0 ∷ []) a.1)
unfolding repeat_at
repeat_step item count i before bytes lt =
    let k : count - i ≡ suc (count - (i + 1)) = omega arith in
    rw k refl

-- an item was read
pub go_on : {E A : Type 0} (item : List A → List ℕ → Result (A × List ℕ) E) (count i : ℕ) (before : List A) (bytes : List ℕ) (a : A) (after : List ℕ) (total : Result (List A × List ℕ) E) → i < count
    → repeat_at item (count - i) before bytes ≡ total → item before bytes ≡ Ok (a, after) → repeat_at item (count - (i + 1)) (before ++ a ∷ []) after ≡ total
go_on item count i before bytes a after total lt so_far h =
    let one : repeat_at item (count - i) before bytes ≡ repeat_at item (count - (i + 1)) (before ++ a ∷ []) after = repeat_step item count i before bytes lt ∙ rw h refl in
    sym one ∙ so_far

-- the fault of an item is that of all
pub fall : {E A : Type 0} (item : List A → List ℕ → Result (A × List ℕ) E) (count i : ℕ) (before : List A) (bytes : List ℕ) (d : E) (total : Result (List A × List ℕ) E) → i < count
    → repeat_at item (count - i) before bytes ≡ total → item before bytes ≡ Err d → total ≡ Err d
fall item count i before bytes d total lt so_far h = sym so_far ∙ repeat_step item count i before bytes lt ∙ bind_err _ d h

-- all were read
pub finish : {E A : Type 0} (item : List A → List ℕ → Result (A × List ℕ) E) (count i : ℕ) (before : List A) (bytes : List ℕ) (total : Result (List A × List ℕ) E) → count ≤ i
    → repeat_at item (count - i) before bytes ≡ total → total ≡ Ok (before, bytes)
unfolding repeat_at
finish item count i before bytes total le so_far =
    let k : count - i ≡ 0 = omega arith in
    let one : repeat_at item (count - i) before bytes ≡ Ok (before, bytes) = rw k refl in
    sym so_far ∙ one
