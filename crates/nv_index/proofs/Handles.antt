-- Lists of handles that ascend, under the edits that commands do.
use Rattle.std.proofs.Common.{◌≡◌, ℕ, zero, suc, ◌+◌, ◌<◌, ◌≤◌, List, [], ◌∷◌, ◌++◌, true, ◌&&◌, refl, arith}
use Rattle.std.specs.Prelude.{nat_le, nat_lt, remove}
use Rattle.std.proofs.lemmas.Bool.{and_from, and_parts, le-leb, leb-true, lt-ltb, ltb-true}
use Rattle.nv_index.specs.Handles.{are_handles}

-- handles that strictly ascend, from the first one allowed to below the end
abbrev pub AreHandles : ℕ → ℕ → List ℕ → Type 0
AreHandles first end [] = Unit {0}
AreHandles first end (handle ∷ handles) = (first ≤ handle) × (handle < end) × AreHandles (handle + 1) end handles

pub handles_from_test : (first end : ℕ) (handles : List ℕ) → are_handles first end handles ≡ true → AreHandles first end handles
handles_from_test first end [] e = tt
handles_from_test first end (x ∷ xs) e =
    let both = and_parts (nat_le first x && nat_lt x end) (are_handles (x + 1) end xs) e in
    let ends = and_parts (nat_le first x) (nat_lt x end) both.0 in
    (leb-true first x ends.0, ltb-true x end ends.1, handles_from_test (x + 1) end xs both.1)

pub test_from_handles : (first end : ℕ) (handles : List ℕ) → AreHandles first end handles → are_handles first end handles ≡ true
test_from_handles first end [] t = refl
test_from_handles first end (x ∷ xs) t =
    and_from (nat_le first x && nat_lt x end) (are_handles (x + 1) end xs)
    (and_from (nat_le first x) (nat_lt x end) (le-leb first x t.0) (lt-ltb x end t.1))
    (test_from_handles (x + 1) end xs t.2)

push : (first end : ℕ) (handles : List ℕ) → first ≤ end → AreHandles first end handles → AreHandles first (end + 1) (handles ++ end ∷ [])
push first end [] h t = (h, omega arith, tt)
push first end (x ∷ xs) h t =
    let next : x + 1 ≤ end = omega (arith, t.1) in
    (t.0, omega (arith, t.1), push (x + 1) end xs next t.2)

-- fewer may come before
later : (first low end : ℕ) (handles : List ℕ) → low ≤ first → AreHandles first end handles → AreHandles low end handles
later first low end [] h t = tt
later first low end (x ∷ xs) h t = (omega (arith, t.0), t.1, t.2)

without : (first end : ℕ) (handles : List ℕ) (i : ℕ) → AreHandles first end handles → AreHandles first end (remove handles i)
without first end [] zero t = tt
without first end [] (suc i) t = tt
without first end (x ∷ xs) zero t = later (x + 1) first end xs (omega (arith, t.0)) t.2
without first end (x ∷ xs) (suc i) t = (t.0, t.1, without (x + 1) end xs i t.2)

-- the end itself may follow
pub handles_push : (first end : ℕ) (handles : List ℕ) → first ≤ end → are_handles first end handles ≡ true → are_handles first (end + 1) (handles ++ end ∷ []) ≡ true
handles_push first end handles h e = test_from_handles first (end + 1) (handles ++ end ∷ []) (push first end handles h (handles_from_test first end handles e))

pub handles_remove : (first end : ℕ) (handles : List ℕ) (i : ℕ) → are_handles first end handles ≡ true → are_handles first end (remove handles i) ≡ true
handles_remove first end handles i e = test_from_handles first end (remove handles i) (without first end handles i (handles_from_test first end handles e))
