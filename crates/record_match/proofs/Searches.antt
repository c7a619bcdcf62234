-- The first member that passes a test, and whether one does, in joined, mapped and shifted lists.
use Rattle.std.proofs.Common.{◌≡◌, ℕ, zero, suc, ◌+◌, ◌<◌, Bool, true, false, cond, ◌&&◌, ◌||◌, List, [], ◌∷◌, ◌++◌, length, get_or, map, Option, Some, None, refl, sym, ap, ◌∙◌, subst, inl, inr, add-one, arith}
use Rattle.std.specs.Prelude.{find, slice_get}
use Rattle.std.specs.List.{list_any, position_from, range_with_len}
use Rattle.std.specs.Option.{option_map, option_or}
use Rattle.std.proofs.lemmas.Bool.{cases_Bool}

pub find-append : {A : Type 0} (p : A → Bool) (xs ys : List A) → find p (xs ++ ys) ≡ option_or (find p xs) (find p ys)
find-append p [] ys = refl
find-append p (x ∷ xs) ys =
    elim (p x) as (λ b. cond b (Some x) (find p (xs ++ ys)) ≡ option_or (cond b (Some x) (find p xs)) (find p ys)) [ true ↦ refl | false ↦ find-append p xs ys ]

pub find-map : {A B : Type 0} (p : B → Bool) (f : A → B) (xs : List A) → find p (map f xs) ≡ option_map f (find (λ x. p (f x)) xs)
find-map p f [] = refl
find-map p f (x ∷ xs) =
    elim (p (f x)) as (λ b. cond b (Some (f x)) (find p (map f xs)) ≡ option_map f (cond b (Some x) (find (λ x. p (f x)) xs))) [ true ↦ refl | false ↦ find-map p f xs ]

pub find-same : {A : Type 0} (p q : A → Bool) → ((x : A) → p x ≡ q x) → (xs : List A) → find p xs ≡ find q xs
find-same p q same [] = refl
find-same p q same (x ∷ xs) = ap (λ b. cond b (Some x) (find p xs)) (same x) ∙ ap (cond (q x) (Some x)) (find-same p q same xs)

pub find_never : {A : Type 0} (xs : List A) → find (λ (_ : A). false) xs ≡ None
find_never [] = refl
find_never (x ∷ xs) = find_never xs

-- a condition of its own beside the test
pub find_under : {A : Type 0} (b : Bool) (q : A → Bool) (xs : List A) → find (λ x. b && q x) xs ≡ cond b (find q xs) None
find_under true q xs = refl
find_under false q xs = find_never xs

pub any-append : {A : Type 0} (p : A → Bool) (xs ys : List A) → list_any p (xs ++ ys) ≡ (list_any p xs || list_any p ys)
any-append p [] ys = refl
any-append p (x ∷ xs) ys =
    elim (p x) as (λ b. (b || list_any p (xs ++ ys)) ≡ ((b || list_any p xs) || list_any p ys)) [ true ↦ refl | false ↦ any-append p xs ys ]

pub any_never : {A : Type 0} (xs : List A) → list_any (λ (_ : A). false) xs ≡ false
any_never [] = refl
any_never (x ∷ xs) = any_never xs

-- a test that passes less often passes for fewer
pub any_weaker : {A : Type 0} (p q : A → Bool) → ((x : A) → p x ≡ true → q x ≡ true) → (xs : List A) → list_any p xs ≡ true → list_any q xs ≡ true
any_weaker p q weaker [] h = absurd cc
any_weaker p q weaker (x ∷ xs) h =
    elim (cases_Bool (p x)) [
      | inl passes ↦ ap (λ b. b || list_any q xs) (weaker x passes)
      | inr fails ↦
          let rest = any_weaker p q weaker xs (sym (ap (λ b. b || list_any p xs) fails) ∙ h) in
          elim (q x) as (λ b. (b || list_any q xs) ≡ true) [ true ↦ refl | false ↦ rest ]
    ]

pub position-same : {A : Type 0} (p q : A → Bool) → ((x : A) → p x ≡ q x) → (i : ℕ) (xs : List A) → position_from p i xs ≡ position_from q i xs
position-same p q same i [] = refl
position-same p q same i (x ∷ xs) = ap (λ b. cond b (Some i) (position_from p (i + 1) xs)) (same x) ∙ ap (cond (q x) (Some i)) (position-same p q same (i + 1) xs)

pub position_shift : {A : Type 0} (p : A → Bool) (i : ℕ) (xs : List A) → position_from p (i + 1) xs ≡ option_map (λ k. k + 1) (position_from p i xs)
position_shift p i [] = refl
position_shift p i (x ∷ xs) =
    elim (p x) as (λ b. cond b (Some (i + 1)) (position_from p (i + 1 + 1) xs) ≡ option_map (λ k. k + 1) (cond b (Some i) (position_from p (i + 1) xs))) [ true ↦ refl | false ↦ position_shift p (i + 1) xs ]

-- what holds of the member that was found
passes_later : {A : Type 0} (p : A → Bool) (x : A) (xs : List A) (k : ℕ) (d : A) (o : Option ℕ) → ((j : ℕ) → o ≡ Some j → (j < length xs) × (p (get_or xs j d) ≡ true)) → option_map (λ k. k + 1) o ≡ Some k → (k < length (x ∷ xs)) × (p (get_or (x ∷ xs) k d) ≡ true)
passes_later p x xs k d None later e = absurd cc
passes_later p x xs k d (Some j) later e =
    let h = later j refl in
    let next : j + 1 ≡ k = cc in
    let same : suc j ≡ k = sym (add-one j) ∙ next in
    subst (λ n. (n < suc (length xs)) × (p (get_or (x ∷ xs) n d) ≡ true)) same (omega (arith, h.0), h.1)

pub position_passes : {A : Type 0} (p : A → Bool) (xs : List A) (k : ℕ) (d : A) → position_from p 0 xs ≡ Some k → (k < length xs) × (p (get_or xs k d) ≡ true)
position_passes p [] k d e = absurd cc
position_passes p (x ∷ xs) k d e =
    elim (cases_Bool (p x)) [
      | inl passes ↦
          let f : Some 0 ≡ Some k = sym (ap (λ b. cond b (Some 0) (position_from p 1 xs)) passes) ∙ e in
          let first : 0 ≡ k = cc in
          subst (λ n. (n < suc (length xs)) × (p (get_or (x ∷ xs) n d) ≡ true)) first (omega arith, passes)
      | inr fails ↦
          passes_later p x xs k d (position_from p 0 xs) (λ j. position_passes p xs j d) (sym (position_shift p 0 xs) ∙ sym (ap (λ b. cond b (Some 0) (position_from p 1 xs)) fails) ∙ e)
    ]

-- the numbers from n + 1 on are those from n on, each one more
pub find_shift : (p : ℕ → Bool) (n m : ℕ) → find p (range_with_len (n + 1) m) ≡ option_map (λ i. i + 1) (find (λ i. p (i + 1)) (range_with_len n m))
find_shift p n zero = refl
find_shift p n (suc m) =
    elim (p (n + 1)) as (λ b. cond b (Some (n + 1)) (find p (range_with_len (n + 1 + 1) m)) ≡ option_map (λ i. i + 1) (cond b (Some n) (find (λ i. p (i + 1)) (range_with_len (n + 1) m)))) [ true ↦ refl | false ↦ find_shift p (n + 1) m ]

pub slice_get_at : {A : Type 0} (before : List A) (x : A) (after : List A) (n : ℕ) → length before ≡ n → slice_get (before ++ x ∷ after) n ≡ Some x
slice_get_at [] x after n is = ap (slice_get (x ∷ after)) (sym is)
slice_get_at (b ∷ before) x after n is = ap (slice_get (b ∷ (before ++ x ∷ after))) (sym is) ∙ slice_get_at before x after (length before) refl

pub slice_get-map : {A B : Type 0} (f : A → B) (xs : List A) (i : ℕ) → slice_get (map f xs) i ≡ option_map f (slice_get xs i)
slice_get-map f [] i = refl
slice_get-map f (x ∷ xs) zero = refl
slice_get-map f (x ∷ xs) (suc i) = slice_get-map f xs i

pub mapped_twice : {A B C : Type 0} (f : A → B) (g : B → C) (o : Option A) → option_map g (option_map f o) ≡ option_map (λ x. g (f x)) o
mapped_twice f g None = refl
mapped_twice f g (Some x) = refl
