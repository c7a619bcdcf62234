-- A proof of what is foreseen is within the bounds of a line of a proof file.
use Rattle.std.proofs.Common.{◌≡◌, ℕ, zero, suc, ◌+◌, ◌-◌, ◌<◌, ◌≤◌, true, false, cond, ◌&&◌, eqb, leb, List, [], ◌∷◌, ◌++◌, length, map, take, replicate, sym, ap, ◌∙◌, subst, arith}
use Rattle.std.specs.List.{All, AllByRecursion, Contains, flat_map, range_with_len}
use Rattle.std.proofs.lemmas.List.{length-map, take-map}
use Rattle.std.proofs.lemmas.List.Elements.{All-contains, All-from_recursion, All-head, All-tail}
use Rattle.hex.specs.Hex.{IsBytes}
use Rattle.hash_bank.specs.declared.bank.Bank.{Bank}
use Rattle.hash_bank.specs.Hash.{size_in, zeros_in}
use Rattle.hash_bank.specs.Extending.{start_of, extended}
use Rattle.hash_bank.proofs.Bytes.{IsBytes-digest_in, IsBytes-zeros_in}
use Rattle.component_tree.specs.Ascending.{ascend}
use Rattle.component_tree.specs.declared.tree.Component.{Component}
use Rattle.component_tree.specs.PlainTree.{PlainComponent, plain, plain_component, plain_variant}
use Rattle.pcr_replay.specs.Measured.{extended_by}
use Rattle.policy_digest.specs.Mask.{pcrs_of}
use Rattle.record_match.specs.Choices.{choices}
use Rattle.record_match.specs.Extends.{variants_of, extends_of, reached_by}
use Rattle.predictor.specs.declared.window.Window.{Window}
use Rattle.predictor.specs.Cuts.{inside_of, cuts_between}
use Rattle.predictor.specs.Foreseen.{first_cut}
use Rattle.predictor.proofs.Insides.{few_inside, first_inside, plain_count}
use Rattle.predict_proof.specs.declared.proof.Proof.{Proof}
use Rattle.predict_proof.specs.Proved.{HasShape, Proved, held_by}
use Rattle.predict_proof.specs.ReadsAs.{IsLine}

-- ---- bytes

bytes_append : (xs ys : List ℕ) → IsBytes xs → IsBytes ys → IsBytes (xs ++ ys)
bytes_append [] ys hx hy i = hy i
bytes_append (x ∷ xs) ys hx hy zero = hx 0
bytes_append (x ∷ xs) ys hx hy (suc i) = bytes_append xs ys (λ j. hx (suc j)) hy i

bytes_replicate : (n x : ℕ) → x < 256 → IsBytes (replicate n x)
bytes_replicate zero x lt i = omega arith
bytes_replicate (suc n) x lt zero = lt
bytes_replicate (suc n) x lt (suc i) = bytes_replicate n x lt i

bytes_one : (x : ℕ) → x < 256 → IsBytes (x ∷ [])
bytes_one x lt zero = lt
bytes_one x lt (suc i) = omega arith

start_bytes : (bank : Bank) (pcr locality : ℕ) → locality < 256 → IsBytes (start_of bank pcr locality)
unfolding start_of
start_bytes bank pcr locality lt =
    elim (eqb pcr 0) as (λ b. IsBytes (cond b (replicate (size_in bank - 1) 0 ++ locality ∷ []) (cond (leb 17 pcr && leb pcr 22) (replicate (size_in bank) 255) (zeros_in bank)))) [
      | true ↦ bytes_append (replicate (size_in bank - 1) 0) (locality ∷ []) (bytes_replicate (size_in bank - 1) 0 (omega arith)) (bytes_one locality lt)
      | false ↦ elim (leb 17 pcr && leb pcr 22) as (λ b. IsBytes (cond b (replicate (size_in bank) 255) (zeros_in bank))) [
        | true ↦ bytes_replicate (size_in bank) 255 (omega arith)
        | false ↦ IsBytes-zeros_in bank
      ]
    ]

extended_bytes : (bank : Bank) (ds : List (List ℕ)) (d : List ℕ) → IsBytes d → IsBytes (extended_by bank d ds)
extended_bytes bank [] d h = h
extended_bytes bank (e ∷ ds) d h = extended_bytes bank ds (extended bank d e) (IsBytes-digest_in bank (d ++ e))

reached_bytes : (bank : Bank) (locality pcr : ℕ) (components : List PlainComponent) (choice : List ℕ) → locality < 256 → IsBytes (reached_by bank pcr locality components choice)
reached_bytes bank locality pcr components choice lt = extended_bytes bank (extends_of bank pcr components choice) (start_of bank pcr locality) (start_bytes bank pcr locality lt)

-- ---- each member

each_append : {A : Type 0} (P : A → Type 0) (xs ys : List A) → AllByRecursion P xs → AllByRecursion P ys → AllByRecursion P (xs ++ ys)
each_append P [] ys hx hy = hy
each_append P (x ∷ xs) ys hx hy = (hx.0, each_append P xs ys hx.1 hy)

each_flat : {A B : Type 0} (P : B → Type 0) (f : A → List B) (xs : List A) → AllByRecursion (λ x. AllByRecursion P (f x)) xs → AllByRecursion P (flat_map f xs)
each_flat P f [] h = tt
each_flat P f (x ∷ xs) h = each_append P (f x) (flat_map f xs) h.0 (each_flat P f xs h.1)

each_map : {A B : Type 0} (P : B → Type 0) (g : A → B) (xs : List A) → AllByRecursion (λ x. P (g x)) xs → AllByRecursion P (map g xs)
each_map P g [] h = tt
each_map P g (x ∷ xs) h = (h.0, each_map P g xs h.1)

each_is : {A : Type 0} (P : A → Type 0) → ((x : A) → P x) → (xs : List A) → AllByRecursion P xs
each_is P is [] = tt
each_is P is (x ∷ xs) = (is x, each_is P is xs)

each_weaker : {A : Type 0} (P Q : A → Type 0) → ((x : A) → P x → Q x) → (xs : List A) → AllByRecursion P xs → AllByRecursion Q xs
each_weaker P Q then [] h = tt
each_weaker P Q then (x ∷ xs) h = (then x h.0, each_weaker P Q then xs h.1)

each_number : (P : ℕ → Type 0) (n a : ℕ) → ((k : ℕ) → a ≤ k → k < a + n → P k) → AllByRecursion P (range_with_len a n)
each_number P zero a is = tt
each_number P (suc n) a is = (is a (omega arith) (omega arith), each_number P n (a + 1) (λ k le lt. is k (omega arith) (omega arith)))

-- ---- the cut and the choice

cut_least : (first last cut : ℕ) → Contains (cuts_between first last) cut → cut ≤ last
cut_least first last cut there =
    All-contains (λ k. k ≤ last) (cuts_between first last) cut
    (All-from_recursion (λ k. k ≤ last) (cuts_between first last) (each_number (λ k. k ≤ last) (last + 1 - first) first (λ k le lt. omega arith))) there

abbrev AreSmall : List ℕ → Type 0
AreSmall choice = AllByRecursion (λ v. v ≤ 63) choice

small_choices : (components : List PlainComponent) → AllByRecursion (λ c. length c.variants ≤ 64) components → AllByRecursion AreSmall (choices (variants_of components))
small_choices [] few = (tt, tt)
small_choices (c ∷ components) few =
    let rest = choices (variants_of components) in
    let more = small_choices components few.1 in
    let count : length c.variants ≤ 64 = few.0 in
    each_flat AreSmall (λ v. map (λ choice. v ∷ choice) rest) (range_with_len 0 (length c.variants))
    (each_number (λ v. AllByRecursion AreSmall (map (λ choice. v ∷ choice) rest)) (length c.variants) 0 (λ v le lt.
    each_map AreSmall (λ choice. v ∷ choice) rest (each_weaker AreSmall (λ choice. AreSmall (v ∷ choice)) (λ choice small. (omega arith, small)) rest more)))

few_variants : (components : List Component) → AllByRecursion (λ c. length c.variants ≤ 64) (plain components)
few_variants [] = tt
few_variants (c ∷ components) =
    let few : length c.variants ≤ 64 = c.few_variants in
    (omega (arith, length-map c.variants plain_variant), few_variants components)

-- ---- a line

module _ (bank : Bank) (locality : ℕ) (window : Window) (components : List Component) (up : ascend (map (λ c. c.id) components) ≡ true) (few : length components ≤ 256) (small : locality < 256) where
  abbrev tree : List PlainComponent
  tree = plain components

  abbrev inside : List Component
  inside = take (length (inside_of window.end tree)) components

  abbrev before : List PlainComponent
  before = inside_of window.end tree

  proof_line : (q : Proof) → HasShape bank q → Proved bank locality window tree q → IsLine bank q
  proof_line q shape p =
      let first : plain (take q.cut inside) ≡ take q.cut before = sym (take-map plain_component q.cut inside) ∙ ap (take q.cut) (first_inside window.end components up) in
      let last = cut_least (first_cut window tree) (length before) q.cut p.cut in
      let values : AllByRecursion IsBytes (map (held_by bank locality before q) (pcrs_of q.pcrs)) =
      each_map IsBytes (held_by bank locality before q) (pcrs_of q.pcrs) (each_is (λ pcr. IsBytes (held_by bank locality before q pcr)) (λ pcr. reached_bytes bank locality pcr (take q.cut before) q.choice small) (pcrs_of q.pcrs)) in
      let choice : AreSmall q.choice =
      All-contains AreSmall (choices (variants_of (take q.cut before))) q.choice
      (All-from_recursion AreSmall (choices (variants_of (take q.cut before))) (small_choices (take q.cut before) (subst (AllByRecursion (λ c. length c.variants ≤ 64)) first (few_variants (take q.cut inside))))) p.choice in
      record {
        shape = shape;
        bytes = All-from_recursion IsBytes q.values (subst (AllByRecursion IsBytes) (sym p.values) values);
        cut = omega (arith, last, few, few_inside window.end tree, plain_count components);
        choice = All-from_recursion (λ v. v ≤ 63) q.choice choice;
      }

  each_line : (list : List Proof) → All (HasShape bank) list → All (Proved bank locality window tree) list → AllByRecursion (IsLine bank) list
  each_line [] shaped proved = tt
  each_line (q ∷ list) shaped proved = (
    proof_line q (All-head (HasShape bank) q list shaped) (All-head (Proved bank locality window tree) q list proved),
    each_line list (All-tail (HasShape bank) q list shaped) (All-tail (Proved bank locality window tree) q list proved),
  )

  pub all_lines : (list : List Proof) → All (HasShape bank) list → All (Proved bank locality window tree) list → All (IsLine bank) list
  all_lines list shaped proved = All-from_recursion (IsLine bank) list (each_line list shaped proved)
