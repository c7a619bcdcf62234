-- What is foreseen is a list of 1 to 512 members, each with one digest of the bank's length for each PCR, and no two alike.
use Rattle.std.proofs.Common.{◌≡◌, ℕ, zero, suc, ◌+◌, ◌-◌, ◌≤◌, Bool, true, false, cond, not, ◌&&◌, ltb, eqb, List, [], ◌∷◌, ◌++◌, length, take, map, Option, Some, None, Result, Ok, Err, refl, sym, ap, ◌∙◌, subst, arith, length-append}
use Rattle.std.specs.Prelude.{filter, find, IfOk}
use Rattle.std.specs.List.{list_all, list_any, flat_map, range_with_len, AllByRecursion}
use Rattle.std.specs.Option.{option_or}
use Rattle.std.specs.Result.{result_map_both}
use Rattle.std.specs.Str.{bytes_eq}
use Rattle.std.specs.Cmp.{upto}
use Rattle.std.specs.Cmp.Lexicographic.{nat_list_cmp_total}
use Rattle.std.proofs.lemmas.Bool.{and_parts, or_parts, eq-eqb, ltb-false, not-true, true≢false}
use Rattle.std.proofs.lemmas.List.{length-map}
use Rattle.std.proofs.lemmas.List.Folds.{list_all-append}
use Rattle.hash_bank.specs.Hash.{size_in}
use Rattle.hash_bank.specs.Extending.{start_of, extended}
use Rattle.hash_bank.specs.declared.bank.Bank.{Bank}
use Rattle.hash_bank.proofs.Sizes.{length-digest_in, length-start_of}
use Rattle.component_tree.specs.declared.tree.Component.{Component}
use Rattle.component_tree.specs.PlainTree.{PlainComponent, plain, plain_variant}
use Rattle.pcr_replay.specs.Measured.{extended_by}
use Rattle.policy_digest.specs.Table.{values_eq, each_pair, fits}
use Rattle.record_match.specs.Choices.{choices}
use Rattle.record_match.specs.Extends.{variants_of, extends_of, reached_by}
use Rattle.record_match.specs.Lacking.{lacking_of}
use Rattle.record_match.specs.declared.lacking.RecordPlace.{RecordPlace}
use Rattle.record_match.proofs.Searches.{find-append}
use Rattle.predictor.specs.declared.error.ForeseeError.{ForeseeError}
use Rattle.predictor.specs.declared.reached.Reached.{Reached}
use Rattle.predictor.specs.declared.window.Window.{Window}
use Rattle.predictor.specs.Cuts.{inside_of, is_inside, cuts_between}
use Rattle.predictor.specs.Distinct.{put, put_all, distinct}
use Rattle.predictor.specs.Ends.{is_greater}
use Rattle.predictor.specs.Foreseen.{Answers, over_cuts, has_too_many, too_many_at, foreseen_unless, first_cut, last_cut, foreseen, foreseen_joint, lacking_in_any}
use Rattle.predictor.specs.Reaching.{values_in}
use Rattle.predictor.specs.States.{values_after, states_after}
use Rattle.predictor.proofs.Repeats.{Tells, bytes_tell, values_tell, all_put_grows}
use Rattle.predictor.proofs.OverCuts.{range_split}

pub both : (a b : Bool) → a ≡ true → b ≡ true → (a && b) ≡ true
both a b h k = rw (h, k) refl

-- ---- a test of all members

all_map : {A B : Type 0} (g : A → B) (p : B → Bool) → ((x : A) → p (g x) ≡ true) → (xs : List A) → list_all p (map g xs) ≡ true
all_map g p each [] = refl
all_map g p each (x ∷ xs) = both _ _ (each x) (all_map g p each xs)

all_flat : {A B : Type 0} (f : A → List B) (p : B → Bool) → ((x : A) → list_all p (f x) ≡ true) → (xs : List A) → list_all p (flat_map f xs) ≡ true
all_flat f p each [] = refl
all_flat f p each (x ∷ xs) = list_all-append p (f x) (flat_map f xs) ∙ both _ _ (each x) (all_flat f p each xs)

all_put : {A : Type 0} (same : A → A → Bool) (p : A → Bool) (list xs : List A) → list_all p list ≡ true → list_all p xs ≡ true → list_all p (put_all same list xs) ≡ true
all_put same p list [] held more = held
all_put same p list (x ∷ xs) held more =
    let parts = and_parts (p x) (list_all p xs) more in
    let here : list_all p (put same list x) ≡ true =
    elim (list_any (same x) list) as (λ b. list_all p (cond b list (list ++ x ∷ [])) ≡ true) [
      | true ↦ held
      | false ↦ list_all-append p list (x ∷ []) ∙ both _ _ held (both _ _ parts.0 refl)
    ] in
    all_put same p (put same list x) xs here parts.1

-- ---- no two alike

abbrev pub apart : {A : Type 0} → (A → A → Bool) → A → A → Bool
apart same a b = not (same a b)

other : {A : Type 0} (same : A → A → Bool) → Tells same → (x y : A) → same x y ≡ false → same y x ≡ false
other same t x y off =
    elim (same y x) as (λ b. same y x ≡ b → b ≡ false) [
      | true ↦ λ on.
          let is : y ≡ x = t.equal y x on in
          let self : same x y ≡ true = ap (λ z. same z y) (sym is) ∙ t.itself y in
          absurd (true≢false (sym self ∙ off))
      | false ↦ λ _. refl
    ] refl

apart_push : {A : Type 0} (same : A → A → Bool) → Tells same → (list : List A) (x : A) → list_any (same x) list ≡ false → each_pair (apart same) list ≡ true → each_pair (apart same) (list ++ x ∷ []) ≡ true
apart_push same t [] x new held = refl
apart_push same t (y ∷ list) x new held =
    let parts = and_parts (list_all (apart same y) list) (each_pair (apart same) list) held in
    let off = or_parts (same x y) (list_any (same x) list) new in
    let last : apart same y x ≡ true = ap not (other same t x y off.0) in
    both _ _ (list_all-append (apart same y) list (x ∷ []) ∙ both _ _ parts.0 (both _ _ last refl)) (apart_push same t list x off.1 parts.1)

apart_put : {A : Type 0} (same : A → A → Bool) → Tells same → (list xs : List A) → each_pair (apart same) list ≡ true → each_pair (apart same) (put_all same list xs) ≡ true
apart_put same t list [] held = held
apart_put same t list (x ∷ xs) held =
    let here : each_pair (apart same) (put same list x) ≡ true =
    elim (list_any (same x) list) as (λ b. list_any (same x) list ≡ b → each_pair (apart same) (cond b list (list ++ x ∷ [])) ≡ true) [
      | true ↦ λ _. held
      | false ↦ λ new. apart_push same t list x new held
    ] refl in
    apart_put same t (put same list x) xs here

-- ---- some member

some_distinct : {A : Type 0} (same : A → A → Bool) (xs : List A) → 1 ≤ length xs → 1 ≤ length (distinct same xs)
some_distinct same [] some = some
some_distinct same (x ∷ xs) some = all_put_grows same (x ∷ []) xs

some_flat : {A B : Type 0} (f : A → List B) (x : A) (xs : List A) → 1 ≤ length (f x) → 1 ≤ length (flat_map f (x ∷ xs))
some_flat f x xs some = omega (arith, length-append (f x) (flat_map f xs))

some_over : {A : Type 0} (same : A → A → Bool) (reach : ℕ → List A) (first last : ℕ) → first ≤ last → 1 ≤ length (reach first) → 1 ≤ length (over_cuts same reach (cuts_between first last))
some_over same reach first last le some =
    let n : last + 1 - first ≡ suc (last - first) = omega arith in
    let more : 1 ≤ length (flat_map reach (range_with_len first (suc (last - first)))) = some_flat reach first (range_with_len (first + 1) (last - first)) some in
    some_distinct same (flat_map reach (cuts_between first last)) (subst (λ (k : ℕ). 1 ≤ length (flat_map reach (range_with_len first k))) (sym n) more)

-- ---- not too many

no_more : (o p : Option ℕ) → option_or o p ≡ None → p ≡ None
no_more None p e = e
no_more (Some x) p e = absurd cc

not_passed : (b : Bool) (k : ℕ) → cond b (Some k) None ≡ None → b ≡ false
not_passed true k e = absurd cc
not_passed false k e = refl

few_over : {A : Type 0} (same : A → A → Bool) (reach : ℕ → List A) (first last : ℕ) → too_many_at same reach first last ≡ None → length (over_cuts same reach (cuts_between first last)) ≤ 512
few_over same reach first last none =
    let p = has_too_many same reach first in
    let z : 0 + last ≡ last = omega arith in
    let split : option_or (find p (range_with_len 0 last)) (find p (range_with_len (0 + last) 1)) ≡ None =
    sym (ap (find p) (range_split 0 last 1) ∙ find-append p (range_with_len 0 last) (range_with_len (0 + last) 1)) ∙ none in
    let here : find p (range_with_len last 1) ≡ None = sym (ap (λ k. find p (range_with_len k 1)) z) ∙ no_more (find p (range_with_len 0 last)) (find p (range_with_len (0 + last) 1)) split in
    let off = or_parts (ltb 512 (length (distinct same (reach last)))) (ltb 512 (length (over_cuts same reach (cuts_between first last)))) (not_passed (p last) last here) in
    ltb-false 512 (length (over_cuts same reach (cuts_between first last))) off.1

-- ---- a list that is foreseen

pub record Sound {A : Type 0} (p : A → Bool) (same : A → A → Bool) (list : List A) : Type 0 where
  pub some : 1 ≤ length list
  pub few : length list ≤ 512
  pub fit : list_all p list ≡ true
  pub different : each_pair (apart same) list ≡ true

module _ {A : Type 0} (same : A → A → Bool) (t : Tells same) (p : A → Bool) (reach : ℕ → List A) (fit : (k : ℕ) → list_all p (reach k) ≡ true) where
  sound_over : (first last : ℕ) → first ≤ last → 1 ≤ length (reach first) → too_many_at same reach first last ≡ None → Sound p same (over_cuts same reach (cuts_between first last))
  sound_over first last le some none = record {
    some = some_over same reach first last le some;
    few = few_over same reach first last none;
    fit = all_put same p [] (flat_map reach (cuts_between first last)) refl (all_flat reach p fit (cuts_between first last));
    different = apart_put same t [] (flat_map reach (cuts_between first last)) refl;
  }

  sound_unless : (first last : ℕ) (lacking : Option RecordPlace) (many : Option ℕ) (list : List A) → first ≤ last → 1 ≤ length (reach first) → too_many_at same reach first last ≡ many
      → foreseen_unless lacking many (over_cuts same reach (cuts_between first last)) ≡ Ok list → Sound p same list
  sound_unless first last (Some at) many list le some none e = absurd cc
  sound_unless first last None (Some k) list le some none e = absurd cc
  sound_unless first last None None list le some none e =
      let is : over_cuts same reach (cuts_between first last) ≡ list = cc in
      subst (Sound p same) is (sound_over first last le some none)

-- ---- choices

abbrev pub HasVariants : List PlainComponent → Type 0
HasVariants components = AllByRecursion (λ c. 1 ≤ length c.variants) components

pub plain_variants : (components : List Component) → HasVariants (plain components)
plain_variants [] = tt
plain_variants (c ∷ components) =
    let some : 1 ≤ length c.variants = c.some_variant in
    (omega (arith, length-map c.variants plain_variant), plain_variants components)

filtered : (p : PlainComponent → Bool) (components : List PlainComponent) → HasVariants components → HasVariants (filter p components)
filtered p [] h = tt
filtered p (c ∷ components) h =
    elim (p c) as (λ b. HasVariants (cond b (c ∷ filter p components) (filter p components))) [ true ↦ (h.0, filtered p components h.1) | false ↦ filtered p components h.1 ]

taken : (k : ℕ) (components : List PlainComponent) → HasVariants components → HasVariants (take k components)
taken zero components h = tt
taken (suc k) [] h = tt
taken (suc k) (c ∷ components) h = (h.0, taken k components h.1)

some_numbers : (rest : List (List ℕ)) (n : ℕ) → 1 ≤ length rest → 1 ≤ n → 1 ≤ length (flat_map (λ v. map (λ choice. v ∷ choice) rest) (range_with_len 0 n))
some_numbers rest zero some le = absurd (omega arith)
some_numbers rest (suc n) some le =
    let prefixed : ℕ → List (List ℕ) = λ v. map (λ choice. v ∷ choice) rest in
    some_flat prefixed 0 (range_with_len (0 + 1) n) (omega (arith, length-map rest (λ choice. 0 ∷ choice)))

some_choice : (components : List PlainComponent) → HasVariants components → 1 ≤ length (choices (variants_of components))
some_choice [] h = omega arith
some_choice (c ∷ components) h = some_numbers (choices (variants_of components)) (length c.variants) (some_choice components h.1) h.0

-- ---- sizes

extended_size : (bank : Bank) (ds : List (List ℕ)) (d : List ℕ) → length d ≡ size_in bank → length (extended_by bank d ds) ≡ size_in bank
extended_size bank [] d h = h
extended_size bank (e ∷ ds) d h = extended_size bank ds (extended bank d e) (length-digest_in bank (d ++ e))

reached_size : (bank : Bank) (pcr locality : ℕ) (components : List PlainComponent) (choice : List ℕ) → length (reached_by bank pcr locality components choice) ≡ size_in bank
reached_size bank pcr locality components choice = extended_size bank (extends_of bank pcr components choice) (start_of bank pcr locality) (length-start_of bank pcr locality)

abbrev pub has_size : Bank → List ℕ → Bool
has_size bank d = eqb (length d) (size_in bank)

values_fit : (bank : Bank) (locality pcr : ℕ) (components : List PlainComponent) → list_all (has_size bank) (values_after bank locality pcr components) ≡ true
values_fit bank locality pcr components =
    all_map (λ choice. reached_by bank pcr locality components choice) (has_size bank) (λ choice. eq-eqb _ _ (reached_size bank pcr locality components choice)) (choices (variants_of components))

state_fits : (bank : Bank) (locality : ℕ) (pcrs : List ℕ) (components : List PlainComponent) (choice : List ℕ) → fits bank (length pcrs) (map (λ p. reached_by bank p locality components choice) pcrs) ≡ true
state_fits bank locality pcrs components choice =
    let state : ℕ → List ℕ = λ p. reached_by bank p locality components choice in
    both _ _ (eq-eqb _ _ (length-map pcrs state)) (all_map state (has_size bank) (λ p. eq-eqb _ _ (reached_size bank p locality components choice)) pcrs)

states_fit : (bank : Bank) (locality : ℕ) (pcrs : List ℕ) (components : List PlainComponent) → list_all (fits bank (length pcrs)) (states_after bank locality pcrs components) ≡ true
states_fit bank locality pcrs components =
    all_map (λ choice. map (λ p. reached_by bank p locality components choice) pcrs) (fits bank (length pcrs)) (state_fits bank locality pcrs components) (choices (variants_of components))

-- ---- what is foreseen

fewer : {A : Type 0} (p q : A → Bool) → ((x : A) → p x ≡ true → q x ≡ true) → (xs : List A) → length (filter p xs) ≤ length (filter q xs)
fewer p q then [] = omega arith
fewer p q then (x ∷ xs) =
    elim (p x) as (λ b. p x ≡ b → length (cond b (x ∷ filter p xs) (filter p xs)) ≤ length (cond (q x) (x ∷ filter q xs) (filter q xs))) [
      | true ↦ λ on. let more = fewer p q then xs in rw (then x on) (omega arith)
      | false ↦ λ _. elim (q x) as (λ b. length (filter p xs) ≤ length (cond b (x ∷ filter q xs) (filter q xs))) [
        | true ↦ let more = fewer p q then xs in omega arith
        | false ↦ fewer p q then xs
      ]
    ] refl

pub cuts_in_order : (window : Window) (tree : List PlainComponent) → first_cut window tree ≤ last_cut window tree
cuts_in_order window tree =
    fewer (is_inside window.start) (is_inside window.end) (λ c before.
    ap not (upto nat_list_cmp_total c.id window.start window.end (not-true (is_greater c.id window.start) before) window.in_order)) tree

pub one_sound : (bank : Bank) (locality pcr : ℕ) (window : Window) (tree : List PlainComponent) (list : List (List ℕ)) → HasVariants tree → foreseen bank locality pcr window tree ≡ Ok list → Sound (has_size bank) bytes_eq list
unfolding foreseen
one_sound bank locality pcr window tree list some e =
    let inside = inside_of window.end tree in
    let reach : ℕ → List (List ℕ) = λ k. values_after bank locality pcr (take k inside) in
    let first = first_cut window tree in
    let before = taken first inside (filtered (is_inside window.end) tree some) in
    let some_value : 1 ≤ length (reach first) =
    omega (arith, length-map (choices (variants_of (take first inside))) (λ choice. reached_by bank pcr locality (take first inside) choice), some_choice (take first inside) before) in
    sound_unless bytes_eq bytes_tell (has_size bank) reach (λ k. values_fit bank locality pcr (take k inside)) first (last_cut window tree) (lacking_of bank pcr inside)
    (too_many_at bytes_eq reach first (last_cut window tree)) list (cuts_in_order window tree) some_value refl e

pub joint_sound : (bank : Bank) (locality : ℕ) (pcrs : List ℕ) (window : Window) (tree : List PlainComponent) (list : List (List (List ℕ))) → HasVariants tree → foreseen_joint bank locality pcrs window tree ≡ Ok list → Sound (fits bank (length pcrs)) values_eq list
unfolding foreseen_joint
joint_sound bank locality pcrs window tree list some e =
    let inside = inside_of window.end tree in
    let reach : ℕ → List (List (List ℕ)) = λ k. states_after bank locality pcrs (take k inside) in
    let first = first_cut window tree in
    let before = taken first inside (filtered (is_inside window.end) tree some) in
    let some_state : 1 ≤ length (reach first) =
    omega (arith, length-map (choices (variants_of (take first inside))) (λ choice. map (λ p. reached_by bank p locality (take first inside) choice) pcrs), some_choice (take first inside) before) in
    sound_unless values_eq values_tell (fits bank (length pcrs)) reach (λ k. states_fit bank locality pcrs (take k inside)) first (last_cut window tree) (lacking_in_any bank pcrs inside)
    (too_many_at values_eq reach first (last_cut window tree)) list (cuts_in_order window tree) some_state refl e

-- ---- the answers

pub counted : {A : Type 0} (p : A → Bool) (same : A → A → Bool) (list : List A) → Sound p same list → (1 ≤ length list) × (length list ≤ 512)
counted p same list s = (s.some, s.few)

pub one_counted : (bank : Bank) (locality pcr : ℕ) (window : Window) (components : List Component) (result : Result (List (List ℕ)) ForeseeError) → Answers result (foreseen bank locality pcr window (plain components))
    → IfOk result (λ list. (1 ≤ length list) × (length list ≤ 512))
one_counted bank locality pcr window components (Ok list) h = counted (has_size bank) bytes_eq list (one_sound bank locality pcr window (plain components) list (plain_variants components) h)
one_counted bank locality pcr window components (Err e) h = tt

pub joint_counted : (bank : Bank) (locality : ℕ) (pcrs : List ℕ) (window : Window) (components : List Component) (result : Result (List (List (List ℕ))) ForeseeError) → Answers result (foreseen_joint bank locality pcrs window (plain components))
    → IfOk result (λ list. (1 ≤ length list) × (length list ≤ 512))
joint_counted bank locality pcrs window components (Ok list) h = counted (fits bank (length pcrs)) values_eq list (joint_sound bank locality pcrs window (plain components) list (plain_variants components) h)
joint_counted bank locality pcrs window components (Err e) h = tt

-- and each with what leads to it
pub reached_counted : (bank : Bank) (locality : ℕ) (pcrs : List ℕ) (window : Window) (components : List Component) (result : Result (List Reached) ForeseeError)
    → Answers (result_map_both values_in (λ (e : ForeseeError). e) result) (foreseen_joint bank locality pcrs window (plain components)) → IfOk result (λ list. (1 ≤ length list) × (length list ≤ 512))
reached_counted bank locality pcrs window components (Ok list) h =
    let c = joint_counted bank locality pcrs window components (Ok (values_in list)) h in
    let same = length-map list (λ s. s.values) in
    (omega (arith, c.0, same), omega (arith, c.1, same))
reached_counted bank locality pcrs window components (Err e) h = tt
