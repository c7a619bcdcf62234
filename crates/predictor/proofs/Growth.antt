-- The states after one component more, with what leads to them, are those after each of its variants.
use Rattle.std.proofs.Common.{◌≡◌, ℕ, suc, ◌+◌, List, [], ◌∷◌, ◌++◌, length, get_or, take, map, Some, refl, sym, ap, ◌∙◌, append_assoc, arith}
use Rattle.std.specs.Prelude.{slice_get, ◌<◌}
use Rattle.std.specs.List.{All, flat_map, range_with_len}
use Rattle.std.specs.Option.{option_to_list}
use Rattle.std.proofs.lemmas.List.{append-nil, map-append, length_push, map_more, take-map}
use Rattle.std.proofs.lemmas.List.Concat.{flat_map-append, flat_map_single}
use Rattle.std.proofs.lemmas.List.Elements.{All-nil, All-cons, All-head, All-tail, All-append, All-map, All-weaker}
use Rattle.hash_bank.specs.Extending.{extended, start_of}
use Rattle.hash_bank.specs.declared.bank.Bank.{Bank}
use Rattle.cel_record.specs.Spelled.{Spelled}
use Rattle.component_tree.specs.declared.tree.Component.{Component}
use Rattle.component_tree.specs.PlainTree.{PlainVariant, PlainComponent, plain, plain_component, plain_variant}
use Rattle.pcr_replay.specs.Measured.{extended_by}
use Rattle.record_match.specs.Choices.{choices, chosen}
use Rattle.record_match.specs.Extends.{digests_in, variants_of, reached_by}
use Rattle.record_match.proofs.Searches.{slice_get_at}
use Rattle.predictor.specs.declared.reached.Reached.{Reached}
use Rattle.predictor.specs.Reaching.{reached_with, reached_at}
use Rattle.predictor.specs.Spread.{extended_state, next_of, nexts_from, next_states}

-- ---- lists of lists

pub flat_map-flat_map : {A B C : Type 0} (f : A → List B) (g : B → List C) (xs : List A) → flat_map g (flat_map f xs) ≡ flat_map (λ x. flat_map g (f x)) xs
flat_map-flat_map f g [] = refl
flat_map-flat_map f g (x ∷ xs) = flat_map-append g (f x) (flat_map f xs) ∙ ap (λ (l : List _). flat_map g (f x) ++ l) (flat_map-flat_map f g xs)

pub map-flat_map : {A B C : Type 0} (f : A → List B) (g : B → C) (xs : List A) → map g (flat_map f xs) ≡ flat_map (λ x. map g (f x)) xs
map-flat_map f g [] = refl
map-flat_map f g (x ∷ xs) = map-append g (f x) (flat_map f xs) ∙ ap (λ (l : List _). map g (f x) ++ l) (map-flat_map f g xs)

pub flat_map-map : {A B C : Type 0} (f : A → B) (g : B → List C) (xs : List A) → flat_map g (map f xs) ≡ flat_map (λ x. g (f x)) xs
flat_map-map f g [] = refl
flat_map-map f g (x ∷ xs) = ap (λ (l : List _). g (f x) ++ l) (flat_map-map f g xs)

pub flat_map-same : {A B : Type 0} (f g : A → List B) → ((x : A) → f x ≡ g x) → (xs : List A) → flat_map f xs ≡ flat_map g xs
flat_map-same f g same [] = refl
flat_map-same f g same (x ∷ xs) = ap (λ (l : List _). l ++ flat_map f xs) (same x) ∙ ap (λ (l : List _). g x ++ l) (flat_map-same f g same xs)

pub map-same : {A B : Type 0} (f g : A → B) → ((x : A) → f x ≡ g x) → (xs : List A) → map f xs ≡ map g xs
map-same f g same [] = refl
map-same f g same (x ∷ xs) = ap (λ y. y ∷ map f xs) (same x) ∙ ap (λ (l : List _). g x ∷ l) (map-same f g same xs)

pub map-map : {A B C : Type 0} (f : A → B) (g : B → C) (xs : List A) → map g (map f xs) ≡ map (λ x. g (f x)) xs
map-map f g [] = refl
map-map f g (x ∷ xs) = ap (λ (l : List _). g (f x) ∷ l) (map-map f g xs)

-- ---- choices

-- with each number of one place more
abbrev more_of : ℕ → List ℕ → List (List ℕ)
more_of count choice = map (λ v. choice ++ v ∷ []) (range_with_len 0 count)

choices_push : {A : Type 0} (alternatives : List (List A)) (last : List A) → choices (alternatives ++ last ∷ []) ≡ flat_map (more_of (length last)) (choices alternatives)
choices_push [] last = flat_map_single (λ v. v ∷ []) (range_with_len 0 (length last)) ∙ sym (append-nil (map (λ v. v ∷ []) (range_with_len 0 (length last))))
choices_push (first ∷ alternatives) last =
    let g = more_of (length last) in
    let cs = choices alternatives in
    let numbers = range_with_len 0 (length first) in
    flat_map-same (λ w. map (λ c. w ∷ c) (choices (alternatives ++ last ∷ []))) (λ w. flat_map g (map (λ c. w ∷ c) cs))
    (λ w.
    ap (map (λ c. w ∷ c)) (choices_push alternatives last)
    ∙ map-flat_map g (λ c. w ∷ c) cs
    ∙ flat_map-same (λ c. map (λ c. w ∷ c) (g c)) (λ c. g (w ∷ c)) (λ c. map-map (λ v. c ++ v ∷ []) (λ c. w ∷ c) (range_with_len 0 (length last))) cs
    ∙ sym (flat_map-map (λ c. w ∷ c) g cs)) numbers
    ∙ sym (flat_map-flat_map (λ w. map (λ c. w ∷ c) cs) g numbers)

all_joined : {A B : Type 0} (P : B → Type 0) (f : A → List B) → ((x : A) → All P (f x)) → (xs : List A) → All P (flat_map f xs)
all_joined P f each [] = All-nil P
all_joined P f each (x ∷ xs) = All-append P (f x) (flat_map f xs) (each x) (all_joined P f each xs)

pub long_choices : {A : Type 0} (alternatives : List (List A)) → All (λ c. length c ≡ length alternatives) (choices alternatives)
long_choices [] = All-cons (λ (c : List ℕ). length c ≡ 0) [] [] refl (All-nil (λ (c : List ℕ). length c ≡ 0))
long_choices (first ∷ more) =
    let P : List ℕ → Type 0 = λ c. length c ≡ suc (length more) in
    all_joined P (λ v. map (λ c. v ∷ c) (choices more))
    (λ v. All-map P (λ c. v ∷ c) (choices more) (All-weaker (λ c. length c ≡ length more) (λ c. P (v ∷ c)) (λ c h. ap suc h) (choices more) (long_choices more))) (range_with_len 0 (length first))

chosen_push : {A : Type 0} (alternatives : List (List A)) (last : List A) (choice : List ℕ) (n : ℕ) → length choice ≡ length alternatives → chosen (alternatives ++ last ∷ []) (choice ++ n ∷ []) ≡ chosen alternatives choice ++ option_to_list (slice_get last n)
chosen_push [] last [] n long = append-nil (option_to_list (slice_get last n))
chosen_push [] last (v ∷ choice) n long = absurd (omega arith)
chosen_push (first ∷ more) last [] n long = absurd (omega arith)
chosen_push (first ∷ more) last (v ∷ choice) n long =
    ap (λ l. option_to_list (slice_get first v) ++ l) (chosen_push more last choice n (omega arith)) ∙ sym (append_assoc (option_to_list (slice_get first v)) (chosen more choice) (option_to_list (slice_get last n)))

-- where two functions agree on what holds of all members
flat_map-alike : {A B : Type 0} (P : A → Type 0) (f g : A → List B) → ((x : A) → P x → f x ≡ g x) → (xs : List A) → All P xs → flat_map f xs ≡ flat_map g xs
flat_map-alike P f g same [] h = refl
flat_map-alike P f g same (x ∷ xs) h = ap (λ l. l ++ flat_map f xs) (same x (All-head P x xs h)) ∙ ap (λ l. g x ++ l) (flat_map-alike P f g same xs (All-tail P x xs h))

-- ---- states

-- extends of one variant more
pub extended_twice : (bank : Bank) (d : List ℕ) (xs ys : List (List ℕ)) → extended_by bank d (xs ++ ys) ≡ extended_by bank (extended_by bank d xs) ys
extended_twice bank d [] ys = refl
extended_twice bank d (x ∷ xs) ys = extended_twice bank (extended bank d x) xs ys

state_after : (bank : Bank) (pcrs : List ℕ) (f : ℕ → List ℕ) (records : List Spelled) → extended_state bank pcrs (map f pcrs) records ≡ map (λ p. extended_by bank (f p) (digests_in bank p records)) pcrs
state_after bank [] f records = refl
state_after bank (p ∷ pcrs) f records = ap (λ (l : List (List ℕ)). extended_by bank (f p) (digests_in bank p records) ∷ l) (state_after bank pcrs f records)

module _ (bank : Bank) (locality : ℕ) (pcrs : List ℕ) (cut : ℕ) (cs : List PlainComponent) (d : PlainComponent) where
  variants_push : variants_of (cs ++ d ∷ []) ≡ variants_of cs ++ d.variants ∷ []
  variants_push = map-append (λ c. c.variants) cs (d ∷ [])

  reached_push : (choice : List ℕ) (n : ℕ) (v : PlainVariant) (p : ℕ) → length choice ≡ length (variants_of cs) → slice_get d.variants n ≡ Some v
      → reached_by bank p locality (cs ++ d ∷ []) (choice ++ n ∷ []) ≡ extended_by bank (reached_by bank p locality cs choice) (digests_in bank p v.records)
  reached_push choice n v p long is =
      let digests : PlainVariant → List (List ℕ) = λ v. digests_in bank p v.records in
      let start = start_of bank p locality in
      ap (λ vs. extended_by bank start (flat_map digests (chosen vs (choice ++ n ∷ [])))) variants_push
      ∙ ap (λ l. extended_by bank start (flat_map digests l)) (chosen_push (variants_of cs) d.variants choice n long)
      ∙ ap (λ o. extended_by bank start (flat_map digests (chosen (variants_of cs) choice ++ option_to_list o))) is
      ∙ ap (extended_by bank start) (flat_map-append digests (chosen (variants_of cs) choice) (v ∷ []) ∙ ap (λ (l : List (List ℕ)). flat_map digests (chosen (variants_of cs) choice) ++ l) (append-nil (digests v)))
      ∙ extended_twice bank start (flat_map digests (chosen (variants_of cs) choice)) (digests v)

  values_push : (choice : List ℕ) (n : ℕ) (v : PlainVariant) → length choice ≡ length (variants_of cs) → slice_get d.variants n ≡ Some v
      → map (λ p. reached_by bank p locality (cs ++ d ∷ []) (choice ++ n ∷ [])) pcrs ≡ extended_state bank pcrs (map (λ p. reached_by bank p locality cs choice) pcrs) v.records
  values_push choice n v long is =
      map-same (λ p. reached_by bank p locality (cs ++ d ∷ []) (choice ++ n ∷ [])) (λ p. extended_by bank (reached_by bank p locality cs choice) (digests_in bank p v.records)) (λ p. reached_push choice n v p long is) pcrs
      ∙ sym (state_after bank pcrs (λ p. reached_by bank p locality cs choice) v.records)

  by_number : (choice : List ℕ) → length choice ≡ length (variants_of cs) → (before vs : List PlainVariant) (n : ℕ) → length before ≡ n → before ++ vs ≡ d.variants
      → map (λ v. reached_with bank locality pcrs (cut + 1) (cs ++ d ∷ []) (choice ++ v ∷ [])) (range_with_len n (length vs)) ≡ nexts_from bank pcrs (cut + 1) n vs (reached_with bank locality pcrs cut cs choice)
  by_number choice long before [] n count all = refl
  by_number choice long before (v ∷ vs) n count all =
      let is : slice_get d.variants n ≡ Some v = ap (λ l. slice_get l n) (sym all) ∙ slice_get_at before v vs n count in
      let here : reached_with bank locality pcrs (cut + 1) (cs ++ d ∷ []) (choice ++ n ∷ []) ≡ next_of bank pcrs (cut + 1) (reached_with bank locality pcrs cut cs choice) n v.records =
      ap (λ (values : List (List ℕ)). record { cut = cut + 1; choice = choice ++ n ∷ []; values = values }) (values_push choice n v long is) in
      let later = by_number choice long (before ++ v ∷ []) vs (n + 1) (length_push before v ∙ ap (λ k. k + 1) count) (append_assoc before (v ∷ []) vs ∙ all) in
      ap (λ (q : Reached). q ∷ map (λ v. reached_with bank locality pcrs (cut + 1) (cs ++ d ∷ []) (choice ++ v ∷ [])) (range_with_len (n + 1) (length vs))) here
      ∙ ap (λ (l : List Reached). next_of bank pcrs (cut + 1) (reached_with bank locality pcrs cut cs choice) n v.records ∷ l) later

  -- the states after one component more are those after each of its variants
  pub states_push : reached_at bank locality pcrs (cut + 1) (cs ++ d ∷ []) ≡ next_states bank pcrs (cut + 1) d.variants (reached_at bank locality pcrs cut cs)
  states_push =
      let longer : List ℕ → Reached = reached_with bank locality pcrs (cut + 1) (cs ++ d ∷ []) in
      let shorter : List ℕ → Reached = reached_with bank locality pcrs cut cs in
      let nexts : Reached → List Reached = nexts_from bank pcrs (cut + 1) 0 d.variants in
      let alternatives = variants_of cs in
      ap (λ vs. map longer (choices vs)) variants_push
      ∙ ap (map longer) (choices_push alternatives d.variants)
      ∙ map-flat_map (more_of (length d.variants)) longer (choices alternatives)
      ∙ flat_map-alike (λ c. length c ≡ length alternatives) (λ c. map longer (more_of (length d.variants) c)) (λ c. nexts (shorter c))
      (λ c long. map-map (λ v. c ++ v ∷ []) longer (range_with_len 0 (length d.variants)) ∙ by_number c long [] d.variants 0 refl refl) (choices alternatives) (long_choices alternatives)
      ∙ sym (flat_map-map shorter nexts (choices alternatives))

pub reached_grown : (bank : Bank) (locality : ℕ) (pcrs : List ℕ) (components : List Component) (i : ℕ) (c : Component) → i < length components → c ≡ get_or components i c
    → reached_at bank locality pcrs (i + 1) (take (i + 1) (plain components)) ≡ next_states bank pcrs (i + 1) (map plain_variant c.variants) (reached_at bank locality pcrs i (take i (plain components)))
reached_grown bank locality pcrs components i c lt is =
    let more : take (i + 1) (plain components) ≡ take i (plain components) ++ plain_component c ∷ [] =
    take-map plain_component (i + 1) components ∙ map_more plain_component components i c lt ∙ ap (λ (d : Component). map plain_component (take i components) ++ plain_component d ∷ []) (sym is) ∙ ap (λ (l : List PlainComponent). l ++ plain_component c ∷ []) (sym (take-map plain_component i components)) in
    ap (reached_at bank locality pcrs (i + 1)) more ∙ states_push bank locality pcrs i (take i (plain components)) (plain_component c)
