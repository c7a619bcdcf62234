-- The least number of components of which no choice has its digests, in order, among those of a list.
use Rattle.std.proofs.Common.{◌≡◌, ℕ, zero, suc, ◌+◌, ◌-◌, ◌≤◌, Bool, true, false, cond, ◌&&◌, ◌||◌, not, List, [], ◌∷◌, ◌++◌, length, take, drop, map, Option, Some, None, refl, sym, ap, ◌∙◌, subst, inl, inr, append_assoc, add-one, ltb, arith}
use Rattle.std.specs.Prelude.{find, fold, slice_get, option_and_then}
use Rattle.std.specs.List.{flat_map, list_any, position_from, range_with_len}
use Rattle.std.specs.Option.{option_map, option_to_list}
use Rattle.std.specs.Str.{bytes_eq}
use Rattle.std.proofs.lemmas.Bool.{cases_Bool, or_cases, or_right, and_parts, false≢true, ltb-true, ltb-false}
use Rattle.std.proofs.lemmas.List.{length-map, length_push, drop-drop}
use Rattle.hash_bank.specs.declared.bank.Bank.{Bank}
use Rattle.component_tree.specs.PlainTree.{PlainComponent}
use Rattle.record_match.specs.Choices.{choices, chosen}
use Rattle.record_match.specs.Extends.{variants_of, extends_of}
use Rattle.record_match.specs.Steps.{alternatives_of, steps_of}
use Rattle.record_match.specs.Subsequence.{is_subsequence}
use Rattle.record_match.specs.Recognition.{some_within, missing_of}
use Rattle.record_match.specs.Follow.{found_from, followed_from, sooner, earliest_from, missing_after, missing_from}
use Rattle.record_match.proofs.Plainly.{list_any-map, list_any-same}
use Rattle.record_match.proofs.Searches.{find-same, find_shift, any-append, any_never, any_weaker, slice_get_at, position_shift}
use Rattle.record_match.proofs.FirstChoice.{joined, choices_same, joined_same}

-- ---- subsequences

sub_more : (ds list : List (List ℕ)) (e : List ℕ) → is_subsequence ds list ≡ true → is_subsequence ds (e ∷ list) ≡ true
sub_more [] list e h = refl
sub_more (d ∷ ds) list e h = or_right (bytes_eq d e && is_subsequence ds list) (is_subsequence (d ∷ ds) list) h

-- a list's later part has no more
pub sub_earlier : (ds list : List (List ℕ)) (k : ℕ) → is_subsequence ds (drop k list) ≡ true → is_subsequence ds list ≡ true
sub_earlier ds list zero h = h
sub_earlier ds [] (suc k) h = h
sub_earlier ds (e ∷ list) (suc k) h = sub_more ds list e (sub_earlier ds list k h)

-- without its first digest
sub_tail : (d : List ℕ) (ds list : List (List ℕ)) → is_subsequence (d ∷ ds) list ≡ true → is_subsequence ds list ≡ true
sub_tail d ds [] h = absurd (false≢true h)
sub_tail d ds (e ∷ list) h =
    sub_more ds list e (elim (or_cases (bytes_eq d e && is_subsequence ds list) (is_subsequence (d ∷ ds) list) h) [
      | inl here ↦ (and_parts (bytes_eq d e) (is_subsequence ds list) here).1
      | inr later ↦ sub_tail d ds list later
    ])

-- the rest behind a place, if there is one
abbrev pub sub_behind : List (List ℕ) → List (List ℕ) → Option ℕ → Bool
sub_behind ds list None = false
sub_behind ds list (Some k) = is_subsequence ds (drop k list)

absorbed : (a b : Bool) → (b ≡ true → a ≡ true) → (a || b) ≡ a
absorbed true b h = refl
absorbed false true h = sym (h refl)
absorbed false false h = refl

-- the first place of the first digest is the one to take
sub_first : (d : List ℕ) (ds list : List (List ℕ)) → is_subsequence (d ∷ ds) list ≡ sub_behind ds list (option_map (λ k. k + 1) (position_from (bytes_eq d) 0 list))
sub_first d ds [] = refl
sub_first d ds (e ∷ list) =
    elim (cases_Bool (bytes_eq d e)) [
      | inl same ↦
          ap (λ b. (b && is_subsequence ds list) || is_subsequence (d ∷ ds) list) same
          ∙ absorbed (is_subsequence ds list) (is_subsequence (d ∷ ds) list) (sub_tail d ds list)
          ∙ ap (λ b. sub_behind ds (e ∷ list) (option_map (λ k. k + 1) (cond b (Some 0) (position_from (bytes_eq d) 1 list)))) (sym same)
      | inr other ↦
          ap (λ b. (b && is_subsequence ds list) || is_subsequence (d ∷ ds) list) other
          ∙ sub_first d ds list
          ∙ behind_one ds list e (position_from (bytes_eq d) 0 list)
          ∙ ap (λ (o : Option ℕ). sub_behind ds (e ∷ list) (option_map (λ k. k + 1) o)) (sym (position_shift (bytes_eq d) 0 list))
          ∙ ap (λ b. sub_behind ds (e ∷ list) (option_map (λ k. k + 1) (cond b (Some 0) (position_from (bytes_eq d) 1 list)))) (sym other)
    ]
  where
    behind_one : (ds list : List (List ℕ)) (e : List ℕ) (o : Option ℕ) → sub_behind ds list (option_map (λ k. k + 1) o) ≡ sub_behind ds (e ∷ list) (option_map (λ k. k + 1) (option_map (λ k. k + 1) o))
    behind_one ds list e None = refl
    behind_one ds list e (Some k) = ap (λ n. is_subsequence ds (drop n (e ∷ list))) (sym (add-one (k + 1)))

-- the same from a place on
sub_found : (d : List ℕ) (ds list : List (List ℕ)) (place : ℕ) → is_subsequence (d ∷ ds) (drop place list) ≡ sub_behind ds list (found_from list place d)
sub_found d ds list place = sub_first d ds (drop place list) ∙ moved ds list place (position_from (bytes_eq d) 0 (drop place list))
  where
    moved : (ds list : List (List ℕ)) (place : ℕ) (o : Option ℕ) → sub_behind ds (drop place list) (option_map (λ k. k + 1) o) ≡ sub_behind ds list (option_map (λ k. place + k + 1) o)
    moved ds list place None = refl
    moved ds list place (Some k) =
        let n : place + (k + 1) ≡ place + k + 1 = omega arith in
        ap (is_subsequence ds) (drop-drop (k + 1) place list ∙ ap (λ m. drop m list) n)

sub_joined : (ds es list : List (List ℕ)) (place : ℕ) → is_subsequence (ds ++ es) (drop place list) ≡ sub_behind es list (followed_from list place ds)
sub_joined [] es list place = refl
sub_joined (d ∷ ds) es list place = sub_found d (ds ++ es) list place ∙ each ds es list (found_from list place d) (sub_joined ds es list)
  where
    each : (ds es list : List (List ℕ)) (o : Option ℕ) → ((next : ℕ) → is_subsequence (ds ++ es) (drop next list) ≡ sub_behind es list (followed_from list next ds)) → sub_behind (ds ++ es) list o ≡ sub_behind es list (option_and_then (λ next. followed_from list next ds) o)
    each ds es list None h = refl
    each ds es list (Some next) h = h next

-- ---- choices whose digests are a subsequence

-- whether some choice has its digests, in order, from the place on
abbrev pub some_choice : List (List (List (List ℕ))) → List (List ℕ) → Bool
some_choice steps list = list_any (λ c. is_subsequence (joined steps c) list) (choices steps)

abbrev pub some_behind : List (List (List (List ℕ))) → List (List ℕ) → Option ℕ → Bool
some_behind steps list None = false
some_behind steps list (Some place) = some_choice steps (drop place list)

some_earlier : (steps : List (List (List (List ℕ)))) (list : List (List ℕ)) (p q : ℕ) → p ≤ q → some_choice steps (drop q list) ≡ true → some_choice steps (drop p list) ≡ true
some_earlier steps list p q le h =
    let n : p + (q - p) ≡ q = omega arith in
    any_weaker (λ c. is_subsequence (joined steps c) (drop q list)) (λ c. is_subsequence (joined steps c) (drop p list))
    (λ c i. sub_earlier (joined steps c) (drop p list) (q - p) (subst (λ (l : List (List ℕ)). is_subsequence (joined steps c) l ≡ true) (ap (λ m. drop m list) (sym n) ∙ sym (drop-drop (q - p) p list)) i)) (choices steps) h

behind_one : (more : List (List (List (List ℕ)))) (list : List (List ℕ)) (o : Option ℕ) → list_any (λ c. sub_behind (joined more c) list o) (choices more) ≡ some_behind more list o
behind_one more list None = any_never (choices more)
behind_one more list (Some place) = refl

from_one : (all : List (List (List ℕ))) (more : List (List (List (List ℕ)))) (list ds : List (List ℕ)) (place n : ℕ) → slice_get all n ≡ Some ds
    → list_any (λ c. is_subsequence (joined (all ∷ more) c) (drop place list)) (map (λ c. n ∷ c) (choices more)) ≡ some_behind more list (followed_from list place ds)
from_one all more list ds place n is =
    list_any-map (λ (c : List ℕ). n ∷ c) (λ c. is_subsequence (joined (all ∷ more) c) (drop place list)) (choices more)
    ∙ list_any-same (λ c. is_subsequence (joined (all ∷ more) (n ∷ c)) (drop place list)) (λ c. sub_behind (joined more c) list (followed_from list place ds))
    (λ c. ap (λ (o : Option (List (List ℕ))). is_subsequence (flat_map (λ (ds : List (List ℕ)). ds) (option_to_list o ++ chosen more c)) (drop place list)) is ∙ sub_joined ds (joined more c) list place) (choices more)
    ∙ behind_one more list (followed_from list place ds)

from_all : (before alternatives : List (List (List ℕ))) (more : List (List (List (List ℕ)))) (list : List (List ℕ)) (place n : ℕ) → length before ≡ n
    → list_any (λ c. is_subsequence (joined ((before ++ alternatives) ∷ more) c) (drop place list)) (flat_map (λ v. map (λ c. v ∷ c) (choices more)) (range_with_len n (length alternatives))) ≡ list_any (λ ds. some_behind more list (followed_from list place ds)) alternatives
from_all before [] more list place n is = refl
from_all before (ds ∷ alternatives) more list place n is =
    let p : List ℕ → Bool = λ c. is_subsequence (joined ((before ++ ds ∷ alternatives) ∷ more) c) (drop place list) in
    let others = flat_map (λ v. map (λ c. v ∷ c) (choices more)) (range_with_len (n + 1) (length alternatives)) in
    any-append p (map (λ c. n ∷ c) (choices more)) others
    ∙ ap (λ b. b || list_any p others) (from_one (before ++ ds ∷ alternatives) more list ds place n (slice_get_at before ds alternatives n is))
    ∙ ap (λ b. some_behind more list (followed_from list place ds) || b)
    (ap (λ (all : List (List (List ℕ))). list_any (λ c. is_subsequence (joined (all ∷ more) c) (drop place list)) others) (sym (append_assoc before (ds ∷ []) alternatives))
    ∙ from_all (before ++ ds ∷ []) alternatives more list place (n + 1) (length_push before ds ∙ ap (λ k. k + 1) is))

-- ---- the earliest place serves for all

or_same : (a b : Bool) → (b ≡ true → a ≡ true) → (a || b) ≡ a
or_same a b h = absorbed a b h

or_other : (a b : Bool) → (a ≡ true → b ≡ true) → (a || b) ≡ b
or_other true b h = sym (h refl)
or_other false b h = refl

two_places : (steps : List (List (List (List ℕ)))) (list : List (List ℕ)) (o p : Option ℕ) → (some_behind steps list o || some_behind steps list p) ≡ some_behind steps list (sooner o p)
two_places steps list None p = refl
two_places steps list (Some a) None = or_same (some_choice steps (drop a list)) false (λ h. absurd (false≢true h))
two_places steps list (Some a) (Some b) =
    elim (cases_Bool (ltb b a)) [
      | inl lt ↦ or_other (some_choice steps (drop a list)) (some_choice steps (drop b list)) (some_earlier steps list b a (let h = ltb-true b a lt in omega arith)) ∙ ap (λ t. some_behind steps list (cond t (Some b) (Some a))) (sym lt)
      | inr le ↦ or_same (some_choice steps (drop a list)) (some_choice steps (drop b list)) (some_earlier steps list a b (ltb-false b a le)) ∙ ap (λ t. some_behind steps list (cond t (Some b) (Some a))) (sym le)
    ]

or_nested : (a b c : Bool) → (a || (b || c)) ≡ ((a || b) || c)
or_nested true b c = refl
or_nested false b c = refl

or_nothing : (a : Bool) → (a || false) ≡ a
or_nothing true = refl
or_nothing false = refl

earliest_serves : (steps : List (List (List (List ℕ)))) (list : List (List ℕ)) (place : ℕ) (best : Option ℕ) (alternatives : List (List (List ℕ)))
    → (some_behind steps list best || list_any (λ ds. some_behind steps list (followed_from list place ds)) alternatives) ≡ some_behind steps list (fold (λ best digests. sooner best (followed_from list place digests)) best alternatives)
earliest_serves steps list place best [] = or_nothing (some_behind steps list best)
earliest_serves steps list place best (ds ∷ alternatives) =
    let rest = list_any (λ ds. some_behind steps list (followed_from list place ds)) alternatives in
    or_nested (some_behind steps list best) (some_behind steps list (followed_from list place ds)) rest
    ∙ ap (λ b. b || rest) (two_places steps list best (followed_from list place ds))
    ∙ earliest_serves steps list place (sooner best (followed_from list place ds)) alternatives

some_step : (alternatives : List (List (List ℕ))) (more : List (List (List (List ℕ)))) (list : List (List ℕ)) (place : ℕ) → some_choice (alternatives ∷ more) (drop place list) ≡ some_behind more list (earliest_from list place alternatives)
some_step alternatives more list place = from_all [] alternatives more list place 0 refl ∙ earliest_serves more list place None alternatives

-- ---- the least number

later_by : (n : ℕ) (f : ℕ → Option ℕ) (g : ℕ → Option ℕ) (o : Option ℕ) → ((next : ℕ) → f next ≡ option_map (λ i. i + 1) (g next)) → missing_after o (n + 1) f ≡ option_map (λ i. i + 1) (missing_after o n g)
later_by n f g None h = refl
later_by n f g (Some next) h = h next

missing_shift : (list : List (List ℕ)) (n place : ℕ) (steps : List (List (List (List ℕ)))) → missing_from list (n + 1) place steps ≡ option_map (λ i. i + 1) (missing_from list n place steps)
missing_shift list n place [] = refl
missing_shift list n place (alternatives ∷ steps) =
    later_by n (λ next. missing_from list (n + 1 + 1) next steps) (λ next. missing_from list (n + 1) next steps) (earliest_from list place alternatives) (λ next. missing_shift list (n + 1) next steps)

-- no choice of the steps up to i
abbrev pub none_up_to : List (List (List (List ℕ))) → List (List ℕ) → ℕ → Bool
none_up_to steps list i = not (some_choice (take (i + 1) steps) list)

least_missing : (steps : List (List (List (List ℕ)))) (list : List (List ℕ)) (place : ℕ) → find (none_up_to steps (drop place list)) (range_with_len 0 (length steps)) ≡ missing_from list 0 place steps
least_missing [] list place = refl
least_missing (alternatives ∷ steps) list place =
    by_earliest alternatives steps list place (earliest_from list place alternatives) refl (least_missing steps list)
  where
    by_earliest : (alternatives : List (List (List ℕ))) (steps : List (List (List (List ℕ)))) (list : List (List ℕ)) (place : ℕ) (o : Option ℕ) → earliest_from list place alternatives ≡ o
        → ((next : ℕ) → find (none_up_to steps (drop next list)) (range_with_len 0 (length steps)) ≡ missing_from list 0 next steps)
        → find (none_up_to (alternatives ∷ steps) (drop place list)) (range_with_len 0 (suc (length steps))) ≡ missing_after (earliest_from list place alternatives) 0 (λ next. missing_from list 1 next steps)
    by_earliest alternatives steps list place None is later =
        let here : none_up_to (alternatives ∷ steps) (drop place list) 0 ≡ true = ap not (some_step alternatives [] list place ∙ ap (some_behind [] list) is) in
        ap (λ b. cond b (Some 0) (find (none_up_to (alternatives ∷ steps) (drop place list)) (range_with_len 1 (length steps)))) here
        ∙ ap (λ (o : Option ℕ). missing_after o 0 (λ next. missing_from list 1 next steps)) (sym is)
    by_earliest alternatives steps list place (Some next) is later =
        let p = none_up_to (alternatives ∷ steps) (drop place list) in
        let here : p 0 ≡ false = ap not (some_step alternatives [] list place ∙ ap (some_behind [] list) is) in
        let each : (i : ℕ) → p (i + 1) ≡ none_up_to steps (drop next list) i =
        λ i. ap (λ m. not (some_choice (take m (alternatives ∷ steps)) (drop place list))) (add-one (i + 1)) ∙ ap not (some_step alternatives (take (i + 1) steps) list place ∙ ap (some_behind (take (i + 1) steps) list) is) in
        ap (λ b. cond b (Some 0) (find p (range_with_len 1 (length steps)))) here
        ∙ find_shift p 0 (length steps)
        ∙ ap (option_map (λ i. i + 1)) (find-same (λ i. p (i + 1)) (none_up_to steps (drop next list)) each (range_with_len 0 (length steps)) ∙ later next)
        ∙ sym (missing_shift list 0 next steps)
        ∙ ap (λ (o : Option ℕ). missing_after o 0 (λ next. missing_from list 1 next steps)) (sym is)

-- ---- the same, said of components

steps_taken : (bank : Bank) (pcr n : ℕ) (components : List PlainComponent) → take n (steps_of bank pcr components) ≡ steps_of bank pcr (take n components)
steps_taken bank pcr zero components = refl
steps_taken bank pcr (suc n) [] = refl
steps_taken bank pcr (suc n) (c ∷ components) = ap (λ (s : List (List (List (List ℕ)))). alternatives_of bank pcr c.variants ∷ s) (steps_taken bank pcr n components)

some_is : (bank : Bank) (pcr : ℕ) (components : List PlainComponent) (list : List (List ℕ)) → some_within bank pcr components list ≡ some_choice (steps_of bank pcr components) list
some_is bank pcr components list =
    list_any-same (λ c. is_subsequence (extends_of bank pcr components c) list) (λ c. is_subsequence (joined (steps_of bank pcr components) c) list) (λ c. ap (λ (ds : List (List ℕ)). is_subsequence ds list) (sym (joined_same bank pcr components c))) (choices (variants_of components))
    ∙ ap (list_any (λ c. is_subsequence (joined (steps_of bank pcr components) c) list)) (sym (choices_same bank pcr components))

pub missing_is : (bank : Bank) (pcr : ℕ) (components : List PlainComponent) (list : List (List ℕ)) → missing_of bank pcr components list ≡ missing_from list 0 0 (steps_of bank pcr components)
missing_is bank pcr components list =
    let steps = steps_of bank pcr components in
    find-same (λ i. not (some_within bank pcr (take (i + 1) components) list)) (none_up_to steps list) (λ i. ap not (some_is bank pcr (take (i + 1) components) list ∙ ap (λ (s : List (List (List (List ℕ)))). some_choice s list) (sym (steps_taken bank pcr (i + 1) components)))) (range_with_len 0 (length components))
    ∙ ap (λ n. find (none_up_to steps list) (range_with_len 0 n)) (sym (length-map components (λ c. alternatives_of bank pcr c.variants)))
    ∙ least_missing steps list 0
