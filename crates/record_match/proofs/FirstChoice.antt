-- The first choice whose digests, joined, are a list: component after component, from each place of the list on.
use Rattle.std.proofs.Common.{◌≡◌, ℕ, zero, suc, ◌+◌, ◌-◌, ◌<◌, ◌≤◌, Bool, true, false, cond, ◌&&◌, List, [], ◌∷◌, ◌++◌, length, get_or, drop, map, replicate, Option, Some, None, refl, sym, ap, ◌∙◌, subst, inl, inr, append_assoc, arith}
use Rattle.std.specs.Prelude.{find, is_some, slice_get}
use Rattle.std.specs.List.{flat_map, position_from, range_with_len}
use Rattle.std.specs.Option.{option_map, option_or, option_to_list}
use Rattle.std.specs.Str.{bytes_eq}
use Rattle.std.proofs.lemmas.Bool.{cases_Bool, cases_lt, and_parts}
use Rattle.std.proofs.lemmas.List.{length-map, length-append, length-replicate, length_push, append-nil, drop-drop, get_or-drop, get_or_default, get_or_append_left, get_or_push, length-drop, drop_more, drop_all}
use Rattle.std.proofs.lemmas.List.Concat.{flat_map-append}
use Rattle.hash_bank.specs.declared.bank.Bank.{Bank}
use Rattle.component_tree.specs.PlainTree.{PlainVariant, PlainComponent}
use Rattle.record_match.specs.Choices.{choices, chosen}
use Rattle.record_match.specs.Extends.{digests_in, variants_of, extends_of}
use Rattle.record_match.specs.Steps.{alternatives_of, steps_of}
use Rattle.record_match.specs.Subsequence.{digests_eq}
use Rattle.record_match.specs.Recognition.{first_explaining}
use Rattle.record_match.specs.Walk.{begins, first_from, first_choice, Noted, leads_on, LeadBack, AllNoted}
use Rattle.record_match.proofs.Searches.{find-append, find-map, find-same, find_under, slice_get_at, slice_get-map, position-same, position_passes}

-- the digests that a choice of the alternatives has, joined
abbrev pub joined : List (List (List (List ℕ))) → List ℕ → List (List ℕ)
joined steps choice = flat_map (λ (ds : List (List ℕ)). ds) (chosen steps choice)

-- ---- the first of all choices

and_nested : (a b c : Bool) → (a && (b && c)) ≡ ((a && b) && c)
and_nested true b c = refl
and_nested false b c = refl

pub eq_split : (ds es list : List (List ℕ)) → digests_eq (ds ++ es) list ≡ (begins ds list && digests_eq es (drop (length ds) list))
eq_split [] es list = refl
eq_split (d ∷ ds) es [] = refl
eq_split (d ∷ ds) es (x ∷ list) = ap (λ b. bytes_eq d x && b) (eq_split ds es list) ∙ and_nested (bytes_eq d x) (begins ds list) (digests_eq es (drop (length ds) list))

or_under : (b : Bool) (n : ℕ) (o : Option (List ℕ)) → option_map (λ (c : List ℕ). n ∷ c) (cond b o None) ≡ cond b (option_map (λ c. n ∷ c) o) None
or_under true n o = refl
or_under false n o = refl

-- the choices that begin with one alternative
from_one : (all : List (List (List ℕ))) (more : List (List (List (List ℕ)))) (list ds : List (List ℕ)) (n : ℕ) → slice_get all n ≡ Some ds
    → ((rest : List (List ℕ)) → find (λ c. digests_eq (joined more c) rest) (choices more) ≡ first_choice more rest)
    → find (λ c. digests_eq (joined (all ∷ more) c) list) (map (λ c. n ∷ c) (choices more)) ≡ cond (begins ds list) (option_map (λ c. n ∷ c) (first_choice more (drop (length ds) list))) None
from_one all more list ds n is later =
    let rest = drop (length ds) list in
    let each : (c : List ℕ) → digests_eq (joined (all ∷ more) (n ∷ c)) list ≡ (begins ds list && digests_eq (joined more c) rest) =
    λ c. ap (λ (o : Option (List (List ℕ))). digests_eq (flat_map (λ (ds : List (List ℕ)). ds) (option_to_list o ++ chosen more c)) list) is ∙ eq_split ds (joined more c) list in
    find-map (λ c. digests_eq (joined (all ∷ more) c) list) (λ c. n ∷ c) (choices more)
    ∙ ap (option_map (λ (c : List ℕ). n ∷ c)) (find-same (λ c. digests_eq (joined (all ∷ more) (n ∷ c)) list) (λ c. begins ds list && digests_eq (joined more c) rest) each (choices more)
    ∙ find_under (begins ds list) (λ c. digests_eq (joined more c) rest) (choices more) ∙ ap (λ (o : Option (List ℕ)). cond (begins ds list) o None) (later rest))
    ∙ or_under (begins ds list) n (first_choice more rest)

from_all : (before alternatives : List (List (List ℕ))) (more : List (List (List (List ℕ)))) (list : List (List ℕ)) (n : ℕ) → length before ≡ n
    → ((rest : List (List ℕ)) → find (λ c. digests_eq (joined more c) rest) (choices more) ≡ first_choice more rest)
    → find (λ c. digests_eq (joined ((before ++ alternatives) ∷ more) c) list) (flat_map (λ v. map (λ c. v ∷ c) (choices more)) (range_with_len n (length alternatives))) ≡ first_from (first_choice more) list n alternatives
from_all before [] more list n is later = refl
from_all before (ds ∷ alternatives) more list n is later =
    let p : List ℕ → Bool = λ c. digests_eq (joined ((before ++ ds ∷ alternatives) ∷ more) c) list in
    let assoc : (before ++ ds ∷ []) ++ alternatives ≡ before ++ ds ∷ alternatives = append_assoc before (ds ∷ []) alternatives in
    let rest = from_all (before ++ ds ∷ []) alternatives more list (n + 1) (length_push before ds ∙ ap (λ k. k + 1) is) later in
    find-append p (map (λ c. n ∷ c) (choices more)) (flat_map (λ v. map (λ c. v ∷ c) (choices more)) (range_with_len (n + 1) (length alternatives)))
    ∙ ap (λ (o : Option (List ℕ)). option_or o (find p (flat_map (λ v. map (λ c. v ∷ c) (choices more)) (range_with_len (n + 1) (length alternatives))))) (from_one (before ++ ds ∷ alternatives) more list ds n (slice_get_at before ds alternatives n is) later)
    ∙ ap (option_or (cond (begins ds list) (option_map (λ c. n ∷ c) (first_choice more (drop (length ds) list))) None))
    (ap (λ (all : List (List (List ℕ))). find (λ c. digests_eq (joined (all ∷ more) c) list) (flat_map (λ v. map (λ c. v ∷ c) (choices more)) (range_with_len (n + 1) (length alternatives)))) (sym assoc) ∙ rest)

pub first_of_all : (steps : List (List (List (List ℕ)))) (list : List (List ℕ)) → find (λ c. digests_eq (joined steps c) list) (choices steps) ≡ first_choice steps list
first_of_all [] list = refl
first_of_all (alternatives ∷ more) list = from_all [] alternatives more list 0 refl (first_of_all more)

-- ---- the components' choices are those of what they extend by

pub choices_same : (bank : Bank) (pcr : ℕ) (components : List PlainComponent) → choices (steps_of bank pcr components) ≡ choices (variants_of components)
choices_same bank pcr [] = refl
choices_same bank pcr (c ∷ components) =
    ap (λ n. flat_map (λ v. map (λ c. v ∷ c) (choices (steps_of bank pcr components))) (range_with_len 0 n)) (length-map c.variants (λ v. digests_in bank pcr v.records))
    ∙ ap (λ (cs : List (List ℕ)). flat_map (λ v. map (λ c. v ∷ c) cs) (range_with_len 0 (length c.variants))) (choices_same bank pcr components)

one_joined : (f : PlainVariant → List (List ℕ)) (o : Option PlainVariant) → flat_map (λ (ds : List (List ℕ)). ds) (option_to_list (option_map f o)) ≡ flat_map f (option_to_list o)
one_joined f None = refl
one_joined f (Some v) = refl

pub joined_same : (bank : Bank) (pcr : ℕ) (components : List PlainComponent) (choice : List ℕ) → joined (steps_of bank pcr components) choice ≡ extends_of bank pcr components choice
joined_same bank pcr [] choice = refl
joined_same bank pcr (c ∷ components) [] = refl
joined_same bank pcr (c ∷ components) (v ∷ choice) =
    let f : PlainVariant → List (List ℕ) = λ v. digests_in bank pcr v.records in
    flat_map-append (λ (ds : List (List ℕ)). ds) (option_to_list (slice_get (alternatives_of bank pcr c.variants) v)) (chosen (steps_of bank pcr components) choice)
    ∙ ap (λ (ds : List (List ℕ)). ds ++ joined (steps_of bank pcr components) choice) (ap (λ (o : Option (List (List ℕ))). flat_map (λ (ds : List (List ℕ)). ds) (option_to_list o)) (slice_get-map f c.variants v) ∙ one_joined f (slice_get c.variants v))
    ∙ ap (λ (ds : List (List ℕ)). flat_map f (option_to_list (slice_get c.variants v)) ++ ds) (joined_same bank pcr components choice)
    ∙ sym (flat_map-append f (option_to_list (slice_get c.variants v)) (chosen (variants_of components) choice))

pub explaining_is : (bank : Bank) (pcr : ℕ) (components : List PlainComponent) (list : List (List ℕ)) → first_explaining bank pcr components list ≡ first_choice (steps_of bank pcr components) list
explaining_is bank pcr components list =
    find-same (λ c. digests_eq (extends_of bank pcr components c) list) (λ c. digests_eq (joined (steps_of bank pcr components) c) list) (λ c. ap (λ (ds : List (List ℕ)). digests_eq ds list) (sym (joined_same bank pcr components c))) (choices (variants_of components))
    ∙ ap (find (λ c. digests_eq (joined (steps_of bank pcr components) c) list)) (sym (choices_same bank pcr components))
    ∙ first_of_all (steps_of bank pcr components) list

-- ---- the first alternative that leads on

-- the alternative is that with which a choice goes on
abbrev pub goes_on : (List (List ℕ) → Option (List ℕ)) → List (List ℕ) → List (List ℕ) → Bool
goes_on later list ds = begins ds list && is_some (later (drop (length ds) list))

abbrev pub taken : (List (List ℕ) → Option (List ℕ)) → List (List ℕ) → List (List (List ℕ)) → Option ℕ → Option (List ℕ)
taken later list alternatives None = None
taken later list alternatives (Some v) = option_map (λ c. v ∷ c) (later (drop (length (get_or alternatives v [])) list))

first_here : (later : List (List ℕ) → Option (List ℕ)) (list : List (List ℕ)) (n : ℕ) (ds : List (List ℕ)) (o p : Option (List ℕ)) (b : Bool) → later (drop (length ds) list) ≡ o → (b && is_some o) ≡ true → option_or (cond b (option_map (λ c. n ∷ c) o) None) p ≡ option_map (λ c. n ∷ c) o
first_here later list n ds None p true is h = absurd cc
first_here later list n ds (Some c) p true is h = refl
first_here later list n ds o p false is h = absurd cc

first_later : (n : ℕ) (o p : Option (List ℕ)) (b : Bool) → (b && is_some o) ≡ false → option_or (cond b (option_map (λ (c : List ℕ). n ∷ c) o) None) p ≡ p
first_later n None p true h = refl
first_later n (Some c) p true h = absurd cc
first_later n o p false h = refl

first_taken : (later : List (List ℕ) → Option (List ℕ)) (list : List (List ℕ)) (before alternatives : List (List (List ℕ))) (n : ℕ) → length before ≡ n
    → first_from later list n alternatives ≡ taken later list (before ++ alternatives) (position_from (goes_on later list) n alternatives)
first_taken later list before [] n is = refl
first_taken later list before (ds ∷ alternatives) n is =
    let o = later (drop (length ds) list) in
    let all = before ++ ds ∷ alternatives in
    elim (cases_Bool (goes_on later list ds)) [
      | inl goes ↦
          first_here later list n ds o (first_from later list (n + 1) alternatives) (begins ds list) refl goes
          ∙ ap (λ (es : List (List ℕ)). option_map (λ c. n ∷ c) (later (drop (length es) list))) (sym (at_place before ds alternatives n is))
          ∙ ap (λ b. taken later list all (cond b (Some n) (position_from (goes_on later list) (n + 1) alternatives))) (sym goes)
      | inr stops ↦
          first_later n o (first_from later list (n + 1) alternatives) (begins ds list) stops
          ∙ first_taken later list (before ++ ds ∷ []) alternatives (n + 1) (length_push before ds ∙ ap (λ k. k + 1) is)
          ∙ ap (λ (xs : List (List (List ℕ))). taken later list xs (position_from (goes_on later list) (n + 1) alternatives)) (append_assoc before (ds ∷ []) alternatives)
          ∙ ap (λ b. taken later list all (cond b (Some n) (position_from (goes_on later list) (n + 1) alternatives))) (sym stops)
    ]
  where
    at_place : (before : List (List (List ℕ))) (ds : List (List ℕ)) (after : List (List (List ℕ))) (n : ℕ) → length before ≡ n → get_or (before ++ ds ∷ after) n [] ≡ ds
    at_place [] ds after n is = ap (λ k. get_or (ds ∷ after) k []) (sym is)
    at_place (b ∷ before) ds after n is = ap (λ k. get_or (b ∷ (before ++ ds ∷ after)) k []) (sym is) ∙ at_place before ds after (length before) refl

pub first_by_position : (later : List (List ℕ) → Option (List ℕ)) (list : List (List ℕ)) (alternatives : List (List (List ℕ))) → first_from later list 0 alternatives ≡ taken later list alternatives (position_from (goes_on later list) 0 alternatives)
first_by_position later list alternatives = first_taken later list [] alternatives 0 refl

-- ---- the places of a list from which some choice explains the rest

begins_fits : (ds list : List (List ℕ)) → begins ds list ≡ true → length ds ≤ length list
begins_fits [] list h = omega arith
begins_fits (d ∷ ds) [] h = absurd cc
begins_fits (d ∷ ds) (x ∷ list) h = let more = begins_fits ds list (and_parts (bytes_eq d x) (begins ds list) h).1 in omega (arith, more)

-- more digests than the list has aren't its beginning
pub begins_not : (ds list : List (List ℕ)) → length list < length ds → begins ds list ≡ false
begins_not ds list longer =
    elim (cases_Bool (begins ds list)) [
      | inl b ↦ absurd (omega (arith, begins_fits ds list b))
      | inr b ↦ b
    ]

under : (a b c : Bool) → (a ≡ true → b ≡ c) → (a && b) ≡ (a && c)
under true b c h = h refl
under false b c h = refl

pub leads_is : (steps : List (List (List (List ℕ)))) (list : List (List ℕ)) (noted : List Bool) (p : ℕ) → p ≤ length list → Noted steps list noted → (ds : List (List ℕ))
    → leads_on (drop p list) (drop p noted) ds ≡ goes_on (first_choice steps) (drop p list) ds
leads_is steps list noted p within n ds =
    under (begins ds (drop p list)) (get_or (drop p noted) (length ds) false) (is_some (first_choice steps (drop (length ds) (drop p list)))) (λ b.
    let fits : length ds ≤ length (drop p list) = begins_fits ds (drop p list) b in
    let len : length (drop p list) ≡ length list - p = length-drop p list in
    get_or-drop p noted (length ds) false ∙ n.noted_at (p + length ds) (omega arith) ∙ ap (λ (l : List (List ℕ)). is_some (first_choice steps l)) (sym (drop-drop (length ds) p list)))

pub leads_fits : (list : List (List ℕ)) (noted : List Bool) (ds : List (List ℕ)) → leads_on list noted ds ≡ true → length ds ≤ length list
leads_fits list noted ds h = begins_fits ds list (and_parts (begins ds list) (get_or noted (length ds) false) h).0

-- ---- the ends of the walk

-- at the end of the list its end alone leads to the end
pub end_noted : (list : List (List ℕ)) (noted : List Bool) → noted ≡ replicate (length list) false ++ true ∷ [] → Noted [] list noted
end_noted list noted is = record {
  count = ap length is ∙ length-append (replicate (length list) false) (true ∷ []) ∙ ap (λ n. n + 1) (length-replicate (length list) false);
  noted_at = λ p within. ap (λ (bs : List Bool). get_or bs p false) is ∙ end_at list p within;
}
  where
    end_at : (list : List (List ℕ)) (p : ℕ) → p ≤ length list → get_or (replicate (length list) false ++ true ∷ []) p false ≡ is_some (first_choice [] (drop p list))
    end_at [] zero within = refl
    end_at [] (suc p) within = absurd (omega arith)
    end_at (d ∷ list) zero within = refl
    end_at (d ∷ list) (suc p) within = end_at list p (omega arith)

-- one step more, from the last one back
pub noted_back : (alternatives : List (List (List ℕ))) (more : List (List (List (List ℕ)))) (list : List (List ℕ)) (noted before : List Bool) → Noted more list noted → LeadBack alternatives list noted before → Noted (alternatives ∷ more) list before
noted_back alternatives more list noted before n b = record {
  count = b.count ∙ n.count;
  noted_at = λ p within.
      b.leads_at p (omega (arith, n.count))
      ∙ ap (λ (o : Option ℕ). is_some o) (position-same (leads_on (drop p list) (drop p noted)) (goes_on (first_choice more) (drop p list)) (leads_is more list noted p within n) 0 alternatives)
      ∙ sym (is_taken (first_choice more) (drop p list) alternatives (position_from (goes_on (first_choice more) (drop p list)) 0 alternatives) refl)
      ∙ ap (λ (o : Option (List ℕ)). is_some o) (sym (first_by_position (first_choice more) (drop p list) alternatives));
}
  where
    is_mapped : (v : ℕ) (o : Option (List ℕ)) → is_some o ≡ true → is_some (option_map (λ (c : List ℕ). v ∷ c) o) ≡ true
    is_mapped v None h = absurd cc
    is_mapped v (Some c) h = refl

    is_taken : (later : List (List ℕ) → Option (List ℕ)) (list : List (List ℕ)) (alternatives : List (List (List ℕ))) (o : Option ℕ) → position_from (goes_on later list) 0 alternatives ≡ o → is_some (taken later list alternatives o) ≡ is_some o
    is_taken later list alternatives None is = refl
    is_taken later list alternatives (Some v) is =
        let h = position_passes (goes_on later list) alternatives v [] is in
        let ds = get_or alternatives v [] in
        is_mapped v (later (drop (length ds) list)) (and_parts (begins ds list) (is_some (later (drop (length ds) list))) h.1).1

pub more_noted : (steps : List (List (List (List ℕ)))) (list : List (List ℕ)) (n : ℕ) (sets : List (List Bool)) (alternatives : List (List (List ℕ))) (noted before : List Bool) → n < length steps
    → alternatives ≡ get_or steps (length steps - 1 - n) alternatives → noted ≡ get_or sets n noted → AllNoted steps list n sets → LeadBack alternatives list noted before → AllNoted steps list (n + 1) (sets ++ before ∷ [])
more_noted steps list n sets alternatives noted before lt here last all back =
    let there : n < length sets = omega (arith, all.count) in
    let noted_is : noted ≡ get_or sets n [] = last ∙ get_or_default sets n noted [] there in
    let at : length steps - 1 - n < length steps = omega arith in
    let k : length steps - (n + 1) ≡ length steps - 1 - n = omega arith in
    let up : length steps - 1 - n + 1 ≡ length steps - n = omega arith in
    let cut : drop (length steps - (n + 1)) steps ≡ alternatives ∷ drop (length steps - n) steps =
    ap (λ m. drop m steps) k ∙ drop_more steps (length steps - 1 - n) alternatives at ∙ ap (λ (a : List (List (List ℕ))). a ∷ drop (length steps - 1 - n + 1) steps) (sym here) ∙ ap (λ m. alternatives ∷ drop m steps) up in
    let was : Noted (drop (length steps - n) steps) list noted = subst (λ (bs : List Bool). Noted (drop (length steps - n) steps) list bs) (sym noted_is) (all.noted_for n (omega arith)) in
    let now : Noted (drop (length steps - (n + 1)) steps) list before = subst (λ (s : List (List (List (List ℕ)))). Noted s list before) (sym cut) (noted_back alternatives (drop (length steps - n) steps) list noted before was back) in
    record {
      count = length_push sets before ∙ ap (λ m. m + 1) all.count;
      noted_for = λ j within. elim (cases_lt j (n + 1)) [
        | inl below ↦ subst (λ (bs : List Bool). Noted (drop (length steps - j) steps) list bs) (sym (get_or_append_left sets (before ∷ []) [] j (omega (arith, all.count)))) (all.noted_for j (omega arith))
        | inr above ↦
            let same : j ≡ n + 1 = omega arith in
            let last : get_or (sets ++ before ∷ []) (n + 1) [] ≡ before = get_or_push sets before [] (n + 1) all.count in
            subst (λ (m : ℕ). Noted (drop (length steps - m) steps) list (get_or (sets ++ before ∷ []) m [])) (sym same) (subst (λ (bs : List Bool). Noted (drop (length steps - (n + 1)) steps) list bs) (sym last) now)
      ];
    }

-- ---- the walk

-- what is left, where a component's turn has come
pub record Turn (steps : List (List (List (List ℕ)))) (list : List (List ℕ)) (i place : ℕ) (choice : List ℕ) : Type 0 where
  pub within : place ≤ length list
  pub whole : option_map (λ more. choice ++ more) (first_choice (drop i steps) (drop place list)) ≡ first_choice steps list

-- at a component's turn its first alternative that leads on is taken
turn_is : (steps : List (List (List (List ℕ)))) (list : List (List ℕ)) (i place : ℕ) (alternatives : List (List (List ℕ))) (noted : List Bool) → i < length steps → place ≤ length list
    → alternatives ≡ get_or steps i alternatives → Noted (drop (i + 1) steps) list noted
    → first_choice (drop i steps) (drop place list) ≡ taken (first_choice (drop (i + 1) steps)) (drop place list) alternatives (position_from (leads_on (drop place list) (drop place noted)) 0 alternatives)
turn_is steps list i place alternatives noted lt within here n =
    let more = drop (i + 1) steps in
    ap (λ (s : List (List (List (List ℕ)))). first_choice s (drop place list)) (drop_more steps i alternatives lt ∙ ap (λ (a : List (List (List ℕ))). a ∷ more) (sym here))
    ∙ first_by_position (first_choice more) (drop place list) alternatives
    ∙ ap (taken (first_choice more) (drop place list) alternatives) (sym (position-same (leads_on (drop place list) (drop place noted)) (goes_on (first_choice more) (drop place list)) (leads_is more list noted place within n) 0 alternatives))

pub turn_none : (steps : List (List (List (List ℕ)))) (list : List (List ℕ)) (i place : ℕ) (choice : List ℕ) (alternatives : List (List (List ℕ))) (noted : List Bool) → i < length steps → Turn steps list i place choice
    → alternatives ≡ get_or steps i alternatives → Noted (drop (i + 1) steps) list noted → None ≡ position_from (leads_on (drop place list) (drop place noted)) 0 alternatives → None ≡ first_choice steps list
turn_none steps list i place choice alternatives noted lt turn here n none =
    ap (λ (o : Option ℕ). option_map (λ more. choice ++ more) (taken (first_choice (drop (i + 1) steps)) (drop place list) alternatives o)) none
    ∙ ap (option_map (λ (more : List ℕ). choice ++ more)) (sym (turn_is steps list i place alternatives noted lt turn.within here n)) ∙ turn.whole

pub turn_next : (steps : List (List (List (List ℕ)))) (list : List (List ℕ)) (i place : ℕ) (choice : List ℕ) (alternatives : List (List (List ℕ))) (noted : List Bool) (v : ℕ) (ds : List (List ℕ)) → i < length steps → Turn steps list i place choice
    → alternatives ≡ get_or steps i alternatives → Noted (drop (i + 1) steps) list noted → Some v ≡ position_from (leads_on (drop place list) (drop place noted)) 0 alternatives → ds ≡ get_or alternatives v ds
    → Turn steps list (i + 1) (place + length ds) (choice ++ v ∷ [])
turn_next steps list i place choice alternatives noted v ds lt turn here n some is =
    let more = drop (i + 1) steps in
    let h = position_passes (leads_on (drop place list) (drop place noted)) alternatives v ds (sym some) in
    let ds_is : get_or alternatives v ds ≡ ds = sym is in
    let leads : leads_on (drop place list) (drop place noted) ds ≡ true = subst (λ (es : List (List ℕ)). leads_on (drop place list) (drop place noted) es ≡ true) ds_is h.1 in
    let fits = leads_fits (drop place list) (drop place noted) ds leads in
    let taken_is : get_or alternatives v [] ≡ ds = get_or_default alternatives v [] ds h.0 ∙ ds_is in
    let now : first_choice (drop i steps) (drop place list) ≡ option_map (λ c. v ∷ c) (first_choice more (drop (place + length ds) list)) =
    turn_is steps list i place alternatives noted lt turn.within here n ∙ ap (taken (first_choice more) (drop place list) alternatives) (sym some)
    ∙ ap (λ (es : List (List ℕ)). option_map (λ c. v ∷ c) (first_choice more (drop (length es) (drop place list)))) taken_is ∙ ap (λ (l : List (List ℕ)). option_map (λ c. v ∷ c) (first_choice more l)) (drop-drop (length ds) place list) in
    record {
      within = omega (arith, fits, length-drop place list, turn.within);
      whole = joins choice v (first_choice more (drop (place + length ds) list)) ∙ ap (option_map (λ (more : List ℕ). choice ++ more)) (sym now) ∙ turn.whole;
    }
  where
    joins : (choice : List ℕ) (v : ℕ) (o : Option (List ℕ)) → option_map (λ more. (choice ++ v ∷ []) ++ more) o ≡ option_map (λ more. choice ++ more) (option_map (λ c. v ∷ c) o)
    joins choice v None = refl
    joins choice v (Some c) = ap Some (append_assoc choice (v ∷ []) c)

pub turn_left : (steps : List (List (List (List ℕ)))) (list : List (List ℕ)) (i place : ℕ) (choice : List ℕ) → length steps ≤ i → place < length list → Turn steps list i place choice → None ≡ first_choice steps list
turn_left steps list i place choice le lt turn =
    ap (option_map (λ (more : List ℕ). choice ++ more)) (sym (not_empty list place lt) ∙ ap (λ (s : List (List (List (List ℕ)))). first_choice s (drop place list)) (sym (drop_all i steps le))) ∙ turn.whole
  where
    not_empty : (list : List (List ℕ)) (place : ℕ) → place < length list → first_choice [] (drop place list) ≡ None
    not_empty [] place lt = absurd (omega arith)
    not_empty (d ∷ list) zero lt = refl
    not_empty (d ∷ list) (suc place) lt = not_empty list place (omega arith)

pub turn_done : (steps : List (List (List (List ℕ)))) (list : List (List ℕ)) (i place : ℕ) (choice : List ℕ) → length steps ≤ i → length list ≤ place → Turn steps list i place choice → Some choice ≡ first_choice steps list
turn_done steps list i place choice le lt turn =
    ap Some (sym (append-nil choice))
    ∙ ap (option_map (λ (more : List ℕ). choice ++ more)) (ap (λ (l : List (List ℕ)). first_choice [] l) (sym (drop_all place list lt)) ∙ ap (λ (s : List (List (List (List ℕ)))). first_choice s (drop place list)) (sym (drop_all i steps le))) ∙ turn.whole

-- the places noted for the steps behind the one whose turn has come
pub noted_at_turn : (steps : List (List (List (List ℕ)))) (list : List (List ℕ)) (sets : List (List Bool)) (i : ℕ) (noted : List Bool) → i < length steps → AllNoted steps list (length steps) sets → noted ≡ get_or sets (length steps - 1 - i) noted → Noted (drop (i + 1) steps) list noted
noted_at_turn steps list sets i noted lt all here =
    let k = length steps - 1 - i in
    let there : k < length sets = omega (arith, all.count) in
    let back : length steps - k ≡ i + 1 = omega arith in
    subst (λ (m : ℕ). Noted (drop m steps) list noted) back (subst (λ (bs : List Bool). Noted (drop (length steps - k) steps) list bs) (sym (here ∙ get_or_default sets k noted [] there)) (all.noted_for k (omega arith)))
