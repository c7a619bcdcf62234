-- Components that offer the three parts of what was measured into a PCR explain it.
use Rattle.std.proofs.Common.{◌≡◌, ℕ, zero, suc, ◌<◌, Bool, true, cond, ◌&&◌, ◌||◌, List, [], ◌∷◌, ◌++◌, length, map, get_or, Option, Some, None, refl, sym, ap, ap₂, ◌∙◌, subst, inl, inr, eq-eqb, append-nil, arith}
use Rattle.std.specs.Prelude.{find, slice_get, IsOk, is_ok}
use Rattle.std.specs.List.{cons_option, filter_map, flat_map, list_any, range_with_len}
use Rattle.std.specs.Option.{option_map, option_to_list}
use Rattle.std.specs.Str.{bytes_eq}
use Rattle.std.proofs.lemmas.Bool.{cases_Bool, or_left, or_right}
use Rattle.std.proofs.lemmas.List.Elements.{All-head, All-tail}
use Rattle.std.proofs.lemmas.List.Folds.{list_any-append}
use Rattle.std.proofs.lemmas.List.FromFn.{get_or-range_with_len, length-range_with_len}
use Rattle.hash_bank.specs.declared.bank.Bank.{Bank}
use Rattle.cel_record.specs.Listed.{listed_in}
use Rattle.cel_record.specs.Spelled.{Spelled}
use Rattle.component_tree.specs.PlainTree.{PlainVariant, PlainComponent}
use Rattle.pcr_replay.specs.Measured.{all_present}
use Rattle.pcr_replay.specs.Row.{Row}
use Rattle.record_match.specs.Choices.{choices, chosen}
use Rattle.record_match.specs.Extends.{digests_in, variants_of, extends_of}
use Rattle.record_match.specs.Lacking.{lacking_of}
use Rattle.record_match.specs.Subsequence.{digests_eq}
use Rattle.record_match.specs.Recognition.{first_explaining, missing_of, first_case, recognised}
use Rattle.record_match.specs.declared.lacking.RecordPlace.{RecordPlace}
use Rattle.record_match.proofs.Searches.{any_weaker}
use Rattle.component_make.specs.Split.{digests_of_each, of_pcr, first_separator, IsSplit}
use Rattle.component_make.specs.Among.{Offers, MayBeSilent, HoldThree}

-- ---- lists

bytes_same : (xs : List ℕ) → bytes_eq xs xs ≡ true
bytes_same [] = refl
bytes_same (x ∷ xs) = ap₂ (λ a b. a && b) (eq-eqb x x refl) (bytes_same xs)

same_front : (xs ys zs : List (List ℕ)) → digests_eq (xs ++ ys) (xs ++ zs) ≡ digests_eq ys zs
same_front [] ys zs = refl
same_front (x ∷ xs) ys zs = ap₂ (λ a b. a && b) (bytes_same x) (same_front xs ys zs)

any-map : {A B : Type 0} (p : B → Bool) (f : A → B) (xs : List A) → list_any p (map f xs) ≡ list_any (λ x. p (f x)) xs
any-map p f [] = refl
any-map p f (x ∷ xs) = ap (λ b. p (f x) || b) (any-map p f xs)

any_within : {A B : Type 0} (p : B → Bool) (f : A → List B) (xs : List A) (i : ℕ) (d : A) → i < length xs → list_any p (f (get_or xs i d)) ≡ true → list_any p (flat_map f xs) ≡ true
any_within p f [] i d lt h = absurd (omega arith)
any_within p f (x ∷ xs) zero d lt h = list_any-append p (f x) (flat_map f xs) ∙ or_left (list_any p (f x)) (list_any p (flat_map f xs)) h
any_within p f (x ∷ xs) (suc i) d lt h = list_any-append p (f x) (flat_map f xs) ∙ or_right (list_any p (f x)) (list_any p (flat_map f xs)) (any_within p f xs i d (omega arith) h)

get_at : {A : Type 0} (xs : List A) (k : ℕ) (x : A) → k < length xs → get_or xs k x ≡ x → slice_get xs k ≡ Some x
get_at [] k x lt is = absurd (omega arith)
get_at (y ∷ ys) zero x lt is = ap Some is
get_at (y ∷ ys) (suc k) x lt is = get_at ys k x (omega arith) is

record Found {A : Type 0} (p : A → Bool) (xs : List A) : Type 0 where
  first : A
  is_first : find p xs ≡ Some first

found : {A : Type 0} (p : A → Bool) (xs : List A) → list_any p xs ≡ true → Found p xs
found p [] h = absurd cc
found p (x ∷ xs) h =
    elim (cases_Bool (p x)) [
      | inl passes ↦ record { first = x; is_first = ap (λ b. cond b (Some x) (find p xs)) passes }
      | inr fails ↦
          let later = found p xs (sym (ap (λ b. b || list_any p xs) fails) ∙ h) in
          record { first = later.first; is_first = ap (λ b. cond b (Some x) (find p xs)) fails ∙ later.is_first }
    ]

-- ---- digests that are all there

these : (x : List ℕ) (rest : List (List ℕ)) (o : Option (List (List ℕ))) (ds : List (List ℕ)) → ((more : List (List ℕ)) → o ≡ Some more → rest ≡ more) → option_map (λ more. x ∷ more) o ≡ Some ds → x ∷ rest ≡ ds
these x rest None ds later e = absurd cc
these x rest (Some more) ds later e = let is : rest ≡ more = later more refl in cc

with_first : (o : Option (List ℕ)) (os : List (Option (List ℕ))) (rest ds : List (List ℕ)) → ((more : List (List ℕ)) → all_present os ≡ Some more → rest ≡ more) → all_present (o ∷ os) ≡ Some ds → cons_option o rest ≡ ds
with_first None os rest ds later e = absurd cc
with_first (Some x) os rest ds later e = these x rest (all_present os) ds later e

all_there : (bank : Bank) (records : List Spelled) (ds : List (List ℕ)) → digests_of_each bank records ≡ Some ds → filter_map (λ r. listed_in bank r.digests) records ≡ ds
all_there bank [] ds e = cc
all_there bank (r ∷ rs) ds e = with_first (listed_in bank r.digests) (map (λ q. listed_in bank q.digests) rs) (filter_map (λ q. listed_in bank q.digests) rs) ds (λ more is. all_there bank rs more is) e

-- ---- one component more

-- some choice of the components extends the PCR by the list
abbrev Reaches : Bank → ℕ → List PlainComponent → List (List ℕ) → Type 0
Reaches bank pcr components list = list_any (λ choice. digests_eq (extends_of bank pcr components choice) list) (choices (variants_of components)) ≡ true

reach_more : (bank : Bank) (pcr : ℕ) (c : PlainComponent) (components : List PlainComponent) (records : List Spelled) (ds list : List (List ℕ)) → Offers pcr records c → digests_of_each bank records ≡ Some ds
    → Reaches bank pcr components list → Reaches bank pcr (c ∷ components) (ds ++ list)
reach_more bank pcr c components records ds list offers present reaches =
    let v = offers.listed.0 in
    let of_variant : PlainVariant → List (List ℕ) = λ w. digests_in bank pcr w.records in
    let cs = choices (variants_of components) in
    let test : List ℕ → Bool = λ choice. digests_eq (extends_of bank pcr (c ∷ components) choice) (ds ++ list) in
    let at : slice_get c.variants v ≡ Some offers.variant = get_at c.variants v offers.variant offers.listed.1 offers.listed.2 in
    let part : of_variant offers.variant ≡ ds = ap (filter_map (λ r. listed_in bank r.digests)) offers.same ∙ all_there bank records ds present in
    let each : (choice : List ℕ) → test (v ∷ choice) ≡ digests_eq (extends_of bank pcr components choice) list =
    λ choice. ap (λ o. digests_eq (flat_map of_variant (option_to_list o ++ chosen (variants_of components) choice)) (ds ++ list)) at
    ∙ ap (λ x. digests_eq (x ++ extends_of bank pcr components choice) (ds ++ list)) part ∙ same_front ds (extends_of bank pcr components choice) list in
    let own : list_any test (map (λ choice. v ∷ choice) cs) ≡ true =
    any-map test (λ choice. v ∷ choice) cs ∙ any_weaker (λ choice. digests_eq (extends_of bank pcr components choice) list) (λ choice. test (v ∷ choice)) (λ choice e. each choice ∙ e) cs reaches in
    let number : get_or (range_with_len 0 (length c.variants)) v 0 ≡ v = get_or-range_with_len 0 (length c.variants) v 0 offers.listed.1 ∙ omega arith in
    any_within test (λ n. map (λ choice. n ∷ choice) cs) (range_with_len 0 (length c.variants)) v 0 (omega (arith, length-range_with_len 0 (length c.variants), offers.listed.1))
    (subst (λ n. list_any test (map (λ choice. n ∷ choice) cs) ≡ true) (sym number) own)

silent_more : (bank : Bank) (pcr : ℕ) (silent components : List PlainComponent) (list : List (List ℕ)) → MayBeSilent pcr silent → Reaches bank pcr components list → Reaches bank pcr (silent ++ components) list
silent_more bank pcr [] components list h reaches = reaches
silent_more bank pcr (c ∷ silent) components list h reaches =
    reach_more bank pcr c (silent ++ components) [] [] list (All-head (Offers pcr []) c silent h) refl
    (silent_more bank pcr silent components list (All-tail (Offers pcr []) c silent h) reaches)

-- ---- the law

reached : (bank : Bank) (pcr : ℕ) (components : List PlainComponent) (early separator late : List Spelled) (before between behind : List (List ℕ)) → HoldThree pcr early separator late components
    → digests_of_each bank (of_pcr pcr early) ≡ Some before → digests_of_each bank separator ≡ Some between → digests_of_each bank (of_pcr pcr late) ≡ Some behind
    → Reaches bank pcr components (before ++ (between ++ behind))
reached bank pcr components early separator late before between behind h is_before is_between is_behind =
    let last : Reaches bank pcr h.behind [] = subst (λ cs. Reaches bank pcr cs []) (append-nil h.behind) (silent_more bank pcr h.behind [] [] h.behind_silent refl) in
    let third : Reaches bank pcr (h.third ∷ h.behind) behind = subst (Reaches bank pcr (h.third ∷ h.behind)) (append-nil behind) (reach_more bank pcr h.third h.behind (of_pcr pcr late) behind [] h.offers_late is_behind last) in
    let rest = h.further ++ h.third ∷ h.behind in
    let second : Reaches bank pcr (h.second ∷ rest) (between ++ behind) = reach_more bank pcr h.second rest separator between behind h.offers_separator is_between (silent_more bank pcr h.further (h.third ∷ h.behind) behind h.further_silent third) in
    let more = h.between ++ h.second ∷ rest in
    let first : Reaches bank pcr (h.first ∷ more) (before ++ (between ++ behind)) =
    reach_more bank pcr h.first more (of_pcr pcr early) before (between ++ behind) h.offers_early is_before (silent_more bank pcr h.between (h.second ∷ rest) (between ++ behind) h.between_silent second) in
    subst (λ cs. Reaches bank pcr cs (before ++ (between ++ behind))) (sym h.order) (silent_more bank pcr h.ahead (h.first ∷ more) (before ++ (between ++ behind)) h.ahead_silent first)

recognised_by : (bank : Bank) (pcr : ℕ) (components : List PlainComponent) (list : List (List ℕ)) → lacking_of bank pcr components ≡ None → Reaches bank pcr components list → IsOk (recognised bank pcr components list)
unfolding recognised
recognised_by bank pcr components list lacks reaches =
    let first = found (λ c. digests_eq (extends_of bank pcr components c) list) (choices (variants_of components)) reaches in
    ap is_ok
    (ap (λ (o : Option RecordPlace). first_case o (first_explaining bank pcr components list) (missing_of bank pcr components list)) lacks
    ∙ ap (λ (o : Option (List ℕ)). first_case None o (missing_of bank pcr components list)) first.is_first)

pub explained_by : (bank : Bank) (pcr : ℕ) (rows : List Row) (early late : List Spelled) (digests : List (List ℕ)) (components : List PlainComponent) → IsSplit bank pcr rows early late digests → lacking_of bank pcr components ≡ None
    → HoldThree pcr early (first_separator pcr rows) late components → IsOk (recognised bank pcr components digests)
explained_by bank pcr rows early late digests components split lacks three =
    recognised_by bank pcr components digests lacks
    (subst (Reaches bank pcr components) (sym split.joined) (reached bank pcr components early (first_separator pcr rows) late split.before split.between split.behind three split.in_early split.in_separator split.in_late))
