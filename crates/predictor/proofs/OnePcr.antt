-- The values of one PCR, as states of it alone.
use Rattle.std.proofs.Common.{◌≡◌, ℕ, ◌+◌, Bool, true, false, ◌&&◌, ◌||◌, ltb, List, [], ◌∷◌, ◌++◌, length, map, Option, Some, None, Ok, refl, sym, ap, ◌∙◌}
use Rattle.std.specs.List.{flat_map, range_with_len}
use Rattle.std.specs.Str.{bytes_eq}
use Rattle.std.specs.Result.{result_map_both}
use Rattle.std.proofs.lemmas.List.{length-map}
use Rattle.hash_bank.specs.declared.bank.Bank.{Bank}
use Rattle.component_tree.specs.PlainTree.{PlainComponent}
use Rattle.policy_digest.specs.Levels.{first_of}
use Rattle.policy_digest.specs.Table.{values_eq}
use Rattle.record_match.specs.Choices.{choices}
use Rattle.record_match.specs.Extends.{variants_of, reached_by}
use Rattle.record_match.proofs.Searches.{find-same}
use Rattle.predictor.specs.declared.error.ForeseeError.{ForeseeError}
use Rattle.predictor.specs.declared.error.ForeseeError.TheVariants as errors
use Rattle.predictor.specs.Cuts.{cuts_between}
use Rattle.predictor.specs.Distinct.{distinct}
use Rattle.predictor.specs.States.{values_after, states_after}
use Rattle.predictor.specs.Foreseen.{value_limit, over_cuts, has_too_many, too_many_at, foreseen_by, foreseen_unless, Refuses}
use Rattle.predictor.proofs.Repeats.{put_viewed}
use Rattle.predictor.proofs.Growth.{map-map}

abbrev State : Type 0
State = List (List ℕ)

abbrev pub alone : List ℕ → List (List ℕ)
alone v = v ∷ []

and_true : (b : Bool) → (b && true) ≡ b
and_true true = refl
and_true false = refl

pub alone_same : (a b : List ℕ) → values_eq (alone a) (alone b) ≡ bytes_eq a b
alone_same a b = and_true (bytes_eq a b)

pub states_alone : (bank : Bank) (locality pcr : ℕ) (components : List PlainComponent) → states_after bank locality (pcr ∷ []) components ≡ map alone (values_after bank locality pcr components)
states_alone bank locality pcr components = sym (map-map (λ c. reached_by bank pcr locality components c) alone (choices (variants_of components)))

distinct_alone : (xs : List (List ℕ)) → distinct values_eq (map alone xs) ≡ map alone (distinct bytes_eq xs)
distinct_alone xs = put_viewed bytes_eq values_eq alone alone_same [] xs

map_joined : (xs ys : List (List ℕ)) → map alone (xs ++ ys) ≡ map alone xs ++ map alone ys
map_joined [] ys = refl
map_joined (x ∷ xs) ys = ap (λ (l : List State). alone x ∷ l) (map_joined xs ys)

all_alone : (reach : ℕ → List (List ℕ)) (states : ℕ → List State) → ((k : ℕ) → states k ≡ map alone (reach k)) → (cuts : List ℕ) → flat_map states cuts ≡ map alone (flat_map reach cuts)
all_alone reach states is [] = refl
all_alone reach states is (k ∷ cuts) = ap (λ (l : List State). l ++ flat_map states cuts) (is k) ∙ ap (λ (l : List State). map alone (reach k) ++ l) (all_alone reach states is cuts) ∙ sym (map_joined (reach k) (flat_map reach cuts))

over_alone : (reach : ℕ → List (List ℕ)) (states : ℕ → List State) → ((k : ℕ) → states k ≡ map alone (reach k)) → (cuts : List ℕ) → over_cuts values_eq states cuts ≡ map alone (over_cuts bytes_eq reach cuts)
over_alone reach states is cuts = ap (distinct values_eq) (all_alone reach states is cuts) ∙ distinct_alone (flat_map reach cuts)

many_alone : (reach : ℕ → List (List ℕ)) (states : ℕ → List (List (List ℕ))) → ((k : ℕ) → states k ≡ map alone (reach k)) → (first k : ℕ) → has_too_many values_eq states first k ≡ has_too_many bytes_eq reach first k
many_alone reach states is first k =
    let a : length (distinct values_eq (states k)) ≡ length (distinct bytes_eq (reach k)) = ap length (ap (distinct values_eq) (is k) ∙ distinct_alone (reach k)) ∙ length-map (distinct bytes_eq (reach k)) alone in
    let b : length (over_cuts values_eq states (cuts_between first k)) ≡ length (over_cuts bytes_eq reach (cuts_between first k)) = ap length (over_alone reach states is (cuts_between first k)) ∙ length-map (over_cuts bytes_eq reach (cuts_between first k)) alone in
    ap (λ n. ltb value_limit n || ltb value_limit (length (over_cuts values_eq states (cuts_between first k)))) a ∙ ap (λ n. ltb value_limit (length (distinct bytes_eq (reach k))) || ltb value_limit n) b

firsts_alone : (xs : List (List ℕ)) → map first_of (map alone xs) ≡ xs
firsts_alone [] = refl
firsts_alone (x ∷ xs) = ap (λ (l : List (List ℕ)). x ∷ l) (firsts_alone xs)

-- what is foreseen of the states, is foreseen of the values
firsts : (o : Option ℕ) (list : List State) → result_map_both (map first_of) (λ (e : ForeseeError). e) (foreseen_unless None o list) ≡ foreseen_unless None o (map first_of list)
firsts None list = refl
firsts (Some k) list = refl

foreseen_alone : (reach : ℕ → List (List ℕ)) (states : ℕ → List State) → ((k : ℕ) → states k ≡ map alone (reach k)) → (first last : ℕ)
    → result_map_both (map first_of) (λ (e : ForeseeError). e) (foreseen_by values_eq states first last None) ≡ foreseen_by bytes_eq reach first last None
foreseen_alone reach states is first last =
    firsts (too_many_at values_eq states first last) (over_cuts values_eq states (cuts_between first last))
    ∙ ap (λ (o : Option ℕ). foreseen_unless None o (map first_of (over_cuts values_eq states (cuts_between first last)))) (find-same (has_too_many values_eq states first) (has_too_many bytes_eq reach first) (many_alone reach states is first) (range_with_len 0 (last + 1)))
    ∙ ap (foreseen_unless None (too_many_at bytes_eq reach first last)) (ap (map first_of) (over_alone reach states is (cuts_between first last)) ∙ firsts_alone (over_cuts bytes_eq reach (cuts_between first last)))

pub ok_alone : (reach : ℕ → List (List ℕ)) (states : ℕ → List (List (List ℕ))) → ((k : ℕ) → states k ≡ map alone (reach k)) → (first last : ℕ) (list : List (List (List ℕ)))
    → foreseen_by values_eq states first last None ≡ Ok list → foreseen_by bytes_eq reach first last None ≡ Ok (map first_of list)
ok_alone reach states is first last list h = sym (foreseen_alone reach states is first last) ∙ ap (result_map_both (map first_of) (λ (e : ForeseeError). e)) h

pub err_alone : (reach : ℕ → List (List ℕ)) (states : ℕ → List (List (List ℕ))) → ((k : ℕ) → states k ≡ map alone (reach k)) → (first last : ℕ) (e : ForeseeError)
    → Refuses e (foreseen_by values_eq states first last None) → Refuses e (foreseen_by bytes_eq reach first last None)
err_alone reach states is first last (errors.NoDigest i v n) h = sym (foreseen_alone reach states is first last) ∙ ap (result_map_both (map first_of) (λ (e : ForeseeError). e)) h
err_alone reach states is first last (errors.TooMany k) h = sym (foreseen_alone reach states is first last) ∙ ap (result_map_both (map first_of) (λ (e : ForeseeError). e)) h
err_alone reach states is first last errors.Memory h = tt
