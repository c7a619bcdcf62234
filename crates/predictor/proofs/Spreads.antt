-- What is kept of states, cut after cut.
use Rattle.std.proofs.Common.{◌≡◌, ℕ, suc, ◌+◌, ◌-◌, ◌<◌, ◌≤◌, Bool, true, false, cond, ltb, leb, eqb, List, [], ◌∷◌, length, get_or, take, map, Option, Some, None, Result, Ok, Err, refl, sym, ap, ◌∙◌, subst, arith}
use Rattle.std.specs.Prelude.{find}
use Rattle.std.specs.List.{flat_map, range_with_len}
use Rattle.std.specs.Option.{option_or}
use Rattle.std.proofs.lemmas.Bool.{or_left, or_right, or_from, lt-ltb, le-ltb}
use Rattle.std.proofs.lemmas.List.{length-map}
use Rattle.hash_bank.specs.Extending.{start_of}
use Rattle.hash_bank.specs.declared.bank.Bank.{Bank}
use Rattle.component_tree.specs.declared.tree.Component.{Component}
use Rattle.component_tree.specs.PlainTree.{plain, plain_variant}
use Rattle.policy_digest.specs.Table.{values_eq}
use Rattle.record_match.specs.Choices.{choices}
use Rattle.record_match.specs.Extends.{variants_of}
use Rattle.record_match.proofs.Searches.{find-append}
use Rattle.predictor.specs.declared.error.ForeseeError.{ForeseeError}
use Rattle.predictor.specs.declared.error.ForeseeError.TheVariants as errors
use Rattle.predictor.specs.Cuts.{cuts_between}
use Rattle.predictor.specs.Distinct.{put_all, distinct}
use Rattle.predictor.specs.States.{states_after}
use Rattle.predictor.specs.Foreseen.{value_limit, over_cuts, has_too_many, foreseen_by, foreseen_unless, Refuses}
use Rattle.predictor.proofs.Growth.{map-map, map-flat_map, flat_map-same, reached_grown}
use Rattle.predictor.proofs.Repeats.{values_tell}
use Rattle.predictor.specs.declared.reached.Reached.{Reached}
use Rattle.predictor.specs.declared.spreading.Stop.{Stop}
use Rattle.predictor.specs.declared.spreading.Stop.TheVariants as stops
use Rattle.predictor.specs.Reaching.{reached_with, reached_at, same_values, values_in}
use Rattle.predictor.specs.Spread.{extended_state, nexts_from, next_states, Puts, Collects, stopped_at}
use Rattle.predictor.proofs.Firsts.{firsts_early, view_put}
use Rattle.predictor.proofs.OverCuts.{range_split, over_more, over_none, cut_put}
use Rattle.predictor.proofs.Puttings.{nexts_values}

-- the states after k components, without and with what leads to them
abbrev pub states_at : Bank → ℕ → List ℕ → List Component → ℕ → List (List (List ℕ))
states_at bank locality pcrs components k = states_after bank locality pcrs (take k (plain components))

abbrev pub reached_after : Bank → ℕ → List ℕ → List Component → ℕ → List Reached
reached_after bank locality pcrs components k = reached_at bank locality pcrs k (take k (plain components))

-- what holds after i components
pub record Spreading (bank : Bank) (locality : ℕ) (pcrs : List ℕ) (components : List Component) (first i : ℕ) (states reached : List Reached) : Type 0 where
  pub states_are : states ≡ distinct same_values (reached_after bank locality pcrs components i)
  pub reached_are : reached ≡ over_cuts same_values (reached_after bank locality pcrs components) (cuts_between first i)
  pub few_reached : length reached ≤ value_limit
  pub none : find (has_too_many values_eq (states_at bank locality pcrs components) first) (range_with_len 0 (i + 1)) ≡ None

-- ---- the first number that passes

-- too many states, or too many over the cuts
too_many_states : (reach : ℕ → List (List (List ℕ))) (first k : ℕ) → value_limit < length (distinct values_eq (reach k)) → has_too_many values_eq reach first k ≡ true
too_many_states reach first k lt = or_left (ltb value_limit (length (distinct values_eq (reach k)))) (ltb value_limit (length (over_cuts values_eq reach (cuts_between first k)))) (lt-ltb value_limit (length (distinct values_eq (reach k))) lt)

too_many_reached : (reach : ℕ → List (List (List ℕ))) (first k : ℕ) → value_limit < length (over_cuts values_eq reach (cuts_between first k)) → has_too_many values_eq reach first k ≡ true
too_many_reached reach first k lt = or_right (ltb value_limit (length (distinct values_eq (reach k)))) (ltb value_limit (length (over_cuts values_eq reach (cuts_between first k)))) (lt-ltb value_limit (length (over_cuts values_eq reach (cuts_between first k))) lt)

first_many : (p : ℕ → Bool) (i n : ℕ) → i < n → find p (range_with_len 0 i) ≡ None → p i ≡ true → find p (range_with_len 0 n) ≡ Some i
first_many p i n lt none here =
    let m : n ≡ i + suc (n - i - 1) = omega arith in
    let z : 0 + i ≡ i = omega arith in
    ap (λ k. find p (range_with_len 0 k)) m
    ∙ ap (find p) (range_split 0 i (suc (n - i - 1)))
    ∙ find-append p (range_with_len 0 i) (range_with_len (0 + i) (suc (n - i - 1)))
    ∙ ap (λ (o : Option ℕ). option_or o (find p (range_with_len (0 + i) (suc (n - i - 1))))) none
    ∙ ap (λ k. find p (range_with_len k (suc (n - i - 1)))) z
    ∙ ap (λ b. cond b (Some i) (find p (range_with_len (i + 1) (n - i - 1)))) here

none_more : (p : ℕ → Bool) (i : ℕ) → find p (range_with_len 0 (i + 1)) ≡ None → p (i + 1) ≡ false → find p (range_with_len 0 (i + 1 + 1)) ≡ None
none_more p i none here =
    let z : 0 + (i + 1) ≡ i + 1 = omega arith in
    ap (find p) (range_split 0 (i + 1) 1) ∙ find-append p (range_with_len 0 (i + 1)) (range_with_len (0 + (i + 1)) 1)
    ∙ ap (λ (o : Option ℕ). option_or o (find p (range_with_len (0 + (i + 1)) 1))) none
    ∙ ap (λ k. find p (range_with_len k 1)) z ∙ ap (λ b. cond b (Some (i + 1)) None) here

module _ (bank : Bank) (locality : ℕ) (pcrs : List ℕ) (components : List Component) (first : ℕ) where
  abbrev states_k : ℕ → List (List (List ℕ))
  states_k = states_at bank locality pcrs components

  abbrev reached_k : ℕ → List Reached
  reached_k = reached_after bank locality pcrs components

  abbrev start : Reached
  start = record { cut = 0; choice = []; values = map (λ p. start_of bank p locality) pcrs }

  abbrev spread_to : ℕ → List Reached → List Reached → Type 0
  spread_to i states reached = Spreading bank locality pcrs components first i states reached

  abbrev all_states : ℕ → Result (List (List (List ℕ))) ForeseeError
  all_states last = foreseen_by values_eq states_k first last None

  -- ---- as many values as states

  values_k : (k : ℕ) → values_in (reached_k k) ≡ states_k k
  values_k k = map-map (reached_with bank locality pcrs k (take k (plain components))) (λ q. q.values) (choices (variants_of (take k (plain components))))

  distinct_values : (xs : List Reached) → values_in (distinct same_values xs) ≡ distinct values_eq (values_in xs)
  distinct_values xs = view_put (λ q. q.values) values_eq [] xs

  over_values : (cuts : List ℕ) → values_in (over_cuts same_values reached_k cuts) ≡ over_cuts values_eq states_k cuts
  over_values cuts =
      distinct_values (flat_map reached_k cuts)
      ∙ ap (distinct values_eq) (map-flat_map reached_k (λ q. q.values) cuts ∙ flat_map-same (λ k. values_in (reached_k k)) states_k values_k cuts)

  count_at : (k : ℕ) → length (distinct values_eq (states_k k)) ≡ length (distinct same_values (reached_k k))
  count_at k = ap (λ xs. length (distinct values_eq xs)) (sym (values_k k)) ∙ ap length (sym (distinct_values (reached_k k))) ∙ length-map (distinct same_values (reached_k k)) (λ q. q.values)

  count_over : (cuts : List ℕ) → length (over_cuts values_eq states_k cuts) ≡ length (over_cuts same_values reached_k cuts)
  count_over cuts = ap length (sym (over_values cuts)) ∙ length-map (over_cuts same_values reached_k cuts) (λ q. q.values)

  few_enough : (k : ℕ) → length (distinct same_values (reached_k k)) ≤ value_limit → length (over_cuts same_values reached_k (cuts_between first k)) ≤ value_limit → has_too_many values_eq states_k first k ≡ false
  few_enough k a b =
      or_from (ltb value_limit (length (distinct values_eq (states_k k)))) (ltb value_limit (length (over_cuts values_eq states_k (cuts_between first k))))
      (le-ltb value_limit (length (distinct values_eq (states_k k))) (omega (arith, a, count_at k)))
      (le-ltb value_limit (length (over_cuts values_eq states_k (cuts_between first k))) (omega (arith, b, count_over (cuts_between first k))))

  too_many : (k last : ℕ) → k ≤ last → find (has_too_many values_eq states_k first) (range_with_len 0 k) ≡ None → has_too_many values_eq states_k first k ≡ true → Refuses (errors.TooMany k) (all_states last)
  too_many k last le none here =
      ap (λ (o : Option ℕ). foreseen_unless None o (over_cuts values_eq states_k (cuts_between first last))) (first_many (has_too_many values_eq states_k first) k (last + 1) (omega arith) none here)

  too_many_over : (k last : ℕ) (new : List Reached) → k ≤ last → find (has_too_many values_eq states_k first) (range_with_len 0 k) ≡ None → new ≡ over_cuts same_values reached_k (cuts_between first k) → value_limit < length new → Refuses (errors.TooMany k) (all_states last)
  too_many_over k last new le none is longer =
      too_many k last le none (too_many_reached states_k first k (omega (arith, longer, ap length is, count_over (cuts_between first k))))

  -- ---- the first cut

  first_put : (states : List Reached) → states ≡ start ∷ [] → put_all same_values [] (cond (eqb first 0) states []) ≡ over_cuts same_values reached_k (cuts_between first 0)
  first_put states are = ap (λ (l : List Reached). put_all same_values [] (cond (eqb first 0) l [])) are ∙ sym (over_none same_values reached_k first)

  pub first_stops : (last : ℕ) (stop : Stop) (states new : List Reached) → states ≡ start ∷ [] → Puts {A = Unit {0}} (Err stop) [] new (cond (eqb first 0) states []) → Refuses (stopped_at 0 stop) (all_states last)
  first_stops last stops.Full states new are puts = too_many_over 0 last (put_all same_values [] (cond (eqb first 0) states [])) (omega arith) refl (first_put states are) puts
  first_stops last stops.Memory states new are puts = tt

  -- ---- one component more

  module _ (i : ℕ) (c : Component) (lt : i < length components) (is : c ≡ get_or components i c) (states reached : List Reached) (s : spread_to i states reached) where
    next_are : distinct same_values (next_states bank pcrs (i + 1) (map plain_variant c.variants) states) ≡ distinct same_values (reached_k (i + 1))
    next_are =
        let nexts : Reached → List Reached = nexts_from bank pcrs (i + 1) 0 (map plain_variant c.variants) in
        ap (λ (l : List Reached). distinct same_values (next_states bank pcrs (i + 1) (map plain_variant c.variants) l)) s.states_are
        ∙ firsts_early (λ q. q.values) values_eq values_tell (λ q. q.values) values_eq values_tell nexts
        (λ x y alike. nexts_values bank pcrs (i + 1) 0 (map plain_variant c.variants) x
        ∙ ap (λ (values : List (List ℕ)). map (λ v. extended_state bank pcrs values v.records) (map plain_variant c.variants)) alike
        ∙ sym (nexts_values bank pcrs (i + 1) 0 (map plain_variant c.variants) y)) (reached_k i)
        ∙ ap (distinct same_values) (sym (reached_grown bank locality pcrs components i c lt is))

    next_put : (next : List Reached) → next ≡ distinct same_values (reached_k (i + 1)) → put_all same_values reached (cond (leb first (i + 1)) next []) ≡ over_cuts same_values reached_k (cuts_between first (i + 1))
    next_put next next_is =
        ap (λ (l : List Reached). put_all same_values reached (cond (leb first (i + 1)) l [])) next_is
        ∙ cut_put (λ q. q.values) values_eq values_tell reached (reached_k (i + 1)) (leb first (i + 1))
        ∙ ap (λ (l : List Reached). put_all same_values l (cond (leb first (i + 1)) (reached_k (i + 1)) [])) s.reached_are
        ∙ sym (over_more same_values reached_k first i)

    pub step_refused : (last : ℕ) (stop : Stop) → i < last → Collects (Err stop) (next_states bank pcrs (i + 1) (map plain_variant c.variants) states) → Refuses (stopped_at (i + 1) stop) (all_states last)
    step_refused last stops.Full below h =
        too_many (i + 1) last (omega arith) s.none (too_many_states states_k first (i + 1) (omega (arith, h, ap length next_are, count_at (i + 1))))
    step_refused last stops.Memory below h = tt

    pub cut_refused : (last : ℕ) (stop : Stop) (next new : List Reached) → i < last → Collects (Ok next) (next_states bank pcrs (i + 1) (map plain_variant c.variants) states)
        → Puts {A = Unit {0}} (Err stop) reached new (cond (leb first (i + 1)) next []) → Refuses (stopped_at (i + 1) stop) (all_states last)
    cut_refused last stops.Full next new below h puts =
        too_many_over (i + 1) last (put_all same_values reached (cond (leb first (i + 1)) next [])) (omega arith) s.none (next_put next (h.0 ∙ next_are)) puts
    cut_refused last stops.Memory next new below h puts = tt

    pub next_spread : (next new : List Reached) → Collects (Ok next) (next_states bank pcrs (i + 1) (map plain_variant c.variants) states)
        → Puts {A = Unit {0}} (Ok tt) reached new (cond (leb first (i + 1)) next []) → spread_to (i + 1) next new
    next_spread next new h puts =
        let next_is : next ≡ distinct same_values (reached_k (i + 1)) = h.0 ∙ next_are in
        let new_is : new ≡ over_cuts same_values reached_k (cuts_between first (i + 1)) = puts.0 ∙ next_put next next_is in
        record {
          states_are = next_is;
          reached_are = new_is;
          few_reached = puts.1;
          none = none_more (has_too_many values_eq states_k first) i s.none (few_enough (i + 1) (subst (λ (l : List Reached). length l ≤ value_limit) next_is h.1) (subst (λ (l : List Reached). length l ≤ value_limit) new_is puts.1));
        }

  -- ---- all components

  pub all_spread : (i last : ℕ) (states reached : List Reached) → i ≡ last → spread_to i states reached → all_states last ≡ Ok (values_in reached)
  all_spread i last states reached all s =
      ap all_states (sym all)
      ∙ ap (λ (o : Option ℕ). foreseen_unless None o (over_cuts values_eq states_k (cuts_between first i))) s.none
      ∙ ap Ok (sym (ap values_in s.reached_are ∙ over_values (cuts_between first i)))
