-- What is foreseen is what the states of boots measure.
use Rattle.std.proofs.Common.{◌≡◌, ℕ, List, [], Option, Some, None, Ok, sym, subst, inl, inr}
use Rattle.std.specs.List.{Contains, flat_map}
use Rattle.std.specs.Str.{bytes_eq}
use Rattle.record_match.specs.Choices.{choices}
use Rattle.record_match.specs.Extends.{variants_of}
use Rattle.record_match.specs.Lacking.{lacking_of}
use Rattle.predictor.specs.Cuts.{cuts_between}
use Rattle.predictor.specs.Foreseen.{first_cut, last_cut, foreseen, over_cuts, too_many_at}
use Rattle.predictor.specs.States.{values_after}
use Rattle.predictor.proofs.Repeats.{bytes_tell}
use Rattle.predict_proof.proofs.Members.{mapped_in, mapped_from, joined_in, joined_from, distinct_in}
use Rattle.predictor.specs.Foreseen.{foreseen_unless}
use Rattle.record_match.specs.declared.lacking.RecordPlace.{RecordPlace}
use Rattle.forecasts.specs.Forecast.{Forecast, inside, before_cut, measured_by, IsBootState}
use Rattle.forecasts.proofs.Found.{nothing_in, put_all_from}

pub given_list : {A : Type 0} (lacking : Option RecordPlace) (many : Option ℕ) (list values : List A) → foreseen_unless lacking many list ≡ Ok values → list ≡ values
given_list (Some at) many list values e = absurd cc
given_list None (Some k) list values e = absurd cc
given_list None None list values e = cc

module _ (f : Forecast) (p : ℕ) where
  abbrev reach : ℕ → List (List ℕ)
  reach k = values_after f.bank f.locality p (before_cut f k)

  abbrev cuts : List ℕ
  cuts = cuts_between (first_cut f.window f.components) (last_cut f.window f.components)

  is_over : (list : List (List ℕ)) → foreseen f.bank f.locality p f.window f.components ≡ Ok list → over_cuts bytes_eq reach cuts ≡ list
  unfolding foreseen
  is_over list e =
      given_list (lacking_of f.bank p (inside f)) (too_many_at bytes_eq reach (first_cut f.window f.components) (last_cut f.window f.components)) (over_cuts bytes_eq reach cuts) list e

  pub value_from : (list : List (List ℕ)) (value : List ℕ) → foreseen f.bank f.locality p f.window f.components ≡ Ok list → Contains list value
      → (k : ℕ) × (c : List ℕ) × IsBootState f k c × (measured_by f k c p ≡ value)
  value_from list value e h =
      let over : Contains (over_cuts bytes_eq reach cuts) value = subst (λ (l : List (List ℕ)). Contains l value) (sym (is_over list e)) h in
      let some : Contains (flat_map reach cuts) value = elim (put_all_from bytes_eq [] (flat_map reach cuts) value over) [ inl none ↦ absurd (nothing_in value none) | inr there ↦ there ] in
      let cut = joined_from reach cuts value some in
      let choice = mapped_from (λ c. measured_by f cut.0 c p) (choices (variants_of (before_cut f cut.0))) value cut.2 in
      (cut.0, choice.0, record { in_window = cut.1; chosen = choice.1 }, choice.2)

  pub value_in : (list : List (List ℕ)) (k : ℕ) (c : List ℕ) → foreseen f.bank f.locality p f.window f.components ≡ Ok list → IsBootState f k c → Contains list (measured_by f k c p)
  value_in list k c e state =
      subst (λ (l : List (List ℕ)). Contains l (measured_by f k c p)) (is_over list e)
      (distinct_in bytes_eq bytes_tell (flat_map reach cuts) (measured_by f k c p)
      (joined_in reach cuts k (measured_by f k c p) state.in_window
      (mapped_in (λ c. measured_by f k c p) (choices (variants_of (before_cut f k))) c state.chosen)))
