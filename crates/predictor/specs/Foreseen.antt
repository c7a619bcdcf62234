-- What is foreseen over a window: the values of one PCR, and the states of several at once.
use Rattle.std.specs.Prelude.{◌≡◌, ℕ, ◌+◌, Bool, ◌||◌, nat_lt, List, [], ◌∷◌, length, take, find, Option, Some, None, Result, Ok, Err}
use Rattle.std.specs.List.{flat_map, range_with_len}
use Rattle.std.specs.Option.{option_or}
use Rattle.std.specs.Str.{bytes_eq}
use Rattle.hash_bank.specs.declared.bank.Bank.{Bank}
use Rattle.component_tree.specs.PlainTree.{PlainComponent}
use Rattle.policy_digest.specs.Table.{values_eq}
use Rattle.record_match.specs.Lacking.{lacking_of}
use Rattle.record_match.specs.declared.lacking.RecordPlace.{RecordPlace}
use Rattle.predictor.specs.declared.error.ForeseeError.{ForeseeError}
use Rattle.predictor.specs.declared.error.ForeseeError.TheVariants as errors
use Rattle.predictor.specs.declared.window.Window.{Window}
use Rattle.predictor.specs.Cuts.{inside_of, cuts_between}
use Rattle.predictor.specs.Distinct.{distinct}
use Rattle.predictor.specs.States.{values_after, states_after}

-- the most distinct values
abbrev pub value_limit : ℕ
value_limit = 512

-- what is reached over the cuts, in their order, where later repeats are dropped
abbrev pub over_cuts : {A : Type 0} → (A → A → Bool) → (ℕ → List A) → List ℕ → List A
over_cuts same reached cuts = distinct same (flat_map reached cuts)

-- more than the limit are reached after k components, or over the cuts up to k
abbrev pub has_too_many : {A : Type 0} → (A → A → Bool) → (ℕ → List A) → ℕ → ℕ → Bool
has_too_many same reached first k = nat_lt value_limit (length (distinct same (reached k))) || nat_lt value_limit (length (over_cuts same reached (cuts_between first k)))

-- the least such number
abbrev pub too_many_at : {A : Type 0} → (A → A → Bool) → (ℕ → List A) → ℕ → ℕ → Option ℕ
too_many_at same reached first last = find (has_too_many same reached first) (range_with_len 0 (last + 1))

abbrev pub lacking_error : RecordPlace → ForeseeError
lacking_error at = errors.NoDigest at.component at.variant at.place

-- a record lacks the bank, there are too many, or what is foreseen
abbrev pub foreseen_unless : {A : Type 0} → Option RecordPlace → Option ℕ → List A → Result (List A) ForeseeError
foreseen_unless (Some at) many list = Err (lacking_error at)
foreseen_unless None (Some k) list = Err (errors.TooMany k)
foreseen_unless None None list = Ok list

-- over the cuts from the first to the last
abbrev pub foreseen_by : {A : Type 0} → (A → A → Bool) → (ℕ → List A) → ℕ → ℕ → Option RecordPlace → Result (List A) ForeseeError
foreseen_by same reached first last lacking = foreseen_unless lacking (too_many_at same reached first last) (over_cuts same reached (cuts_between first last))

abbrev pub first_cut : Window → List PlainComponent → ℕ
first_cut window components = length (inside_of window.start components)

abbrev pub last_cut : Window → List PlainComponent → ℕ
last_cut window components = length (inside_of window.end components)

-- the PCR's values over all cuts of the window and all choices of the components before a cut. No cut is greater
-- than the number of components inside
unfoldable pub foreseen : Bank → ℕ → ℕ → Window → List PlainComponent → Result (List (List ℕ)) ForeseeError
foreseen bank locality pcr window components =
    let inside = inside_of window.end components in
    foreseen_by bytes_eq (λ k. values_after bank locality pcr (take k inside)) (first_cut window components) (last_cut window components) (lacking_of bank pcr inside)

-- the first of the PCRs with a record that lacks the bank
abbrev pub lacking_in_any : Bank → List ℕ → List PlainComponent → Option RecordPlace
lacking_in_any bank [] components = None
lacking_in_any bank (p ∷ pcrs) components = option_or (lacking_of bank p components) (lacking_in_any bank pcrs components)

-- the states of these PCRs likewise, one cut and one choice for all of them at once
unfoldable pub foreseen_joint : Bank → ℕ → List ℕ → Window → List PlainComponent → Result (List (List (List ℕ))) ForeseeError
foreseen_joint bank locality pcrs window components =
    let inside = inside_of window.end components in
    foreseen_by values_eq (λ k. states_after bank locality pcrs (take k inside)) (first_cut window components) (last_cut window components) (lacking_in_any bank pcrs inside)

-- the answer is that of the definition, unless memory ran out
abbrev pub Refuses : {A : Type 0} → ForeseeError → Result A ForeseeError → Type 0
Refuses (errors.NoDigest i v n) given = given ≡ Err (errors.NoDigest i v n)
Refuses (errors.TooMany k) given = given ≡ Err (errors.TooMany k)
Refuses errors.Memory given = Unit {0}

abbrev pub Answers : {A : Type 0} → Result A ForeseeError → Result A ForeseeError → Type 0
Answers (Ok list) given = given ≡ Ok list
Answers (Err e) given = Refuses e given
