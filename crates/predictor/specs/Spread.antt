-- How distinct states spread from component to component, each with what first led to it.
use Rattle.std.specs.Prelude.{◌≡◌, ◌+◌, ◌≤◌, ◌<◌, ℕ, List, [], ◌∷◌, ◌++◌, length, Result, Ok, Err}
use Rattle.std.specs.List.{All, flat_map}
use Rattle.hash_bank.specs.Hash.{size_in}
use Rattle.hash_bank.specs.declared.bank.Bank.{Bank}
use Rattle.cel_record.specs.Spelled.{Spelled}
use Rattle.component_tree.specs.PlainTree.{PlainVariant}
use Rattle.pcr_replay.specs.Measured.{extended_by}
use Rattle.record_match.specs.Extends.{digests_in}
use Rattle.predictor.specs.declared.reached.Reached.{Reached}
use Rattle.predictor.specs.declared.spreading.Stop.{Stop}
use Rattle.predictor.specs.declared.spreading.Stop.TheVariants as stops
use Rattle.predictor.specs.declared.error.ForeseeError.{ForeseeError}
use Rattle.predictor.specs.declared.error.ForeseeError.TheVariants as errors
use Rattle.predictor.specs.Distinct.{put_all, distinct}
use Rattle.predictor.specs.Foreseen.{value_limit}
use Rattle.predictor.specs.Reaching.{same_values}

-- the values of the PCRs, after extends by the records
abbrev pub extended_state : Bank → List ℕ → List (List ℕ) → List Spelled → List (List ℕ)
extended_state bank [] state records = []
extended_state bank (p ∷ pcrs) [] records = []
extended_state bank (p ∷ pcrs) (d ∷ state) records = extended_by bank d (digests_in bank p records) ∷ extended_state bank pcrs state records

-- after the records of one more component's variant, which has this number
abbrev pub next_of : Bank → List ℕ → ℕ → Reached → ℕ → List Spelled → Reached
next_of bank pcrs cut s number records = record { cut = cut; choice = s.choice ++ number ∷ []; values = extended_state bank pcrs s.values records }

-- after each of the variants, which have the numbers from n on
abbrev pub nexts_from : Bank → List ℕ → ℕ → ℕ → List PlainVariant → Reached → List Reached
nexts_from bank pcrs cut n [] s = []
nexts_from bank pcrs cut n (v ∷ variants) s = next_of bank pcrs cut s n v.records ∷ nexts_from bank pcrs cut (n + 1) variants s

abbrev pub next_states : Bank → List ℕ → ℕ → List PlainVariant → List Reached → List Reached
next_states bank pcrs cut variants states = flat_map (nexts_from bank pcrs cut 0 variants) states

-- one value of the bank's length for each of so many PCRs
pub record IsState (bank : Bank) (count : ℕ) (state : List (List ℕ)) : Type 0 where
  pub long : length state ≡ count
  pub sized : All (λ d. length d ≡ size_in bank) state

abbrev pub HasState : Bank → ℕ → Reached → Type 0
HasState bank count s = IsState bank count s.values

-- the members are put to the list, unless there are too many
abbrev pub Puts : {A : Type 0} → Result A Stop → List Reached → List Reached → List Reached → Type 0
Puts (Ok u) old new xs = (new ≡ put_all same_values old xs) × (length new ≤ value_limit)
Puts (Err stops.Full) old new xs = value_limit < length (put_all same_values old xs)
Puts (Err stops.Memory) old new xs = Unit {0}

-- the list is that of the members without repeats, unless there are too many
abbrev pub Collects : Result (List Reached) Stop → List Reached → Type 0
Collects (Ok list) xs = (list ≡ distinct same_values xs) × (length list ≤ value_limit)
Collects (Err stops.Full) xs = value_limit < length (distinct same_values xs)
Collects (Err stops.Memory) xs = Unit {0}

-- why nothing is foreseen, where it stops at a cut
abbrev pub stopped_at : ℕ → Stop → ForeseeError
stopped_at cut stops.Full = errors.TooMany cut
stopped_at cut stops.Memory = errors.Memory
