-- Two small forecasts, and two readings of a forecast that say something else.
use Rattle.std.specs.Prelude.{◌≡◌, ℕ, false, true, List, [], ◌∷◌, ◌++◌, Contains, Some}
use Rattle.std.proofs.Common.{refl, suc-le-suc, zero-le}
use Rattle.hash_bank.specs.declared.bank.Bank.TheVariants.{Sha256}
use Rattle.hash_bank.specs.Extending.{start_of}
use Rattle.hash_bank.specs.Hash.{digest_in, zeros_in}
use Rattle.cel_record.specs.Listed.{Listed, none_listed, with_digest}
use Rattle.cel_record.specs.Spelled.{Spelled}
use Rattle.component_tree.specs.PlainTree.{PlainComponent, PlainVariant}
use Rattle.pcr_replay.specs.Row.{Row}
use Rattle.pcr_replay.specs.declared.record.Origin.TheVariants.{User}
use Rattle.predictor.specs.declared.window.Window.{Window}
use Rattle.record_match.specs.Choices.{choices}
use Rattle.record_match.specs.Extends.{variants_of, reached_by}
use Rattle.forecasts.specs.Forecast.{Forecast, HoldsAlone, IsProtected, PcrValues, inside}

-- ---- other readings

-- each protected PCR holds what some choice of all components up to the end of the window measures
pub record HoldsAtTheEnd (f : Forecast) (values : PcrValues) (p : ℕ) : Type 0 where
  pub choice : List ℕ
  pub chosen : Contains (choices (variants_of (inside f))) choice
  pub holds : values p ≡ Some (reached_by f.bank p f.locality (inside f) choice)

abbrev pub HoldAtTheEnd : Forecast → PcrValues → Type 0
HoldAtTheEnd f values = (p : ℕ) → IsProtected f p → HoldsAtTheEnd f values p

-- each protected PCR holds what a choice of its own measures, also where they are taken together
abbrev pub HoldEachItsOwn : Forecast → PcrValues → Type 0
HoldEachItsOwn f values = (p : ℕ) → IsProtected f p → HoldsAlone f values p

-- ---- a record that is measured

-- a PCR of zeros after an extend by the digest
abbrev pub once : List ℕ → List ℕ
once digest = digest_in Sha256 (zeros_in Sha256 ++ digest)

abbrev pub listing : List ℕ → Listed
listing digest = with_digest Sha256 digest none_listed

-- a variant with one record
abbrev pub measuring : ℕ → List ℕ → PlainVariant
measuring pcr digest = record { name = 0x61 ∷ []; records = record { pcr = pcr; digests = listing digest } ∷ [] }

-- what a log has of PCR 1
abbrev pub logged : List ℕ → Row
logged digest = record { origin = User; pcr = 1; digests = listing digest }

-- ---- before and after a component

abbrev pub before_and_after : Window
before_and_after = record { start = 0x31 ∷ []; end = 0x39 ∷ []; some_start = suc-le-suc zero-le; some_end = suc-le-suc zero-le; in_order = refl }

-- one component measures the digest into PCR 1, and boots are foreseen before and after it
abbrev pub stepwise : List ℕ → Forecast
stepwise digest = record {
  components = record { id = 0x35 ∷ []; variants = measuring 1 digest ∷ [] } ∷ [];
  window = before_and_after;
  asked = 2;
  bank = Sha256;
  joint = false;
  log = logged digest ∷ [];
  locality = 0;
  now = zeros_in Sha256 ∷ once digest ∷ [];
}

-- nothing was measured since the restart
abbrev pub started : PcrValues
started p = Some (start_of Sha256 p 0)

-- ---- one of two

abbrev pub after : Window
after = record { start = 0x35 ∷ []; end = 0x35 ∷ []; some_start = suc-le-suc zero-le; some_end = suc-le-suc zero-le; in_order = refl }

-- one component measures the digest into PCR 1 or into PCR 2; both PCRs are taken together, and boots are foreseen after it
abbrev pub one_of_two : List ℕ → Forecast
one_of_two digest = record {
  components = record { id = 0x35 ∷ []; variants = measuring 1 digest ∷ measuring 2 digest ∷ [] } ∷ [];
  window = after;
  asked = 6;
  bank = Sha256;
  joint = true;
  log = logged digest ∷ [];
  locality = 0;
  now = zeros_in Sha256 ∷ once digest ∷ zeros_in Sha256 ∷ [];
}

-- it was measured into both
abbrev pub measured_twice : List ℕ → PcrValues
measured_twice digest p = Some (once digest)
