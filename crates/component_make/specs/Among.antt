-- Where the made files stand among other components.
use Rattle.std.specs.Prelude.{◌≡◌, ℕ, List, [], ◌∷◌, ◌++◌}
use Rattle.std.specs.List.{All, Contains}
use Rattle.cel_record.specs.Spelled.{Spelled}
use Rattle.component_tree.specs.PlainTree.{PlainVariant, PlainComponent}
use Rattle.component_make.specs.Split.{of_pcr}

-- the component has a variant whose records of the PCR are these
pub record Offers (pcr : ℕ) (records : List Spelled) (c : PlainComponent) : Type 0 where
  pub variant : PlainVariant
  pub listed : Contains c.variants variant
  pub same : of_pcr pcr variant.records ≡ records

-- each of the components has a variant with nothing of the PCR
abbrev pub MayBeSilent : ℕ → List PlainComponent → Type 0
MayBeSilent pcr components = All (Offers pcr []) components

-- in this order one component offers the PCR's part of the early records, one its separator, and one its part
-- of the late records, and each other may be silent
pub record HoldThree (pcr : ℕ) (early separator late : List Spelled) (components : List PlainComponent) : Type 0 where
  pub first : PlainComponent
  pub second : PlainComponent
  pub third : PlainComponent
  pub ahead : List PlainComponent
  pub between : List PlainComponent
  pub further : List PlainComponent
  pub behind : List PlainComponent
  pub order : components ≡ ahead ++ first ∷ (between ++ second ∷ (further ++ third ∷ behind))
  pub offers_early : Offers pcr (of_pcr pcr early) first
  pub offers_separator : Offers pcr separator second
  pub offers_late : Offers pcr (of_pcr pcr late) third
  pub ahead_silent : MayBeSilent pcr ahead
  pub between_silent : MayBeSilent pcr between
  pub further_silent : MayBeSilent pcr further
  pub behind_silent : MayBeSilent pcr behind
