-- What a table foretells, in the words of boot states.
use Rattle.std.specs.Prelude.{◌≡◌, ℕ, Bool, true, false, List, [], take, slice_index_or, Option, None, Some, Ok, Contains}
use Rattle.hash_bank.specs.declared.bank.Bank.{Bank}
use Rattle.component_tree.specs.PlainTree.{PlainComponent}
use Rattle.pcr_replay.specs.Row.{Row as LogRow}
use Rattle.pcr_replay.specs.Measured.{measured_in, replayed_in}
use Rattle.policy_digest.specs.Mask.{has_pcr, pcrs_of}
use Rattle.policy_digest.specs.Plain.{plain_table}
use Rattle.policy_digest.specs.PlainTable.{PlainRow, PlainTable}
use Rattle.record_match.specs.Choices.{choices}
use Rattle.record_match.specs.Extends.{variants_of, extends_of, reached_by}
use Rattle.record_match.specs.Lacking.{lacking_of}
use Rattle.predictor.specs.Cuts.{inside_of, cuts_between}
use Rattle.predictor.specs.Foreseen.{first_cut, last_cut}
use Rattle.predictor.specs.Protected.{protected_of}
use Rattle.predictor.specs.declared.protection.Protection.{Protection}
use Rattle.predictor.specs.declared.window.Window.{Window}
use Rattle.predictor.proofs.Sound.{HasVariants}

-- what a prediction is made of: the components, the window in which boots are foreseen, a mask of the asked PCRs and
-- their bank, whether they are taken together, the log and the locality of the restart before it, and the 24 values
-- that the PCRs hold in the bank
pub record Forecast : Type 0 where
  pub components : List PlainComponent
  pub window : Window
  pub asked : ℕ
  pub bank : Bank
  pub joint : Bool
  pub log : List LogRow
  pub locality : ℕ
  pub now : List (List ℕ)

-- the components up to the end of the window
abbrev pub inside : Forecast → List PlainComponent
inside f = inside_of f.window.end f.components

-- the first so many of them
abbrev pub before_cut : Forecast → ℕ → List PlainComponent
before_cut f cut = take cut (inside f)

-- the digests of the PCR's log are there, their replay is the value that the PCR holds, no record of a component lacks
-- the bank, and some choice of variants of all components up to the end of the window extends by just these digests
pub record IsExplained (f : Forecast) (p : ℕ) : Type 0 where
  pub list : List (List ℕ)
  pub measured : measured_in f.bank p f.log ≡ Some list
  pub replayed : replayed_in f.bank p f.locality f.log ≡ Some (slice_index_or f.now p [])
  pub complete : lacking_of f.bank p (inside f) ≡ None
  pub choice : List ℕ
  pub chosen : Contains (choices (variants_of (inside f))) choice
  pub explains : extends_of f.bank p (inside f) choice ≡ list

-- the PCR is asked for, and its value is explained
pub record IsProtected (f : Forecast) (p : ℕ) : Type 0 where
  pub asked : Contains (pcrs_of f.asked) p
  pub explained : IsExplained f p

-- a state of a boot: a cut of the window, and one variant of each component before it
pub record IsBootState (f : Forecast) (cut : ℕ) (choice : List ℕ) : Type 0 where
  pub in_window : Contains (cuts_between (first_cut f.window f.components) (last_cut f.window f.components)) cut
  pub chosen : Contains (choices (variants_of (before_cut f cut))) choice

-- the value that the PCR has in such a state
abbrev pub measured_by : Forecast → ℕ → List ℕ → ℕ → List ℕ
measured_by f cut choice p = reached_by f.bank p f.locality (before_cut f cut) choice

-- the values that PCRs hold in a bank, where there are such
abbrev pub PcrValues : Type 0
PcrValues = ℕ → Option (List ℕ)

-- the PCR holds what it has in some state of a boot
pub record HoldsAlone (f : Forecast) (values : PcrValues) (p : ℕ) : Type 0 where
  pub cut : ℕ
  pub choice : List ℕ
  pub state : IsBootState f cut choice
  pub holds : values p ≡ Some (measured_by f cut choice p)

-- all protected PCRs hold what they have in one state of a boot
pub record HoldTogether (f : Forecast) (values : PcrValues) : Type 0 where
  pub cut : ℕ
  pub choice : List ℕ
  pub state : IsBootState f cut choice
  pub hold : (p : ℕ) → IsProtected f p → values p ≡ Some (measured_by f cut choice p)

abbrev pub HoldsBy : Bool → Forecast → PcrValues → Type 0
HoldsBy true f values = HoldTogether f values
HoldsBy false f values = (p : ℕ) → IsProtected f p → HoldsAlone f values p

-- the protected PCRs hold what is foreseen: in one state for all of them, or each in a state of its own
abbrev pub Holds : Forecast → PcrValues → Type 0
Holds f values = HoldsBy f.joint f values

-- the table is that of the prediction, each of whose components has a variant, as those have that are read from folders
pub record TableOf (f : Forecast) (table : PlainTable) : Type 0 where
  pub variants : HasVariants f.components
  pub protection : Protection
  pub given : protected_of f.joint f.components f.window f.asked f.bank f.log f.locality f.now ≡ Ok protection
  pub is : table ≡ plain_table protection.table

-- the PCR stands in the mask of a row of the table
pub record IsInRow (table : PlainTable) (p : ℕ) : Type 0 where
  pub row : PlainRow
  pub listed : Contains table.rows row
  pub in_mask : has_pcr row.pcrs p ≡ true
