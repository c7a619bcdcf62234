-- What a proof of a foreseen state says, and how it may fail to be one.
use Rattle.std.specs.Prelude.{◌≡◌, ◌≢◌, ℕ, ◌^◌, ◌<◌, Bool, false, ◌&&◌, is_none, List, ◌∷◌, ◌++◌, length, take, map}
use Rattle.std.specs.List.{All, Contains, list_any}
use Rattle.hash_bank.specs.declared.bank.Bank.{Bank}
use Rattle.cel_record.specs.Listed.{listed_in}
use Rattle.cel_record.specs.Spelled.{Spelled}
use Rattle.component_tree.specs.PlainTree.{PlainVariant, PlainComponent}
use Rattle.policy_digest.specs.Mask.{has_pcr, pcrs_of}
use Rattle.record_match.specs.Choices.{choices, chosen}
use Rattle.record_match.specs.Extends.{variants_of, reached_by}
use Rattle.predictor.specs.declared.window.Window.{Window}
use Rattle.predictor.specs.Cuts.{inside_of, cuts_between}
use Rattle.predictor.specs.Foreseen.{first_cut}
use Rattle.predictor.specs.Spread.{IsState}
use Rattle.predict_proof.specs.declared.proof.Proof.{Proof}
use Rattle.predict_proof.specs.declared.error.CheckError.{CheckError}
use Rattle.predict_proof.specs.declared.error.CheckError.TheVariants as errors

-- a mask of some of the 24 PCRs, and a value of the bank's length for each of them
pub record HasShape (bank : Bank) (q : Proof) : Type 0 where
  pub some : 0 < q.pcrs
  pub in_range : q.pcrs < 2 ^ 24
  pub values : IsState bank (length (pcrs_of q.pcrs)) q.values

-- ---- the four parts, over the components inside a window's end; the cuts are the numbers from the first one to that of
-- these components

abbrev pub HasCut : ℕ → List PlainComponent → Proof → Type 0
HasCut first inside q = Contains (cuts_between first (length inside)) q.cut

-- the choice is one of those of the components before the cut
abbrev pub HasChoice : List PlainComponent → Proof → Type 0
HasChoice inside q = Contains (choices (variants_of (take q.cut inside))) q.choice

-- the record is of one of the mask's PCRs and lacks the bank
abbrev pub lacks : Bank → ℕ → Spelled → Bool
lacks bank pcrs r = has_pcr pcrs r.pcr && is_none (listed_in bank r.digests)

abbrev pub some_lacks : Bank → ℕ → List PlainVariant → Bool
some_lacks bank pcrs variants = list_any (λ v. list_any (lacks bank pcrs) v.records) variants

-- no record of the PCRs in the chosen variants lacks the bank
abbrev pub HasDigests : Bank → List PlainComponent → Proof → Type 0
HasDigests bank inside q = some_lacks bank q.pcrs (chosen (variants_of (take q.cut inside)) q.choice) ≡ false

-- what a PCR holds after the choice
abbrev pub held_by : Bank → ℕ → List PlainComponent → Proof → ℕ → List ℕ
held_by bank locality inside q pcr = reached_by bank pcr locality (take q.cut inside) q.choice

-- the values are what the PCRs hold after the choice
abbrev pub HasValues : Bank → ℕ → List PlainComponent → Proof → Type 0
HasValues bank locality inside q = q.values ≡ map (held_by bank locality inside q) (pcrs_of q.pcrs)

pub record ProvedInside (bank : Bank) (locality first : ℕ) (inside : List PlainComponent) (q : Proof) : Type 0 where
  pub cut : HasCut first inside q
  pub choice : HasChoice inside q
  pub digests : HasDigests bank inside q
  pub values : HasValues bank locality inside q

-- the state of the proof's PCRs is the one that its choice leads to, at a cut of the window
abbrev pub Proved : Bank → ℕ → Window → List PlainComponent → Proof → Type 0
Proved bank locality window tree q = ProvedInside bank locality (first_cut window tree) (inside_of window.end tree) q

-- ---- how it fails

-- the first of the PCRs whose value isn't what it holds, and what it holds
pub record FirstDiffers (held : ℕ → List ℕ) (pcrs : List ℕ) (values : List (List ℕ)) (pcr : ℕ) (reached : List ℕ) : Type 0 where
  pub before : List ℕ
  pub after : List ℕ
  pub value : List ℕ
  pub rest : List (List ℕ)
  pub pcrs_are : pcrs ≡ before ++ pcr ∷ after
  pub values_are : values ≡ map held before ++ value ∷ rest
  pub reached_is : reached ≡ held pcr
  pub differs : value ≢ reached

-- the first part that fails of the member with the number n
abbrev pub FailsBy : Bank → ℕ → ℕ → List PlainComponent → ℕ → Proof → CheckError → Type 0
FailsBy bank locality first inside n q (errors.Cut number) = (number ≡ n) × ¬ (HasCut first inside q)
FailsBy bank locality first inside n q (errors.Choice number) = (number ≡ n) × HasCut first inside q × ¬ (HasChoice inside q)
FailsBy bank locality first inside n q (errors.NoDigest number) = (number ≡ n) × HasCut first inside q × HasChoice inside q × ¬ (HasDigests bank inside q)
FailsBy bank locality first inside n q (errors.Differs number pcr reached) =
    (number ≡ n) × HasCut first inside q × HasChoice inside q × HasDigests bank inside q × FirstDiffers (held_by bank locality inside q) (pcrs_of q.pcrs) q.values pcr reached

-- the number that an error names
abbrev pub number_of : CheckError → ℕ
number_of (errors.Cut number) = number
number_of (errors.Choice number) = number
number_of (errors.NoDigest number) = number
number_of (errors.Differs number pcr reached) = number

-- the first member of the list that isn't proved fails so
pub record FailsFirst (bank : Bank) (locality : ℕ) (window : Window) (tree : List PlainComponent) (list : List Proof) (error : CheckError) : Type 0 where
  pub before : List Proof
  pub member : Proof
  pub after : List Proof
  pub list_is : list ≡ before ++ member ∷ after
  pub proved : All (Proved bank locality window tree) before
  pub fails : FailsBy bank locality (first_cut window tree) (inside_of window.end tree) (length before) member error
