-- When the key of an object that is bound to an index comes out, told by the values of PCRs.
use Rattle.std.specs.Prelude.{◌≡◌, ◌↔◌, ℕ, true, List, Some}
use Rattle.std.specs.FinMap.{get}
use Rattle.policy_digest.specs.declared.table.Table.{Table}
use Rattle.policy_digest.specs.Plain.{plain_table}
use Rattle.policy_digest.specs.Table.{valid_table}
use Rattle.tpm_model.specs.Opening.{UnlocksIndex}
use Rattle.tpm_model.specs.World.{LiveIndex, World}
use Rattle.tpm_walks.specs.ByValues.{IsOpenByValues}
use Rattle.pcrlock_answer.specs.Texts.{key_text}
use Rattle.pcrlock_line.specs.Outcome.{Ending, Fine}

-- the end is the key's line exactly where the newest table of the index with this pin is open
abbrev pub OpensByPolicy : Ending → List ℕ → ℕ → List ℕ → World → Type 0
OpensByPolicy ending key index pin w = (ending ≡ Fine (key_text key)) ↔ UnlocksIndex w index pin

-- the newest table of the index is this valid one, and the end is the key's line exactly where its bank is present and
-- each of its rows lists, PCR by PCR, the values that the row's PCRs hold
pub record OpensByValues (ending : Ending) (key : List ℕ) (index : ℕ) (w : World) : Type 0 where
  pub live : LiveIndex
  pub found : get w.live index ≡ Some live
  pub table : Table
  pub valid : valid_table table ≡ true
  pub newest : live.table ≡ plain_table table
  pub opens : (ending ≡ Fine (key_text key)) ↔ IsOpenByValues table w.banks w.pcrs

-- both
pub record OpensBound (ending : Ending) (key : List ℕ) (index : ℕ) (pin : List ℕ) (w : World) : Type 0 where
  pub policy : OpensByPolicy ending key index pin w
  pub values : OpensByValues ending key index w
