-- Where a client's walk on a session stands.
use Rattle.std.specs.Prelude.{ℕ, List}
use Rattle.or_tree.specs.Plan.{Plan}

-- at a row: before PolicyPCR, before PolicyGetDigest, or before the PolicyORs of these lists
pub data Step : Type 0 where
  at_pcr : Step
  at_digest : Step
  at_or : List (List (List ℕ)) → Step

-- before a session: the table with its branches, and the index that holds its root
pub record Ready : Type 0 where
  pub plan : Plan
  pub index : ℕ

-- a walk over the table's rows: the session, and the step at the row of this number
pub record Place : Type 0 where
  pub plan : Plan
  pub index : ℕ
  pub session : ℕ
  pub row : ℕ
  pub step : Step

-- a walk past all rows
pub record Past : Type 0 where
  pub plan : Plan
  pub index : ℕ
  pub session : ℕ
