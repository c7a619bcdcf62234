-- A world from which nothing is lost.
use Rattle.std.specs.Prelude.{ℕ, List, Contains}
use Rattle.tpm_model.specs.World.{Grows, PolicyUpdate, World}

-- the second world has the strings, the pins and the updates of the first, and maybe more
pub record GrowsAll (w v : World) : Type 0 where
  pub strings : Grows w v
  pub pins : (p : List ℕ) → Contains w.pins p → Contains v.pins p
  pub strange : (p : List ℕ) → Contains w.strange p → Contains v.strange p
  pub writes : (u : PolicyUpdate) → Contains w.writes u → Contains v.writes u
