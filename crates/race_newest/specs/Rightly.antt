-- When a client of a race has its key rightly.
use Rattle.std.specs.Prelude.{◌≡◌, ℕ, List, ◌∷◌, ◌++◌, Some}
use Rattle.std.specs.FinMap.{get}
use Rattle.policy_digest.specs.PlainTable.{PlainTable}
use Rattle.race_core.specs.declared.event.Event.{Event as Played}
use Rattle.race_core.specs.declared.event.Event.TheVariants as played_event
use Rattle.race_core.specs.Histories.{HasUnsealed}
use Rattle.race_core.specs.Playing.{Playing, played}
use Rattle.tpm_model.specs.Opening.{Open}
use Rattle.tpm_model.specs.World.{World}
use Rattle.race_newest.specs.RaceEvents.{world_at}
use Rattle.race_newest.specs.Stillness.{AreStill}

-- by its first PolicyPCR, its PolicyAuthorizeNV and its Unseal, each of which was accepted: the secret is the object's;
-- the table that was the index's newest, under the pin, as its session was authorised by that index is open at its Unseal; and no PCR
-- moved from its first PolicyPCR up to its Unseal
pub record HasKeyRightly (events : List Played) (p : Playing) (w : World) (number index : ℕ) (pin secret given : List ℕ) : Type 0 where
  pub bytes : given ≡ secret
  pub steps : HasUnsealed events p number given
  pub by : steps.authorised.index ≡ index
  pub table : PlainTable
  pub newest : get (world_at steps.authorised.before p w).live index ≡ Some (record { pin = pin; table = table })
  pub opens : Open table (played steps.before p).state.banks (played steps.before p).state.pcrs
  pub still : AreStill (played_event.Step number ∷ (steps.authorised.looked.behind ++ played_event.Step number ∷ steps.authorised.behind)) (played steps.authorised.looked.before p)
