-- What a line owes as an act, by what the device stores.
use Rattle.std.proofs.Common.{◌≡◌, ℕ, List, [], ◌∷◌, inl, inr, refl}
use Rattle.tpm_model.specs.declared.parts.Parts.{Parts}
use Rattle.tpm_model.specs.World.{World}
use Rattle.tpm_device.specs.Stored.{Stored, Holds, TooLarge, Malformed, BadRule}
use Rattle.pcrlock_line.specs.Begun.{by_device}
use Rattle.pcrlock_line.specs.Machine.{Live, Machine}
use Rattle.pcrlock_line.specs.Outcome.{Outcome}
use Rattle.pcrlock_line.specs.Worlds.{by_state}
use Rattle.pcrlock_deeds.specs.Acts.{IsDone, IsSoundAct, IsSoundOn, SameStops, act_outcome, act_world, works}
use Rattle.pcrlock_deeds.specs.Deed.{Deed}
use Rattle.pcrlock_deeds.specs.Doings.{outcome, world}
use Rattle.pcrlock_deeds.specs.Sound.{FileRule, IsSound}

-- an outcome is done by itself
pub done_itself : (o : Outcome) → IsDone o o
done_itself o = record { ending = refl; after = refl; stops = λ held kept. (λ h. h, λ h. h); hashed = λ x h. h }

-- a machine that is named twice stands where it is named once
pub same_twice : (m : Machine) → SameStops (m ∷ []) (m ∷ m ∷ [])
same_twice m held kept = (
  inr,
  λ h. elim h [
    | inl at ↦ inl at
    | inr more ↦ more
  ],
)

-- a line that does on every state what the deed does
pub works_on : (line : Live → Outcome) (deed : Deed) (state : List ℕ) (m : Machine) → ((live : Live) → IsDone (line live) (outcome deed live))
    → IsDone (by_device m.device state m line) (act_outcome (works deed) state m)
works_on line deed state m each = by m.device
  where
    by : (kept : Stored) → IsDone (by_device kept state m line) (by_device kept state m (outcome deed))
    by (Holds s) = each (record { files = m.files; state = s; draws = m.draws })
    by (TooLarge size) = done_itself (by_device (TooLarge size) state m line)
    by (Malformed place) = done_itself (by_device (Malformed place) state m line)
    by (BadRule rule) = done_itself (by_device (BadRule rule) state m line)

-- a deed that is sound on the state that is stored
pub sound_on : (Files : FileRule) (deed : Deed) (m : Machine) (w : World)
    → ((s : Parts) → m.device ≡ Holds s → IsSound Files deed (record { files = m.files; state = s; draws = m.draws }) w) → IsSoundAct Files (works deed) m w
sound_on Files deed m w each = by m.device refl
  where
    by : (kept : Stored) → m.device ≡ kept → IsSoundOn Files deed kept m w
    by (Holds s) e = each s e
    by (TooLarge size) e = tt
    by (Malformed place) e = tt
    by (BadRule rule) e = tt

-- a deed that leaves the world that a step leaves on the state that is stored
pub world_on : (deed : Deed) (step : Live → World → World) (m : Machine) (w : World)
    → ((s : Parts) → m.device ≡ Holds s → (let live : Live = record { files = m.files; state = s; draws = m.draws } in world deed live w ≡ step live w))
    → act_world (works deed) m w ≡ by_state m.device m w step
world_on deed step m w each = by m.device refl
  where
    by : (kept : Stored) → m.device ≡ kept → by_state kept m w (world deed) ≡ by_state kept m w step
    by (Holds s) e = each s e
    by (TooLarge size) e = refl
    by (Malformed place) e = refl
    by (BadRule rule) e = refl
