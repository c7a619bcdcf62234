-- What is kept along a deed: a tie of machine and world with its laws, and what it asks of each step.
use Rattle.std.specs.Prelude.{◌≡◌, ℕ, List, [], ◌∷◌, Contains, Option}
use Rattle.pl_base.specs.FileMap.{FileMap}
use Rattle.hash_bank.specs.HashedString.{HashedString}
use Rattle.tpm_model.specs.declared.parts.Parts.{Parts}
use Rattle.tpm_model.specs.Events.{Clean, Event, world_after}
use Rattle.tpm_model.specs.Pcrs.{HasValues}
use Rattle.tpm_model.specs.World.{World, extended_world, hashed_world}
use Rattle.tpm_device.specs.Stored.{Stored}
use Rattle.tpm_worlds.specs.EventLists.{Safe}
use Rattle.tpm_worlds.specs.WholeEvents.{IsSoundEvent}
use Rattle.pcrlock_line.specs.Machine.{Live}
use Rattle.pcrlock_line.specs.Stopped.{StandsAt}
use Rattle.pcrlock_deeds.specs.Deed.{Deed, Filing, ends, hashes, sends, sees, walks, boots, draws, writes, removes}
use Rattle.pcrlock_deeds.specs.Doings.{Stage, stage_machine}
use Rattle.pcrlock_deeds.specs.Steps.{answer_to, booted_live, by_draws, drawn_live, filing_world, removed_live, sent_live, walked_live, written_live}

-- a restart, or a measurement after it, leaves no session, and indices and objects as they were
pub record IsBooted (before now : Parts) : Type 0 where
  pub values : HasValues now.banks now.pcrs
  pub sessions : now.sessions ≡ []
  pub write_counter : now.write_counter ≡ before.write_counter
  pub indices : now.indices ≡ before.indices
  pub next_object : now.next_object ≡ before.next_object
  pub objects : now.objects ≡ before.objects

-- what a tie asks of a change of the file at a path: of its filing, the machine after it and the world before it
abbrev pub FileRule : Type 1
FileRule = List ℕ → Filing → Live → World → Type 0

-- a tie of machine and world is kept at each step, where a change of a file does what the tie asks of it
pub record IsTie (T : Live → World → Type 0) (Files : FileRule) : Type 0 where
  pub sent : (event : Event) (m : Live) (w : World) → IsSoundEvent event w → Clean (world_after event m.state w) → Safe (world_after event m.state w)
      → T m w → T (sent_live event m) (world_after event m.state w)
  pub hashed : (strings : List HashedString) (m : Live) (w : World) → T m w → T m (hashed_world strings w)
  pub walked : (m : Live) (w : World) → T m w → T (walked_live m) w
  pub booted : (s : Parts) (m : Live) (w : World) → IsBooted m.state s → T m w → T (booted_live s m) (extended_world s w)
  pub drawn : (rest : List (List ℕ)) (m : Live) (w : World) → T m w → T (drawn_live rest m) w
  pub written : (path bytes : List ℕ) (filing : Filing) (m : Live) (w : World) → Files path filing (written_live path bytes m) w
      → T m w → T (written_live path bytes m) (filing_world filing w)
  pub removed : (path : List ℕ) (filing : Filing) (m : Live) (w : World) → Files path filing (removed_live path m) w
      → T m w → T (removed_live path m) (filing_world filing w)

-- each step is one that keeps such a tie
abbrev pub IsSound : FileRule → Deed → Live → World → Type 0
IsSound Files (ends last) m w = Unit {0}
IsSound Files (hashes strings d) m w = IsSound Files d m (hashed_world strings w)
IsSound Files (sends event next) m w = IsSoundEvent event w × IsSound Files (next (answer_to event m)) (sent_live event m) (world_after event m.state w)
IsSound Files (sees next) m w = IsSound Files (next m) m w
IsSound Files (walks d) m w = IsSound Files d (walked_live m) w
IsSound Files (boots s d) m w = IsBooted m.state s × IsSound Files d (booted_live s m) (extended_world s w)
IsSound Files (draws next none) m w = by_draws m.draws (λ word rest. IsSound Files (next word) (drawn_live rest m) w) (IsSound Files none m w)
IsSound Files (writes path bytes filing d) m w = Files path filing (written_live path bytes m) w × IsSound Files d (written_live path bytes m) (filing_world filing w)
IsSound Files (removes path filing d) m w = Files path filing (removed_live path m) w × IsSound Files d (removed_live path m) (filing_world filing w)

-- each of the stages is so
abbrev pub AllStages : (Live → World → Type 0) → List Stage → Type 0
AllStages P [] = Unit {0}
AllStages P (stage ∷ more) = P stage.live stage.world × AllStages P more

-- one of the stages stands, and it is tied
pub record StandsTied (T : Live → World → Type 0) (held : Option FileMap) (kept : Option Stored) (stages : List Stage) : Type 0 where
  pub stage : Stage
  pub among : Contains stages stage
  pub stands : StandsAt held kept (stage_machine stage)
  pub tied : T stage.live stage.world
