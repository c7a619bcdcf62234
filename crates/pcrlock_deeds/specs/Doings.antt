-- What a deed comes to: the machine and the world that it leaves, its ending, its strings, and what stands
-- between its changes.
use Rattle.std.specs.Prelude.{List, [], ◌∷◌, ◌++◌}
use Rattle.hash_bank.specs.HashedString.{HashedString}
use Rattle.tpm_model.specs.Events.{event_strings, world_after}
use Rattle.tpm_model.specs.World.{World, extended_world, hashed_world}
use Rattle.pcrlock_line.specs.Machine.{Machine, Live, machine}
use Rattle.pcrlock_line.specs.Outcome.{Ending, Outcome}
use Rattle.pcrlock_deeds.specs.Deed.{Deed, ends, hashes, sends, sees, walks, boots, draws, writes, removes}
use Rattle.pcrlock_deeds.specs.Steps.{answer_to, booted_live, by_draws, drawn_live, filing_world, removed_live, sent_live, walked_live, written_live}

-- the machine at the end
abbrev pub after : Deed → Live → Live
after (ends last) m = m
after (hashes strings d) m = after d m
after (sends event next) m = after (next (answer_to event m)) (sent_live event m)
after (sees next) m = after (next m) m
after (walks d) m = after d (walked_live m)
after (boots s d) m = after d (booted_live s m)
after (draws next none) m = by_draws m.draws (λ word rest. after (next word) (drawn_live rest m)) (after none m)
after (writes path bytes filing d) m = after d (written_live path bytes m)
after (removes path filing d) m = after d (removed_live path m)

-- the world at the end
abbrev pub world : Deed → Live → World → World
world (ends last) m w = w
world (hashes strings d) m w = world d m (hashed_world strings w)
world (sends event next) m w = world (next (answer_to event m)) (sent_live event m) (world_after event m.state w)
world (sees next) m w = world (next m) m w
world (walks d) m w = world d (walked_live m) w
world (boots s d) m w = world d (booted_live s m) (extended_world s w)
world (draws next none) m w = by_draws m.draws (λ word rest. world (next word) (drawn_live rest m) w) (world none m w)
world (writes path bytes filing d) m w = world d (written_live path bytes m) (filing_world filing w)
world (removes path filing d) m w = world d (removed_live path m) (filing_world filing w)

-- the last words
abbrev pub ending : Deed → Live → Ending
ending (ends last) m = last
ending (hashes strings d) m = ending d m
ending (sends event next) m = ending (next (answer_to event m)) (sent_live event m)
ending (sees next) m = ending (next m) m
ending (walks d) m = ending d (walked_live m)
ending (boots s d) m = ending d (booted_live s m)
ending (draws next none) m = by_draws m.draws (λ word rest. ending (next word) (drawn_live rest m)) (ending none m)
ending (writes path bytes filing d) m = ending d (written_live path bytes m)
ending (removes path filing d) m = ending d (removed_live path m)

-- the strings that are hashed
abbrev pub hashed : Deed → Live → List HashedString
hashed (ends last) m = []
hashed (hashes strings d) m = strings ++ hashed d m
hashed (sends event next) m = event_strings event m.state ++ hashed (next (answer_to event m)) (sent_live event m)
hashed (sees next) m = hashed (next m) m
hashed (walks d) m = hashed d (walked_live m)
hashed (boots s d) m = hashed d (booted_live s m)
hashed (draws next none) m = by_draws m.draws (λ word rest. hashed (next word) (drawn_live rest m)) (hashed none m)
hashed (writes path bytes filing d) m = hashed d (written_live path bytes m)
hashed (removes path filing d) m = hashed d (removed_live path m)

-- a machine with its world
pub record Stage : Type 0 where
  pub live : Live
  pub world : World

-- what stands between the changes: before each of them, and at the end
abbrev pub stages : Deed → Live → World → List Stage
stages (ends last) m w = record { live = m; world = w } ∷ []
stages (hashes strings d) m w = stages d m (hashed_world strings w)
stages (sends event next) m w = record { live = m; world = w } ∷ stages (next (answer_to event m)) (sent_live event m) (world_after event m.state w)
stages (sees next) m w = stages (next m) m w
stages (walks d) m w = record { live = m; world = w } ∷ stages d (walked_live m) w
stages (boots s d) m w = record { live = m; world = w } ∷ stages d (booted_live s m) (extended_world s w)
stages (draws next none) m w = by_draws m.draws (λ word rest. stages (next word) (drawn_live rest m) w) (stages none m w)
stages (writes path bytes filing d) m w = record { live = m; world = w } ∷ stages d (written_live path bytes m) (filing_world filing w)
stages (removes path filing d) m w = record { live = m; world = w } ∷ stages d (removed_live path m) (filing_world filing w)

-- what a stage stores
abbrev pub stage_machine : Stage → Machine
stage_machine stage = machine stage.live

-- the same without their worlds
abbrev pub stops : Deed → Live → List Machine
stops (ends last) m = machine m ∷ []
stops (hashes strings d) m = stops d m
stops (sends event next) m = machine m ∷ stops (next (answer_to event m)) (sent_live event m)
stops (sees next) m = stops (next m) m
stops (walks d) m = machine m ∷ stops d (walked_live m)
stops (boots s d) m = machine m ∷ stops d (booted_live s m)
stops (draws next none) m = by_draws m.draws (λ word rest. stops (next word) (drawn_live rest m)) (stops none m)
stops (writes path bytes filing d) m = machine m ∷ stops d (written_live path bytes m)
stops (removes path filing d) m = machine m ∷ stops d (removed_live path m)

-- the outcome of a command that does this
abbrev pub outcome : Deed → Live → Outcome
outcome d m = record { ending = ending d m; after = machine (after d m); hashed = hashed d m; stops = stops d m }
