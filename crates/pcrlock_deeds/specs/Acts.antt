-- A command as what it says at once, as work on objects of its own, as changes of files alone, or as a deed on what the
-- device stores.
use Rattle.std.specs.Prelude.{◌≡◌, ◌↔◌, ℕ, List, [], ◌∷◌, map, Contains, Option}
use Rattle.std.specs.FinMap.{insert, remove}
use Rattle.pl_base.specs.FileMap.{FileMap}
use Rattle.hash_bank.specs.HashedString.{HashedString}
use Rattle.tpm_model.specs.World.{World, hashed_world}
use Rattle.tpm_device.specs.Stored.{Stored, Holds, TooLarge, Malformed, BadRule}
use Rattle.pcrlock_line.specs.Begun.{by_device}
use Rattle.pcrlock_line.specs.Machine.{Machine, Live}
use Rattle.pcrlock_line.specs.Outcome.{Ending, Outcome, unchanged}
use Rattle.pcrlock_line.specs.Stopped.{StandsAmong}
use Rattle.pcrlock_line.specs.Worlds.{by_state}
use Rattle.pcrlock_deeds.specs.Deed.{Deed, Filing, ends, hashes, writes, removes}
use Rattle.pcrlock_deeds.specs.Doings.{Stage, outcome, stages, world}
use Rattle.pcrlock_deeds.specs.Sound.{FileRule, IsSound}
use Rattle.pcrlock_deeds.specs.Steps.{filing_world}

-- a change of one file: new bytes for a path, or a path that is taken out
pub data FileStep : Type 0 where
  Written : (path : List ℕ) → (bytes : List ℕ) → Filing → FileStep
  Removed : (path : List ℕ) → Filing → FileStep

pub data Act : Type 0 where
  -- an end without a change
  says : Ending → Act
  -- an end without a change, behind strings that are hashed whatever the device stores
  reckons : List HashedString → Ending → Act
  -- changes of files one after another, whatever the device stores
  changes : List FileStep → Ending → Act
  -- work on the state that is stored
  works : Deed → Act

-- the files after a change
abbrev pub stepped_files : FileStep → FileMap → FileMap
stepped_files (Written path bytes filing) held = insert held path bytes
stepped_files (Removed path filing) held = remove held path

-- the files after all changes
abbrev pub files_then : List FileStep → FileMap → FileMap
files_then [] held = held
files_then (step ∷ steps) held = files_then steps (stepped_files step held)

-- the files after each number of the changes, from none to all
abbrev pub files_between : List FileStep → FileMap → List FileMap
files_between [] held = held ∷ []
files_between (step ∷ steps) held = held ∷ files_between steps (stepped_files step held)

-- the machine with these files
abbrev pub with_files : Machine → FileMap → Machine
with_files m held = record { files = held; device = m.device; draws = m.draws }

-- what it does to what the policy file states
abbrev pub filing_of : FileStep → Filing
filing_of (Written path bytes filing) = filing
filing_of (Removed path filing) = filing

-- the machine after all changes
abbrev pub changed_machine : List FileStep → Machine → Machine
changed_machine steps m = with_files m (files_then steps m.files)

-- the world after all changes
abbrev pub changed_world : List FileStep → World → World
changed_world [] w = w
changed_world (step ∷ steps) w = changed_world steps (filing_world (filing_of step) w)

-- the machine after each number of the changes, from none to all
abbrev pub changed_stops : List FileStep → Machine → List Machine
changed_stops steps m = map (with_files m) (files_between steps m.files)

-- the same changes as the steps of a deed
abbrev pub changing : List FileStep → Ending → Deed
changing [] last = ends last
changing (Written path bytes filing ∷ steps) last = writes path bytes filing (changing steps last)
changing (Removed path filing ∷ steps) last = removes path filing (changing steps last)

-- what stands among the ones stands among the others, and back
abbrev pub SameStops : List Machine → List Machine → Type 0
SameStops xs ys = (held : Option FileMap) (kept : Option Stored) → StandsAmong held kept xs ↔ StandsAmong held kept ys

-- the outcome is what was done; its strings are among those that were hashed
pub record IsDone (o done : Outcome) : Type 0 where
  pub ending : o.ending ≡ done.ending
  pub after : o.after ≡ done.after
  pub stops : SameStops o.stops done.stops
  pub hashed : (x : HashedString) → Contains o.hashed x → Contains done.hashed x

-- what the act comes to, where the state file stands at the path
abbrev pub act_outcome : Act → List ℕ → Machine → Outcome
act_outcome (says last) state m = unchanged last m
act_outcome (reckons strings last) state m = record { ending = last; after = m; hashed = strings; stops = m ∷ [] }
act_outcome (changes steps last) state m = record { ending = last; after = changed_machine steps m; hashed = []; stops = changed_stops steps m }
act_outcome (works deed) state m = by_device m.device state m (outcome deed)

-- the world after it
abbrev pub act_world : Act → Machine → World → World
act_world (says last) m w = w
act_world (reckons strings last) m w = hashed_world strings w
act_world (changes steps last) m w = changed_world steps w
act_world (works deed) m w = by_state m.device m w (world deed)

-- where a state is stored, the tie holds of it; else nothing is tied
abbrev pub HoldsOn : (Live → World → Type 0) → Stored → Machine → World → Type 0
HoldsOn T (Holds s) m w = T (record { files = m.files; state = s; draws = m.draws }) w
HoldsOn T (TooLarge size) m w = ⊥
HoldsOn T (Malformed place) m w = ⊥
HoldsOn T (BadRule rule) m w = ⊥

abbrev pub HoldsAt : (Live → World → Type 0) → Machine → World → Type 0
HoldsAt T m w = HoldsOn T m.device m w

-- where a state is stored, the deed is sound on it
abbrev pub IsSoundOn : FileRule → Deed → Stored → Machine → World → Type 0
IsSoundOn Files deed (Holds s) m w = IsSound Files deed (record { files = m.files; state = s; draws = m.draws }) w
IsSoundOn Files deed (TooLarge size) m w = Unit {0}
IsSoundOn Files deed (Malformed place) m w = Unit {0}
IsSoundOn Files deed (BadRule rule) m w = Unit {0}

-- each step of the act keeps a tie
abbrev pub IsSoundAct : FileRule → Act → Machine → World → Type 0
IsSoundAct Files (says last) m w = Unit {0}
IsSoundAct Files (reckons strings last) m w = Unit {0}
IsSoundAct Files (changes steps last) m w = IsSoundOn Files (changing steps last) m.device m w
IsSoundAct Files (works deed) m w = IsSoundOn Files deed m.device m w

-- the act as a deed on a state that is stored
abbrev pub as_deed : Act → Deed
as_deed (says last) = ends last
as_deed (reckons strings last) = hashes strings (ends last)
as_deed (changes steps last) = changing steps last
as_deed (works deed) = deed

-- what stands between its changes, where a state is stored
abbrev pub stages_on : Act → Stored → Machine → World → List Stage
stages_on act (Holds s) m w = stages (as_deed act) (record { files = m.files; state = s; draws = m.draws }) w
stages_on act (TooLarge size) m w = []
stages_on act (Malformed place) m w = []
stages_on act (BadRule rule) m w = []

abbrev pub act_stages : Act → Machine → World → List Stage
act_stages act m w = stages_on act m.device m w

-- what a command owes: its line comes to what the act does
abbrev pub IsAct : (Machine → Outcome) → List ℕ → (Machine → World → Act) → Type 0
IsAct line state act = (m : Machine) (w : World) → IsDone (line m) (act_outcome (act m w) state m)
