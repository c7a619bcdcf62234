-- What holds of deeds holds of acts, and of the lines that come to them.
use Rattle.std.proofs.Common.{◌≡◌, ℕ, List, [], ◌∷◌, inl, inr, refl, sym, subst, arith}
use Rattle.std.specs.Prelude.{Option}
use Rattle.pl_base.specs.FileMap.{FileMap}
use Rattle.tpm_model.specs.Events.{Clean}
use Rattle.hash_bank.specs.HashedString.{HashedString}
use Rattle.tpm_model.specs.World.{AreHashed, World, hashed_world}
use Rattle.tpm_model.proofs.Ties.{all_hashed}
use Rattle.tpm_device.specs.Stored.{Stored, Holds, TooLarge, Malformed, BadRule}
use Rattle.tpm_worlds.specs.EventLists.{Safe}
use Rattle.tpm_worlds.proofs.TrailReads.{GrowsAll}
use Rattle.tpm_worlds.proofs.WholeLists.{joined}
use Rattle.pcrlock_line.specs.Begun.{by_device}
use Rattle.pcrlock_line.specs.Machine.{Live, Machine, machine}
use Rattle.pcrlock_line.specs.Outcome.{Ending, Outcome}
use Rattle.pcrlock_line.specs.Stopped.{StandsAmong, StandsAt}
use Rattle.pcrlock_line.specs.Worlds.{by_state}
use Rattle.pcrlock_line.proofs.Devices.{stands_live, stops_first, stops_last}
use Rattle.pcrlock_deeds.specs.Acts.{Act, FileStep, HoldsAt, IsDone, IsSoundAct, IsSoundOn, Removed, Written, act_outcome, act_stages, act_world, changed_machine, changed_stops, changed_world, changes, changing, filing_of, reckons, says, stages_on, stepped_files, with_files, works}
use Rattle.pcrlock_deeds.specs.Deed.{Deed, keeps}
use Rattle.pcrlock_deeds.specs.Doings.{after, outcome, stops, world}
use Rattle.pcrlock_deeds.specs.Sound.{FileRule, IsTie, StandsTied}
use Rattle.pcrlock_deeds.specs.Steps.{filing_world, removed_live, written_live}
use Rattle.pcrlock_deeds.proofs.Growing.{deed_grows, deed_hashed, grows_filing, grows_hashed}
use Rattle.pcrlock_deeds.proofs.Keeping.{deed_kept}
use Rattle.pcrlock_deeds.proofs.Standing.{deed_first, deed_last, deed_stopped}

-- changes of files alone, as the steps of a deed
changed_after : (steps : List FileStep) (last : Ending) (m : Live) → changed_machine steps (machine m) ≡ machine (after (changing steps last) m)
changed_after [] last m = refl
changed_after (Written path bytes filing ∷ steps) last m = changed_after steps last (written_live path bytes m)
changed_after (Removed path filing ∷ steps) last m = changed_after steps last (removed_live path m)

changed_between : (steps : List FileStep) (last : Ending) (m : Live) → changed_stops steps (machine m) ≡ stops (changing steps last) m
changed_between [] last m = refl
changed_between (Written path bytes filing ∷ steps) last m = let rest = changed_between steps last (written_live path bytes m) in cc
changed_between (Removed path filing ∷ steps) last m = let rest = changed_between steps last (removed_live path m) in cc

changed_is : (steps : List FileStep) (last : Ending) (m : Live) (w : World) → changed_world steps w ≡ world (changing steps last) m w
changed_is [] last m w = refl
changed_is (Written path bytes filing ∷ steps) last m w = changed_is steps last (written_live path bytes m) (filing_world filing w)
changed_is (Removed path filing ∷ steps) last m w = changed_is steps last (removed_live path m) (filing_world filing w)

changed_grows : (steps : List FileStep) (w : World) → GrowsAll w (changed_world steps w)
changed_grows [] w = grows_filing keeps w
changed_grows (step ∷ steps) w =
    let v = filing_world (filing_of step) w in
    joined w v (changed_world steps v) (grows_filing (filing_of step) w) (changed_grows steps v)

pub act_grows : (act : Act) (m : Machine) (w : World) → GrowsAll w (act_world act m w)
act_grows (says last) m w = grows_filing keeps w
act_grows (reckons strings last) m w = grows_hashed strings w
act_grows (changes steps last) m w = changed_grows steps w
act_grows (works deed) m w = by m.device
  where
    by : (kept : Stored) → GrowsAll w (by_state kept m w (world deed))
    by (Holds s) = deed_grows deed (record { files = m.files; state = s; draws = m.draws }) w
    by (TooLarge size) = grows_filing keeps w
    by (Malformed place) = grows_filing keeps w
    by (BadRule rule) = grows_filing keeps w

pub act_hashed : (act : Act) (state : List ℕ) (m : Machine) (w : World) → AreHashed (act_world act m w) (act_outcome act state m).hashed
act_hashed (says last) state m w = λ x k. absurd (omega (arith, k.1))
act_hashed (reckons strings last) state m w = all_hashed w strings
act_hashed (changes steps last) state m w = λ x k. absurd (omega (arith, k.1))
act_hashed (works deed) state m w = by m.device
  where
    by : (kept : Stored) → AreHashed (by_state kept m w (world deed)) (by_device kept state m (outcome deed)).hashed
    by (Holds s) = deed_hashed deed (record { files = m.files; state = s; draws = m.draws }) w
    by (TooLarge size) = λ x k. absurd (omega (arith, k.1))
    by (Malformed place) = λ x k. absurd (omega (arith, k.1))
    by (BadRule rule) = λ x k. absurd (omega (arith, k.1))

module _ (held : Option FileMap) (kept : Option Stored) where
  -- what stands before the act stands among its stops
  pub act_first : (act : Act) (state : List ℕ) (m : Machine) → StandsAt held kept m → StandsAmong held kept (act_outcome act state m).stops
  act_first (says last) state m at = inl at
  act_first (reckons strings last) state m at = inl at
  act_first (changes [] last) state m at = inl at
  act_first (changes (step ∷ steps) last) state m at = inl at
  act_first (works deed) state m at =
      stops_first held kept state m (outcome deed) at
      (λ s e. deed_first held kept deed (record { files = m.files; state = s; draws = m.draws }) (stands_live held kept m s e at))

  changed_last : (steps : List FileStep) (m : Machine) → StandsAt held kept (changed_machine steps m) → StandsAmong held kept (changed_stops steps m)
  changed_last [] m at = inl at
  changed_last (step ∷ steps) m at = inr (changed_last steps (with_files m (stepped_files step m.files)) at)

  -- and so does what stands after it
  pub act_last : (act : Act) (state : List ℕ) (m : Machine) → StandsAt held kept (act_outcome act state m).after → StandsAmong held kept (act_outcome act state m).stops
  act_last (says last) state m at = inl at
  act_last (reckons strings last) state m at = inl at
  act_last (changes steps last) state m at = changed_last steps m at
  act_last (works deed) state m at =
      stops_last held kept state m (outcome deed) (λ s e h. deed_last held kept deed (record { files = m.files; state = s; draws = m.draws }) h) at

module _ (T : Live → World → Type 0) (Files : FileRule) (laws : IsTie T Files) where
  changed_kept : (steps : List FileStep) (last : Ending) (files : FileMap) (device : Stored) (words : List (List ℕ)) (w : World)
      → (let m : Machine = record { files = files; device = device; draws = words } in
      IsSoundOn Files (changing steps last) device m w → Clean (changed_world steps w) → Safe (changed_world steps w) → HoldsAt T m w
      → HoldsAt T (changed_machine steps m) (changed_world steps w))
  changed_kept steps last files (Holds s) words w sound clean safe tie =
      let m : Live = record { files = files; state = s; draws = words } in
      let same = changed_is steps last m w in
      let k = deed_kept T Files laws (changing steps last) m w sound (subst Clean same clean) (subst Safe same safe) tie in
      subst (λ v. HoldsAt T (changed_machine steps (machine m)) v) (sym same)
      (subst (λ (n : Machine). HoldsAt T n (world (changing steps last) m w)) (sym (changed_after steps last m)) k)
  changed_kept steps last files (TooLarge size) words w sound clean safe tie = absurd tie
  changed_kept steps last files (Malformed place) words w sound clean safe tie = absurd tie
  changed_kept steps last files (BadRule rule) words w sound clean safe tie = absurd tie

  worked_kept : (deed : Deed) (state : List ℕ) (files : FileMap) (device : Stored) (words : List (List ℕ)) (w : World)
      → (let m : Machine = record { files = files; device = device; draws = words } in
      IsSoundOn Files deed device m w → Clean (by_state device m w (world deed)) → Safe (by_state device m w (world deed)) → HoldsAt T m w
      → HoldsAt T (by_device device state m (outcome deed)).after (by_state device m w (world deed)))
  worked_kept deed state files (Holds s) words w sound clean safe tie = deed_kept T Files laws deed (record { files = files; state = s; draws = words }) w sound clean safe tie
  worked_kept deed state files (TooLarge size) words w sound clean safe tie = absurd tie
  worked_kept deed state files (Malformed place) words w sound clean safe tie = absurd tie
  worked_kept deed state files (BadRule rule) words w sound clean safe tie = absurd tie

  reckoned_kept : (strings : List HashedString) (files : FileMap) (device : Stored) (words : List (List ℕ)) (w : World)
      → (let m : Machine = record { files = files; device = device; draws = words } in
      HoldsAt T m w → HoldsAt T m (hashed_world strings w))
  reckoned_kept strings files (Holds s) words w tie = laws.hashed strings (record { files = files; state = s; draws = words }) w tie
  reckoned_kept strings files (TooLarge size) words w tie = absurd tie
  reckoned_kept strings files (Malformed place) words w tie = absurd tie
  reckoned_kept strings files (BadRule rule) words w tie = absurd tie

  -- a sound act keeps the tie
  pub act_kept : (act : Act) (state : List ℕ) (m : Machine) (w : World) → IsSoundAct Files act m w → Clean (act_world act m w) → Safe (act_world act m w)
      → HoldsAt T m w → HoldsAt T (act_outcome act state m).after (act_world act m w)
  act_kept (says last) state m w sound clean safe tie = tie
  act_kept (reckons strings last) state m w sound clean safe tie = reckoned_kept strings m.files m.device m.draws w tie
  act_kept (changes steps last) state m w sound clean safe tie = changed_kept steps last m.files m.device m.draws w sound clean safe tie
  act_kept (works deed) state m w sound clean safe tie = worked_kept deed state m.files m.device m.draws w sound clean safe tie

  -- the line that comes to a sound act keeps the tie
  pub line_kept : (o : Outcome) (act : Act) (state : List ℕ) (m : Machine) (w : World) → IsDone o (act_outcome act state m)
      → IsSoundAct Files act m w → Clean (act_world act m w) → Safe (act_world act m w) → HoldsAt T m w → HoldsAt T o.after (act_world act m w)
  line_kept o act state m w done sound clean safe tie =
      subst (λ (n : Machine). HoldsAt T n (act_world act m w)) (sym done.after) (act_kept act state m w sound clean safe tie)

  module _ (held : Option FileMap) (kept : Option Stored) where
    said_stopped : (last : Ending) (files : FileMap) (device : Stored) (words : List (List ℕ)) (w : World)
        → (let m : Machine = record { files = files; device = device; draws = words } in
        HoldsAt T m w → StandsAmong held kept (m ∷ []) → StandsTied T held kept (stages_on (says last) device m w))
    said_stopped last files (Holds s) words w tie (inl at) = record { stage = record { live = record { files = files; state = s; draws = words }; world = w }; among = (0, omega arith, refl); stands = at; tied = tie }
    said_stopped last files (Holds s) words w tie (inr none) = absurd none
    said_stopped last files (TooLarge size) words w tie stands = absurd tie
    said_stopped last files (Malformed place) words w tie stands = absurd tie
    said_stopped last files (BadRule rule) words w tie stands = absurd tie

    changed_stopped : (steps : List FileStep) (last : Ending) (files : FileMap) (device : Stored) (words : List (List ℕ)) (w : World)
        → (let m : Machine = record { files = files; device = device; draws = words } in
        IsSoundOn Files (changing steps last) device m w → Clean (changed_world steps w) → Safe (changed_world steps w) → HoldsAt T m w
        → StandsAmong held kept (changed_stops steps m) → StandsTied T held kept (stages_on (changes steps last) device m w))
    changed_stopped steps last files (Holds s) words w sound clean safe tie stands =
        let m : Live = record { files = files; state = s; draws = words } in
        let same = changed_is steps last m w in
        deed_stopped held kept T Files laws (changing steps last) m w sound (subst Clean same clean) (subst Safe same safe) tie
        (subst (λ (xs : List Machine). StandsAmong held kept xs) (changed_between steps last m) stands)
    changed_stopped steps last files (TooLarge size) words w sound clean safe tie stands = absurd tie
    changed_stopped steps last files (Malformed place) words w sound clean safe tie stands = absurd tie
    changed_stopped steps last files (BadRule rule) words w sound clean safe tie stands = absurd tie

    worked_stopped : (deed : Deed) (state : List ℕ) (files : FileMap) (device : Stored) (words : List (List ℕ)) (w : World)
        → (let m : Machine = record { files = files; device = device; draws = words } in
        IsSoundOn Files deed device m w → Clean (by_state device m w (world deed)) → Safe (by_state device m w (world deed)) → HoldsAt T m w
        → StandsAmong held kept (by_device device state m (outcome deed)).stops → StandsTied T held kept (stages_on (works deed) device m w))
    worked_stopped deed state files (Holds s) words w sound clean safe tie stands =
        deed_stopped held kept T Files laws deed (record { files = files; state = s; draws = words }) w sound clean safe tie stands
    worked_stopped deed state files (TooLarge size) words w sound clean safe tie stands = absurd tie
    worked_stopped deed state files (Malformed place) words w sound clean safe tie stands = absurd tie
    worked_stopped deed state files (BadRule rule) words w sound clean safe tie stands = absurd tie

    reckoned_stopped : (strings : List HashedString) (last : Ending) (files : FileMap) (device : Stored) (words : List (List ℕ)) (w : World)
        → (let m : Machine = record { files = files; device = device; draws = words } in
        HoldsAt T m w → StandsAmong held kept (m ∷ []) → StandsTied T held kept (stages_on (reckons strings last) device m w))
    reckoned_stopped strings last files (Holds s) words w tie stands =
        said_stopped last files (Holds s) words (hashed_world strings w) (laws.hashed strings (record { files = files; state = s; draws = words }) w tie) stands
    reckoned_stopped strings last files (TooLarge size) words w tie stands = absurd tie
    reckoned_stopped strings last files (Malformed place) words w tie stands = absurd tie
    reckoned_stopped strings last files (BadRule rule) words w tie stands = absurd tie

    -- after a stop of a sound act one of its stages stands, and it is tied
    pub act_stopped : (act : Act) (state : List ℕ) (m : Machine) (w : World) → IsSoundAct Files act m w → Clean (act_world act m w) → Safe (act_world act m w)
        → HoldsAt T m w → StandsAmong held kept (act_outcome act state m).stops → StandsTied T held kept (act_stages act m w)
    act_stopped (says last) state m w sound clean safe tie stands = said_stopped last m.files m.device m.draws w tie stands
    act_stopped (reckons strings last) state m w sound clean safe tie stands = reckoned_stopped strings last m.files m.device m.draws w tie stands
    act_stopped (changes steps last) state m w sound clean safe tie stands = changed_stopped steps last m.files m.device m.draws w sound clean safe tie stands
    act_stopped (works deed) state m w sound clean safe tie stands = worked_stopped deed state m.files m.device m.draws w sound clean safe tie stands

-- of a line that comes to an act
pub line_hashed : (o : Outcome) (act : Act) (state : List ℕ) (m : Machine) (w : World) → IsDone o (act_outcome act state m) → AreHashed (act_world act m w) o.hashed
line_hashed o act state m w done = λ x k. act_hashed act state m w x (done.hashed x k)

pub line_first : (held : Option FileMap) (kept : Option Stored) (o : Outcome) (act : Act) (state : List ℕ) (m : Machine) → IsDone o (act_outcome act state m)
    → StandsAt held kept m → StandsAmong held kept o.stops
line_first held kept o act state m done at = (done.stops held kept).1 (act_first held kept act state m at)

pub line_last : (held : Option FileMap) (kept : Option Stored) (o : Outcome) (act : Act) (state : List ℕ) (m : Machine) → IsDone o (act_outcome act state m)
    → StandsAt held kept o.after → StandsAmong held kept o.stops
line_last held kept o act state m done at = (done.stops held kept).1 (act_last held kept act state m (subst (λ (n : Machine). StandsAt held kept n) done.after at))

pub line_stopped : (T : Live → World → Type 0) (Files : FileRule) → IsTie T Files → (held : Option FileMap) (kept : Option Stored)
    → (o : Outcome) (act : Act) (state : List ℕ) (m : Machine) (w : World) → IsDone o (act_outcome act state m)
    → IsSoundAct Files act m w → Clean (act_world act m w) → Safe (act_world act m w) → HoldsAt T m w
    → StandsAmong held kept o.stops → StandsTied T held kept (act_stages act m w)
line_stopped T Files laws held kept o act state m w done sound clean safe tie stands =
    act_stopped T Files laws held kept act state m w sound clean safe tie ((done.stops held kept).0 stands)
