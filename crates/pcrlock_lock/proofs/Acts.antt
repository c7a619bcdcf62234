-- Each lock comes to its act, and no step of it touches the policy file where no path of its is that.
use Rattle.std.proofs.Common.{◌≡◌, ℕ, Bool, true, false, cond, List, [], ◌∷◌, refl, sym, subst}
use Rattle.std.specs.Prelude.{is_some, Option, Result, Ok, Err}
use Rattle.std.specs.FinMap.{get, remove}
use Rattle.pl_base.specs.FileMap.{FileMap}
use Rattle.component_make.specs.FirmwareFiles.{early_path, late_path}
use Rattle.component_make.specs.declared.kind.FirmwareKind.{FirmwareKind}
use Rattle.tpm_model.specs.World.{World}
use Rattle.tpm_device.specs.Stored.{Stored, Holds, TooLarge, Malformed, BadRule}
use Rattle.pcrlock_answer.specs.declared.answer.Answer.{Answer}
use Rattle.pcrlock_line.specs.Content.{Content, Missing, TooLarge as TooLong, Bytes, content_of}
use Rattle.pcrlock_line.specs.Machine.{Live, Machine}
use Rattle.pcrlock_line.specs.Outcome.{Ending}
use Rattle.pcrlock_deeds.specs.Acts.{FileStep, IsAct, IsDone, IsSoundAct, IsSoundOn, Removed, Written, act_outcome, changing}
use Rattle.pcrlock_deeds.specs.Deed.{Filing, keeps}
use Rattle.pcrlock_deeds.specs.Sound.{FileRule, IsSound}
use Rattle.pcrlock_deeds.specs.Steps.{filing_world, removed_live, written_live}
use Rattle.pcrlock_deeds.proofs.Done.{done_itself}
use Rattle.pcrlock_lock.specs.Acts.{lock_firmware_act, lock_raw_act, unlock_firmware_act, work_act}
use Rattle.pcrlock_lock.specs.Changing.{Work, changes_in, changing_line, ending_in}
use Rattle.pcrlock_lock.specs.LockFirmware.{Halves, firmware_work, halves_in, lock_firmware_line, written}
use Rattle.pcrlock_lock.specs.LockRaw.{lock_raw_line, raw_by, raw_limit}
use Rattle.pcrlock_lock.specs.UnlockFirmware.{removals, unlock_firmware_line, unlock_work}
use Rattle.pcrlock_input.specs.Answering.{◌>>=◌}

-- ---- the line is the act

pub work_is : (given : Result Work Answer) (state : List ℕ) (m : Machine) → IsDone (changing_line given m) (act_outcome (work_act given) state m)
work_is given state m = done_itself (changing_line given m)

pub lock_firmware_is : (state : List ℕ) (kind : FirmwareKind) (named : Option (List ℕ)) (folder variant : List ℕ)
    → IsAct (lock_firmware_line kind named folder variant) state (lock_firmware_act kind named folder variant)
unfolding lock_firmware_act
lock_firmware_is state kind named folder variant m w = work_is (firmware_work kind named folder variant m.files) state m

pub unlock_firmware_is : (state : List ℕ) (kind : FirmwareKind) (folder variant : List ℕ) → IsAct (unlock_firmware_line kind folder variant) state (unlock_firmware_act kind folder variant)
unfolding unlock_firmware_act
unlock_firmware_is state kind folder variant m w = work_is (unlock_work kind folder variant m.files) state m

pub lock_raw_is : (state file : List ℕ) (pcr : ℕ) (output : List ℕ) → IsAct (lock_raw_line file pcr output) state (lock_raw_act file pcr output)
unfolding lock_raw_act
lock_raw_is state file pcr output m w = work_is (raw_by file pcr output (content_of m.files file raw_limit)) state m

-- ---- its steps keep a tie

module _ (Files : FileRule) where
  -- the path may be changed at any time
  abbrev pub MayChange : List ℕ → Type 0
  MayChange path = (live : Live) (v : World) → Files path keeps live v

  -- so may the paths of all changes, none of which says what the policy file states
  abbrev pub AllMay : List FileStep → Type 0
  AllMay [] = Unit {0}
  AllMay (Written path bytes filing ∷ more) = (filing ≡ keeps) × MayChange path × AllMay more
  AllMay (Removed path filing ∷ more) = (filing ≡ keeps) × MayChange path × AllMay more

  may_file : (path : List ℕ) (filing : Filing) (live : Live) (w : World) → filing ≡ keeps → MayChange path → Files path filing live w
  may_file path filing live w same may = subst (λ (f : Filing). Files path f live w) (sym same) (may live w)

  steps_sound : (changes : List FileStep) (last : Ending) (live : Live) (w : World) → AllMay changes → IsSound Files (changing changes last) live w
  steps_sound [] last live w may = tt
  steps_sound (Written path bytes filing ∷ more) last live w may =
      let next = written_live path bytes live in (may_file path filing next w may.0 may.1, steps_sound more last next (filing_world filing w) may.2)
  steps_sound (Removed path filing ∷ more) last live w may =
      let next = removed_live path live in (may_file path filing next w may.0 may.1, steps_sound more last next (filing_world filing w) may.2)

  on_stored : (kept : Stored) (changes : List FileStep) (last : Ending) (m : Machine) (w : World) → AllMay changes → IsSoundOn Files (changing changes last) kept m w
  on_stored (Holds s) changes last m w may = steps_sound changes last (record { files = m.files; state = s; draws = m.draws }) w may
  on_stored (TooLarge size) changes last m w may = tt
  on_stored (Malformed place) changes last m w may = tt
  on_stored (BadRule rule) changes last m w may = tt

  pub work_sound : (given : Result Work Answer) (m : Machine) (w : World) → AllMay (changes_in given) → IsSoundAct Files (work_act given) m w
  work_sound given m w may = on_stored m.device (changes_in given) (ending_in given) m w may

  firmware_may : (kind : FirmwareKind) (folder variant : List ℕ) (halves : Result Halves Answer) → MayChange (early_path kind folder variant) → MayChange (late_path kind folder variant)
      → AllMay (changes_in (halves >>= λ both. Ok (written kind folder variant both)))
  firmware_may kind folder variant (Ok both) early late = (refl, early, (refl, late, tt))
  firmware_may kind folder variant (Err answer) early late = tt

  pub lock_firmware_sound : (kind : FirmwareKind) (named : Option (List ℕ)) (folder variant : List ℕ) (m : Machine) (w : World)
      → MayChange (early_path kind folder variant) → MayChange (late_path kind folder variant) → IsSoundAct Files (lock_firmware_act kind named folder variant m w) m w
  unfolding lock_firmware_act
  lock_firmware_sound kind named folder variant m w early late =
      work_sound (firmware_work kind named folder variant m.files) m w (firmware_may kind folder variant (halves_in kind named m.files) early late)

  -- of two paths, those that are there are taken out
  second_may : (there : Bool) (path : List ℕ) → MayChange path → AllMay (cond there (Removed path keeps ∷ []) [])
  second_may true path may = (refl, may, tt)
  second_may false path may = tt

  removals_may : (there : Bool) (early late : List ℕ) (held : FileMap) → MayChange early → MayChange late
      → AllMay (cond there (Removed early keeps ∷ removals (late ∷ []) (remove held early)) (removals (late ∷ []) held))
  removals_may true early late held first second = (refl, first, second_may (is_some (get (remove held early) late)) late second)
  removals_may false early late held first second = second_may (is_some (get held late)) late second

  pub unlock_firmware_sound : (kind : FirmwareKind) (folder variant : List ℕ) (m : Machine) (w : World)
      → MayChange (early_path kind folder variant) → MayChange (late_path kind folder variant) → IsSoundAct Files (unlock_firmware_act kind folder variant m w) m w
  unfolding unlock_firmware_act
  unlock_firmware_sound kind folder variant m w early late =
      work_sound (unlock_work kind folder variant m.files) m w
      (removals_may (is_some (get m.files (early_path kind folder variant))) (early_path kind folder variant) (late_path kind folder variant) m.files early late)

  raw_may : (file : List ℕ) (pcr : ℕ) (output : List ℕ) (found : Content) → MayChange output → AllMay (changes_in (raw_by file pcr output found))
  raw_may file pcr output Missing may = tt
  raw_may file pcr output (TooLong size) may = tt
  raw_may file pcr output (Bytes bytes) may = (refl, may, tt)

  pub lock_raw_sound : (file : List ℕ) (pcr : ℕ) (output : List ℕ) (m : Machine) (w : World) → MayChange output → IsSoundAct Files (lock_raw_act file pcr output m w) m w
  unfolding lock_raw_act
  lock_raw_sound file pcr output m w may =
      work_sound (raw_by file pcr output (content_of m.files file raw_limit)) m w (raw_may file pcr output (content_of m.files file raw_limit) may)
