-- The line of each command comes to its act, whose steps are sound; so it first stands at the machine before it
-- and last at the one after, its strings are hashed, and it keeps what each of its steps keeps.
use Rattle.std.proofs.Common.{◌≡◌, ℕ, true, List, [], sym, subst, ◌∙◌}
use Rattle.std.specs.Prelude.{Option, None, Some, IfSome}
use Rattle.std.specs.Option.{unwrap_or}
use Rattle.pl_base.specs.FileMap.{FileMap}
use Rattle.hash_bank.specs.declared.bank.Bank.{Bank}
use Rattle.tpm_model.specs.Events.{Clean}
use Rattle.tpm_model.specs.World.{AreHashed, World, unused_world}
use Rattle.tpm_model.specs.declared.parts.Parts.{Parts}
use Rattle.tpm_device.specs.Stored.{Stored, Holds, TooLarge, Malformed, BadRule}
use Rattle.tpm_worlds.proofs.TrailReads.{GrowsAll}
use Rattle.pcrlock_words.specs.declared.request.Request.{Request}
use Rattle.pcrlock_words.specs.declared.request.Request.TheVariants as requests
use Rattle.pcrlock_words.specs.ProperRequest.{IsIndex, IsProperRequest}
use Rattle.pcrlock_line.specs.Machine.{Live, Machine}
use Rattle.pcrlock_line.specs.Stopped.{StandsAt, StandsAmong}
use Rattle.pcrlock_deeds.specs.Acts.{HoldsAt, HoldsOn, IsAct, IsSoundAct, act_stages, act_world}
use Rattle.pcrlock_deeds.specs.Kept.{IsOwnKept, LeavesFiled}
use Rattle.pcrlock_deeds.specs.Sound.{IsTie, StandsTied}
use Rattle.pcrlock_deeds.proofs.Acting.{act_grows, line_first, line_hashed, line_kept, line_last, line_stopped}
use Rattle.pcrlock_deeds.proofs.Done.{done_itself}
use Rattle.pcrlock_tpm.proofs.Acts.{extend_is, extend_sound, boot_is, boot_sound}
use Rattle.pcrlock_exec.proofs.Acts.{exec_is, exec_sound}
use Rattle.pcrlock_broker.proofs.Acts.{broker_is, broker_sound}
use Rattle.pcrlock_seal.proofs.Acts.{enroll_bound_is, enroll_bound_sound, enroll_is, enroll_sound}
use Rattle.pcrlock_open.proofs.Acts.{unseal_is, unseal_sound}
use Rattle.component_make.specs.declared.kind.FirmwareKind.TheVariants.{Code, Config}
use Rattle.pcrlock_lock.proofs.Acts.{lock_firmware_is, lock_firmware_sound, unlock_firmware_is, unlock_firmware_sound, lock_raw_is, lock_raw_sound}
use Rattle.pcrlock_proofs.proofs.Acts.{prove_is, prove_sound}
use Rattle.pcrlock_open.specs.Acts.{unseal_act}
use Rattle.pcrlock_policy.specs.Acts.{make_policy_act}
use Rattle.pcrlock_policy.specs.Asked.{Asked, Target}
use Rattle.pcrlock_policy.proofs.Acts.{make_policy_is}
use Rattle.pcrlock_policy.proofs.Sound.{make_policy_sound}
use Rattle.pcrlock_update.specs.Acts.{remove_policy_act}
use Rattle.pcrlock_update.proofs.Acts.{remove_policy_is, remove_policy_sound}
use Rattle.pcrlock_run.specs.Acts.{act_of, enrolling}
use Rattle.pcrlock_run.specs.Leaves.{Safe}
use Rattle.pcrlock_run.specs.Script.{command_line, enroll_outcome, unseal_outcome}
use Rattle.pcrlock_run.specs.Setting.{Setting, target_in}
use Rattle.pcrlock_run.specs.Under.{IsOwnKeptAt, IsUnderPath}
use Rattle.pcrlock_run.specs.Worlds.{command_world}

-- ---- the table of lines

enrolls_as : (state token policy : List ℕ) (key : Option (List ℕ)) (literal : Option ℕ) (bank : Bank) → IsAct (enroll_outcome state token policy key literal bank) state (enrolling token policy key literal bank)
unfolding enroll_outcome
enrolls_as state token policy key (Some pcr) bank = enroll_is state token pcr bank key
enrolls_as state token policy key None bank = enroll_bound_is state token policy key

unseals_as : (state token policy : List ℕ) → IsAct (unseal_outcome state token policy) state (unseal_act token policy)
unfolding unseal_outcome
unseals_as state token policy = unseal_is state token policy

pub lawful : (setting : Setting) (request : Request) → IsProperRequest request → IsAct (command_line setting request) setting.state (act_of setting request)
unfolding command_line act_of
lawful setting (requests.TpmExtend pcr bytes) proper = extend_is setting.state pcr bytes proper
lawful setting (requests.Enroll token policy key literal bank) proper = enrolls_as setting.state token policy key literal bank
lawful setting (requests.Unseal token policy) proper = unseals_as setting.state token policy
lawful setting (requests.TpmBoot firmware user locality banks) proper = boot_is setting.state firmware user locality banks
lawful setting (requests.TpmExec commands) proper = exec_is setting.state commands
lawful setting (requests.Broker commands clients) proper = broker_is setting.state commands clients
lawful setting (requests.LockFirmwareCode log folder variant) proper = lock_firmware_is setting.state Code log folder variant
lawful setting (requests.LockFirmwareConfig log folder variant) proper = lock_firmware_is setting.state Config log folder variant
lawful setting (requests.UnlockFirmwareCode folder variant) proper = unlock_firmware_is setting.state Code folder variant
lawful setting (requests.UnlockFirmwareConfig folder variant) proper = unlock_firmware_is setting.state Config folder variant
lawful setting (requests.LockRaw file pcr output) proper = lock_raw_is setting.state file pcr output
lawful setting (requests.Prove output folders location pcr bank locality joint) proper =
    prove_is setting.state output folders location (record { pcrs = pcr; bank = bank; locality = locality; joint = joint })
lawful setting (requests.MakePolicy firmware user folders location pcr bank policy index pin force joint) proper =
    make_policy_is setting.state (record { firmware = firmware; user = user; folders = folders; window = location; pcrs = pcr; bank = bank; joint = joint })
    (target_in setting policy index pin force)
lawful setting (requests.RemovePolicy policy) proper = remove_policy_is setting.state policy
lawful setting other proper = λ m w. done_itself (command_line setting other m)

-- ---- the table of soundness, where all but sessions hangs together

-- what holds of a machine holds of the state that it stores
holds_of : (T : Live → World → Type 0) (m : Machine) (w : World) → HoldsAt T m w → (s : Parts) → m.device ≡ Holds s → T (record { files = m.files; state = s; draws = m.draws }) w
holds_of T m w holds s e = subst (λ (kept : Stored). HoldsOn T kept m w) e holds

-- what is known where a request's command begins: the index for words that name none is one, what is kept but for
-- sessions was kept, and no strings clash in the end
pub record IsKnown (path : List ℕ) (setting : Setting) (request : Request) (m : Machine) (w : World) : Type 0 where
  pub index : IsIndex setting.index
  pub kept : IsOwnKeptAt path m w
  pub safe : Safe (command_world setting request m w).hashed

module _ (path : List ℕ) where
  enrolls_sound : (token policy : List ℕ) (key : Option (List ℕ)) (literal : Option ℕ) (bank : Bank) (m : Machine) (w : World) → (token ≡ path → ⊥) → IsOwnKeptAt path m w
      → IsSoundAct (LeavesFiled path) (enrolling token policy key literal bank m w) m w
  enrolls_sound token policy key (Some pcr) bank m w other kept = enroll_sound (LeavesFiled path) token pcr bank key m w (λ live v. other)
  enrolls_sound token policy key None bank m w other kept =
      enroll_bound_sound (LeavesFiled path) token policy path key m w (λ live v. other) (λ s e. (holds_of (IsOwnKept path) m w kept s e).filed)

  -- the handle for a new policy is one of an index
  proper_index : (named : Option ℕ) (index : ℕ) → IfSome named IsIndex → IsIndex index → IsIndex (unwrap_or named index)
  proper_index None index named proper = proper
  proper_index (Some handle) index named proper = named

  makes_sound : (asked : Asked) (target : Target) (m : Machine) (w : World) → target.path ≡ path → IsIndex target.index → IsOwnKeptAt path m w
      → Safe (act_world (make_policy_act asked target m w) m w).hashed → IsSoundAct (LeavesFiled path) (make_policy_act asked target m w) m w
  makes_sound asked target m w same index kept safe =
      subst (λ (p : List ℕ). IsOwnKeptAt p m w → IsSoundAct (LeavesFiled p) (make_policy_act asked target m w) m w) same
      (λ k. make_policy_sound asked target m w index k safe) kept

  pub sound : (setting : Setting) (request : Request) (m : Machine) (w : World) → IsProperRequest request → IsUnderPath path request → IsKnown path setting request m w
      → IsSoundAct (LeavesFiled path) (act_of setting request m w) m w
  unfolding act_of
  sound setting (requests.TpmExtend pcr bytes) m w proper under known = extend_sound (LeavesFiled path) pcr bytes m w
  sound setting (requests.Enroll token policy key literal bank) m w proper under known = enrolls_sound token policy key literal bank m w (λ same. proper.0 (same ∙ sym under.names)) known.kept
  sound setting (requests.Unseal token policy) m w proper under known = unseal_sound (LeavesFiled path) token policy m w
  sound setting (requests.TpmBoot firmware user locality banks) m w proper under known = boot_sound (LeavesFiled path) firmware user locality banks m w
  sound setting (requests.TpmExec commands) m w proper under known = exec_sound (LeavesFiled path) commands m w
  sound setting (requests.Broker commands clients) m w proper under known = broker_sound (LeavesFiled path) commands clients m w
  sound setting (requests.LockFirmwareCode log folder variant) m w proper under known = lock_firmware_sound (LeavesFiled path) Code log folder variant m w (λ live v. under.spares.0) (λ live v. under.spares.1)
  sound setting (requests.LockFirmwareConfig log folder variant) m w proper under known = lock_firmware_sound (LeavesFiled path) Config log folder variant m w (λ live v. under.spares.0) (λ live v. under.spares.1)
  sound setting (requests.UnlockFirmwareCode folder variant) m w proper under known = unlock_firmware_sound (LeavesFiled path) Code folder variant m w (λ live v. under.spares.0) (λ live v. under.spares.1)
  sound setting (requests.UnlockFirmwareConfig folder variant) m w proper under known = unlock_firmware_sound (LeavesFiled path) Config folder variant m w (λ live v. under.spares.0) (λ live v. under.spares.1)
  sound setting (requests.LockRaw file pcr output) m w proper under known = lock_raw_sound (LeavesFiled path) file pcr output m w (λ live v. under.spares)
  sound setting (requests.Prove output folders location pcr bank locality joint) m w proper under known =
      prove_sound (LeavesFiled path) output folders location (record { pcrs = pcr; bank = bank; locality = locality; joint = joint }) m w (λ live v. under.spares)
  sound setting (requests.MakePolicy firmware user folders location pcr bank policy index pin force joint) m w proper under known =
      makes_sound (record { firmware = firmware; user = user; folders = folders; window = location; pcrs = pcr; bank = bank; joint = joint })
      (target_in setting policy index pin force) m w under.names (proper_index index setting.index proper.1 known.index) known.kept known.safe
  sound setting (requests.RemovePolicy policy) m w proper under known =
      subst (λ (p : List ℕ). IsSoundAct (LeavesFiled p) (remove_policy_act policy m w) m w) under.names (remove_policy_sound policy m w)
  sound setting other m w proper under known = tt

-- ---- what follows for each command

-- a world, where any does
any_world : World
any_world = unused_world (record { sha1 = true; sha256 = true; sha384 = true; sha512 = true }) []

pub command_first : (held : Option FileMap) (stored : Option Stored) (setting : Setting) (request : Request) (m : Machine) → IsProperRequest request
    → StandsAt held stored m → StandsAmong held stored (command_line setting request m).stops
command_first held stored setting request m proper at =
    line_first held stored (command_line setting request m) (act_of setting request m any_world) setting.state m (lawful setting request proper m any_world) at

pub command_last : (held : Option FileMap) (stored : Option Stored) (setting : Setting) (request : Request) (m : Machine) → IsProperRequest request
    → StandsAt held stored (command_line setting request m).after → StandsAmong held stored (command_line setting request m).stops
command_last held stored setting request m proper at =
    line_last held stored (command_line setting request m) (act_of setting request m any_world) setting.state m (lawful setting request proper m any_world) at

pub command_hashed : (setting : Setting) (request : Request) (m : Machine) (w : World) → IsProperRequest request → AreHashed (command_world setting request m w) (command_line setting request m).hashed
command_hashed setting request m w proper =
    line_hashed (command_line setting request m) (act_of setting request m w) setting.state m w (lawful setting request proper m w)

pub command_grows : (setting : Setting) (request : Request) (m : Machine) (w : World) → GrowsAll w (command_world setting request m w)
command_grows setting request m w = act_grows (act_of setting request m w) m w

-- a tie that says at least what is kept but for sessions
abbrev pub OwnsKept : List ℕ → (Live → World → Type 0) → Type 0
OwnsKept path T = (m : Live) (w : World) → T m w → IsOwnKept path m w

own_kept : (path : List ℕ) (T : Live → World → Type 0) → OwnsKept path T → (m : Machine) (w : World) → HoldsAt T m w → IsOwnKeptAt path m w
own_kept path T owns m w holds = by m.device holds
  where
    by : (kept : Stored) → HoldsOn T kept m w → HoldsOn (IsOwnKept path) kept m w
    by (Holds s) k = owns (record { files = m.files; state = s; draws = m.draws }) w k
    by (TooLarge size) k = k
    by (Malformed place) k = k
    by (BadRule rule) k = k

pub command_kept : (path : List ℕ) (T : Live → World → Type 0) → IsTie T (LeavesFiled path) → OwnsKept path T → (setting : Setting) (request : Request) (m : Machine) (w : World)
    → IsIndex setting.index → IsProperRequest request → IsUnderPath path request → Clean (command_world setting request m w) → Safe (command_world setting request m w).hashed
    → HoldsAt T m w → HoldsAt T (command_line setting request m).after (command_world setting request m w)
command_kept path T laws owns setting request m w index proper under clean safe holds =
    line_kept T (LeavesFiled path) laws (command_line setting request m) (act_of setting request m w) setting.state m w (lawful setting request proper m w)
    (sound path setting request m w proper under (record { index = index; kept = own_kept path T owns m w holds; safe = safe })) clean safe holds

-- after a stop one of the stages of its act stands, and it is kept
pub command_stopped : (path : List ℕ) (T : Live → World → Type 0) → IsTie T (LeavesFiled path) → OwnsKept path T → (held : Option FileMap) (stored : Option Stored)
    → (setting : Setting) (request : Request) (m : Machine) (w : World)
    → IsIndex setting.index → IsProperRequest request → IsUnderPath path request → Clean (command_world setting request m w) → Safe (command_world setting request m w).hashed
    → HoldsAt T m w → StandsAmong held stored (command_line setting request m).stops → StandsTied T held stored (act_stages (act_of setting request m w) m w)
command_stopped path T laws owns held stored setting request m w index proper under clean safe holds stands =
    line_stopped T (LeavesFiled path) laws held stored (command_line setting request m) (act_of setting request m w) setting.state m w (lawful setting request proper m w)
    (sound path setting request m w proper under (record { index = index; kept = own_kept path T owns m w holds; safe = safe })) clean safe holds stands
