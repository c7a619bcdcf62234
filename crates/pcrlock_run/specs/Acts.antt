-- What each command does, as an act.
use Rattle.std.specs.Prelude.{ℕ, List, Option, None, Some}
use Rattle.hash_bank.specs.declared.bank.Bank.{Bank}
use Rattle.tpm_model.specs.World.{World}
use Rattle.pcrlock_words.specs.declared.request.Request.{Request}
use Rattle.pcrlock_words.specs.declared.request.Request.TheVariants as requests
use Rattle.pcrlock_line.specs.Machine.{Machine}
use Rattle.pcrlock_deeds.specs.Acts.{Act, says}
use Rattle.pcrlock_tpm.specs.Acts.{extend_act, boot_act}
use Rattle.pcrlock_exec.specs.Acts.{exec_act}
use Rattle.pcrlock_broker.specs.Acts.{broker_act}
use Rattle.pcrlock_seal.specs.Acts.{enroll_act, enroll_bound_act}
use Rattle.pcrlock_open.specs.Acts.{unseal_act}
use Rattle.component_make.specs.declared.kind.FirmwareKind.TheVariants.{Code, Config}
use Rattle.pcrlock_lock.specs.Acts.{lock_firmware_act, unlock_firmware_act, lock_raw_act}
use Rattle.pcrlock_proofs.specs.Acts.{prove_act}
use Rattle.pcrlock_update.specs.Acts.{remove_policy_act}
use Rattle.pcrlock_policy.specs.Acts.{make_policy_act}
use Rattle.pcrlock_run.specs.Setting.{Setting, target_in}
use Rattle.pcrlock_run.specs.Script.{command_line}

-- `enroll` under the present value of a PCR, or else under the policy
abbrev pub enrolling : List ℕ → List ℕ → Option (List ℕ) → Option ℕ → Bank → Machine → World → Act
enrolling token policy key (Some pcr) bank m w = enroll_act token pcr bank key m w
enrolling token policy key None bank m w = enroll_bound_act token policy key m w

-- the act of each command; what stands in no case changes nothing, and says what its line says
unfoldable pub act_of : Setting → Request → Machine → World → Act
act_of setting (requests.TpmExtend pcr bytes) m w = extend_act pcr bytes m w
act_of setting (requests.Enroll token policy key literal bank) m w = enrolling token policy key literal bank m w
act_of setting (requests.Unseal token policy) m w = unseal_act token policy m w
act_of setting (requests.TpmBoot firmware user locality banks) m w = boot_act firmware user locality banks m w
act_of setting (requests.TpmExec commands) m w = exec_act commands m w
act_of setting (requests.Broker commands clients) m w = broker_act commands clients m w
act_of setting (requests.LockFirmwareCode log folder variant) m w = lock_firmware_act Code log folder variant m w
act_of setting (requests.LockFirmwareConfig log folder variant) m w = lock_firmware_act Config log folder variant m w
act_of setting (requests.UnlockFirmwareCode folder variant) m w = unlock_firmware_act Code folder variant m w
act_of setting (requests.UnlockFirmwareConfig folder variant) m w = unlock_firmware_act Config folder variant m w
act_of setting (requests.LockRaw file pcr output) m w = lock_raw_act file pcr output m w
act_of setting (requests.Prove output folders location pcr bank locality joint) m w =
    prove_act output folders location (record { pcrs = pcr; bank = bank; locality = locality; joint = joint }) m w
act_of setting (requests.MakePolicy firmware user folders location pcr bank policy index pin force joint) m w =
    make_policy_act (record { firmware = firmware; user = user; folders = folders; window = location; pcrs = pcr; bank = bank; joint = joint })
    (target_in setting policy index pin force) m w
act_of setting (requests.RemovePolicy policy) m w = remove_policy_act policy m w
act_of setting request m w = says (command_line setting request m).ending
