use Rattle.std.proofs.Common.{subst}
use Rattle.pcrlock_words.specs.ProperRequest.{IsProperRequest}
use Rattle.std.specs.Prelude.{IfOk, IfErr}
use Rattle.pcrlock_line.specs.declared.reply.Reply.{Reply}
use Rattle.pcrlock_line.specs.Outcome.{Outcome, Gives}
use Rattle.pcrlock_line.specs.Stopped.{StandsAmong}
use Rattle.pcrlock_run.specs.Setting.{setting_of}
use Rattle.pcrlock_run.specs.Leaves.{Safe}
use Rattle.pcrlock_line.proofs.Devices.{stands_unchanged}
use Rattle.pcrlock_run.proofs.Widened.{beside_tpm, beside_entropy, beside_files}
use Rattle.pcrlock_run.proofs.Commands.{some_bank, extends, enrolls, unseals, prints, lists, starts, logs, predicts, executes, serves, locks_code, locks_config, unlocks_code, unlocks_config, locks_raw, proves, checks, makes_policy, removes_policy, by_outcome}
use Rattle.pcrlock_run.proofs.command.command.Goals as goal

pub tpm_extend-requires : goal.tpm_extend-requires
tpm_extend-requires g c = subst IsProperRequest c.in-TpmExtend.is c.requires

pub returns-in-TpmExtend-clause-causes : goal.returns-in-TpmExtend-clause-causes
returns-in-TpmExtend-clause-causes g c = beside_tpm _ _ _ _ _ _ c.tpm_extend.ensures.causes

pub returns-in-TpmExtend-clause-told : goal.returns-in-TpmExtend-clause-told
returns-in-TpmExtend-clause-told g c = λ m tells safe. by_outcome _ _
    (λ (o : Outcome). IfOk c.tpm_extend.result (λ (r : Reply). Gives (g.F.Files.held c.args.files.now) (g.T.Tpm.stored c.tpm_extend.new.tpm) (g.E.Entropy.draws c.args.entropy.now) r o))
    (extends (setting_of c.args.setting.now) c.args.request.now c.in-TpmExtend.pcr _ c.as_slice.result.now m c.in-TpmExtend.is c.as_slice.ensures)
    (c.tpm_extend.ensures.told _ _ m tells)

pub returns-in-TpmExtend-clause-stops : goal.returns-in-TpmExtend-clause-stops
returns-in-TpmExtend-clause-stops g c = λ m tells safe. by_outcome _ _
    (λ (o : Outcome). IfErr c.tpm_extend.result (λ _. StandsAmong (g.F.Files.held c.args.files.now) (g.T.Tpm.stored c.tpm_extend.new.tpm) o.stops))
    (extends (setting_of c.args.setting.now) c.args.request.now c.in-TpmExtend.pcr _ c.as_slice.result.now m c.in-TpmExtend.is c.as_slice.ensures)
    (c.tpm_extend.ensures.stops _ _ m tells)

pub lock_raw-requires : goal.lock_raw-requires
lock_raw-requires g c = subst IsProperRequest c.in-LockRaw.is c.requires

pub enroll_key-requires : goal.enroll_key-requires
enroll_key-requires g c = (subst IsProperRequest c.in-Enroll.is c.requires).2

pub returns-in-Enroll-clause-told : goal.returns-in-Enroll-clause-told
returns-in-Enroll-clause-told g c = λ m tells safe. by_outcome _ _
    (λ (o : Outcome). IfOk c.enroll_key.result (λ (r : Reply). Gives (g.F.Files.held c.enroll_key.new.files) (g.T.Tpm.stored c.enroll_key.new.tpm) (g.E.Entropy.draws c.enroll_key.new.entropy) r o))
    (enrolls (setting_of c.args.setting.now) c.args.request.now _ _ _ _ _ m c.in-Enroll.is) (c.enroll_key.ensures.told m tells)

pub returns-in-Enroll-clause-stops : goal.returns-in-Enroll-clause-stops
returns-in-Enroll-clause-stops g c = λ m tells safe. by_outcome _ _
    (λ (o : Outcome). IfErr c.enroll_key.result (λ _. StandsAmong (g.F.Files.held c.enroll_key.new.files) (g.T.Tpm.stored c.enroll_key.new.tpm) o.stops))
    (enrolls (setting_of c.args.setting.now) c.args.request.now _ _ _ _ _ m c.in-Enroll.is) (c.enroll_key.ensures.stops m tells)

pub returns-in-Unseal-clause-causes : goal.returns-in-Unseal-clause-causes
returns-in-Unseal-clause-causes g c = beside_entropy _ _ _ _ _ c.unseal.result c.unseal.ensures.causes

pub returns-in-Unseal-clause-told : goal.returns-in-Unseal-clause-told
returns-in-Unseal-clause-told g c = λ m tells. by_outcome _ _
    (λ (o : Outcome). Safe o.hashed → IfOk c.unseal.result (λ (r : Reply). Gives (g.F.Files.held c.unseal.new.files) (g.T.Tpm.stored c.unseal.new.tpm) (g.E.Entropy.draws c.args.entropy.now) r o))
    (unseals (setting_of c.args.setting.now) c.args.request.now _ _ m c.in-Unseal.is) (c.unseal.ensures.told _ m tells)

pub returns-in-Unseal-clause-stops : goal.returns-in-Unseal-clause-stops
returns-in-Unseal-clause-stops g c = λ m tells safe. by_outcome _ _
    (λ (o : Outcome). IfErr c.unseal.result (λ _. StandsAmong (g.F.Files.held c.unseal.new.files) (g.T.Tpm.stored c.unseal.new.tpm) o.stops))
    (unseals (setting_of c.args.setting.now) c.args.request.now _ _ m c.in-Unseal.is) (c.unseal.ensures.stops _ m tells)

pub returns-in-Cel-clause-causes : goal.returns-in-Cel-clause-causes
returns-in-Cel-clause-causes g c = beside_files _ _ _ _ _ c.cel.result c.cel.ensures.causes

pub returns-in-Cel-clause-told : goal.returns-in-Cel-clause-told
returns-in-Cel-clause-told g c = λ m tells safe. by_outcome _ _
    (λ (o : Outcome). IfOk c.cel.result (λ (r : Reply). Gives (g.F.Files.held c.cel.new.files) (g.T.Tpm.stored c.args.tpm.now) (g.E.Entropy.draws c.args.entropy.now) r o))
    (prints (setting_of c.args.setting.now) c.args.request.now _ _ _ _ m c.in-Cel.is c.as_ref.ensures.value c.as_ref-in-Cel.ensures.value) (c.cel.ensures.told _ _ m tells)

pub returns-in-Cel-clause-stops : goal.returns-in-Cel-clause-stops
returns-in-Cel-clause-stops g c = λ m tells safe. by_outcome _ _
    (λ (o : Outcome). IfErr c.cel.result (λ _. StandsAmong (g.F.Files.held c.cel.new.files) (g.T.Tpm.stored c.args.tpm.now) o.stops))
    (prints (setting_of c.args.setting.now) c.args.request.now _ _ _ _ m c.in-Cel.is c.as_ref.ensures.value c.as_ref-in-Cel.ensures.value) (stands_unchanged _ _ _ m c.cel.result (c.cel.ensures.stops _ _ m tells))

pub returns-in-ListComponents-clause-causes : goal.returns-in-ListComponents-clause-causes
returns-in-ListComponents-clause-causes g c = beside_files _ _ _ _ _ c.list_components.result c.list_components.ensures.causes

pub returns-in-ListComponents-clause-told : goal.returns-in-ListComponents-clause-told
returns-in-ListComponents-clause-told g c = λ m tells safe. by_outcome _ _
    (λ (o : Outcome). IfOk c.list_components.result (λ (r : Reply). Gives (g.F.Files.held c.list_components.new.files) (g.T.Tpm.stored c.args.tpm.now) (g.E.Entropy.draws c.args.entropy.now) r o))
    (lists (setting_of c.args.setting.now) c.args.request.now _ _ m c.in-ListComponents.is c.as_slice-in-ListComponents.ensures) (c.list_components.ensures.told _ _ m tells)

pub returns-in-ListComponents-clause-stops : goal.returns-in-ListComponents-clause-stops
returns-in-ListComponents-clause-stops g c = λ m tells safe. by_outcome _ _
    (λ (o : Outcome). IfErr c.list_components.result (λ _. StandsAmong (g.F.Files.held c.list_components.new.files) (g.T.Tpm.stored c.args.tpm.now) o.stops))
    (lists (setting_of c.args.setting.now) c.args.request.now _ _ m c.in-ListComponents.is c.as_slice-in-ListComponents.ensures) (stands_unchanged _ _ _ m c.list_components.result (c.list_components.ensures.stops _ _ m tells))

pub tpm_boot-requires-clause-locality : goal.tpm_boot-requires-clause-locality
tpm_boot-requires-clause-locality g c = (subst IsProperRequest c.in-TpmBoot.is c.requires).0

pub tpm_boot-requires-clause-banks : goal.tpm_boot-requires-clause-banks
tpm_boot-requires-clause-banks g c = some_bank _ _ _ _ (subst IsProperRequest c.in-TpmBoot.is c.requires).1

pub returns-in-TpmBoot-clause-causes : goal.returns-in-TpmBoot-clause-causes
returns-in-TpmBoot-clause-causes g c = beside_entropy _ _ _ _ _ c.tpm_boot.result c.tpm_boot.ensures.causes

pub returns-in-TpmBoot-clause-told : goal.returns-in-TpmBoot-clause-told
returns-in-TpmBoot-clause-told g c = λ m tells safe. by_outcome _ _
    (λ (o : Outcome). IfOk c.tpm_boot.result (λ (r : Reply). Gives (g.F.Files.held c.tpm_boot.new.files) (g.T.Tpm.stored c.tpm_boot.new.tpm) (g.E.Entropy.draws c.args.entropy.now) r o))
    (starts (setting_of c.args.setting.now) c.args.request.now _ _ _ _ _ _ m c.in-TpmBoot.is c.as_ref-in-TpmBoot.ensures.value c.as_ref-in-TpmBoot-2.ensures.value) (c.tpm_boot.ensures.told _ m tells)

pub returns-in-TpmBoot-clause-stops : goal.returns-in-TpmBoot-clause-stops
returns-in-TpmBoot-clause-stops g c = λ m tells safe. by_outcome _ _
    (λ (o : Outcome). IfErr c.tpm_boot.result (λ _. StandsAmong (g.F.Files.held c.tpm_boot.new.files) (g.T.Tpm.stored c.tpm_boot.new.tpm) o.stops))
    (starts (setting_of c.args.setting.now) c.args.request.now _ _ _ _ _ _ m c.in-TpmBoot.is c.as_ref-in-TpmBoot.ensures.value c.as_ref-in-TpmBoot-2.ensures.value) (c.tpm_boot.ensures.stops _ m tells)

pub returns-in-Log-clause-causes : goal.returns-in-Log-clause-causes
returns-in-Log-clause-causes g c = beside_entropy _ _ _ _ _ c.log.result c.log.ensures.causes

pub returns-in-Log-clause-told : goal.returns-in-Log-clause-told
returns-in-Log-clause-told g c = λ m tells safe. by_outcome _ _
    (λ (o : Outcome). IfOk c.log.result (λ (r : Reply). Gives (g.F.Files.held c.log.new.files) (g.T.Tpm.stored c.log.new.tpm) (g.E.Entropy.draws c.args.entropy.now) r o))
    (logs (setting_of c.args.setting.now) c.args.request.now _ _ _ _ _ _ _ m c.in-Log.is c.as_ref-in-Log.ensures.value c.as_ref-in-Log-2.ensures.value c.as_slice-in-Log.ensures) (c.log.ensures.told _ m tells)

pub returns-in-Log-clause-stops : goal.returns-in-Log-clause-stops
returns-in-Log-clause-stops g c = λ m tells safe. by_outcome _ _
    (λ (o : Outcome). IfErr c.log.result (λ _. StandsAmong (g.F.Files.held c.log.new.files) (g.T.Tpm.stored c.log.new.tpm) o.stops))
    (logs (setting_of c.args.setting.now) c.args.request.now _ _ _ _ _ _ _ m c.in-Log.is c.as_ref-in-Log.ensures.value c.as_ref-in-Log-2.ensures.value c.as_slice-in-Log.ensures) (stands_unchanged _ _ _ m c.log.result (c.log.ensures.stops _ m tells))

pub returns-in-Predict-clause-causes : goal.returns-in-Predict-clause-causes
returns-in-Predict-clause-causes g c = beside_entropy _ _ _ _ _ c.predict.result c.predict.ensures.causes

pub returns-in-Predict-clause-told : goal.returns-in-Predict-clause-told
returns-in-Predict-clause-told g c = λ m tells safe. by_outcome _ _
    (λ (o : Outcome). IfOk c.predict.result (λ (r : Reply). Gives (g.F.Files.held c.predict.new.files) (g.T.Tpm.stored c.predict.new.tpm) (g.E.Entropy.draws c.args.entropy.now) r o))
    (predicts (setting_of c.args.setting.now) c.args.request.now _ _ _ _ _ _ _ _ _ _ m c.in-Predict.is c.as_ref-in-Predict.ensures.value c.as_ref-in-Predict-2.ensures.value c.as_slice-in-Predict.ensures) (c.predict.ensures.told _ m tells)

pub returns-in-Predict-clause-stops : goal.returns-in-Predict-clause-stops
returns-in-Predict-clause-stops g c = λ m tells safe. by_outcome _ _
    (λ (o : Outcome). IfErr c.predict.result (λ _. StandsAmong (g.F.Files.held c.predict.new.files) (g.T.Tpm.stored c.predict.new.tpm) o.stops))
    (predicts (setting_of c.args.setting.now) c.args.request.now _ _ _ _ _ _ _ _ _ _ m c.in-Predict.is c.as_ref-in-Predict.ensures.value c.as_ref-in-Predict-2.ensures.value c.as_slice-in-Predict.ensures) (stands_unchanged _ _ _ m c.predict.result (c.predict.ensures.stops _ m tells))

pub returns-in-TpmExec-clause-causes : goal.returns-in-TpmExec-clause-causes
returns-in-TpmExec-clause-causes g c = beside_entropy _ _ _ _ _ c.tpm_exec.result c.tpm_exec.ensures.causes

pub returns-in-TpmExec-clause-told : goal.returns-in-TpmExec-clause-told
returns-in-TpmExec-clause-told g c = λ m tells safe. by_outcome _ _
    (λ (o : Outcome). IfOk c.tpm_exec.result (λ (r : Reply). Gives (g.F.Files.held c.tpm_exec.new.files) (g.T.Tpm.stored c.tpm_exec.new.tpm) (g.E.Entropy.draws c.args.entropy.now) r o))
    (executes (setting_of c.args.setting.now) c.args.request.now _ m c.in-TpmExec.is) (c.tpm_exec.ensures.told _ m tells)

pub returns-in-TpmExec-clause-stops : goal.returns-in-TpmExec-clause-stops
returns-in-TpmExec-clause-stops g c = λ m tells safe. by_outcome _ _
    (λ (o : Outcome). IfErr c.tpm_exec.result (λ _. StandsAmong (g.F.Files.held c.tpm_exec.new.files) (g.T.Tpm.stored c.tpm_exec.new.tpm) o.stops))
    (executes (setting_of c.args.setting.now) c.args.request.now _ m c.in-TpmExec.is) (c.tpm_exec.ensures.stops _ m tells)

pub broker-requires : goal.broker-requires
broker-requires g c = subst IsProperRequest c.in-Broker.is c.requires

pub returns-in-Broker-clause-causes : goal.returns-in-Broker-clause-causes
returns-in-Broker-clause-causes g c = beside_entropy _ _ _ _ _ c.broker.result c.broker.ensures.causes

pub returns-in-Broker-clause-told : goal.returns-in-Broker-clause-told
returns-in-Broker-clause-told g c = λ m tells safe. by_outcome _ _
    (λ (o : Outcome). IfOk c.broker.result (λ (r : Reply). Gives (g.F.Files.held c.broker.new.files) (g.T.Tpm.stored c.broker.new.tpm) (g.E.Entropy.draws c.args.entropy.now) r o))
    (serves (setting_of c.args.setting.now) c.args.request.now _ _ m c.in-Broker.is) (c.broker.ensures.told _ m tells)

pub returns-in-Broker-clause-stops : goal.returns-in-Broker-clause-stops
returns-in-Broker-clause-stops g c = λ m tells safe. by_outcome _ _
    (λ (o : Outcome). IfErr c.broker.result (λ _. StandsAmong (g.F.Files.held c.broker.new.files) (g.T.Tpm.stored c.broker.new.tpm) o.stops))
    (serves (setting_of c.args.setting.now) c.args.request.now _ _ m c.in-Broker.is) (c.broker.ensures.stops _ m tells)

pub returns-in-LockFirmwareCode-clause-causes : goal.returns-in-LockFirmwareCode-clause-causes
returns-in-LockFirmwareCode-clause-causes g c = beside_files _ _ _ _ _ c.lock_firmware.result c.lock_firmware.ensures.causes

pub returns-in-LockFirmwareCode-clause-told : goal.returns-in-LockFirmwareCode-clause-told
returns-in-LockFirmwareCode-clause-told g c = λ m tells safe. by_outcome _ _
    (λ (o : Outcome). IfOk c.lock_firmware.result (λ (r : Reply). Gives (g.F.Files.held c.lock_firmware.new.files) (g.T.Tpm.stored c.args.tpm.now) (g.E.Entropy.draws c.args.entropy.now) r o))
    (locks_code (setting_of c.args.setting.now) c.args.request.now _ _ _ _ m c.in-LockFirmwareCode.is c.as_ref-in-LockFirmwareCode.ensures.value) (c.lock_firmware.ensures.told _ _ m tells)

pub returns-in-LockFirmwareCode-clause-stops : goal.returns-in-LockFirmwareCode-clause-stops
returns-in-LockFirmwareCode-clause-stops g c = λ m tells safe. by_outcome _ _
    (λ (o : Outcome). IfErr c.lock_firmware.result (λ _. StandsAmong (g.F.Files.held c.lock_firmware.new.files) (g.T.Tpm.stored c.args.tpm.now) o.stops))
    (locks_code (setting_of c.args.setting.now) c.args.request.now _ _ _ _ m c.in-LockFirmwareCode.is c.as_ref-in-LockFirmwareCode.ensures.value) (c.lock_firmware.ensures.stops _ _ m tells)

pub returns-in-LockFirmwareConfig-clause-causes : goal.returns-in-LockFirmwareConfig-clause-causes
returns-in-LockFirmwareConfig-clause-causes g c = beside_files _ _ _ _ _ c.lock_firmware-in-LockFirmwareConfig.result c.lock_firmware-in-LockFirmwareConfig.ensures.causes

pub returns-in-LockFirmwareConfig-clause-told : goal.returns-in-LockFirmwareConfig-clause-told
returns-in-LockFirmwareConfig-clause-told g c = λ m tells safe. by_outcome _ _
    (λ (o : Outcome). IfOk c.lock_firmware-in-LockFirmwareConfig.result (λ (r : Reply). Gives (g.F.Files.held c.lock_firmware-in-LockFirmwareConfig.new.files) (g.T.Tpm.stored c.args.tpm.now) (g.E.Entropy.draws c.args.entropy.now) r o))
    (locks_config (setting_of c.args.setting.now) c.args.request.now _ _ _ _ m c.in-LockFirmwareConfig.is c.as_ref-in-LockFirmwareConfig.ensures.value) (c.lock_firmware-in-LockFirmwareConfig.ensures.told _ _ m tells)

pub returns-in-LockFirmwareConfig-clause-stops : goal.returns-in-LockFirmwareConfig-clause-stops
returns-in-LockFirmwareConfig-clause-stops g c = λ m tells safe. by_outcome _ _
    (λ (o : Outcome). IfErr c.lock_firmware-in-LockFirmwareConfig.result (λ _. StandsAmong (g.F.Files.held c.lock_firmware-in-LockFirmwareConfig.new.files) (g.T.Tpm.stored c.args.tpm.now) o.stops))
    (locks_config (setting_of c.args.setting.now) c.args.request.now _ _ _ _ m c.in-LockFirmwareConfig.is c.as_ref-in-LockFirmwareConfig.ensures.value) (c.lock_firmware-in-LockFirmwareConfig.ensures.stops _ _ m tells)

pub returns-in-UnlockFirmwareCode-clause-causes : goal.returns-in-UnlockFirmwareCode-clause-causes
returns-in-UnlockFirmwareCode-clause-causes g c = beside_files _ _ _ _ _ c.unlock_firmware.result c.unlock_firmware.ensures.causes

pub returns-in-UnlockFirmwareCode-clause-told : goal.returns-in-UnlockFirmwareCode-clause-told
returns-in-UnlockFirmwareCode-clause-told g c = λ m tells safe. by_outcome _ _
    (λ (o : Outcome). IfOk c.unlock_firmware.result (λ (r : Reply). Gives (g.F.Files.held c.unlock_firmware.new.files) (g.T.Tpm.stored c.args.tpm.now) (g.E.Entropy.draws c.args.entropy.now) r o))
    (unlocks_code (setting_of c.args.setting.now) c.args.request.now _ _ m c.in-UnlockFirmwareCode.is) (c.unlock_firmware.ensures.told _ _ m tells)

pub returns-in-UnlockFirmwareCode-clause-stops : goal.returns-in-UnlockFirmwareCode-clause-stops
returns-in-UnlockFirmwareCode-clause-stops g c = λ m tells safe. by_outcome _ _
    (λ (o : Outcome). IfErr c.unlock_firmware.result (λ _. StandsAmong (g.F.Files.held c.unlock_firmware.new.files) (g.T.Tpm.stored c.args.tpm.now) o.stops))
    (unlocks_code (setting_of c.args.setting.now) c.args.request.now _ _ m c.in-UnlockFirmwareCode.is) (c.unlock_firmware.ensures.stops _ _ m tells)

pub returns-in-UnlockFirmwareConfig-clause-causes : goal.returns-in-UnlockFirmwareConfig-clause-causes
returns-in-UnlockFirmwareConfig-clause-causes g c = beside_files _ _ _ _ _ c.unlock_firmware-in-UnlockFirmwareConfig.result c.unlock_firmware-in-UnlockFirmwareConfig.ensures.causes

pub returns-in-UnlockFirmwareConfig-clause-told : goal.returns-in-UnlockFirmwareConfig-clause-told
returns-in-UnlockFirmwareConfig-clause-told g c = λ m tells safe. by_outcome _ _
    (λ (o : Outcome). IfOk c.unlock_firmware-in-UnlockFirmwareConfig.result (λ (r : Reply). Gives (g.F.Files.held c.unlock_firmware-in-UnlockFirmwareConfig.new.files) (g.T.Tpm.stored c.args.tpm.now) (g.E.Entropy.draws c.args.entropy.now) r o))
    (unlocks_config (setting_of c.args.setting.now) c.args.request.now _ _ m c.in-UnlockFirmwareConfig.is) (c.unlock_firmware-in-UnlockFirmwareConfig.ensures.told _ _ m tells)

pub returns-in-UnlockFirmwareConfig-clause-stops : goal.returns-in-UnlockFirmwareConfig-clause-stops
returns-in-UnlockFirmwareConfig-clause-stops g c = λ m tells safe. by_outcome _ _
    (λ (o : Outcome). IfErr c.unlock_firmware-in-UnlockFirmwareConfig.result (λ _. StandsAmong (g.F.Files.held c.unlock_firmware-in-UnlockFirmwareConfig.new.files) (g.T.Tpm.stored c.args.tpm.now) o.stops))
    (unlocks_config (setting_of c.args.setting.now) c.args.request.now _ _ m c.in-UnlockFirmwareConfig.is) (c.unlock_firmware-in-UnlockFirmwareConfig.ensures.stops _ _ m tells)

pub returns-in-LockRaw-clause-causes : goal.returns-in-LockRaw-clause-causes
returns-in-LockRaw-clause-causes g c = beside_files _ _ _ _ _ c.lock_raw.result c.lock_raw.ensures.causes

pub returns-in-LockRaw-clause-told : goal.returns-in-LockRaw-clause-told
returns-in-LockRaw-clause-told g c = λ m tells safe. by_outcome _ _
    (λ (o : Outcome). IfOk c.lock_raw.result (λ (r : Reply). Gives (g.F.Files.held c.lock_raw.new.files) (g.T.Tpm.stored c.args.tpm.now) (g.E.Entropy.draws c.args.entropy.now) r o))
    (locks_raw (setting_of c.args.setting.now) c.args.request.now _ _ _ m c.in-LockRaw.is) (c.lock_raw.ensures.told _ _ m tells)

pub returns-in-LockRaw-clause-stops : goal.returns-in-LockRaw-clause-stops
returns-in-LockRaw-clause-stops g c = λ m tells safe. by_outcome _ _
    (λ (o : Outcome). IfErr c.lock_raw.result (λ _. StandsAmong (g.F.Files.held c.lock_raw.new.files) (g.T.Tpm.stored c.args.tpm.now) o.stops))
    (locks_raw (setting_of c.args.setting.now) c.args.request.now _ _ _ m c.in-LockRaw.is) (c.lock_raw.ensures.stops _ _ m tells)

pub prove-requires-clause-some : goal.prove-requires-clause-some
prove-requires-clause-some g c = (subst IsProperRequest c.in-Prove.is c.requires).0.0

pub prove-requires-clause-in_range : goal.prove-requires-clause-in_range
prove-requires-clause-in_range g c = (subst IsProperRequest c.in-Prove.is c.requires).0.1

pub returns-in-Prove-clause-causes : goal.returns-in-Prove-clause-causes
returns-in-Prove-clause-causes g c = beside_files _ _ _ _ _ c.prove.result c.prove.ensures.causes

pub returns-in-Prove-clause-told : goal.returns-in-Prove-clause-told
returns-in-Prove-clause-told g c = λ m tells safe. by_outcome _ _
    (λ (o : Outcome). IfOk c.prove.result (λ (r : Reply). Gives (g.F.Files.held c.prove.new.files) (g.T.Tpm.stored c.args.tpm.now) (g.E.Entropy.draws c.args.entropy.now) r o))
    (proves (setting_of c.args.setting.now) c.args.request.now _ _ _ _ _ m c.in-Prove.is c.as_slice-in-Prove.ensures) (c.prove.ensures.told _ _ m tells)

pub returns-in-Prove-clause-stops : goal.returns-in-Prove-clause-stops
returns-in-Prove-clause-stops g c = λ m tells safe. by_outcome _ _
    (λ (o : Outcome). IfErr c.prove.result (λ _. StandsAmong (g.F.Files.held c.prove.new.files) (g.T.Tpm.stored c.args.tpm.now) o.stops))
    (proves (setting_of c.args.setting.now) c.args.request.now _ _ _ _ _ m c.in-Prove.is c.as_slice-in-Prove.ensures) (c.prove.ensures.stops _ _ m tells)

pub returns-in-CheckProof-clause-causes : goal.returns-in-CheckProof-clause-causes
returns-in-CheckProof-clause-causes g c = beside_files _ _ _ _ _ c.check_proof.result c.check_proof.ensures.causes

pub returns-in-CheckProof-clause-told : goal.returns-in-CheckProof-clause-told
returns-in-CheckProof-clause-told g c = λ m tells safe. by_outcome _ _
    (λ (o : Outcome). IfOk c.check_proof.result (λ (r : Reply). Gives (g.F.Files.held c.check_proof.new.files) (g.T.Tpm.stored c.args.tpm.now) (g.E.Entropy.draws c.args.entropy.now) r o))
    (checks (setting_of c.args.setting.now) c.args.request.now _ _ _ _ m c.in-CheckProof.is c.as_slice-in-CheckProof.ensures) (c.check_proof.ensures.told _ _ m tells)

pub returns-in-CheckProof-clause-stops : goal.returns-in-CheckProof-clause-stops
returns-in-CheckProof-clause-stops g c = λ m tells safe. by_outcome _ _
    (λ (o : Outcome). IfErr c.check_proof.result (λ _. StandsAmong (g.F.Files.held c.check_proof.new.files) (g.T.Tpm.stored c.args.tpm.now) o.stops))
    (checks (setting_of c.args.setting.now) c.args.request.now _ _ _ _ m c.in-CheckProof.is c.as_slice-in-CheckProof.ensures) (stands_unchanged _ _ _ m c.check_proof.result (c.check_proof.ensures.stops _ _ m tells))

pub returns-in-RemovePolicy-clause-causes : goal.returns-in-RemovePolicy-clause-causes
returns-in-RemovePolicy-clause-causes g c = beside_entropy _ _ _ _ _ c.remove_policy.result c.remove_policy.ensures.causes

pub returns-in-RemovePolicy-clause-told : goal.returns-in-RemovePolicy-clause-told
returns-in-RemovePolicy-clause-told g c = λ m tells safe. by_outcome _ _
    (λ (o : Outcome). IfOk c.remove_policy.result (λ (r : Reply). Gives (g.F.Files.held c.remove_policy.new.files) (g.T.Tpm.stored c.remove_policy.new.tpm) (g.E.Entropy.draws c.args.entropy.now) r o))
    (removes_policy (setting_of c.args.setting.now) c.args.request.now _ m c.in-RemovePolicy.is) (c.remove_policy.ensures.told _ m tells)

pub returns-in-RemovePolicy-clause-stops : goal.returns-in-RemovePolicy-clause-stops
returns-in-RemovePolicy-clause-stops g c = λ m tells safe. by_outcome _ _
    (λ (o : Outcome). IfErr c.remove_policy.result (λ _. StandsAmong (g.F.Files.held c.remove_policy.new.files) (g.T.Tpm.stored c.remove_policy.new.tpm) o.stops))
    (removes_policy (setting_of c.args.setting.now) c.args.request.now _ m c.in-RemovePolicy.is) (c.remove_policy.ensures.stops _ m tells)

pub index_for-requires : goal.index_for-requires
index_for-requires g c = (subst IsProperRequest c.in-MakePolicy.is c.requires).1

pub returns-in-MakePolicy-clause-told : goal.returns-in-MakePolicy-clause-told
returns-in-MakePolicy-clause-told g c = λ m tells. by_outcome _ _
    (λ (o : Outcome). Safe o.hashed → IfOk c.make_policy.result (λ (r : Reply). Gives (g.F.Files.held c.make_policy.new.files) (g.T.Tpm.stored c.make_policy.new.tpm) (g.E.Entropy.draws c.make_policy.new.entropy) r o))
    (makes_policy (setting_of c.args.setting.now) c.args.request.now _ _ _ _ _ _ _ _ _ _ _ _ _ _ _ _ m c.in-MakePolicy.is c.as_ref-in-MakePolicy.ensures.value c.as_ref-in-MakePolicy-2.ensures.value
    c.as_slice-in-MakePolicy.ensures c.index_for.ensures.value c.as_ref-in-MakePolicy-3.ensures.value) (c.make_policy.ensures.told m tells)

pub returns-in-MakePolicy-clause-stops : goal.returns-in-MakePolicy-clause-stops
returns-in-MakePolicy-clause-stops g c = λ m tells. by_outcome _ _
    (λ (o : Outcome). Safe o.hashed → IfErr c.make_policy.result (λ _. StandsAmong (g.F.Files.held c.make_policy.new.files) (g.T.Tpm.stored c.make_policy.new.tpm) o.stops))
    (makes_policy (setting_of c.args.setting.now) c.args.request.now _ _ _ _ _ _ _ _ _ _ _ _ _ _ _ _ m c.in-MakePolicy.is c.as_ref-in-MakePolicy.ensures.value c.as_ref-in-MakePolicy-2.ensures.value
    c.as_slice-in-MakePolicy.ensures c.index_for.ensures.value c.as_ref-in-MakePolicy-3.ensures.value) (c.make_policy.ensures.stops m tells)
