-- A request that words spell is proper, and spares the policy file.
use Rattle.std.proofs.Common.{◌≡◌, ◌∙◌, ℕ, ◌≤◌, Bool, true, false, cond, List, [], ◌∷◌, length, Option, Some, None, is_some, Result, Ok, Err, refl, sym, subst, arith, true≢false}
use Rattle.std.specs.Prelude.{◌==◌, ◌≢◌, IfSome, IfOk, codes}
use Rattle.std.specs.Str.{bytes_eq}
use Rattle.std.proofs.lemmas.Bool.{or_parts}
use Rattle.std.proofs.lemmas.Slice.Eq.{bytes_eq-Decides}
use Rattle.pcrlock_words.specs.declared.error.WordsError.{WordsError}
use Rattle.pcrlock_words.specs.declared.command.Command.{Command}
use Rattle.pcrlock_words.specs.declared.command.Command.TheVariants as commands
use Rattle.pcrlock_words.specs.declared.request.Request.{Request}
use Rattle.pcrlock_words.specs.Options.{Given, value_of, is_given}
use Rattle.pcrlock_words.specs.Commands.{command_named, options_for}
use Rattle.pcrlock_words.specs.Readings.{Gives}
use Rattle.pl_text.specs.Words.{pcr_of, pcr_mask_of, banks_of}
use Rattle.pcrlock_words.specs.Values.{index_of, pin_of, key_of, locality_of, clients_up_to, machine_of, all_banks}
use Rattle.pcrlock_words.specs.Fields.{path_in, path_beside, firmware_log_in, userspace_log_in, components_in, location_in, pcrs_in, pcr_in, bank_in, banks_in, index_in, optional_index_in, pin_in, key_in, literal_in, literal_bank_in, optional_locality_in, locality_in, clients_in, client_limit, number_in, policy_in, standing_policy, default_pcrs, extended_bytes, made_beside, makes_at, variant_in}
use Rattle.pcrlock_words.specs.ProperRequest.{IsProperRequest, SparesPolicy, IsPcr, IsMask, IsIndex, IsLocality, AreClients, IsKey, IsPin, MakesNoneAt}
use Rattle.pcrlock_words.specs.Requests as spelled
use Rattle.component_make.specs.declared.kind.FirmwareKind.{FirmwareKind}
use Rattle.component_make.specs.declared.kind.FirmwareKind.TheVariants.{Code, Config}
use Rattle.component_make.specs.FirmwareFiles.{early_path, late_path}
use Rattle.pcrlock_words.specs.declared.fields.MadeFiles.{MadeFiles}
use Rattle.pcrlock_words.proofs.Within.{Text, HasSome, after, known, held_by, in_required, in_optional, in_defaulted, number_within, clients_within, locality_known, index_within, key_within, pin_within, pcrs_within, banks_within}

-- ---- the fields

default_mask : IsMask default_pcrs
default_mask = (omega arith, omega arith)

mask_known : (options : List Given) → IfSome (pcrs_in options) IsMask
mask_known options = in_defaulted IsMask pcr_mask_of default_pcrs default_mask pcrs_within (value_of (codes "pcr") options)

pcr_known : (options : List Given) → IfSome (pcr_in options) IsPcr
pcr_known options = in_required IsPcr pcr_of (number_within 23) (value_of (codes "pcr") options)

literal_known : (options : List Given) → IfSome (literal_in options) (λ literal. IfSome literal IsPcr)
literal_known options = in_optional IsPcr pcr_of (number_within 23) (value_of (codes "literal") options)

index_known : (options : List Given) → IfSome (index_in options) IsIndex
index_known options = in_defaulted IsIndex index_of 0x01800100 (omega arith, omega arith) index_within (value_of (codes "index") options)

optional_index_known : (options : List Given) → IfSome (optional_index_in options) (λ index. IfSome index IsIndex)
optional_index_known options = in_optional IsIndex index_of index_within (value_of (codes "index") options)

pin_known : (options : List Given) → IfSome (pin_in options) (λ pin. IfSome pin IsPin)
pin_known options = in_optional IsPin pin_of pin_within (value_of (codes "pin") options)

key_known : (options : List Given) → IfSome (key_in options) (λ key. IfSome key IsKey)
key_known options = in_optional IsKey key_of key_within (value_of (codes "key") options)

locality_of_start : (options : List Given) → IfSome (optional_locality_in options) (λ locality. IfSome locality IsLocality)
locality_of_start options = in_optional IsLocality locality_of locality_known (value_of (codes "locality") options)

locality_of_proofs : (options : List Given) → IfSome (locality_in options) IsLocality
locality_of_proofs options = in_defaulted IsLocality locality_of 0 refl locality_known (value_of (codes "locality") options)

banks_known : (options : List Given) → IfSome (banks_in options) HasSome
banks_known options = in_defaulted HasSome banks_of all_banks refl banks_within (value_of (codes "banks") options)

clients_known : (limit : ℕ) (options : List Given) → IfSome (clients_in limit options) (AreClients limit)
clients_known limit options = in_required (AreClients limit) (clients_up_to limit) (clients_within limit) (value_of (codes "clients") options)

number_known : (options : List Given) → IfSome (number_in options) (λ number. number ≤ 511)
number_known options = in_required (λ number. number ≤ 511) machine_of (number_within 511) (value_of (codes "number") options)

-- paths that a test finds different
apart : (path other : Text) → bytes_eq path other ≡ false → path ≢ other
apart path other differ = λ same. true≢false (sym ((bytes_eq-Decides path other).1 same) ∙ differ)

beside_known : (policy name : Text) (options : List Given) → IfSome (path_beside policy name options) (λ path. path ≢ policy)
beside_known policy name options =
    after (λ path. path ≢ policy) (path_in name options) (λ path. cond (bytes_eq path policy) None (Some path)) (λ path.
    held_by (λ path. path ≢ policy) (bytes_eq path policy) path (apart path policy))

-- both files of a lock
both_apart : (kind : FirmwareKind) (folder variant path : Text) → makes_at kind (record { folder = folder; variant = variant }) path ≡ false → MakesNoneAt kind folder variant path
both_apart kind folder variant path none =
    let parts = or_parts (bytes_eq (early_path kind folder variant) path) (bytes_eq (late_path kind folder variant) path) none in
    (apart (early_path kind folder variant) path parts.0, apart (late_path kind folder variant) path parts.1)

abbrev Apart : FirmwareKind → Text → MadeFiles → Type 0
Apart kind policy made = MakesNoneAt kind made.folder made.variant policy

made_known : (policy : Text) (kind : FirmwareKind) (options : List Given) → IfSome (made_beside policy kind options) (Apart kind policy)
made_known policy kind options =
    after (Apart kind policy) (path_in (codes "folder") options) _ (λ folder.
    after (Apart kind policy) (variant_in options) (λ variant. cond (makes_at kind (record { folder = folder; variant = variant }) policy) None (Some (record { folder = folder; variant = variant }))) (λ variant.
    held_by (Apart kind policy) (makes_at kind (record { folder = folder; variant = variant }) policy) (record { folder = folder; variant = variant }) (both_apart kind folder variant policy)))

-- ---- the commands, one by one

script_proper : (options : List Given) → IfSome (spelled.script_request options) IsProperRequest
script_proper options =
    after IsProperRequest (path_in (codes "file") options) _ (λ file.
    after IsProperRequest (policy_in None options) _ (λ policy.
    known (IsIndex) IsProperRequest (index_in options) _ (index_known options) (λ index inside. inside)))

log_proper : (options : List Given) → IfSome (spelled.log_request options) IsProperRequest
log_proper options =
    after IsProperRequest (firmware_log_in options) _ (λ firmware_log.
    after IsProperRequest (userspace_log_in options) _ (λ userspace_log.
    after IsProperRequest (components_in options) _ (λ components.
    after IsProperRequest (bank_in options) _ (λ bank. tt))))

cel_proper : (options : List Given) → IfSome (spelled.cel_request options) IsProperRequest
cel_proper options =
    after IsProperRequest (firmware_log_in options) _ (λ firmware_log.
    after IsProperRequest (userspace_log_in options) _ (λ userspace_log. tt))

list_components_proper : (options : List Given) → IfSome (spelled.list_components_request options) IsProperRequest
list_components_proper options =
    after IsProperRequest (components_in options) _ (λ components. tt)

predict_proper : (options : List Given) → IfSome (spelled.predict_request options) IsProperRequest
predict_proper options =
    after IsProperRequest (firmware_log_in options) _ (λ firmware_log.
    after IsProperRequest (userspace_log_in options) _ (λ userspace_log.
    after IsProperRequest (components_in options) _ (λ components.
    after IsProperRequest (location_in options) _ (λ location.
    known (IsMask) IsProperRequest (pcrs_in options) _ (mask_known options) (λ pcr mask.
    after IsProperRequest (bank_in options) _ (λ bank. mask))))))

make_policy_proper : (script : Option Text) (options : List Given) → IfSome (spelled.make_policy_request script options) IsProperRequest
make_policy_proper script options =
    after IsProperRequest (firmware_log_in options) _ (λ firmware_log.
    after IsProperRequest (userspace_log_in options) _ (λ userspace_log.
    after IsProperRequest (components_in options) _ (λ components.
    after IsProperRequest (location_in options) _ (λ location.
    known (IsMask) IsProperRequest (pcrs_in options) _ (mask_known options) (λ pcr mask.
    after IsProperRequest (bank_in options) _ (λ bank.
    after IsProperRequest (policy_in script options) _ (λ policy.
    known (λ index. IfSome index IsIndex) IsProperRequest (optional_index_in options) _ (optional_index_known options) (λ index inside.
    known (λ pin. IfSome pin IsPin) IsProperRequest (pin_in options) _ (pin_known options) (λ pin long. (mask, inside, long))))))))))

remove_policy_proper : (script : Option Text) (options : List Given) → IfSome (spelled.remove_policy_request script options) IsProperRequest
remove_policy_proper script options =
    after IsProperRequest (policy_in script options) _ (λ policy. tt)

enroll_proper : (script : Option Text) (options : List Given) → IfSome (spelled.enroll_request script options) IsProperRequest
enroll_proper script options =
    after IsProperRequest (policy_in script options) _ (λ policy.
    known (λ path. path ≢ policy) IsProperRequest (path_beside policy (codes "token") options) _ (beside_known policy (codes "token") options) (λ token other.
    known (λ key. IfSome key IsKey) IsProperRequest (key_in options) _ (key_known options) (λ key long.
    known (λ literal. IfSome literal IsPcr) IsProperRequest (literal_in options) _ (literal_known options) (λ literal below.
    after IsProperRequest (literal_bank_in literal options) _ (λ bank. (other, long, below))))))

unseal_proper : (script : Option Text) (options : List Given) → IfSome (spelled.unseal_request script options) IsProperRequest
unseal_proper script options =
    after IsProperRequest (policy_in script options) _ (λ policy.
    known (λ path. path ≢ policy) IsProperRequest (path_beside policy (codes "token") options) _ (beside_known policy (codes "token") options) (λ token other. other))

tpm_boot_proper : (options : List Given) → IfSome (spelled.tpm_boot_request options) IsProperRequest
tpm_boot_proper options =
    after IsProperRequest (firmware_log_in options) _ (λ firmware_log.
    after IsProperRequest (userspace_log_in options) _ (λ userspace_log.
    known (λ locality. IfSome locality IsLocality) IsProperRequest (optional_locality_in options) _ (locality_of_start options) (λ locality one.
    known (HasSome) IsProperRequest (banks_in options) _ (banks_known options) (λ banks some. (one, some)))))

tpm_extend_proper : (options : List Given) → IfSome (spelled.tpm_extend_request options) IsProperRequest
tpm_extend_proper options =
    known (IsPcr) IsProperRequest (pcr_in options) _ (pcr_known options) (λ pcr below.
    after IsProperRequest (extended_bytes (value_of (codes "text") options) (value_of (codes "hex") options)) _ (λ bytes. below))

tpm_exec_proper : (options : List Given) → IfSome (spelled.tpm_exec_request options) IsProperRequest
tpm_exec_proper options =
    after IsProperRequest (path_in (codes "commands") options) _ (λ commands. tt)

race_proper : (script : Option Text) (options : List Given) → IfSome (spelled.race_request script options) IsProperRequest
race_proper script options =
    after IsProperRequest (policy_in script options) _ (λ policy.
    known (λ path. path ≢ policy) IsProperRequest (path_beside policy (codes "token") options) _ (beside_known policy (codes "token") options) (λ token other.
    after IsProperRequest (path_in (codes "events") options) _ (λ events.
    known (AreClients (client_limit (is_given (codes "broker") options))) IsProperRequest (clients_in (client_limit (is_given (codes "broker") options)) options) _ (clients_known (client_limit (is_given (codes "broker") options)) options) (λ clients few. (other, few)))))

gen_proper : (options : List Given) → IfSome (spelled.gen_request options) IsProperRequest
gen_proper options =
    known (λ number. number ≤ 511) IsProperRequest (number_in options) _ (number_known options) (λ number below. below)

lock_firmware_code_proper : (script : Option Text) (options : List Given) → IfSome (spelled.lock_firmware_code_request script options) IsProperRequest
lock_firmware_code_proper script options =
    after IsProperRequest (firmware_log_in options) _ (λ firmware_log.
    after IsProperRequest (made_beside (standing_policy script) Code options) _ (λ made. tt))

unlock_firmware_code_proper : (script : Option Text) (options : List Given) → IfSome (spelled.unlock_firmware_code_request script options) IsProperRequest
unlock_firmware_code_proper script options =
    after IsProperRequest (made_beside (standing_policy script) Code options) _ (λ made. tt)

lock_firmware_config_proper : (script : Option Text) (options : List Given) → IfSome (spelled.lock_firmware_config_request script options) IsProperRequest
lock_firmware_config_proper script options =
    after IsProperRequest (firmware_log_in options) _ (λ firmware_log.
    after IsProperRequest (made_beside (standing_policy script) Config options) _ (λ made. tt))

unlock_firmware_config_proper : (script : Option Text) (options : List Given) → IfSome (spelled.unlock_firmware_config_request script options) IsProperRequest
unlock_firmware_config_proper script options =
    after IsProperRequest (made_beside (standing_policy script) Config options) _ (λ made. tt)

lock_raw_proper : (script : Option Text) (options : List Given) → IfSome (spelled.lock_raw_request script options) IsProperRequest
lock_raw_proper script options =
    after IsProperRequest (path_in (codes "file") options) _ (λ file.
    known (IsPcr) IsProperRequest (pcr_in options) _ (pcr_known options) (λ pcr below.
    after IsProperRequest (path_beside (standing_policy script) (codes "output") options) _ (λ output. below)))

broker_proper : (options : List Given) → IfSome (spelled.broker_request options) IsProperRequest
broker_proper options =
    after IsProperRequest (path_in (codes "commands") options) _ (λ commands.
    known (AreClients 16) IsProperRequest (clients_in 16 options) _ (clients_known 16 options) (λ clients few. few))

prove_proper : (script : Option Text) (options : List Given) → IfSome (spelled.prove_request script options) IsProperRequest
prove_proper script options =
    after IsProperRequest (path_beside (standing_policy script) (codes "output") options) _ (λ output.
    after IsProperRequest (components_in options) _ (λ components.
    after IsProperRequest (location_in options) _ (λ location.
    known (IsMask) IsProperRequest (pcrs_in options) _ (mask_known options) (λ pcr mask.
    after IsProperRequest (bank_in options) _ (λ bank.
    known (IsLocality) IsProperRequest (locality_in options) _ (locality_of_proofs options) (λ locality one. (mask, one)))))))

check_proof_proper : (options : List Given) → IfSome (spelled.check_proof_request options) IsProperRequest
check_proof_proper options =
    after IsProperRequest (path_in (codes "proof") options) _ (λ proof.
    after IsProperRequest (components_in options) _ (λ components.
    after IsProperRequest (location_in options) _ (λ location. tt)))

command_proper : (script : Option Text) (command : Command) (options : List Given) → IfSome (spelled.command_request script command options) IsProperRequest
command_proper script commands.Script options = script_proper options
command_proper script commands.Log options = log_proper options
command_proper script commands.Cel options = cel_proper options
command_proper script commands.ListComponents options = list_components_proper options
command_proper script commands.Predict options = predict_proper options
command_proper script commands.MakePolicy options = make_policy_proper script options
command_proper script commands.RemovePolicy options = remove_policy_proper script options
command_proper script commands.Enroll options = enroll_proper script options
command_proper script commands.Unseal options = unseal_proper script options
command_proper script commands.TpmBoot options = tpm_boot_proper options
command_proper script commands.TpmExtend options = tpm_extend_proper options
command_proper script commands.TpmExec options = tpm_exec_proper options
command_proper script commands.Race options = race_proper script options
command_proper script commands.Gen options = gen_proper options
command_proper script commands.LockFirmwareCode options = lock_firmware_code_proper script options
command_proper script commands.LockFirmwareConfig options = lock_firmware_config_proper script options
command_proper script commands.UnlockFirmwareCode options = unlock_firmware_code_proper script options
command_proper script commands.UnlockFirmwareConfig options = unlock_firmware_config_proper script options
command_proper script commands.LockRaw options = lock_raw_proper script options
command_proper script commands.Broker options = broker_proper options
command_proper script commands.Prove options = prove_proper script options
command_proper script commands.CheckProof options = check_proof_proper options

-- ---- what spares the policy file

lock_firmware_code_spares : (script : Option Text) (options : List Given) → IfSome (spelled.lock_firmware_code_request script options) (SparesPolicy (standing_policy script))
lock_firmware_code_spares script options =
    after (SparesPolicy (standing_policy script)) (firmware_log_in options) _ (λ firmware_log.
    known (Apart Code (standing_policy script)) (SparesPolicy (standing_policy script)) (made_beside (standing_policy script) Code options) _ (made_known (standing_policy script) Code options) (λ made apart. apart))

unlock_firmware_code_spares : (script : Option Text) (options : List Given) → IfSome (spelled.unlock_firmware_code_request script options) (SparesPolicy (standing_policy script))
unlock_firmware_code_spares script options =
    known (Apart Code (standing_policy script)) (SparesPolicy (standing_policy script)) (made_beside (standing_policy script) Code options) _ (made_known (standing_policy script) Code options) (λ made apart. apart)

lock_firmware_config_spares : (script : Option Text) (options : List Given) → IfSome (spelled.lock_firmware_config_request script options) (SparesPolicy (standing_policy script))
lock_firmware_config_spares script options =
    after (SparesPolicy (standing_policy script)) (firmware_log_in options) _ (λ firmware_log.
    known (Apart Config (standing_policy script)) (SparesPolicy (standing_policy script)) (made_beside (standing_policy script) Config options) _ (made_known (standing_policy script) Config options) (λ made apart. apart))

unlock_firmware_config_spares : (script : Option Text) (options : List Given) → IfSome (spelled.unlock_firmware_config_request script options) (SparesPolicy (standing_policy script))
unlock_firmware_config_spares script options =
    known (Apart Config (standing_policy script)) (SparesPolicy (standing_policy script)) (made_beside (standing_policy script) Config options) _ (made_known (standing_policy script) Config options) (λ made apart. apart)

lock_raw_spares : (script : Option Text) (options : List Given) → IfSome (spelled.lock_raw_request script options) (SparesPolicy (standing_policy script))
lock_raw_spares script options =
    after (SparesPolicy (standing_policy script)) (path_in (codes "file") options) _ (λ file.
    after (SparesPolicy (standing_policy script)) (pcr_in options) _ (λ pcr.
    known (λ path. path ≢ (standing_policy script)) (SparesPolicy (standing_policy script)) (path_beside (standing_policy script) (codes "output") options) _ (beside_known (standing_policy script) (codes "output") options) (λ output other. other)))

prove_spares : (script : Option Text) (options : List Given) → IfSome (spelled.prove_request script options) (SparesPolicy (standing_policy script))
prove_spares script options =
    known (λ path. path ≢ (standing_policy script)) (SparesPolicy (standing_policy script)) (path_beside (standing_policy script) (codes "output") options) _ (beside_known (standing_policy script) (codes "output") options) (λ output other.
    after (SparesPolicy (standing_policy script)) (components_in options) _ (λ components.
    after (SparesPolicy (standing_policy script)) (location_in options) _ (λ location.
    after (SparesPolicy (standing_policy script)) (pcrs_in options) _ (λ pcr.
    after (SparesPolicy (standing_policy script)) (bank_in options) _ (λ bank.
    after (SparesPolicy (standing_policy script)) (locality_in options) _ (λ locality. other))))))

script_spares : (policy : Text) (options : List Given) → IfSome (spelled.script_request options) (SparesPolicy policy)
script_spares policy options =
    after (SparesPolicy policy) (path_in (codes "file") options) _ (λ file.
    after (SparesPolicy policy) (policy_in None options) _ (λ policy_path.
    after (SparesPolicy policy) (index_in options) _ (λ index. tt)))

log_spares : (policy : Text) (options : List Given) → IfSome (spelled.log_request options) (SparesPolicy policy)
log_spares policy options =
    after (SparesPolicy policy) (firmware_log_in options) _ (λ firmware_log.
    after (SparesPolicy policy) (userspace_log_in options) _ (λ userspace_log.
    after (SparesPolicy policy) (components_in options) _ (λ components.
    after (SparesPolicy policy) (bank_in options) _ (λ bank. tt))))

cel_spares : (policy : Text) (options : List Given) → IfSome (spelled.cel_request options) (SparesPolicy policy)
cel_spares policy options =
    after (SparesPolicy policy) (firmware_log_in options) _ (λ firmware_log.
    after (SparesPolicy policy) (userspace_log_in options) _ (λ userspace_log. tt))

list_components_spares : (policy : Text) (options : List Given) → IfSome (spelled.list_components_request options) (SparesPolicy policy)
list_components_spares policy options =
    after (SparesPolicy policy) (components_in options) _ (λ components. tt)

predict_spares : (policy : Text) (options : List Given) → IfSome (spelled.predict_request options) (SparesPolicy policy)
predict_spares policy options =
    after (SparesPolicy policy) (firmware_log_in options) _ (λ firmware_log.
    after (SparesPolicy policy) (userspace_log_in options) _ (λ userspace_log.
    after (SparesPolicy policy) (components_in options) _ (λ components.
    after (SparesPolicy policy) (location_in options) _ (λ location.
    after (SparesPolicy policy) (pcrs_in options) _ (λ pcr.
    after (SparesPolicy policy) (bank_in options) _ (λ bank. tt))))))

make_policy_spares : (policy : Text) (script : Option Text) (options : List Given) → IfSome (spelled.make_policy_request script options) (SparesPolicy policy)
make_policy_spares policy script options =
    after (SparesPolicy policy) (firmware_log_in options) _ (λ firmware_log.
    after (SparesPolicy policy) (userspace_log_in options) _ (λ userspace_log.
    after (SparesPolicy policy) (components_in options) _ (λ components.
    after (SparesPolicy policy) (location_in options) _ (λ location.
    after (SparesPolicy policy) (pcrs_in options) _ (λ pcr.
    after (SparesPolicy policy) (bank_in options) _ (λ bank.
    after (SparesPolicy policy) (policy_in script options) _ (λ policy_path.
    after (SparesPolicy policy) (optional_index_in options) _ (λ index.
    after (SparesPolicy policy) (pin_in options) _ (λ pin. tt)))))))))

remove_policy_spares : (policy : Text) (script : Option Text) (options : List Given) → IfSome (spelled.remove_policy_request script options) (SparesPolicy policy)
remove_policy_spares policy script options =
    after (SparesPolicy policy) (policy_in script options) _ (λ policy_path. tt)

enroll_spares : (policy : Text) (script : Option Text) (options : List Given) → IfSome (spelled.enroll_request script options) (SparesPolicy policy)
enroll_spares policy script options =
    after (SparesPolicy policy) (policy_in script options) _ (λ policy_path.
    after (SparesPolicy policy) (path_beside policy_path (codes "token") options) _ (λ token.
    after (SparesPolicy policy) (key_in options) _ (λ key.
    after (SparesPolicy policy) (literal_in options) _ (λ literal.
    after (SparesPolicy policy) (literal_bank_in literal options) _ (λ bank. tt)))))

unseal_spares : (policy : Text) (script : Option Text) (options : List Given) → IfSome (spelled.unseal_request script options) (SparesPolicy policy)
unseal_spares policy script options =
    after (SparesPolicy policy) (policy_in script options) _ (λ policy_path.
    after (SparesPolicy policy) (path_beside policy_path (codes "token") options) _ (λ token. tt))

tpm_boot_spares : (policy : Text) (options : List Given) → IfSome (spelled.tpm_boot_request options) (SparesPolicy policy)
tpm_boot_spares policy options =
    after (SparesPolicy policy) (firmware_log_in options) _ (λ firmware_log.
    after (SparesPolicy policy) (userspace_log_in options) _ (λ userspace_log.
    after (SparesPolicy policy) (optional_locality_in options) _ (λ locality.
    after (SparesPolicy policy) (banks_in options) _ (λ banks. tt))))

tpm_extend_spares : (policy : Text) (options : List Given) → IfSome (spelled.tpm_extend_request options) (SparesPolicy policy)
tpm_extend_spares policy options =
    after (SparesPolicy policy) (pcr_in options) _ (λ pcr.
    after (SparesPolicy policy) (extended_bytes (value_of (codes "text") options) (value_of (codes "hex") options)) _ (λ bytes. tt))

tpm_exec_spares : (policy : Text) (options : List Given) → IfSome (spelled.tpm_exec_request options) (SparesPolicy policy)
tpm_exec_spares policy options =
    after (SparesPolicy policy) (path_in (codes "commands") options) _ (λ commands. tt)

race_spares : (policy : Text) (script : Option Text) (options : List Given) → IfSome (spelled.race_request script options) (SparesPolicy policy)
race_spares policy script options =
    after (SparesPolicy policy) (policy_in script options) _ (λ policy_path.
    after (SparesPolicy policy) (path_beside policy_path (codes "token") options) _ (λ token.
    after (SparesPolicy policy) (path_in (codes "events") options) _ (λ events.
    after (SparesPolicy policy) (clients_in (client_limit (is_given (codes "broker") options)) options) _ (λ clients. tt))))

gen_spares : (policy : Text) (options : List Given) → IfSome (spelled.gen_request options) (SparesPolicy policy)
gen_spares policy options =
    after (SparesPolicy policy) (number_in options) _ (λ number. tt)

broker_spares : (policy : Text) (options : List Given) → IfSome (spelled.broker_request options) (SparesPolicy policy)
broker_spares policy options =
    after (SparesPolicy policy) (path_in (codes "commands") options) _ (λ commands.
    after (SparesPolicy policy) (clients_in 16 options) _ (λ clients. tt))

check_proof_spares : (policy : Text) (options : List Given) → IfSome (spelled.check_proof_request options) (SparesPolicy policy)
check_proof_spares policy options =
    after (SparesPolicy policy) (path_in (codes "proof") options) _ (λ proof.
    after (SparesPolicy policy) (components_in options) _ (λ components.
    after (SparesPolicy policy) (location_in options) _ (λ location. tt)))

command_spares : (script : Option Text) (command : Command) (options : List Given) → IfSome (spelled.command_request script command options) (SparesPolicy (standing_policy script))
command_spares script commands.Script options = script_spares (standing_policy script) options
command_spares script commands.Log options = log_spares (standing_policy script) options
command_spares script commands.Cel options = cel_spares (standing_policy script) options
command_spares script commands.ListComponents options = list_components_spares (standing_policy script) options
command_spares script commands.Predict options = predict_spares (standing_policy script) options
command_spares script commands.MakePolicy options = make_policy_spares (standing_policy script) script options
command_spares script commands.RemovePolicy options = remove_policy_spares (standing_policy script) script options
command_spares script commands.Enroll options = enroll_spares (standing_policy script) script options
command_spares script commands.Unseal options = unseal_spares (standing_policy script) script options
command_spares script commands.TpmBoot options = tpm_boot_spares (standing_policy script) options
command_spares script commands.TpmExtend options = tpm_extend_spares (standing_policy script) options
command_spares script commands.TpmExec options = tpm_exec_spares (standing_policy script) options
command_spares script commands.Race options = race_spares (standing_policy script) script options
command_spares script commands.Gen options = gen_spares (standing_policy script) options
command_spares script commands.LockFirmwareCode options = lock_firmware_code_spares script options
command_spares script commands.LockFirmwareConfig options = lock_firmware_config_spares script options
command_spares script commands.UnlockFirmwareCode options = unlock_firmware_code_spares script options
command_spares script commands.UnlockFirmwareConfig options = unlock_firmware_config_spares script options
command_spares script commands.LockRaw options = lock_raw_spares script options
command_spares script commands.Broker options = broker_spares (standing_policy script) options
command_spares script commands.Prove options = prove_spares script options
command_spares script commands.CheckProof options = check_proof_spares (standing_policy script) options

-- ---- words

line_has : (P : Request → Type 0) (script : Option Text) → ((command : Command) (options : List Given) → IfSome (spelled.command_request script command options) P) → (words : List Text) → IfSome (spelled.line_request script words) P
line_has P script each [] = tt
line_has P script each (name ∷ words) =
    after P (command_named (is_some script) name) _ (λ command.
    after P (options_for (is_some script) command words) _ (λ options. each command options))

state_has : (P : Request → Type 0) (test : Bool) (o : Option Request) → IfSome o P → IfSome (cond test None o) P
state_has P true o holds = tt
state_has P false o holds = holds

words_have : (P : Request → Type 0) (words : List Text) (script : Option Text) → ((command : Command) (options : List Given) → IfSome (spelled.command_request script command options) P) → IfSome (spelled.request_of words script) P
unfolding spelled.request_of
words_have P words (Some policy) each = line_has P (Some policy) each words
words_have P [] None each = tt
words_have P (state ∷ words) None each = state_has P (length state == 0) (spelled.line_request None words) (line_has P None each words)

-- a request that words spell is proper
pub spelled_proper : (words : List Text) (script : Option Text) → IfSome (spelled.request_of words script) IsProperRequest
spelled_proper words script = words_have IsProperRequest words script (command_proper script)

-- and makes no file at the policy path that stands
pub spelled_spares : (words : List Text) (script : Option Text) → IfSome (spelled.request_of words script) (SparesPolicy (standing_policy script))
spelled_spares words script = words_have (SparesPolicy (standing_policy script)) words script (command_spares script)

-- what holds of the request that words spell holds of the one that was read
pub read_has : (P : Request → Type 0) (r : Result Request WordsError) (said : Option Request) → Gives r said → IfSome said P → IfOk r P
read_has P (Ok request) said given holds = subst (λ (o : Option Request). IfSome o P) given holds
read_has P (Err e) said given holds = tt
