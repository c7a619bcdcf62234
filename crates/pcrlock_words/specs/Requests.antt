-- Which lists of words the program takes, and the request that each of them spells.
use Rattle.std.specs.Prelude.{ℕ, ◌==◌, if◌then◌else◌, List, [], ◌∷◌, length, codes, Option, Some, None, is_some}
use Rattle.component_make.specs.declared.kind.FirmwareKind.TheVariants.{Code, Config}
use Rattle.pcrlock_words.specs.declared.command.Command.{Command}
use Rattle.pcrlock_words.specs.declared.command.Command.TheVariants as commands
use Rattle.pcrlock_words.specs.declared.request.Request.{Request}
use Rattle.pcrlock_words.specs.declared.request.Request.TheVariants as requests
use Rattle.pcrlock_words.specs.Options.{Given, is_given, value_of}
use Rattle.pl_text.specs.Words.{◌>>=◌}
use Rattle.pcrlock_words.specs.Commands.{command_named, options_for}
use Rattle.pcrlock_words.specs.Fields.{path_in, path_beside, firmware_log_in, userspace_log_in, components_in, location_in, pcrs_in, pcr_in, bank_in, banks_in, index_in, optional_index_in, pin_in, key_in, literal_in, literal_bank_in, optional_locality_in, locality_in, clients_in, client_limit, number_in, extended_bytes, standing_policy, policy_in, made_beside}

-- the request of each command with these options; where the policy path counts, with the script's
abbrev pub script_request : List Given → Option Request
script_request options = do
  file ← path_in (codes "file") options
  policy ← policy_in None options
  index ← index_in options
  Some (requests.Script file policy index)

abbrev pub log_request : List Given → Option Request
log_request options = do
  firmware_log ← firmware_log_in options
  userspace_log ← userspace_log_in options
  components ← components_in options
  bank ← bank_in options
  Some (requests.Log firmware_log userspace_log components bank)

abbrev pub cel_request : List Given → Option Request
cel_request options = do
  firmware_log ← firmware_log_in options
  userspace_log ← userspace_log_in options
  Some (requests.Cel firmware_log userspace_log)

abbrev pub list_components_request : List Given → Option Request
list_components_request options = do
  components ← components_in options
  Some (requests.ListComponents components)

abbrev pub predict_request : List Given → Option Request
predict_request options = do
  firmware_log ← firmware_log_in options
  userspace_log ← userspace_log_in options
  components ← components_in options
  location ← location_in options
  pcr ← pcrs_in options
  bank ← bank_in options
  Some (requests.Predict firmware_log userspace_log components location pcr bank (is_given (codes "joint") options))

abbrev pub make_policy_request : Option (List ℕ) → List Given → Option Request
make_policy_request script_policy options = do
  firmware_log ← firmware_log_in options
  userspace_log ← userspace_log_in options
  components ← components_in options
  location ← location_in options
  pcr ← pcrs_in options
  bank ← bank_in options
  policy ← policy_in script_policy options
  index ← optional_index_in options
  pin ← pin_in options
  Some (requests.MakePolicy firmware_log userspace_log components location pcr bank policy index pin (is_given (codes "force") options) (is_given (codes "joint") options))

abbrev pub remove_policy_request : Option (List ℕ) → List Given → Option Request
remove_policy_request script_policy options = do
  policy ← policy_in script_policy options
  Some (requests.RemovePolicy policy)

abbrev pub enroll_request : Option (List ℕ) → List Given → Option Request
enroll_request script_policy options = do
  policy ← policy_in script_policy options
  token ← path_beside policy (codes "token") options
  key ← key_in options
  literal ← literal_in options
  bank ← literal_bank_in literal options
  Some (requests.Enroll token policy key literal bank)

abbrev pub unseal_request : Option (List ℕ) → List Given → Option Request
unseal_request script_policy options = do
  policy ← policy_in script_policy options
  token ← path_beside policy (codes "token") options
  Some (requests.Unseal token policy)

abbrev pub tpm_boot_request : List Given → Option Request
tpm_boot_request options = do
  firmware_log ← firmware_log_in options
  userspace_log ← userspace_log_in options
  locality ← optional_locality_in options
  banks ← banks_in options
  Some (requests.TpmBoot firmware_log userspace_log locality banks)

abbrev pub tpm_extend_request : List Given → Option Request
tpm_extend_request options = do
  pcr ← pcr_in options
  bytes ← extended_bytes (value_of (codes "text") options) (value_of (codes "hex") options)
  Some (requests.TpmExtend pcr bytes)

abbrev pub tpm_exec_request : List Given → Option Request
tpm_exec_request options = do
  commands ← path_in (codes "commands") options
  Some (requests.TpmExec commands)

abbrev pub race_request : Option (List ℕ) → List Given → Option Request
race_request script_policy options = do
  policy ← policy_in script_policy options
  token ← path_beside policy (codes "token") options
  events ← path_in (codes "events") options
  clients ← clients_in (client_limit (is_given (codes "broker") options)) options
  Some (requests.Race events token clients policy (is_given (codes "broker") options))

abbrev pub gen_request : List Given → Option Request
gen_request options = do
  number ← number_in options
  Some (requests.Gen number)

abbrev pub lock_firmware_code_request : Option (List ℕ) → List Given → Option Request
lock_firmware_code_request script_policy options = do
  firmware_log ← firmware_log_in options
  made ← made_beside (standing_policy script_policy) Code options
  Some (requests.LockFirmwareCode firmware_log made.folder made.variant)

abbrev pub lock_firmware_config_request : Option (List ℕ) → List Given → Option Request
lock_firmware_config_request script_policy options = do
  firmware_log ← firmware_log_in options
  made ← made_beside (standing_policy script_policy) Config options
  Some (requests.LockFirmwareConfig firmware_log made.folder made.variant)

abbrev pub unlock_firmware_code_request : Option (List ℕ) → List Given → Option Request
unlock_firmware_code_request script_policy options = do
  made ← made_beside (standing_policy script_policy) Code options
  Some (requests.UnlockFirmwareCode made.folder made.variant)

abbrev pub unlock_firmware_config_request : Option (List ℕ) → List Given → Option Request
unlock_firmware_config_request script_policy options = do
  made ← made_beside (standing_policy script_policy) Config options
  Some (requests.UnlockFirmwareConfig made.folder made.variant)

abbrev pub lock_raw_request : Option (List ℕ) → List Given → Option Request
lock_raw_request script_policy options = do
  file ← path_in (codes "file") options
  pcr ← pcr_in options
  output ← path_beside (standing_policy script_policy) (codes "output") options
  Some (requests.LockRaw file pcr output)

abbrev pub broker_request : List Given → Option Request
broker_request options = do
  commands ← path_in (codes "commands") options
  clients ← clients_in 16 options
  Some (requests.Broker commands clients)

abbrev pub prove_request : Option (List ℕ) → List Given → Option Request
prove_request script_policy options = do
  output ← path_beside (standing_policy script_policy) (codes "output") options
  components ← components_in options
  location ← location_in options
  pcr ← pcrs_in options
  bank ← bank_in options
  locality ← locality_in options
  Some (requests.Prove output components location pcr bank locality (is_given (codes "joint") options))

abbrev pub check_proof_request : List Given → Option Request
check_proof_request options = do
  proof ← path_in (codes "proof") options
  components ← components_in options
  location ← location_in options
  Some (requests.CheckProof proof components location)

abbrev pub command_request : Option (List ℕ) → Command → List Given → Option Request
command_request script_policy commands.Script options = script_request options
command_request script_policy commands.Log options = log_request options
command_request script_policy commands.Cel options = cel_request options
command_request script_policy commands.ListComponents options = list_components_request options
command_request script_policy commands.Predict options = predict_request options
command_request script_policy commands.MakePolicy options = make_policy_request script_policy options
command_request script_policy commands.RemovePolicy options = remove_policy_request script_policy options
command_request script_policy commands.Enroll options = enroll_request script_policy options
command_request script_policy commands.Unseal options = unseal_request script_policy options
command_request script_policy commands.TpmBoot options = tpm_boot_request options
command_request script_policy commands.TpmExtend options = tpm_extend_request options
command_request script_policy commands.TpmExec options = tpm_exec_request options
command_request script_policy commands.Race options = race_request script_policy options
command_request script_policy commands.Gen options = gen_request options
command_request script_policy commands.LockFirmwareCode options = lock_firmware_code_request script_policy options
command_request script_policy commands.LockFirmwareConfig options = lock_firmware_config_request script_policy options
command_request script_policy commands.UnlockFirmwareCode options = unlock_firmware_code_request script_policy options
command_request script_policy commands.UnlockFirmwareConfig options = unlock_firmware_config_request script_policy options
command_request script_policy commands.LockRaw options = lock_raw_request script_policy options
command_request script_policy commands.Broker options = broker_request options
command_request script_policy commands.Prove options = prove_request script_policy options
command_request script_policy commands.CheckProof options = check_proof_request options

-- the request of a command and the words behind its name
abbrev pub options_request : Option (List ℕ) → Command → List (List ℕ) → Option Request
options_request script_policy command words = do
  options ← options_for (is_some script_policy) command words
  command_request script_policy command options

-- the request of a command's name and the words behind it
abbrev pub line_request : Option (List ℕ) → List (List ℕ) → Option Request
line_request script_policy [] = None
line_request script_policy (name ∷ words) = do
  command ← command_named (is_some script_policy) name
  options_request script_policy command words

-- The request that words spell. Inside a script, whose policy path is given, they are a command with
-- its options; outside, the path of the state file stands before those.
unfoldable pub request_of : List (List ℕ) → Option (List ℕ) → Option Request
request_of words (Some policy) = line_request (Some policy) words
request_of [] None = None
request_of (state ∷ words) None = if length state == 0 then None else line_request None words
