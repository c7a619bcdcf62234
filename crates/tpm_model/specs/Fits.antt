-- Which answers fit a command, whatever the state.
use Rattle.std.specs.Prelude.{ℕ, ◌^◌, nat_lt, nat_le, ◌==◌, Bool, true, false, not, ◌&&◌, ◌||◌, length}
use Rattle.hash_bank.specs.declared.bank.Bank.{Bank}
use Rattle.hash_bank.specs.declared.bank.Bank.TheVariants.{Sha1, Sha256, Sha384, Sha512}
use Rattle.nv_index.specs.Handles.{is_index_handle}
use Rattle.nv_index.specs.Attributes.{content_size, defined_attributes}
use Rattle.nv_index.specs.declared.index.NvPublic.{NvPublic}
use Rattle.tpm_model.specs.declared.command.Command.{Command}
use Rattle.tpm_model.specs.declared.command.Command.TheVariants as command
use Rattle.tpm_model.specs.declared.response.Response.{Response}
use Rattle.tpm_model.specs.declared.response.Response.TheVariants as answer
use Rattle.tpm_model.specs.declared.response.Refusal.{Refusal}
use Rattle.tpm_model.specs.declared.response.Refusal.TheVariants as refusal
use Rattle.tpm_model.specs.declared.response.Counter.{Counter}
use Rattle.tpm_model.specs.declared.response.Counter.TheVariants as counter
use Rattle.tpm_model.specs.ObjectCommands.{is_policy_size}
use Rattle.tpm_model.specs.PcrCommands.{is_start_locality}
use Rattle.tpm_model.specs.Pcrs.{bank_count}
use Rattle.tpm_model.specs.Sessions.{is_session_hash}

-- whether two banks are the same
abbrev pub is_same_bank : Bank → Bank → Bool
is_same_bank Sha1 Sha1 = true
is_same_bank Sha256 Sha256 = true
is_same_bank Sha384 Sha384 = true
is_same_bank Sha512 Sha512 = true
is_same_bank _ _ = false

-- whether an accepted command is answered Done
abbrev pub is_done : Command → Bool
is_done (command.Restart locality banks) = true
is_done (command.PcrExtend pcr digests) = true
is_done (command.PolicyPcr session bank pcrs) = true
is_done (command.PolicyOr session list) = true
is_done (command.PolicyAuthorizeNv session index) = true
is_done (command.FlushSession session) = true
is_done (command.NvDefine public) = true
is_done (command.NvUndefine index) = true
is_done (command.NvWrite index pin value) = true
is_done (command.Evict handle) = true
is_done _ = false

-- the one command that is answered by each of the other answers
abbrev pub is_pcr_read : Command → Bool
is_pcr_read (command.PcrRead bank pcr) = true
is_pcr_read _ = false

abbrev pub is_start_session : Command → Bool
is_start_session (command.StartSession hash) = true
is_start_session _ = false

abbrev pub is_policy_get_digest : Command → Bool
is_policy_get_digest (command.PolicyGetDigest session) = true
is_policy_get_digest _ = false

abbrev pub is_nv_read : Command → Bool
is_nv_read (command.NvRead index) = true
is_nv_read _ = false

abbrev pub is_nv_read_public : Command → Bool
is_nv_read_public (command.NvReadPublic index) = true
is_nv_read_public _ = false

abbrev pub is_seal : Command → Bool
is_seal (command.Seal policy secret) = true
is_seal _ = false

abbrev pub is_unseal : Command → Bool
is_unseal (command.Unseal session handle) = true
is_unseal _ = false

-- the commands that give one of the refusals, besides
abbrev pub is_nv_define : Command → Bool
is_nv_define (command.NvDefine public) = true
is_nv_define _ = false

abbrev pub is_nv_write : Command → Bool
is_nv_write (command.NvWrite index pin value) = true
is_nv_write _ = false

-- whether a command is refused where PCRs were extended since the session looked at some
abbrev pub minds_extends : Command → Bool
minds_extends (command.PolicyPcr session bank pcrs) = true
minds_extends (command.Unseal session handle) = true
minds_extends _ = false

-- whether a command puts an entry into a trail
abbrev pub is_policy : Command → Bool
is_policy (command.PolicyPcr session bank pcrs) = true
is_policy (command.PolicyOr session list) = true
is_policy (command.PolicyAuthorizeNv session index) = true
is_policy _ = false

-- whether a command raises the counter
abbrev pub raises : Counter → Command → Bool
raises counter.Update (command.PcrExtend pcr digests) = true
raises counter.Update _ = false
raises counter.Writes (command.NvWrite index pin value) = true
raises counter.Writes _ = false

-- whether a command looks into the bank
abbrev pub looks_into : Bank → Command → Bool
looks_into bank (command.PcrRead asked pcr) = is_same_bank bank asked
looks_into bank (command.PolicyPcr session asked pcrs) = is_same_bank bank asked
looks_into bank _ = false

-- whether a command needs an index that is there
abbrev pub needs_index : Command → Bool
needs_index (command.PolicyAuthorizeNv session index) = true
needs_index (command.NvUndefine index) = true
needs_index (command.NvWrite index pin value) = true
needs_index (command.NvRead index) = true
needs_index (command.NvReadPublic index) = true
needs_index _ = false

-- whether a command needs an index that was written
abbrev pub needs_written_index : Command → Bool
needs_written_index (command.PolicyAuthorizeNv session index) = true
needs_written_index (command.NvRead index) = true
needs_written_index _ = false

-- whether a command can be refused with this handle, which it names
abbrev pub names_handle : ℕ → Command → Bool
names_handle handle (command.PolicyPcr session bank pcrs) = handle == session
names_handle handle (command.PolicyOr session list) = handle == session
names_handle handle (command.PolicyAuthorizeNv session index) = handle == session
names_handle handle (command.PolicyGetDigest session) = handle == session
names_handle handle (command.FlushSession session) = handle == session
names_handle handle (command.NvDefine public) = handle == public.handle
names_handle handle (command.Evict object) = handle == object
names_handle handle (command.Unseal session object) = handle == session || handle == object
names_handle handle _ = false

-- whether an index may be defined but for its policy, whose size is wrong
abbrev pub has_wrong_policy : NvPublic → Bool
has_wrong_policy public =
    is_index_handle public.handle && public.attributes == defined_attributes
    && public.size == content_size && not (length public.policy == 32)

-- whether a command can be refused with Value: PolicyOR and PolicyAuthorizeNV always, another exactly
-- where its fields give that refusal
abbrev pub has_wrong_value : Command → Bool
has_wrong_value (command.Restart locality banks) = not (is_start_locality locality) || bank_count banks == 0
has_wrong_value (command.PcrExtend pcr digests) = nat_lt 23 pcr
has_wrong_value (command.PcrRead bank pcr) = nat_lt 23 pcr
has_wrong_value (command.StartSession hash) = not (is_session_hash hash)
has_wrong_value (command.PolicyPcr session bank pcrs) = nat_le (2 ^ 24) pcrs
has_wrong_value (command.PolicyOr session list) = true
has_wrong_value (command.PolicyAuthorizeNv session index) = true
has_wrong_value (command.NvDefine public) = has_wrong_policy public
has_wrong_value (command.Seal policy secret) = not (length secret == 0) && not (is_policy_size (length policy))
has_wrong_value _ = false

-- whether a refusal is one of the command's
abbrev pub may_refuse : Command → Refusal → Bool
may_refuse command refusal.Value = has_wrong_value command
may_refuse command (refusal.PolicyFail session object) = is_unseal command
may_refuse command (refusal.PcrChanged noted now) = minds_extends command
may_refuse command (refusal.Handle handle) = names_handle handle command
may_refuse command refusal.SessionsFull = is_start_session command
may_refuse command refusal.TrailFull = is_policy command
may_refuse command (refusal.CounterEnd counter) = raises counter command
may_refuse command (refusal.BankAbsent bank) = looks_into bank command
may_refuse command refusal.ObjectsFull = is_seal command
may_refuse command refusal.HandlesEnd = is_start_session command || is_seal command
may_refuse command refusal.SealSize = is_seal command
may_refuse command refusal.Attributes = is_nv_define command
may_refuse command refusal.Size = is_nv_define command || is_nv_write command
may_refuse command refusal.Defined = is_nv_define command
may_refuse command refusal.TableFull = is_nv_define command
may_refuse command refusal.NotDefined = needs_index command
may_refuse command (refusal.PinRefused given index) = is_nv_write command
may_refuse command refusal.Uninitialized = needs_written_index command

-- whether a handle is in the range of sessions
abbrev pub is_session_handle : ℕ → Bool
is_session_handle handle = nat_le 0x03000000 handle && nat_le handle 0x03FFFFFF

-- whether an answer is the one that the command gives where it is accepted, or one of its refusals
abbrev pub fits : Command → Response → Bool
fits command answer.Done = is_done command
fits command (answer.Pcr value) = is_pcr_read command
fits command (answer.Session handle) = is_start_session command && is_session_handle handle
fits command (answer.PolicyDigest digest) = is_policy_get_digest command
fits command (answer.Content value) = is_nv_read command
fits command (answer.Public public) = is_nv_read_public command
fits command (answer.Object handle) = is_seal command
fits command (answer.Secret secret) = is_unseal command
fits command (answer.Refused why) = may_refuse command why
