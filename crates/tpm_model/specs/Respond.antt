-- What the TPM answers to a command, and the state that it leaves.
use Rattle.tpm_model.specs.declared.command.Command.{Command}
use Rattle.tpm_model.specs.declared.command.Command.TheVariants as command
use Rattle.tpm_model.specs.declared.response.Response.{Response}
use Rattle.tpm_model.specs.declared.parts.Parts.{Parts}
use Rattle.tpm_model.specs.IndexCommands.{nv_define, nv_read, nv_read_public, nv_undefine, nv_write}
use Rattle.tpm_model.specs.ObjectCommands.{evict, seal, unseal}
use Rattle.tpm_model.specs.PcrCommands.{pcr_extend, pcr_read, restart}
use Rattle.tpm_model.specs.SessionCommands.{flush_session, policy_authorize_nv, policy_get_digest, policy_or, policy_pcr, start_session}

-- the answer and the next state
abbrev pub respond : Command → Parts → Response × Parts
respond (command.Restart locality banks) s = restart locality banks s
respond (command.PcrExtend pcr digests) s = pcr_extend pcr digests s
respond (command.PcrRead bank pcr) s = pcr_read bank pcr s
respond (command.StartSession hash) s = start_session hash s
respond (command.PolicyPcr session bank pcrs) s = policy_pcr session bank pcrs s
respond (command.PolicyOr session list) s = policy_or session list s
respond (command.PolicyAuthorizeNv session index) s = policy_authorize_nv session index s
respond (command.PolicyGetDigest session) s = policy_get_digest session s
respond (command.FlushSession session) s = flush_session session s
respond (command.NvDefine public) s = nv_define public s
respond (command.NvUndefine index) s = nv_undefine index s
respond (command.NvWrite index pin value) s = nv_write index pin value s
respond (command.NvRead index) s = nv_read index s
respond (command.NvReadPublic index) s = nv_read_public index s
respond (command.Seal policy secret) s = seal policy secret s
respond (command.Evict handle) s = evict handle s
respond (command.Unseal session handle) s = unseal session handle s
