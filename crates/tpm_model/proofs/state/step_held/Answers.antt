use Rattle.tpm_model.specs.Held.{parts_of}
use Rattle.tpm_model.specs.PcrCommands.{pcr_extend, restart}
use Rattle.tpm_model.specs.SessionCommands.{start_session, policy_authorize_nv, policy_or, policy_pcr, flush_session}
use Rattle.tpm_model.specs.IndexCommands.{nv_define, nv_undefine, nv_write}
use Rattle.tpm_model.specs.ObjectCommands.{evict, seal}
use Rattle.tpm_model.proofs.KeepsRules.{kept, kept_unless, keeps-restart, keeps-pcr_extend, keeps-start_session, keeps-policy_pcr, keeps-evict, keeps-flush_session, keeps-seal}
use Rattle.tpm_model.proofs.KeepsIndices.{keeps-nv_define, keeps-nv_undefine, keeps-nv_write}
use Rattle.tpm_model.proofs.KeepsPolicies.{keeps-policy_authorize_nv, keeps-policy_or}
use Rattle.tpm_model.proofs.state.step_held.Goals as goal

pub returns-in-Restart-clause-rules : goal.returns-in-Restart-clause-rules
returns-in-Restart-clause-rules c =
    kept _ _ (restart c.in-Restart.locality c.in-Restart.banks (parts_of c.args.held.now)) c.restarted.ensures
    (keeps-restart c.in-Restart.locality c.in-Restart.banks (parts_of c.args.held.now) c.requires)

pub returns-in-PcrExtend-clause-rules : goal.returns-in-PcrExtend-clause-rules
returns-in-PcrExtend-clause-rules c =
    kept _ _ (pcr_extend c.in-PcrExtend.pcr c.in-PcrExtend.digests (parts_of c.args.held.now)) c.pcr_extended.ensures
    (keeps-pcr_extend c.in-PcrExtend.pcr c.in-PcrExtend.digests (parts_of c.args.held.now) c.requires)

pub returns-in-StartSession-clause-rules : goal.returns-in-StartSession-clause-rules
returns-in-StartSession-clause-rules c =
    kept_unless c.session_started.result (parts_of c.args.held.now) (parts_of c.session_started.new.held) (start_session c.in-StartSession.hash (parts_of c.args.held.now))
    c.session_started.ensures.ok c.session_started.ensures.err c.requires
    (keeps-start_session c.in-StartSession.hash (parts_of c.args.held.now) c.requires)

pub returns-in-PolicyPcr-clause-rules : goal.returns-in-PolicyPcr-clause-rules
returns-in-PolicyPcr-clause-rules c =
    kept _ _ (policy_pcr c.in-PolicyPcr.session c.in-PolicyPcr.bank c.in-PolicyPcr.pcrs (parts_of c.args.held.now)) c.pcrs_bound.ensures
    (keeps-policy_pcr c.in-PolicyPcr.session c.in-PolicyPcr.bank c.in-PolicyPcr.pcrs (parts_of c.args.held.now) c.requires)

pub returns-in-FlushSession-clause-rules : goal.returns-in-FlushSession-clause-rules
returns-in-FlushSession-clause-rules c =
    kept _ _ (flush_session c.in-FlushSession.session (parts_of c.args.held.now)) c.session_flushed.ensures
    (keeps-flush_session c.in-FlushSession.session (parts_of c.args.held.now) c.requires)

pub returns-in-Seal-clause-rules : goal.returns-in-Seal-clause-rules
returns-in-Seal-clause-rules c =
    kept_unless c.sealed.result (parts_of c.args.held.now) (parts_of c.sealed.new.held) (seal c.in-Seal.policy c.in-Seal.secret (parts_of c.args.held.now))
    c.sealed.ensures.ok c.sealed.ensures.err c.requires
    (keeps-seal c.in-Seal.policy c.in-Seal.secret (parts_of c.args.held.now) c.sealed.ensures.bound c.requires)

pub returns-in-PolicyOr-clause-rules : goal.returns-in-PolicyOr-clause-rules
returns-in-PolicyOr-clause-rules c =
    kept _ _ (policy_or c.in-PolicyOr.session c.in-PolicyOr.list (parts_of c.args.held.now)) c.branch_joined.ensures.value
    (keeps-policy_or c.in-PolicyOr.session c.in-PolicyOr.list (parts_of c.args.held.now) c.branch_joined.ensures.bound c.requires)

pub returns-in-PolicyAuthorizeNv-clause-rules : goal.returns-in-PolicyAuthorizeNv-clause-rules
returns-in-PolicyAuthorizeNv-clause-rules c =
    kept _ _ (policy_authorize_nv c.in-PolicyAuthorizeNv.session c.in-PolicyAuthorizeNv.index (parts_of c.args.held.now)) c.index_authorized.ensures
    (keeps-policy_authorize_nv c.in-PolicyAuthorizeNv.session c.in-PolicyAuthorizeNv.index (parts_of c.args.held.now) c.requires)

pub returns-in-NvDefine-clause-rules : goal.returns-in-NvDefine-clause-rules
returns-in-NvDefine-clause-rules c =
    kept_unless c.index_defined.result (parts_of c.args.held.now) (parts_of c.index_defined.new.held) (nv_define c.in-NvDefine.public (parts_of c.args.held.now))
    c.index_defined.ensures.ok c.index_defined.ensures.err c.requires
    (keeps-nv_define c.in-NvDefine.public (parts_of c.args.held.now) c.requires)

pub returns-in-NvUndefine-clause-rules : goal.returns-in-NvUndefine-clause-rules
returns-in-NvUndefine-clause-rules c =
    kept _ _ (nv_undefine c.in-NvUndefine.index (parts_of c.args.held.now)) c.index_undefined.ensures
    (keeps-nv_undefine c.in-NvUndefine.index (parts_of c.args.held.now) c.requires)

pub returns-in-NvWrite-clause-rules : goal.returns-in-NvWrite-clause-rules
returns-in-NvWrite-clause-rules c =
    kept _ _ (nv_write c.in-NvWrite.index c.in-NvWrite.pin c.in-NvWrite.value (parts_of c.args.held.now)) c.index_written.ensures
    (keeps-nv_write c.in-NvWrite.index c.in-NvWrite.pin c.in-NvWrite.value (parts_of c.args.held.now) c.requires)

pub returns-in-Evict-clause-rules : goal.returns-in-Evict-clause-rules
returns-in-Evict-clause-rules c =
    kept _ _ (evict c.in-Evict.handle (parts_of c.args.held.now)) c.evicted.ensures
    (keeps-evict c.in-Evict.handle (parts_of c.args.held.now) c.requires)
