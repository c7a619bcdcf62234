use Rattle.std.proofs.Common.{◌≡◌, ℕ, sym, ap, ◌∙◌, subst, refl, inl, rules}
use Rattle.std.specs.Prelude.{IfOk, Result, Ok, Err}
use Rattle.hash_bank.specs.declared.bank.Bank.TheVariants.{Sha256}
use Rattle.nv_index.specs.declared.index.NvPublic.{NvPublic}
use Rattle.policy_digest.specs.declared.table.Table.{Table}
use Rattle.policy_digest.specs.Plain.{plain_table}
use Rattle.policy_walk.specs.Places.{Place, Ready}
use Rattle.tpm_model.specs.declared.parts.Parts.{Parts}
use Rattle.tpm_model.specs.Rules.{HasRules}
use Rattle.policy_session.specs.declared.error.UnsealError.{UnsealError}
use Rattle.policy_session.specs.BoundUnseal.{IsPrepared, bound_end, opened_bound, walk_from}
use Rattle.policy_session.specs.LiteralUnseal.{after_unseal}
use Rattle.policy_session.specs.OpenSession.{closed, fresh_in, start_answer, start_leaves, with_open}
use Rattle.policy_session.specs.Ran.{Gives, Ran}
use Rattle.policy_session.proofs.BoundLaws.{Begins, begins_at, foreseen, refuses_for}
use Rattle.policy_session.proofs.Runs.{live_as, ran_err, ran_left, ran_same}
use Rattle.policy_session.proofs.Starts.{kept_after}
use Rattle.policy_session.proofs.bound.unseal_bound.Goals as goal

pub returns-in-Ok-clause-ran : goal.returns-in-Ok-clause-ran
returns-in-Ok-clause-ran g c = λ s table public keeps at prepared.
    let a = (c.in-Ok.ensures.ran s keeps at).answered refl in
    let b = begins_at c.args.prepared table public c.args.object s c.in-Ok.started (c.in-Ok.ensures.rules s at.now) prepared a.good.0 in
    let still = live_as keeps a.after (with_open (fresh_in Sha256 s) s) _ _ a.is (a.good.1 ∙ b.leaves) in
    let ran = c.walk.ensures.ran s (fresh_in Sha256 s) keeps public prepared.written still b.stands b.found b.holds in
    ran_same s (after_unseal s) keeps _ _ c.walk.result _ _ _
    (ran_left s (closed s) (after_unseal s) keeps _ c.walk.result _ _ _ ran (sym b.after)) b.answer

pub returns-in-Err-clause-ran : goal.returns-in-Err-clause-ran
returns-in-Err-clause-ran g c = λ s table public keeps at prepared.
    ran_err s keeps (Gives (walk_from c.args.prepared (start_answer s)) (start_leaves Sha256 s)) _ c.in-Err.error _ _ _ (c.in-Err.ensures.ran s keeps at)
    (λ after good.
    let n = refuses_for c.args.prepared table public c.args.object c.in-Err.error s good.0 in
    (n.0, good.1 ∙ n.1))

pub returns-in-Ok-clause-rules : goal.returns-in-Ok-clause-rules
returns-in-Ok-clause-rules g c = λ s live. (kept_after Sha256 s (c.in-Ok.ensures.rules s live) (inl refl)).rules

pub returns-in-Err-clause-rules : goal.returns-in-Err-clause-rules
returns-in-Err-clause-rules g c = λ s live. (kept_after Sha256 s (c.in-Err.ensures.rules s live) (inl refl)).rules

pub returns-in-Ok-clause-foreseen : goal.returns-in-Ok-clause-foreseen
returns-in-Ok-clause-foreseen g c = λ s table public hashed prepared safe own seen. foreseen table s hashed prepared.valid safe own seen

pub returns-in-Err-clause-foreseen : goal.returns-in-Err-clause-foreseen
returns-in-Err-clause-foreseen g c = λ s table public hashed prepared safe own seen. foreseen table s hashed prepared.valid safe own seen
