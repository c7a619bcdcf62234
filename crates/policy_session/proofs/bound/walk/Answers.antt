use Rattle.std.proofs.Common.{◌≡◌, ℕ, true, sym, ap, ◌∙◌, subst, refl, rules}
use Rattle.std.specs.Prelude.{IfOk, IfSome, Option, Some, Ok, Err}
use Rattle.hash_bank.specs.declared.bank.Bank.{Bank}
use Rattle.hash_bank.specs.Banks.{has_bank}
use Rattle.nv_index.specs.Table.{index_at}
use Rattle.policy_walk.specs.declared.why.Why.{Why}
use Rattle.policy_walk.specs.Choosing.{content_of}
use Rattle.policy_session.specs.Answers.{is_answer}
use Rattle.policy_session.specs.BoundUnseal.{opened_from, stopped_with, unmet_in}
use Rattle.policy_session.specs.OpenSession.{IsOpen, closed, with_open}
use Rattle.policy_session.specs.Ran.{Ran}
use Rattle.policy_session.specs.Standing.{IsOut, WalkedOut, comes_to}
use Rattle.policy_session.proofs.BoundLaws.{met_bank}
use Rattle.policy_session.proofs.Runs.{live_as, ran_err, ran_same}
use Rattle.policy_session.proofs.bound.walk.Goals as goal

pub returns-in-Ok-Ok-clause-ran : goal.returns-in-Ok-Ok-clause-ran
returns-in-Ok-Ok-clause-ran g c = λ s x keeps public written at stands found content.
    let p = c.args.started in
    let comes = comes_to p.plan s x.digest p.row p.step in
    let was : c.walk_rows.result ≡ Ok (Ok c.in-Ok-Ok.branched) = search rules in
    let a = (c.walk_rows.ensures.ran s x keeps at stands).answered (ap is_answer was) in
    let y = a.good.x in
    let out = subst (WalkedOut p.plan p.index p.session y s comes) was a.good.out in
    let still = live_as keeps a.after (with_open y s) _ _ a.is a.good.left in
    let held = ap (λ n. index_at n s.indices) out.1 ∙ found in
    let holds = subst (λ r. IfOk r (λ digest. written.value ≡ content_of digest)) out.4 content in
    ran_same s (closed s) keeps _ _ c.open.result _ _ _ (c.open.ensures.ran s y keeps public written still out.3 held holds)
    (sym (ap (opened_from p.plan.bank public c.args.object s) out.4))

pub returns-in-Ok-Err-clause-ran : goal.returns-in-Ok-Err-clause-ran
returns-in-Ok-Err-clause-ran g c = λ s x keeps public written at stands found content.
    let p = c.args.started in
    let comes = comes_to p.plan s x.digest p.row p.step in
    let was : c.walk_rows.result ≡ Ok (Err c.in-Ok-Err.stopped) = search rules in
    let a = (c.walk_rows.ensures.ran s x keeps at stands).answered (ap is_answer was) in
    let y = a.good.x in
    let out = subst (WalkedOut p.plan p.index p.session y s comes) was a.good.out in
    let still = live_as keeps a.after (with_open y s) _ _ a.is a.good.left in
    let opened : IsOpen c.in-Ok-Err.stopped.session y s = subst (λ n. IsOpen n y s) (sym out.0) out.1 in
    let present = met_bank p x s out.2 stands out.3 in
    let met = subst (λ (o : Option Why). IfSome (unmet_in o) (λ _. has_bank s.banks c.args.bank ≡ true)) (sym out.4)
    (subst (λ (b : Bank). IfSome (unmet_in (Some out.2)) (λ _. has_bank s.banks b ≡ true)) (sym c.requires.bank) present) in
    ran_same s (closed s) keeps _ _ c.refuse.result _ _ _ (c.refuse.ensures.ran s y keeps still opened met)
    (ap (λ (o : Option Why). Err (stopped_with c.args.bank s o (unmet_in o))) out.4
    ∙ ap (λ b. Err (stopped_with b s (Some out.2) (unmet_in (Some out.2)))) c.requires.bank
    ∙ sym (ap (opened_from p.plan.bank public c.args.object s) out.3))

pub returns-in-Err-clause-ran : goal.returns-in-Err-clause-ran
returns-in-Err-clause-ran g c = λ s x keeps public written at stands found content.
    let p = c.args.started in
    let comes = comes_to p.plan s x.digest p.row p.step in
    let was : c.walk_rows.result ≡ Err c.in-Err.error = search rules in
    ran_err s keeps (IsOut p.plan p.index p.session s comes) _ c.in-Err.error _ _ _
    (subst (λ r. Ran s keeps (IsOut p.plan p.index p.session s comes) r (g.T.Tpm.ready c.walk_rows.new.tpm) (g.T.Tpm.live c.walk_rows.new.tpm) (g.T.Tpm.stored c.walk_rows.new.tpm)) was (c.walk_rows.ensures.ran s x keeps at stands))
    (λ after good. absurd good.out)
