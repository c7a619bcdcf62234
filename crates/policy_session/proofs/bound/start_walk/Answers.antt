use Rattle.std.proofs.Common.{◌≡◌, sym, ap, ◌∙◌, subst, refl, inl, rules}
use Rattle.std.specs.Prelude.{Ok, Err}
use Rattle.hash_bank.specs.declared.bank.Bank.TheVariants.{Sha256}
use Rattle.policy_walk.specs.declared.why.StartRefusal.TheVariants as start
use Rattle.tpm_model.specs.declared.command.Command.TheVariants as command
use Rattle.tpm_model.specs.declared.parts.Parts.{Parts}
use Rattle.tpm_model.specs.Respond.{respond}
use Rattle.policy_session.specs.declared.error.UnsealError.TheVariants as error
use Rattle.policy_session.specs.Kept.{IsKept}
use Rattle.policy_session.proofs.BoundLaws.{begun, walk_of}
use Rattle.policy_session.proofs.KeptStates.{kept_self, kept_start}
use Rattle.policy_session.proofs.Runs.{AsksSo, ran_err, ran_of}
use Rattle.policy_session.proofs.StepAnswers.{starts}
use Rattle.policy_session.proofs.bound.start_walk.Goals as goal

pub returns-in-Ok-take-clause-ran : goal.returns-in-Ok-take-clause-ran
returns-in-Ok-take-clause-ran g c = λ s keeps at.
    let ruled = c.ask.ensures.rules s at.now in
    let asked = command.StartSession Sha256 in
    let next : IsKept s (respond asked s).1 = subst (IsKept s) (sym (starts Sha256 s (inl refl)).1) (kept_start Sha256 s (inl refl) ruled) in
    let ran = ran_of asked c.command.result s s keeps (Ok c.in-Ok.response) _ _ _ c.command.ensures (c.in-Ok.ensures.told s at.now c.requires)
    (λ k. c.in-Ok.ensures.stored s s at.now c.requires (at.same k) (kept_self s ruled) (subst (λ q. IsKept s (respond q s).1) (sym c.command.ensures) next)) in
    let was : c.take.result ≡ Ok c.in-Ok-take.started = search rules in
    begun c.args.prepared s keeps c.in-Ok.response c.take.result _ _ _ _ ran c.take.ensures (sym (ap walk_of was))

pub returns-in-Err-SessionsFull-clause-ran : goal.returns-in-Err-SessionsFull-clause-ran
returns-in-Err-SessionsFull-clause-ran g c = λ s keeps at.
    let ruled = c.ask.ensures.rules s at.now in
    let asked = command.StartSession Sha256 in
    let next : IsKept s (respond asked s).1 = subst (IsKept s) (sym (starts Sha256 s (inl refl)).1) (kept_start Sha256 s (inl refl) ruled) in
    let ran = ran_of asked c.command.result s s keeps (Ok c.in-Ok.response) _ _ _ c.command.ensures (c.in-Ok.ensures.told s at.now c.requires)
    (λ k. c.in-Ok.ensures.stored s s at.now c.requires (at.same k) (kept_self s ruled) (subst (λ q. IsKept s (respond q s).1) (sym c.command.ensures) next)) in
    let was : c.take.result ≡ Err start.SessionsFull = search rules in
    begun c.args.prepared s keeps c.in-Ok.response c.take.result _ _ _ _ ran c.take.ensures (sym (ap walk_of was))

pub returns-in-Err-HandlesEnd-clause-ran : goal.returns-in-Err-HandlesEnd-clause-ran
returns-in-Err-HandlesEnd-clause-ran g c = λ s keeps at.
    let ruled = c.ask.ensures.rules s at.now in
    let asked = command.StartSession Sha256 in
    let next : IsKept s (respond asked s).1 = subst (IsKept s) (sym (starts Sha256 s (inl refl)).1) (kept_start Sha256 s (inl refl) ruled) in
    let ran = ran_of asked c.command.result s s keeps (Ok c.in-Ok.response) _ _ _ c.command.ensures (c.in-Ok.ensures.told s at.now c.requires)
    (λ k. c.in-Ok.ensures.stored s s at.now c.requires (at.same k) (kept_self s ruled) (subst (λ q. IsKept s (respond q s).1) (sym c.command.ensures) next)) in
    let was : c.take.result ≡ Err start.HandlesEnd = search rules in
    begun c.args.prepared s keeps c.in-Ok.response c.take.result _ _ _ _ ran c.take.ensures (sym (ap walk_of was))

pub returns-in-Err-clause-ran : goal.returns-in-Err-clause-ran
returns-in-Err-clause-ran g c = λ s keeps at.
    let ruled = c.ask.ensures.rules s at.now in
    let asked = command.StartSession Sha256 in
    let next : IsKept s (respond asked s).1 = subst (IsKept s) (sym (starts Sha256 s (inl refl)).1) (kept_start Sha256 s (inl refl) ruled) in
    let ran = ran_of asked c.command.result s s keeps (Err c.in-Err.error) _ _ _ c.command.ensures (c.in-Err.ensures.told s at.now c.requires)
    (λ k. c.in-Err.ensures.stored s s at.now c.requires (at.same k) (kept_self s ruled) (subst (λ q. IsKept s (respond q s).1) (sym c.command.ensures) next)) in
    ran_err s keeps (AsksSo asked s) _ c.in-Err.error _ _ _ ran (λ after good. cc)
