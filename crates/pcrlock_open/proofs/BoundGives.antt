-- What was opened by a policy is the outcome of the definition.
use Rattle.std.proofs.Common.{◌≡◌, ℕ, Bool, true, List, inl, refl, sym, ap, subst, ◌∙◌}
use Rattle.std.specs.Prelude.{Option, None, Some, Result, Ok, Err, IfOk, IfErr}
use Rattle.pl_base.specs.FileMap.{FileMap}
use Rattle.hash_bank.specs.declared.bank.Bank.{Bank}
use Rattle.nv_index.specs.declared.index.NvPublic.{NvPublic}
use Rattle.policy_file.specs.declared.policy.Policy.{Policy}
use Rattle.policy_walk.specs.Ends.{End}
use Rattle.tpm_device.specs.Stored.{Stored, Holds}
use Rattle.tpm_model.specs.declared.parts.Parts.{Parts}
use Rattle.tpm_model.specs.Rules.{HasRules}
use Rattle.policy_session.specs.declared.error.UnsealError.{UnsealError}
use Rattle.policy_session.specs.declared.index.IndexError.{IndexError}
use Rattle.policy_session.specs.Answers.{is_answer}
use Rattle.policy_session.specs.BoundUnseal.{IsNeverLiteral, opened_bound}
use Rattle.policy_session.specs.Kept.{Kept}
use Rattle.policy_session.specs.LiteralUnseal.{after_unseal}
use Rattle.policy_session.specs.Ran.{Gives, Ran}
use Rattle.pcrlock_answer.specs.declared.answer.Answer.{Answer}
use Rattle.pcrlock_line.specs.declared.reply.Reply.{Reply}
use Rattle.pcrlock_line.specs.declared.stop.Stop.{Stop}
use Rattle.pcrlock_line.specs.Machine.{Machine, Live, Tells, machine}
use Rattle.pcrlock_line.specs.Outcome as line
use Rattle.pcrlock_line.specs.Outcome.{ending_of}
use Rattle.pcrlock_line.specs.Stopped.{StandsAt, StandsAmong}
use Rattle.pcrlock_open.specs.Bound.{bound_by, bound_on, held_after, held_by, held_ending, held_opened, opened_by_held, secret_ending}
use Rattle.pcrlock_open.specs.BoundEndings.{IsEnded, IsOpenedSo}
use Rattle.pcrlock_open.specs.UnsealAnswers.{IsResultFor, result_answer}
use Rattle.pcrlock_open.proofs.BoundEnds.{same_bound}
use Rattle.pcrlock_open.proofs.Stops.{kept_after}

-- no refusal of a key that is bound to an index shows the value of a literal
pub never_for : (opened : Result (List ℕ) UnsealError) → IfErr opened IsNeverLiteral → IsResultFor None opened
never_for (Ok secret) never why e = absurd (cc e)
never_for (Err given) never why e = let same : given ≡ why = cc in subst IsNeverLiteral same never

-- the secret or the answer for a walk's result
pub opened_so : (bank : Bank) (public : NvPublic) (handle : ℕ) (s : Parts) (end foreseen : End) (opened : Result (List ℕ) UnsealError) (result : Result (Result (List ℕ) Answer) Stop) (ready : Bool) (live : Option Parts) (stored : Option Stored)
    (expected : Result (List ℕ) Answer) (after : Parts)
    → Ran s true (Gives (opened_bound bank public handle end s) (after_unseal s)) opened ready live stored → HasRules (after_unseal s)
    → IfOk result (λ r. (r ≡ result_answer None opened) × (is_answer opened ≡ true)) → end ≡ foreseen → expected ≡ bound_by bank public handle s foreseen → after ≡ after_unseal s
    → IfOk result (λ r. IsOpenedSo expected after r ready live stored)
opened_so bank public handle s end foreseen opened (Err stop) ready live stored expected after ran rules told same e f = tt
opened_so bank public handle s end foreseen opened (Ok r) ready live stored expected after ran rules told same e f =
    let a = ran.answered told.1 in
    record {
      is = told.0 ∙ ap (result_answer None) a.good.0 ∙ same_bound bank public handle end s ∙ ap (bound_by bank public handle s) same ∙ sym e;
      readiness = a.readiness;
      now = a.is.now ∙ ap Some (a.good.1 ∙ sym f);
      stored = a.is.same refl ∙ ap (λ n. Some (Holds n)) (a.good.1 ∙ sym f);
      rules = subst HasRules (sym f) rules;
    }

-- what is stored, whatever the walk came to
pub kept_ran : {A : Type 0} (s : Parts) (answer opened : Result A UnsealError) (ready : Bool) (live : Option Parts) (stored : Option Stored)
    → Ran s true (Gives answer (after_unseal s)) opened ready live stored → HasRules (after_unseal s) → Kept s stored
kept_ran s answer opened ready live stored ran rules =
    kept_after s opened stored rules (record {
      answered = λ is. let a = ran.answered is in a.is.same refl ∙ ap (λ n. Some (Holds n)) a.good.1;
      stopped = λ is_none. ran.stopped is_none refl;
    })

-- a refusal that leaves the state
pub refused_held : (policy : Policy) (handle : ℕ) (s : Parts) (why : IndexError) (answer : Result (List ℕ) Answer) (ready : Bool) (live : Option Parts) (stored : Option Stored) → held_by policy s ≡ Err why
    → answer ≡ opened_by_held policy handle s (Err why) → ready ≡ true → live ≡ Some s → stored ≡ Some (Holds s) → HasRules s
    → IsOpenedSo (held_opened policy handle s) (held_after policy s (held_by policy s)) answer ready live stored
refused_held policy handle s why answer ready live stored e is readiness now kept rules = record {
  is = is ∙ sym (ap (opened_by_held policy handle s) e);
  readiness = readiness;
  now = now ∙ ap Some (sym (ap (held_after policy s) e));
  stored = kept ∙ ap (λ n. Some (Holds n)) (sym (ap (held_after policy s) e));
  rules = subst HasRules (sym (ap (held_after policy s) e)) rules;
}

-- the line of what was opened
pub ended : (opened : Result (Result (List ℕ) Answer) Stop) (reply : Result Reply Stop) (expected : Result (List ℕ) Answer) (after : Parts) (secret : Result (List ℕ) Answer) (ready : Bool) (live : Option Parts) (stored : Option Stored)
    → opened ≡ Ok secret → IfOk opened (λ r. IsOpenedSo expected after r ready live stored) → IfOk reply (λ r. ending_of r ≡ secret_ending secret)
    → IfOk reply (λ r. IsEnded (secret_ending expected) after r stored)
ended opened (Err stop) expected after secret ready live stored was h told = tt
ended opened (Ok r) expected after secret ready live stored was h told =
    let o = subst (λ x. IfOk x (λ r. IsOpenedSo expected after r ready live stored)) was h in
    record { is = told ∙ ap secret_ending o.is; stored = o.stored; rules = o.rules }

-- the outcome
pub gives_ended : (held : Option FileMap) (stored now : Option Stored) (words : Option (List (List ℕ))) (m : Live) (policy : Policy) (handle : ℕ) (result : Result Reply Stop)
    → Tells held stored words (machine m)
    → IfOk result (λ reply. IsEnded (held_ending policy handle m.state) (held_after policy m.state (held_by policy m.state)) reply now)
    → IfOk result (λ reply. line.Gives held now words reply (bound_on policy handle m))
gives_ended held stored now words m policy handle (Ok reply) tells ended = record {
  ending = ended.is;
  tells = record { files = tells.files; state = ended.stored; draws = tells.draws };
}
gives_ended held stored now words m policy handle (Err stop) tells ended = tt

-- what stands after a stop
pub bound_stopped : (held : Option FileMap) (stored now : Option Stored) (words : Option (List (List ℕ))) (m : Live) (policy : Policy) (handle : ℕ) (result : Result Reply Stop)
    → Tells held stored words (machine m) → IfErr result (λ _. Kept m.state now) → IfErr result (λ _. StandsAmong held now (bound_on policy handle m).stops)
bound_stopped held stored now words m policy handle (Ok reply) tells h = tt
bound_stopped held stored now words m policy handle (Err stop) tells h =
    inl (record { files = tells.files; device = Holds h.state; tells = h.holds; same = (h.state, refl, h.kept.differs) })
