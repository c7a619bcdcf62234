-- An unseal by a literal prints the key exactly where the PCR holds the literal's value.
use Rattle.std.proofs.Common.{◌≡◌, ◌↔◌, ℕ, ◌<◌, Bool, true, false, cond, List, ◌++◌, length, refl, sym, ap, subst, ◌∙◌, Contains}
use Rattle.std.specs.Prelude.{Option, None, Some, Result, Ok, Err, IfOk}
use Rattle.std.specs.Str.{bytes_eq}
use Rattle.std.proofs.lemmas.Bool.{lt-leb}
use Rattle.std.proofs.lemmas.Slice.Eq.{bytes_eq-Decides}
use Rattle.std.proofs.lemmas.List.Elements.{Contains-append_left, Contains-append_right}
use Rattle.hash_bank.specs.HashedString.{HashedString, NoClash}
use Rattle.policy_file.specs.declared.token.Literal.{Literal}
use Rattle.policy_file.specs.declared.token.Token.TheVariants as token
use Rattle.policy_file.proofs.Tokens.{token_again}
use Rattle.tpm_model.specs.declared.object.Object.{Object}
use Rattle.tpm_model.specs.declared.parts.Parts.{Parts}
use Rattle.tpm_model.specs.Binding.{literal_policy}
use Rattle.tpm_model.specs.Sessions.{object_at}
use Rattle.tpm_model.specs.World.{World}
use Rattle.pcrlock_answer.specs.Texts.{key_text}
use Rattle.pcrlock_answer.specs.declared.answer.Answer.TheVariants as said
use Rattle.pcrlock_line.specs.Machine.{Live, machine}
use Rattle.pl_base.specs.FileMap.{FileMap}
use Rattle.tpm_device.specs.Stored.{Stored}
use Rattle.pcrlock_line.specs.declared.reply.Reply.{Reply}
use Rattle.pcrlock_line.specs.declared.stop.Stop.{Stop}
use Rattle.pcrlock_line.specs.Outcome.{Fine, Refused, Gives, ending_of}
use Rattle.pcrlock_open.specs.Unseal.{unseal_line, content_line, token_line, literal_ending, value_ending, object_ending, present_value}
use Rattle.pcrlock_open.specs.Headline.{IsEnrolled, IsSafe, OpensExactly}

-- strings that don't clash among more don't clash
pub safe_left : (xs ys : List HashedString) → NoClash (Contains (xs ++ ys)) → NoClash (Contains xs)
safe_left xs ys safe = record {
  distinct = λ s t h k. safe.distinct s t (Contains-append_left xs ys s h) (Contains-append_left xs ys t k);
  nonzero = λ s h. safe.nonzero s (Contains-append_left xs ys s h);
}

pub safe_right : (xs ys : List HashedString) → NoClash (Contains (xs ++ ys)) → NoClash (Contains ys)
safe_right xs ys safe = record {
  distinct = λ s t h k. safe.distinct s t (Contains-append_right xs ys s h) (Contains-append_right xs ys t k);
  nonzero = λ s h. safe.nonzero s (Contains-append_right xs ys s h);
}

same_bytes : (xs ys : List ℕ) → xs ≡ ys → bytes_eq xs ys ≡ true
same_bytes xs ys e = (bytes_eq-Decides xs ys).1 e

-- the object is there, and its policy is this one
opened_object : (policy : List ℕ) (handle : ℕ) (s : Parts) (object : Object) (key : List ℕ)
    → object_at handle s.objects ≡ Some object → object.secret ≡ key → policy ≡ object.policy
    → object_ending policy handle (object_at handle s.objects) ≡ Fine (key_text key)
opened_object policy handle s object key found secret same =
    ap (object_ending policy handle) found
    ∙ ap (λ b. cond b (Fine (key_text object.secret)) (Refused (said.WrongBinding policy object.policy))) (same_bytes policy object.policy same)
    ∙ ap (λ k. Fine (key_text k)) secret

-- the end by the present value: the object is there under the literal's policy
by_value : (o : Option (List ℕ)) (literal : Literal) (handle : ℕ) (s : Parts) (object : Object) (key : List ℕ)
    → object_at handle s.objects ≡ Some object → object.secret ≡ key → object.policy ≡ literal_policy literal.hash literal.bank literal.pcr literal.value
    → (value_ending o literal handle s ≡ Fine (key_text key)) ↔ (o ≡ Some literal.value)
by_value None literal handle s object key found secret policy = (λ e. absurd (cc e), λ e. absurd (cc e))
by_value (Some now) literal handle s object key found secret policy = split (bytes_eq now literal.value) refl
  where
    split : (b : Bool) → bytes_eq now literal.value ≡ b
        → (cond b (object_ending (literal_policy literal.hash literal.bank literal.pcr now) handle (object_at handle s.objects)) (Refused (said.NotLiteral literal.pcr now literal.value)) ≡ Fine (key_text key))
        ↔ (Some now ≡ Some literal.value)
    split true e =
        let same : now ≡ literal.value = (bytes_eq-Decides now literal.value).0 e in (
          λ _. ap Some same,
          λ _. opened_object (literal_policy literal.hash literal.bank literal.pcr now) handle s object key found secret
              (ap (literal_policy literal.hash literal.bank literal.pcr) same ∙ sym policy),
        )
    split false e = (
      λ h. absurd (cc h),
      λ h. let same : now ≡ literal.value = cc in absurd (cc (sym e ∙ same_bytes now literal.value same)),
    )

-- where a session can start, the end is that by the value
literal_is : (literal : Literal) (handle : ℕ) (s : Parts) → length s.sessions < 64 → s.next_session < 0x01000000
    → literal_ending literal handle s ≡ value_ending (present_value literal s) literal handle s
literal_is literal handle s slot number = rw (lt-leb 64 (length s.sessions) slot, lt-leb 0x01000000 s.next_session number) refl

ending_is : (m : Live) (w : World) (state path policy : List ℕ) (handle : ℕ) (literal : Literal) (key : List ℕ) → IsSafe m w state path policy → IsEnrolled m w path handle literal key
    → (unseal_line state path policy (machine m)).ending ≡ value_ending (present_value literal m.state) literal handle m.state
ending_is m w state path policy handle literal key good h =
    ap (λ c. (content_line state path policy c (machine m)).ending) h.written
    ∙ ap (λ r. (token_line state path policy r (machine m)).ending) (token_again (token.Literal handle literal) h.valid)
    ∙ literal_is literal handle m.state h.slot h.number

-- the line prints the key exactly where the PCR holds the literal's value
pub opens : (m : Live) (w : World) (state path policy : List ℕ) (handle : ℕ) (literal : Literal) (key : List ℕ) → IsSafe m w state path policy → IsEnrolled m w path handle literal key
    → OpensExactly (unseal_line state path policy (machine m)).ending key literal m
opens m w state path policy handle literal key good h =
    let held = good.tied.objects handle _ h.object in
    subst (λ x. (x ≡ Fine (key_text key)) ↔ (present_value literal m.state ≡ Some literal.value)) (sym (ending_is m w state path policy handle literal key good h))
    (by_value (present_value literal m.state) literal handle m.state held.object key held.found held.secret held.policy)

-- so does the command, which gives the line
pub given : (result : Result Reply Stop) (held : Option FileMap) (stored : Option Stored) (words : Option (List (List ℕ))) (m : Live) (w : World) (state path policy : List ℕ) (handle : ℕ) (literal : Literal) (key : List ℕ)
    → IsSafe m w state path policy → IsEnrolled m w path handle literal key
    → (NoClash (Contains (unseal_line state path policy (machine m)).hashed) → IfOk result (λ reply. Gives held stored words reply (unseal_line state path policy (machine m))))
    → IfOk result (λ reply. OpensExactly (ending_of reply) key literal m)
given (Ok reply) held stored words m w state path policy handle literal key good h told =
    let gives = told (safe_right w.hashed (unseal_line state path policy (machine m)).hashed good.safe) in
    subst (λ x. OpensExactly x key literal m) (sym gives.ending) (opens m w state path policy handle literal key good h)
given (Err stop) held stored words m w state path policy handle literal key good h told = tt
