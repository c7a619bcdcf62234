-- A call of `unseal` prints the key exactly where the PCR holds the literal's value, or where the newest table is open.
use Rattle.std.proofs.Common.{◌≡◌, ◌≢◌, ℕ, ◌<◌, Bool, true, false, cond, List, [], ◌∷◌, ◌++◌, length, refl, sym, ap, subst, ◌∙◌, arith}
use Rattle.std.specs.Prelude.{◌↔◌, Option, None, Some}
use Rattle.std.specs.Str.{bytes_eq}
use Rattle.std.proofs.lemmas.Bool.{lt-leb}
use Rattle.std.proofs.lemmas.List.{append-nil}
use Rattle.policy_file.specs.declared.token.Literal.{Literal}
use Rattle.policy_file.specs.declared.token.Token.TheVariants as token
use Rattle.policy_file.proofs.Tokens.{token_again}
use Rattle.tpm_model.specs.declared.object.Object.{Object}
use Rattle.tpm_model.specs.declared.parts.Parts.{Parts}
use Rattle.tpm_model.specs.Binding.{literal_policy}
use Rattle.tpm_model.specs.Sessions.{object_at}
use Rattle.tpm_model.specs.World.{World, hashed_world}
use Rattle.tpm_model.specs.Opening.{UnlocksIndex}
use Rattle.pcrlock_answer.specs.declared.answer.Answer.{Answer}
use Rattle.pcrlock_answer.specs.declared.answer.Answer.TheVariants as said
use Rattle.pcrlock_words.specs.declared.request.Request.{Request}
use Rattle.pcrlock_words.specs.declared.request.Request.TheVariants as requests
use Rattle.pcrlock_words.specs.Requests.{request_of}
use Rattle.pcrlock_answer.specs.Texts.{key_text}
use Rattle.pcrlock_line.specs.Machine.{Machine, Live, machine}
use Rattle.pcrlock_line.specs.declared.stop.Stop.{Stop}
use Rattle.pcrlock_line.specs.declared.stop.Stop.TheVariants as stops
use Rattle.pcrlock_line.specs.Outcome.{Ending, Fine, Refused, Stops}
use Rattle.pcrlock_line.specs.Worlds.{IsTied, IsTiedTo}
use Rattle.pcrlock_open.specs.Unseal.{unseal_line, content_line, token_line, literal_ending, value_ending, object_ending, present_value}
use Rattle.pcrlock_open.specs.Headline.{IsEnrolled}
use Rattle.pcrlock_run.specs.Setting.{Setting, outside}
use Rattle.pcrlock_run.specs.Script.{unseal_outcome, command_line}
use Rattle.pcrlock_run.specs.Status.{out_of, refusal_status, status_of, stop_number}
use Rattle.pcrlock_run.specs.Under.{IsOwnKeptAt, IsUnder, SpelledUnder}
use Rattle.pcrlock_run.specs.Whole.{run_spelled, run_line}
use Rattle.pcrlock_run.specs.Leaves.{Safe}
use Rattle.pcrlock_run.specs.Worlds.{spelled_world, run_world}
use Rattle.pcrlock_run.specs.Headline.{CallIsExact, CallOpensBound, PrintsWhere, TokenOpensExactly, TokenPaths, token_spelled}
use Rattle.pcrlock_run.proofs.Bound.{token_bound, token_key}
use Rattle.pcrlock_run.proofs.Exact.{token_exact, unseal_safe}

-- nothing is printed where the status isn't 0
unprinted : (e : Ending) → status_of e ≢ 0 → out_of e ≡ []
unprinted (Fine text) other = absurd (other refl)
unprinted (Refused answer) other = refl
unprinted (Stops stop) other = refl

-- with status 0 an object that is there gives its bytes
object_printed : (b : Bool) (key secret policy other : List ℕ) → secret ≡ key
    → status_of (cond b (Fine (key_text secret)) (Refused (said.WrongBinding policy other))) ≡ 0 → cond b (Fine (key_text secret)) (Refused (said.WrongBinding policy other)) ≡ Fine (key_text key)
object_printed true key secret policy other is zero = ap (λ k. Fine (key_text k)) is
object_printed false key secret policy other is zero = absurd (omega (arith, zero))

value_printed : (o : Option (List ℕ)) (literal : Literal) (handle : ℕ) (s : Parts) (object : Object) (key : List ℕ) → object_at handle s.objects ≡ Some object → object.secret ≡ key
    → status_of (value_ending o literal handle s) ≡ 0 → value_ending o literal handle s ≡ Fine (key_text key)
value_printed None literal handle s object key found secret = λ zero. absurd (omega (arith, zero))
value_printed (Some now) literal handle s object key found secret = by (bytes_eq now literal.value)
  where
    policy : List ℕ
    policy = literal_policy literal.hash literal.bank literal.pcr now

    by : (b : Bool) → status_of (cond b (object_ending policy handle (object_at handle s.objects)) (Refused (said.NotLiteral literal.pcr now literal.value))) ≡ 0
        → cond b (object_ending policy handle (object_at handle s.objects)) (Refused (said.NotLiteral literal.pcr now literal.value)) ≡ Fine (key_text key)
    by true = subst (λ (x : Option Object). status_of (object_ending policy handle x) ≡ 0 → object_ending policy handle x ≡ Fine (key_text key)) (sym found)
        (object_printed (bytes_eq policy object.policy) key object.secret policy object.policy secret)
    by false = λ zero. absurd (omega (arith, zero))

-- while a session can be started, the end is that by the value
by_value : (literal : Literal) (handle : ℕ) (s : Parts) → length s.sessions < 64 → s.next_session < 0x01000000
    → literal_ending literal handle s ≡ value_ending (present_value literal s) literal handle s
by_value literal handle s slot number = rw (lt-leb 64 (length s.sessions) slot, lt-leb 0x01000000 s.next_session number) refl

ends_by_value : (live : Live) (w : World) (state path policy : List ℕ) (handle : ℕ) (literal : Literal) (key : List ℕ) → IsEnrolled live w path handle literal key
    → (unseal_line state path policy (machine live)).ending ≡ value_ending (present_value literal live.state) literal handle live.state
ends_by_value live w state path policy handle literal key h =
    ap (λ c. (content_line state path policy c (machine live)).ending) h.written
    ∙ ap (λ r. (token_line state path policy r (machine live)).ending) (token_again (token.Literal handle literal) h.valid)
    ∙ by_value literal handle live.state h.slot h.number

-- so with status 0 an `unseal` has printed the object's key
unseal_printed : (live : Live) (w : World) (state path policy : List ℕ) (handle : ℕ) (literal : Literal) (key : List ℕ) → IsTiedTo live.state w → IsEnrolled live w path handle literal key
    → status_of (unseal_line state path policy (machine live)).ending ≡ 0 → (unseal_line state path policy (machine live)).ending ≡ Fine (key_text key)
unseal_printed live w state path policy handle literal key t h =
    let held = t.tied.objects handle _ h.object in
    subst (λ (e : Ending). status_of e ≡ 0 → e ≡ Fine (key_text key)) (sym (ends_by_value live w state path policy handle literal key h))
    (value_printed (present_value literal live.state) literal handle live.state held.object key held.found held.secret)

-- an end that is the key's line exactly where something holds, and no other line, is printed so
printed : (Holds : Type 0) (number : ℕ) (u v : Option (List ℕ)) (e : Ending) (key : List ℕ) → number ≡ status_of e
    → ((before : List ℕ) → u ≡ Some before → v ≡ Some (before ++ out_of e)) → (e ≡ Fine (key_text key)) ↔ Holds → (status_of e ≡ 0 → e ≡ Fine (key_text key))
    → PrintsWhere Holds number u v key
printed Holds number u v e key status out opens is_key = record {
  opens = (λ zero. opens.0 (is_key (sym status ∙ zero)), λ holds. status ∙ ap status_of (opens.1 holds));
  prints = λ zero before is. out before is ∙ ap (λ (x : Ending). Some (before ++ out_of x)) (is_key (sym status ∙ zero));
  silent = λ other before is. out before is ∙ ap (λ (t : List ℕ). Some (before ++ t)) (unprinted e (λ zero. other (status ∙ zero))) ∙ ap Some (append-nil before);
}

-- no refusal has status 0
refused : (answer : Answer) → refusal_status answer ≡ 0 → ⊥
refused (said.NotForeseen pcrs now) zero = omega (arith, zero)
refused (said.NotLiteral pcr now sealed) zero = omega (arith, zero)
refused (said.NotProved line) zero = omega (arith, zero)
refused said.BadWords zero = omega (arith, zero)
refused (said.Malformed path place) zero = omega (arith, zero)
refused (said.NoSuchFile path) zero = omega (arith, zero)
refused (said.Limit kind number) zero = omega (arith, zero)
refused (said.CounterEnd writes) zero = omega (arith, zero)
refused other zero = omega (arith, zero)

stopped : (stop : Stop) → stop_number stop ≡ 0 → ⊥
stopped stops.Memory zero = omega (arith, zero)
stopped other zero = omega (arith, zero)

-- so with status 0 a text was printed
fine_printed : (e last : Ending) → ((text : List ℕ) → e ≡ Fine text → e ≡ last) → status_of e ≡ 0 → e ≡ last
fine_printed (Fine text) last is zero = is text refl
fine_printed (Refused answer) last is zero = absurd (refused answer zero)
fine_printed (Stops stop) last is zero = absurd (stopped stop zero)

-- a call of `unseal`
unseal_call : (state : List ℕ) (paths : TokenPaths) (m : Machine) (w : World) (number : ℕ) (u v : Option (List ℕ)) → IsTied m.device w
    → Safe (hashed_world (unseal_outcome state paths.token paths.policy m).hashed w).hashed
    → number ≡ status_of (unseal_outcome state paths.token paths.policy m).ending → ((before : List ℕ) → u ≡ Some before → v ≡ Some (before ++ out_of (unseal_outcome state paths.token paths.policy m).ending))
    → CallIsExact (Some paths) m w number u v
unfolding unseal_outcome
unseal_call state paths m w number u v t safe status out = λ live handle literal key is enrolled.
    let tied : IsTiedTo live.state w = subst (λ (x : Machine). IsTied x.device w) is t in
    let exact : TokenOpensExactly state paths m w = token_exact state paths m w t safe in
    printed (present_value literal live.state ≡ Some literal.value) number u v (unseal_line state paths.token paths.policy m).ending key status out (exact live handle literal key is enrolled)
    (subst (λ (x : Machine). status_of (unseal_line state paths.token paths.policy x).ending ≡ 0 → (unseal_line state paths.token paths.policy x).ending ≡ Fine (key_text key)) (sym is)
    (unseal_printed live w state paths.token paths.policy handle literal key tied enrolled))

-- a call of `unseal` for an object that is bound to an index
bound_call : (path state : List ℕ) (paths : TokenPaths) (m : Machine) (w : World) (number : ℕ) (u v : Option (List ℕ)) → paths.policy ≡ path → IsOwnKeptAt path m w
    → Safe (hashed_world (unseal_outcome state paths.token paths.policy m).hashed w).hashed
    → number ≡ status_of (unseal_outcome state paths.token paths.policy m).ending → ((before : List ℕ) → u ≡ Some before → v ≡ Some (before ++ out_of (unseal_outcome state paths.token paths.policy m).ending))
    → CallOpensBound (Some paths) m w number u v
bound_call path state paths m w number u v names kept safe status out = λ live handle index pin key is current enrolled.
    printed (UnlocksIndex w index pin) number u v (unseal_outcome state paths.token paths.policy m).ending key status out
    (token_bound path state paths m w names kept safe live handle index pin key is current enrolled).policy
    (fine_printed (unseal_outcome state paths.token paths.policy m).ending (Fine (key_text key))
    (λ text. token_key path state paths m w names kept safe live handle index pin key text is current enrolled))

-- words that spell a request, or none
spelled_call : (setting : Setting) (o : Option Request) (m : Machine) (w : World) (number : ℕ) (u v : Option (List ℕ)) → IsTied m.device w → Safe (spelled_world setting o m w).hashed
    → number ≡ (run_spelled setting o m).status → ((before : List ℕ) → u ≡ Some before → v ≡ Some (before ++ (run_spelled setting o m).out))
    → CallIsExact (token_spelled o) m w number u v
unfolding command_line
spelled_call setting None m w number u v t safe status out = tt
spelled_call setting (Some (requests.Unseal path policy)) m w number u v t safe status out =
    unseal_call setting.state (record { token = path; policy = policy }) m w number u v t (unseal_safe setting path policy m w safe) status out
spelled_call setting (Some other) m w number u v t safe status out = tt

-- the whole call
pub run_call : (words : List (List ℕ)) (m : Machine) (w : World) (number : ℕ) (u v : Option (List ℕ)) → IsTied m.device w → Safe (run_world words m w).hashed
    → number ≡ (run_line words m).status → ((before : List ℕ) → u ≡ Some before → v ≡ Some (before ++ (run_line words m).out))
    → CallIsExact (token_spelled (request_of words None)) m w number u v
unfolding run_line run_world request_of
run_call [] m w number u v t safe status out = tt
run_call (state ∷ words) m w number u v t safe status out = spelled_call (outside state) (request_of (state ∷ words) None) m w number u v t safe status out

-- likewise for an object that is bound to an index
spelled_bound : (path : List ℕ) (setting : Setting) (o : Option Request) (m : Machine) (w : World) (number : ℕ) (u v : Option (List ℕ)) → SpelledUnder path o → IsOwnKeptAt path m w
    → Safe (spelled_world setting o m w).hashed → number ≡ (run_spelled setting o m).status → ((before : List ℕ) → u ≡ Some before → v ≡ Some (before ++ (run_spelled setting o m).out))
    → CallOpensBound (token_spelled o) m w number u v
unfolding command_line
spelled_bound path setting None m w number u v under kept safe status out = tt
spelled_bound path setting (Some (requests.Unseal token policy)) m w number u v under kept safe status out =
    bound_call path setting.state (record { token = token; policy = policy }) m w number u v under.names kept (unseal_safe setting token policy m w safe) status out
spelled_bound path setting (Some other) m w number u v under kept safe status out = tt

pub run_bound : (path : List ℕ) (words : List (List ℕ)) (m : Machine) (w : World) (number : ℕ) (u v : Option (List ℕ)) → IsUnder words path → IsOwnKeptAt path m w
    → Safe (run_world words m w).hashed → number ≡ (run_line words m).status → ((before : List ℕ) → u ≡ Some before → v ≡ Some (before ++ (run_line words m).out))
    → CallOpensBound (token_spelled (request_of words None)) m w number u v
unfolding run_line run_world request_of IsUnder
run_bound path [] m w number u v under kept safe status out = tt
run_bound path (state ∷ words) m w number u v under kept safe status out =
    spelled_bound path (outside state) (request_of (state ∷ words) None) m w number u v under kept safe status out
