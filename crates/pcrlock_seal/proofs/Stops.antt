-- What stands after a stop of `enroll`.
use Rattle.std.proofs.Common.{◌≡◌, ◌⊎◌, ℕ, ◌≤◌, List, [], ◌∷◌, length, inl, inr, sym, subst}
use Rattle.std.specs.Prelude.{Option, None, Some, Result, IfErr}
use Rattle.std.specs.FinMap.{insert}
use Rattle.pl_base.specs.FileMap.{FileMap}
use Rattle.hash_bank.specs.declared.bank.Bank.{Bank}
use Rattle.policy_file.specs.TokenText.{token_text}
use Rattle.tpm_model.specs.declared.response.Response.{Response}
use Rattle.tpm_model.specs.declared.parts.Parts.{Parts}
use Rattle.tpm_model.specs.ObjectCommands.{seal}
use Rattle.tpm_model.specs.Pcrs.{pcr_of}
use Rattle.tpm_device.specs.Stored.{Stored, Holds}
use Rattle.pcrlock_line.specs.declared.reply.Reply.{Reply}
use Rattle.pcrlock_line.specs.declared.stop.Stop.{Stop}
use Rattle.pcrlock_line.specs.Machine.{Live, Tells, machine}
use Rattle.pcrlock_line.specs.Stopped.{StandsAt, StandsAmong}
use Rattle.pcrlock_line.proofs.Standing.{holds_same}
use Rattle.pcrlock_seal.specs.declared.condition.Condition.{Condition}
use Rattle.pcrlock_seal.specs.declared.condition.Condition.TheVariants as conditions
use Rattle.pcrlock_seal.specs.Condition.{condition_policy, condition_token}
use Rattle.pcrlock_seal.specs.Enroll.{sealed_handle, sealed_machine, token_written, key_sealed, with_key, with_value, literal_now, enrolled_line}

-- the machine itself stands first, and with a sealed object second
token_first : (held : Option FileMap) (stored : Option Stored) (path : List ℕ) (condition : Condition) (o : Option ℕ) (response : Response) (s : Parts) (m : Live)
    → StandsAt held stored (machine m) → StandsAmong held stored (token_written path condition o response s m).stops
token_first held stored path condition (Some handle) response s m at = inl at
token_first held stored path condition None response s m at = inl at

token_second : (held : Option FileMap) (stored : Option Stored) (path : List ℕ) (condition : Condition) (o : Option ℕ) (response : Response) (s : Parts) (m : Live)
    → StandsAt held stored (sealed_machine s m) → StandsAmong held stored (token_written path condition o response s m).stops
token_second held stored path condition (Some handle) response s m at = inr (inl at)
token_second held stored path condition None response s m at = inr (inl at)

-- beside other random words
redrawn : (held : Option FileMap) (stored : Option Stored) (m : Live) (draws : List (List ℕ)) → StandsAt held stored (machine m) → StandsAt held stored (machine (record m { draws = draws }))
redrawn held stored m draws at = record { files = at.files; device = at.device; tells = at.tells; same = at.same }

-- a stop once the object is sealed: the token's file is the old or the new one
pub not_sealed : (held : Option FileMap) (stored : Option Stored) (path : List ℕ) (condition : Condition) (o : Option ℕ) (response : Response) (s : Parts) (m : Live)
    → held ≡ Some m.files → stored ≡ Some (Holds s)
    → StandsAmong held stored (token_written path condition o response s m).stops
not_sealed held stored path condition o response s m files kept =
    token_second held stored path condition o response s m (record { files = files; device = Holds s; tells = kept; same = holds_same s })

pub not_written : (held : Option FileMap) (stored : Option Stored) (path : List ℕ) (condition : Condition) (o : Option ℕ) (handle : ℕ) (response : Response) (s : Parts) (m : Live)
    → o ≡ Some handle → stored ≡ Some (Holds s)
    → (held ≡ Some m.files) ⊎ (held ≡ Some (insert m.files path (token_text (condition_token condition handle))))
    → StandsAmong held stored (token_written path condition o response s m).stops
not_written held stored path condition o handle response s m is kept (inl files) = not_sealed held stored path condition o response s m files kept
not_written held stored path condition o handle response s m is kept (inr files) =
    subst (λ (x : Option ℕ). StandsAmong held stored (token_written path condition x response s m).stops) (sym is)
    (inr (inr (inl (record { files = files; device = Holds s; tells = kept; same = holds_same s }))))

-- the TPM's answer is that of the definition
pub sealed_stops : (result : Result Reply Stop) (held : Option FileMap) (stored : Option Stored) (path : List ℕ) (condition : Condition) (key policy : List ℕ) (m : Live) (response : Response)
    → policy ≡ condition_policy condition
    → response ≡ (seal policy key m.state).0
    → IfErr result (λ _. StandsAmong held stored (token_written path condition (sealed_handle response) response (seal policy key m.state).1 m).stops)
    → IfErr result (λ _. StandsAmong held stored (key_sealed path condition key m).stops)
sealed_stops result held stored path condition key policy m response e r h =
    let P : Response → Type 0 = λ x. IfErr result (λ _. StandsAmong held stored (token_written path condition (sealed_handle x) x (seal policy key m.state).1 m).stops) in
    let Q : List ℕ → Type 0 = λ p. IfErr result (λ _. StandsAmong held stored (token_written path condition (sealed_handle (seal p key m.state).0) (seal p key m.state).0 (seal p key m.state).1 m).stops) in
    subst Q e (subst P r h)

-- a stop as the object is sealed
pub seal_stops : (held : Option FileMap) (stored : Option Stored) (path : List ℕ) (condition : Condition) (key policy : List ℕ) (m : Live)
    → policy ≡ condition_policy condition → held ≡ Some m.files
    → (stored ≡ Some (Holds m.state)) ⊎ (stored ≡ Some (Holds (seal policy key m.state).1))
    → StandsAmong held stored (key_sealed path condition key m).stops
seal_stops held stored path condition key policy m is files (inl same) =
    token_first held stored path condition _ _ _ m (record { files = files; device = Holds m.state; tells = same; same = holds_same m.state })
seal_stops held stored path condition key policy m is files (inr next) =
    let here : StandsAmong held stored (token_written path condition (sealed_handle (seal policy key m.state).0) (seal policy key m.state).0 (seal policy key m.state).1 m).stops =
    not_sealed held stored path condition (sealed_handle (seal policy key m.state).0) (seal policy key m.state).0 (seal policy key m.state).1 m files next in
    let Q : List ℕ → Type 0 = λ p. StandsAmong held stored (token_written path condition (sealed_handle (seal p key m.state).0) (seal p key m.state).0 (seal p key m.state).1 m).stops in
    subst Q is here

-- the drawn word is the key
pub drawn_stops : (result : Result Reply Stop) (held : Option FileMap) (stored : Option Stored) (path : List ℕ) (condition : Condition) (key word : List ℕ) (draws rest : List (List ℕ)) (m : Live)
    → draws ≡ word ∷ rest → key ≡ word
    → IfErr result (λ _. StandsAmong held stored (key_sealed path condition key (record m { draws = rest })).stops)
    → IfErr result (λ _. StandsAmong held stored (with_key path condition None draws m).stops)
drawn_stops result held stored path condition key word draws rest m e k h =
    let P : List ℕ → Type 0 = λ x. IfErr result (λ _. StandsAmong held stored (key_sealed path condition x (record m { draws = rest })).stops) in
    let Q : List (List ℕ) → Type 0 = λ ds. IfErr result (λ _. StandsAmong held stored (with_key path condition None ds m).stops) in
    subst Q (sym e) (subst P k h)

-- a stop before the object is sealed
pub key_first : (held : Option FileMap) (stored : Option Stored) (path : List ℕ) (condition : Condition) (key : Option (List ℕ)) (draws : List (List ℕ)) (m : Live)
    → StandsAt held stored (machine m) → StandsAmong held stored (with_key path condition key draws m).stops
key_first held stored path condition (Some key) draws m at = token_first held stored path condition _ _ _ m at
key_first held stored path condition None (word ∷ rest) m at = token_first held stored path condition _ _ _ (record m { draws = rest }) (redrawn held stored m rest at)
key_first held stored path condition None [] m at = inl at

value_first : (held : Option FileMap) (stored : Option Stored) (path : List ℕ) (pcr : ℕ) (bank : Bank) (key value : Option (List ℕ)) (m : Live)
    → StandsAt held stored (machine m) → StandsAmong held stored (with_value path pcr bank key value m).stops
value_first held stored path pcr bank key None m at = inl at
value_first held stored path pcr bank key (Some value) m at = key_first held stored path (conditions.Value (literal_now bank pcr value)) key m.draws m at

pub enrolled_first : (held : Option FileMap) (stored : Option Stored) (path : List ℕ) (pcr : ℕ) (bank : Bank) (key : Option (List ℕ)) (m : Live)
    → StandsAt held stored (machine m) → StandsAmong held stored (enrolled_line path pcr bank key m).stops
enrolled_first held stored path pcr bank key m at = value_first held stored path pcr bank key (pcr_of m.state.banks m.state.pcrs bank pcr) m at

-- the machine stands, told by its parts
pub at_state : (held : Option FileMap) (stored : Option Stored) (words : Option (List (List ℕ))) (m : Live) → Tells held stored words (machine m) → StandsAt held stored (machine m)
at_state held stored words m t = record { files = t.files; device = Holds m.state; tells = t.state; same = holds_same m.state }
