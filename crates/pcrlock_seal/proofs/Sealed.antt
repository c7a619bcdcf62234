-- What a sealed key comes to, told by the answer of the TPM and by the word that was drawn.
use Rattle.std.proofs.Common.{◌≡◌, ℕ, List, ◌∷◌, sym, subst}
use Rattle.std.specs.Prelude.{Option, None, Some, Result, IfOk}
use Rattle.pl_base.specs.FileMap.{FileMap}
use Rattle.tpm_model.specs.declared.response.Response.{Response}
use Rattle.tpm_model.specs.ObjectCommands.{seal}
use Rattle.tpm_device.specs.Stored.{Stored}
use Rattle.pcrlock_line.specs.declared.reply.Reply.{Reply}
use Rattle.pcrlock_line.specs.declared.stop.Stop.{Stop}
use Rattle.pcrlock_line.specs.Machine.{Live}
use Rattle.pcrlock_line.specs.Outcome.{Gives}
use Rattle.pcrlock_seal.specs.declared.condition.Condition.{Condition}
use Rattle.pcrlock_seal.specs.Condition.{condition_policy}
use Rattle.pcrlock_seal.specs.Enroll.{sealed_handle, token_written, key_sealed, with_key}

-- the TPM's answer is that of the definition
pub sealed_told : (result : Result Reply Stop) (held : Option FileMap) (stored : Option Stored) (draws : Option (List (List ℕ))) (path : List ℕ) (condition : Condition) (key policy : List ℕ) (m : Live) (response : Response)
    → policy ≡ condition_policy condition
    → response ≡ (seal policy key m.state).0
    → IfOk result (λ reply. Gives held stored draws reply (token_written path condition (sealed_handle response) response (seal policy key m.state).1 m))
    → IfOk result (λ reply. Gives held stored draws reply (key_sealed path condition key m))
sealed_told result held stored draws path condition key policy m response e r h =
    let P : Response → Type 0 = λ x. IfOk result (λ reply. Gives held stored draws reply (token_written path condition (sealed_handle x) x (seal policy key m.state).1 m)) in
    let Q : List ℕ → Type 0 = λ p. IfOk result (λ reply. Gives held stored draws reply (token_written path condition (sealed_handle (seal p key m.state).0) (seal p key m.state).0 (seal p key m.state).1 m)) in
    subst Q e (subst P r h)

-- the drawn word is the key, and the rest is to come
pub drawn_told : (result : Result Reply Stop) (held : Option FileMap) (stored : Option Stored) (now : Option (List (List ℕ))) (path : List ℕ) (condition : Condition) (key word : List ℕ) (draws rest : List (List ℕ)) (m : Live)
    → draws ≡ word ∷ rest → key ≡ word
    → IfOk result (λ reply. Gives held stored now reply (key_sealed path condition key (record m { draws = rest })))
    → IfOk result (λ reply. Gives held stored now reply (with_key path condition None draws m))
drawn_told result held stored now path condition key word draws rest m e k h =
    let P : List ℕ → Type 0 = λ x. IfOk result (λ reply. Gives held stored now reply (key_sealed path condition x (record m { draws = rest }))) in
    let Q : List (List ℕ) → Type 0 = λ ds. IfOk result (λ reply. Gives held stored now reply (with_key path condition None ds m)) in
    subst Q (sym e) (subst P k h)
