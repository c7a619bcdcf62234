-- What the check of a list says, as what is printed.
use Rattle.std.proofs.Common.{◌≡◌, ℕ, ◌+◌, ◌≤◌, List, ◌∷◌, length, refl, ap, arith, length-append}
use Rattle.std.specs.Prelude.{Option, None, Some, Ok, Err}
use Rattle.hash_bank.specs.declared.bank.Bank.{Bank}
use Rattle.component_tree.specs.PlainTree.{PlainComponent}
use Rattle.predictor.specs.declared.window.Window.{Window}
use Rattle.predict_proof.specs.declared.proof.Proof.{Proof}
use Rattle.predict_proof.specs.declared.error.CheckError.{CheckError}
use Rattle.predict_proof.specs.declared.error.CheckError.TheVariants as errors
use Rattle.predict_proof.specs.Fault.{unless}
use Rattle.predict_proof.specs.Proved.{FailsBy, FailsFirst, number_of}
use Rattle.pcrlock_answer.specs.declared.answer.Answer.TheVariants as said
use Rattle.pcrlock_answer.specs.Texts.{checked_text}
use Rattle.pcrlock_proofs.specs.CheckProof.{verdict_by}

number_is : (bank : Bank) (locality first : ℕ) (inside : List PlainComponent) (n : ℕ) (q : Proof) (error : CheckError) → FailsBy bank locality first inside n q error → number_of error ≡ n
number_is bank locality first inside n q (errors.Cut number) h = h.0
number_is bank locality first inside n q (errors.Choice number) h = h.0
number_is bank locality first inside n q (errors.NoDigest number) h = h.0
number_is bank locality first inside n q (errors.Differs number pcr reached) h = h.0

-- the member that isn't proved is one of the list
pub number_below : (bank : Bank) (locality : ℕ) (window : Window) (tree : List PlainComponent) (list : List Proof) (error : CheckError) → FailsFirst bank locality window tree list error → number_of error + 1 ≤ length list
number_below bank locality window tree list error h =
    let n = number_is bank locality _ _ (length h.before) h.member error h.fails in
    let whole = ap length h.list_is in
    omega (arith, n, whole, length-append h.before (h.member ∷ h.after))

-- nothing is wrong with the list
pub all_proved : (given : Option CheckError) (count : ℕ) → Ok tt ≡ unless given → verdict_by count given ≡ Ok (checked_text count)
all_proved None count is = refl
all_proved (Some error) count is = absurd (cc is)

-- this is wrong with it
pub one_not_proved : (given : Option CheckError) (count : ℕ) (error : CheckError) → Err error ≡ unless given → verdict_by count given ≡ Err (said.NotProved (number_of error + 1))
one_not_proved None count error is = absurd (cc is)
one_not_proved (Some other) count error is = let same : other ≡ error = cc in ap (λ (e : CheckError). Err (said.NotProved (number_of e + 1))) same
