-- The client's result of an unseal, as an answer of the program.
use Rattle.std.specs.Prelude.{◌≡◌, ℕ, List, codes, Option, None, Some, Result, Ok, Err}
use Rattle.policy_file.specs.declared.token.Literal.{Literal}
use Rattle.policy_session.specs.declared.error.UnsealError.{UnsealError}
use Rattle.policy_session.specs.declared.error.UnsealError.TheVariants as error
use Rattle.policy_session.specs.BoundUnseal.{IsNeverLiteral}
use Rattle.pcrlock_answer.specs.declared.answer.Answer.{Answer}
use Rattle.pcrlock_answer.specs.declared.answer.Answer.TheVariants as said

-- a PCR that doesn't hold the value of a key that is sealed to one value alone; other keys have no such value
abbrev pub literal_answer : Option Literal → List ℕ → Answer
literal_answer None now = said.TpmFault
literal_answer (Some literal) now = said.NotLiteral literal.pcr now literal.value

-- the answer by why nothing was opened; a fault and want of memory are no answers
abbrev pub error_answer : Option Literal → UnsealError → Answer
error_answer literal error.SessionsFull = said.SessionsFull
error_answer literal error.HandlesEnd = said.Limit (codes "handles") 0x01000000
error_answer literal (error.BankAbsent bank) = said.BankAbsent bank
error_answer literal (error.NotForeseen pcrs now) = said.NotForeseen pcrs now
error_answer literal (error.NotLiteral now) = literal_answer literal now
error_answer literal (error.NoObject object) = said.NoObject object
error_answer literal (error.WrongBinding session object) = said.WrongBinding session object
error_answer literal error.Failed = said.TpmFault
error_answer literal error.Memory = said.Memory

-- the secret, or the answer
abbrev pub result_answer : Option Literal → Result (List ℕ) UnsealError → Result (List ℕ) Answer
result_answer literal (Ok secret) = Ok secret
result_answer literal (Err why) = Err (error_answer literal why)

-- a refusal that shows the value of a literal comes with a literal alone
abbrev pub IsFor : Option Literal → UnsealError → Type 0
IsFor None why = IsNeverLiteral why
IsFor (Some literal) why = Unit {0}

abbrev pub IsResultFor : Option Literal → Result (List ℕ) UnsealError → Type 0
IsResultFor literal result = (why : UnsealError) → result ≡ Err why → IsFor literal why
