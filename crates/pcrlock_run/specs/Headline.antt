-- The headline: `unseal` prints the key of an object of the world exactly where the PCR holds the value that it was
-- sealed to, or, where it is bound to an index, exactly where the newest table of the index is open.
use Rattle.std.specs.Prelude.{◌≡◌, ◌≢◌, ◌↔◌, ℕ, List, ◌++◌, Option, None, Some}
use Rattle.policy_file.specs.declared.token.Literal.{Literal}
use Rattle.tpm_model.specs.World.{World}
use Rattle.pcrlock_answer.specs.Texts.{key_text}
use Rattle.pcrlock_words.specs.declared.request.Request.{Request}
use Rattle.pcrlock_words.specs.declared.request.Request.TheVariants as requests
use Rattle.pcrlock_line.specs.Machine.{Machine, Live, machine}
use Rattle.pcrlock_open.specs.Headline.{IsEnrolled, OpensExactly}
use Rattle.pcrlock_open.specs.Unseal.{present_value}
use Rattle.tpm_model.specs.Opening.{UnlocksIndex}
use Rattle.pcrlock_deeds.specs.Filed.{Current}
use Rattle.pcrlock_headline.specs.Enrolled.{IsEnrolledTo}
use Rattle.pcrlock_headline.specs.Exact.{OpensBound}
use Rattle.pcrlock_run.specs.Setting.{Setting}
use Rattle.pcrlock_run.specs.Script.{unseal_outcome}

-- where the token and the policy file of an `unseal` stand
pub record TokenPaths : Type 0 where
  pub token : List ℕ
  pub policy : List ℕ

-- for each object of the world that is sealed to a value, whose token stands at its path, while a session can be started
abbrev pub TokenOpensExactly : List ℕ → TokenPaths → Machine → World → Type 0
TokenOpensExactly state paths m w =
    (live : Live) (handle : ℕ) (literal : Literal) (key : List ℕ) → m ≡ machine live → IsEnrolled live w paths.token handle literal key
    → OpensExactly (unseal_outcome state paths.token paths.policy m).ending key literal live

-- for each object of the world that is bound to the policy's index, whose token stands at its path, while the index
-- remains and a session can be started, and the policy file has the newest table
abbrev pub TokenOpensBound : List ℕ → TokenPaths → Machine → World → Type 0
TokenOpensBound state paths m w =
    (live : Live) (handle index : ℕ) (pin key : List ℕ) → m ≡ machine live → Current w → IsEnrolledTo live w paths.token handle index pin key
    → OpensBound (unseal_outcome state paths.token paths.policy m).ending key index pin w

-- the token that a request opens
abbrev pub token_in : Request → Option TokenPaths
token_in (requests.Unseal token policy) = Some (record { token = token; policy = policy })
token_in _ = None

-- where a token is opened
abbrev pub TokenIsExact : List ℕ → Option TokenPaths → Machine → World → Type 0
TokenIsExact state None m w = Unit {0}
TokenIsExact state (Some paths) m w = TokenOpensExactly state paths m w × TokenOpensBound state paths m w

-- a request that opens a token opens it exactly
abbrev pub UnsealIsExact : Setting → Request → Machine → World → Type 0
UnsealIsExact setting request m w = TokenIsExact setting.state (token_in request) m w

-- status 0 exactly where this holds; the key's line is printed then, and else nothing
pub record PrintsWhere (Holds : Type 0) (status : ℕ) (out_before out_now : Option (List ℕ)) (key : List ℕ) : Type 0 where
  pub opens : (status ≡ 0) ↔ Holds
  pub prints : status ≡ 0 → (before : List ℕ) → out_before ≡ Some before → out_now ≡ Some (before ++ key_text key)
  pub silent : status ≢ 0 → (before : List ℕ) → out_before ≡ Some before → out_now ≡ Some before

-- status 0 exactly where the PCR holds the literal's value
abbrev pub PrintsExactly : ℕ → Option (List ℕ) → Option (List ℕ) → List ℕ → Literal → Live → Type 0
PrintsExactly status out_before out_now key literal m = PrintsWhere (present_value literal m.state ≡ Some literal.value) status out_before out_now key

-- the token that is opened by words that spell an `unseal`, outside a script
abbrev pub token_spelled : Option Request → Option TokenPaths
token_spelled None = None
token_spelled (Some request) = token_in request

-- for a call that opens this token, or none: for each object of the world whose token stands at its path,
-- while a session can be started
abbrev pub CallIsExact : Option TokenPaths → Machine → World → ℕ → Option (List ℕ) → Option (List ℕ) → Type 0
CallIsExact None m w status out_before out_now = Unit {0}
CallIsExact (Some paths) m w status out_before out_now =
    (live : Live) (handle : ℕ) (literal : Literal) (key : List ℕ) → m ≡ machine live → IsEnrolled live w paths.token handle literal key
    → PrintsExactly status out_before out_now key literal live

-- and for each object of the world that is bound to the policy's index: status 0 exactly where the newest table is open
abbrev pub CallOpensBound : Option TokenPaths → Machine → World → ℕ → Option (List ℕ) → Option (List ℕ) → Type 0
CallOpensBound None m w status out_before out_now = Unit {0}
CallOpensBound (Some paths) m w status out_before out_now =
    (live : Live) (handle index : ℕ) (pin key : List ℕ) → m ≡ machine live → Current w → IsEnrolledTo live w paths.token handle index pin key
    → PrintsWhere (UnlocksIndex w index pin) status out_before out_now key
