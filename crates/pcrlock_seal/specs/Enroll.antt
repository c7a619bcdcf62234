-- What `enroll` does: it seals a key to the present value of a PCR, or to the index of the policy in force, and writes
-- the token.
use Rattle.std.specs.Prelude.{ℕ, ◌&&◌, nat_le, if◌then◌else◌, List, [], ◌∷◌, codes, Option, None, Some, Result, Ok, Err}
use Rattle.std.specs.FinMap.{insert}
use Rattle.hash_bank.specs.declared.bank.Bank.{Bank}
use Rattle.hash_bank.specs.declared.bank.Bank.TheVariants.{Sha1, Sha256, Sha384, Sha512}
use Rattle.policy_file.specs.declared.policy.Policy.{Policy}
use Rattle.policy_file.specs.declared.token.Literal.{Literal}
use Rattle.policy_file.specs.TokenText.{token_text}
use Rattle.tpm_model.specs.declared.response.Response.{Response}
use Rattle.tpm_model.specs.declared.response.Response.TheVariants as answer
use Rattle.tpm_model.specs.declared.response.Refusal.{Refusal}
use Rattle.tpm_model.specs.declared.response.Refusal.TheVariants as refusal
use Rattle.tpm_model.specs.declared.parts.Parts.{Parts}
use Rattle.tpm_model.specs.Pcrs.{pcr_of}
use Rattle.tpm_model.specs.ObjectCommands.{seal}
use Rattle.pcrlock_answer.specs.declared.answer.Answer.{Answer}
use Rattle.pcrlock_answer.specs.declared.answer.Answer.TheVariants as said
use Rattle.pcrlock_answer.specs.Texts.{enrolled_text}
use Rattle.pcrlock_line.specs.Machine.{Machine, Live, machine}
use Rattle.pcrlock_line.specs.declared.stop.Stop.TheVariants as stop
use Rattle.pcrlock_line.specs.Outcome.{Outcome, Fine, Refused, Stops, refused_line}
use Rattle.pcrlock_line.specs.Begun.{by_device}
use Rattle.pcrlock_deeds.specs.PolicyAt.{policy_needed}
use Rattle.pcrlock_seal.specs.declared.condition.Condition.{Condition}
use Rattle.pcrlock_seal.specs.declared.condition.Condition.TheVariants as conditions
use Rattle.pcrlock_seal.specs.Condition.{condition_policy, condition_strings, condition_token, index_condition}

-- a literal's hash: SHA-384 for the two longest banks, else SHA-256
abbrev pub literal_hash : Bank → Bank
literal_hash Sha1 = Sha256
literal_hash Sha256 = Sha256
literal_hash Sha384 = Sha384
literal_hash Sha512 = Sha384

-- the handle of a sealed object
abbrev pub sealed_handle : Response → Option ℕ
sealed_handle (answer.Object handle) =
    if nat_le 0x81000000 handle && nat_le handle 0x817FFFFF then Some handle else None
sealed_handle _ = None

-- why nothing was sealed: the table of objects is full, or their numbers have ended
abbrev pub refusal_of : Refusal → Answer
refusal_of refusal.HandlesEnd = said.Limit (codes "handles") 0x00800000
refusal_of _ = said.Limit (codes "objects") 65

abbrev pub seal_refusal : Response → Answer
seal_refusal (answer.Refused why) = refusal_of why
seal_refusal _ = said.Limit (codes "objects") 65

-- the machine with another state, and with the token of the object at the path besides
abbrev pub sealed_machine : Parts → Live → Machine
sealed_machine s m = machine (record m { state = s })

abbrev pub token_machine : List ℕ → Condition → ℕ → Parts → Live → Machine
token_machine path condition handle s m = machine (record m { files = insert m.files path (token_text (condition_token condition handle)); state = s })

-- the object was sealed: its token is written, and its handle printed
abbrev pub token_written : List ℕ → Condition → Option ℕ → Response → Parts → Live → Outcome
token_written path condition (Some handle) response s m = record {
  ending = Fine (enrolled_text handle);
  after = token_machine path condition handle s m;
  hashed = condition_strings condition;
  stops = machine m ∷ sealed_machine s m ∷ token_machine path condition handle s m ∷ [];
}
token_written path condition None response s m = record {
  ending = Refused (seal_refusal response);
  after = sealed_machine s m;
  hashed = condition_strings condition;
  stops = machine m ∷ sealed_machine s m ∷ [];
}

-- the key is sealed to the policy of the condition
abbrev pub key_sealed : List ℕ → Condition → List ℕ → Live → Outcome
key_sealed path condition key m =
    let r = seal (condition_policy condition) key m.state in
    token_written path condition (sealed_handle r.0) r.0 r.1 m

-- the key is the one given, or the next random word; where none is left, the command stops
abbrev pub with_key : List ℕ → Condition → Option (List ℕ) → List (List ℕ) → Live → Outcome
with_key path condition (Some key) draws m = key_sealed path condition key m
with_key path condition None (word ∷ rest) m = key_sealed path condition word (record m { draws = rest })
with_key path condition None [] m = record {
  ending = Stops stop.EntropyFault;
  after = machine m;
  hashed = condition_strings condition;
  stops = machine m ∷ [];
}

-- the literal that the present value of a PCR makes
abbrev pub literal_now : Bank → ℕ → List ℕ → Literal
literal_now bank pcr value = record { hash = literal_hash bank; bank = bank; pcr = pcr; value = value }

-- the PCR's value, or that its bank isn't present
abbrev pub with_value : List ℕ → ℕ → Bank → Option (List ℕ) → Option (List ℕ) → Live → Outcome
with_value path pcr bank key None m = refused_line (said.BankAbsent bank) (machine m)
with_value path pcr bank key (Some value) m = with_key path (conditions.Value (literal_now bank pcr value)) key m.draws m

-- `enroll` with a literal, on a state
abbrev pub enrolled_line : List ℕ → ℕ → Bank → Option (List ℕ) → Live → Outcome
enrolled_line path pcr bank key m = with_value path pcr bank key (pcr_of m.state.banks m.state.pcrs bank pcr) m

-- `enroll` with a literal, over what is stored in the state file
abbrev pub enroll_line : List ℕ → List ℕ → ℕ → Bank → Option (List ℕ) → Machine → Outcome
enroll_line state path pcr bank key m = by_device m.device state m (enrolled_line path pcr bank key)

-- `enroll` to the index of a policy, on a state
abbrev pub bound_line : List ℕ → Policy → Option (List ℕ) → Live → Outcome
bound_line path policy key m = with_key path (index_condition policy) key m.draws m

-- by the policy file; no look is taken at the index
abbrev pub under_policy : List ℕ → List ℕ → Option (List ℕ) → Result Policy Answer → Machine → Outcome
under_policy state path key (Ok policy) m = by_device m.device state m (bound_line path policy key)
under_policy state path key (Err answer) m = refused_line answer m

-- `enroll` without a literal, where the policy file stands at its own path
abbrev pub enroll_bound_line : List ℕ → List ℕ → List ℕ → Option (List ℕ) → Machine → Outcome
enroll_bound_line state path policy key m = under_policy state path key (policy_needed m.files policy) m
