-- `enroll` as an act.
use Rattle.std.specs.Prelude.{ℕ, Bool, true, false, List, Option, None, Some, Result, Ok, Err}
use Rattle.std.specs.Str.{bytes_eq}
use Rattle.hash_bank.specs.declared.bank.Bank.{Bank}
use Rattle.policy_file.specs.declared.token.Literal.{Literal}
use Rattle.policy_file.specs.declared.policy.Policy.{Policy}
use Rattle.policy_file.specs.TokenText.{token_text}
use Rattle.tpm_model.specs.declared.response.Response.{Response}
use Rattle.tpm_model.specs.declared.command.Command.TheVariants as command
use Rattle.tpm_model.specs.Binding as binding
use Rattle.tpm_model.specs.Binding.{index_policy}
use Rattle.tpm_model.specs.Events.{Event, SealTo, Other}
use Rattle.tpm_model.specs.Pcrs.{pcr_of}
use Rattle.tpm_model.specs.World.{FiledPolicy, World}
use Rattle.pcrlock_answer.specs.declared.answer.Answer.{Answer}
use Rattle.pcrlock_answer.specs.declared.answer.Answer.TheVariants as said
use Rattle.pcrlock_answer.specs.Texts.{enrolled_text}
use Rattle.pcrlock_line.specs.Machine.{Machine}
use Rattle.pcrlock_line.specs.declared.stop.Stop.TheVariants as stop
use Rattle.pcrlock_line.specs.Outcome.{Fine, Refused, Stops}
use Rattle.pcrlock_deeds.specs.Acts.{Act, says, works}
use Rattle.pcrlock_deeds.specs.Deed.{Deed, keeps, ends, hashes, sends, sees, draws, writes}
use Rattle.pcrlock_deeds.specs.PolicyAt.{policy_needed}
use Rattle.pcrlock_seal.specs.declared.condition.Condition.{Condition}
use Rattle.pcrlock_seal.specs.declared.condition.Condition.TheVariants as conditions
use Rattle.pcrlock_seal.specs.Condition.{condition_policy, condition_strings, condition_token, index_condition}
use Rattle.pcrlock_seal.specs.Enroll.{literal_now, seal_refusal, sealed_handle}

-- a literal as what an object is bound to
abbrev pub bound_to : Literal → binding.Binding
bound_to literal = binding.Literal literal.hash literal.bank literal.pcr literal.value

-- where an object was sealed its token is written, and what the policy file states stays
abbrev pub token_deed : List ℕ → Condition → Response → Option ℕ → Deed
token_deed path condition response (Some handle) = writes path (token_text (condition_token condition handle)) keeps (ends (Fine (enrolled_text handle)))
token_deed path condition response None = ends (Refused (seal_refusal response))

-- the key is sealed by its author
abbrev pub seal_deed : List ℕ → Condition → Event → Deed
seal_deed path condition event = sends event (λ response. token_deed path condition response (sealed_handle response))

-- the key is the one given, or the next random word
abbrev pub key_deed : List ℕ → Condition → (List ℕ → Event) → Option (List ℕ) → Deed
key_deed path condition author (Some key) = seal_deed path condition (author key)
key_deed path condition author None = draws (λ word. seal_deed path condition (author word)) (hashes (condition_strings condition) (ends (Stops stop.EntropyFault)))

-- the author of a key that is sealed to a literal
abbrev pub literal_author : Literal → List ℕ → Event
literal_author literal key = SealTo (bound_to literal) key

-- the PCR's value, or that its bank isn't present
abbrev pub value_deed : List ℕ → ℕ → Bank → Option (List ℕ) → Option (List ℕ) → Deed
value_deed path pcr bank key None = ends (Refused (said.BankAbsent bank))
value_deed path pcr bank key (Some value) = key_deed path (conditions.Value (literal_now bank pcr value)) (literal_author (literal_now bank pcr value)) key

-- the key is sealed to the present value of the PCR
abbrev pub enroll_deed : List ℕ → ℕ → Bank → Option (List ℕ) → Deed
enroll_deed path pcr bank key = sees (λ live. value_deed path pcr bank key (pcr_of live.state.banks live.state.pcrs bank pcr))

-- `enroll` with a literal, where the token is written to the path
unfoldable pub enroll_act : List ℕ → ℕ → Bank → Option (List ℕ) → Machine → World → Act
enroll_act path pcr bank key m w = works (enroll_deed path pcr bank key)

-- who seals to a policy: where it is that of the filed index, the program, which knows the index's pin; else anyone
abbrev pub author_where : Bool → FiledPolicy → List ℕ → List ℕ → Event
author_where true filed policy key = SealTo (binding.Index filed.handle filed.pin) key
author_where false filed policy key = Other (command.Seal policy key)

abbrev pub author_by : Option FiledPolicy → List ℕ → List ℕ → Event
author_by None policy key = Other (command.Seal policy key)
author_by (Some filed) policy key = author_where (bytes_eq (index_policy filed.handle filed.pin) policy) filed policy key

-- the strings of the index are hashed, and the key is sealed to its policy
abbrev pub bound_deed : List ℕ → Condition → Option FiledPolicy → Option (List ℕ) → Deed
bound_deed path condition filed key = hashes (condition_strings condition) (key_deed path condition (author_by filed (condition_policy condition)) key)

-- by the policy file, and by what the world has as filed
abbrev pub policy_act : List ℕ → Option (List ℕ) → Option FiledPolicy → Result Policy Answer → Act
policy_act path key filed (Ok policy) = works (bound_deed path (index_condition policy) filed key)
policy_act path key filed (Err answer) = says (Refused answer)

-- `enroll` without a literal, where the policy file stands at its own path
unfoldable pub enroll_bound_act : List ℕ → List ℕ → Option (List ℕ) → Machine → World → Act
enroll_bound_act path policy key m w = policy_act path key w.filed (policy_needed m.files policy)
