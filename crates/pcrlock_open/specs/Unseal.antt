-- What `unseal` does, told by the values of PCRs. No session's digest stands here but where the
-- command prints it.
use Rattle.std.specs.Prelude.{ℕ, nat_le, if◌then◌else◌, List, [], ◌∷◌, ◌++◌, length, codes, Option, None, Some, Result, Ok, Err}
use Rattle.std.specs.Str.{bytes_eq}
use Rattle.hash_bank.specs.HashedString.{HashedString}
use Rattle.policy_digest.specs.BindingStrings.{literal_strings}
use Rattle.policy_file.specs.declared.error.FileError.{FileError}
use Rattle.policy_file.specs.declared.error.FileError.TheVariants as file
use Rattle.policy_file.specs.declared.policy.Policy.{Policy}
use Rattle.policy_file.specs.declared.token.Literal.{Literal}
use Rattle.policy_file.specs.declared.token.Token.{Token}
use Rattle.policy_file.specs.declared.token.Token.TheVariants as token
use Rattle.policy_file.specs.TokenReading.{token_in}
use Rattle.tpm_model.specs.declared.object.Object.{Object}
use Rattle.tpm_model.specs.declared.parts.Parts.{Parts}
use Rattle.tpm_model.specs.Binding.{literal_policy}
use Rattle.tpm_model.specs.Pcrs.{pcr_of}
use Rattle.tpm_model.specs.Sessions.{object_at}
use Rattle.policy_session.specs.LiteralUnseal.{after_unseal}
use Rattle.pcrlock_answer.specs.declared.answer.Answer.{Answer}
use Rattle.pcrlock_answer.specs.declared.answer.Answer.TheVariants as said
use Rattle.pcrlock_answer.specs.declared.place.Place.TheVariants as place
use Rattle.pcrlock_answer.specs.Texts.{key_text}
use Rattle.pcrlock_line.specs.Content.{Content, Missing, TooLarge, Bytes, content_of}
use Rattle.pcrlock_line.specs.Machine.{Machine, Live, machine}
use Rattle.pcrlock_line.specs.declared.stop.Stop.TheVariants as stop
use Rattle.pcrlock_line.specs.Outcome.{Ending, Fine, Refused, Stops, Outcome, unchanged, refused_line}
use Rattle.pcrlock_line.specs.Begun.{by_device}
use Rattle.pcrlock_deeds.specs.PolicyAt.{policy_needed}
use Rattle.pcrlock_open.specs.Bound.{bound_line}

-- the key, where the object that was found is bound to this policy (TPM 2.0 Library Part 3,
-- TPM2_Unseal)
abbrev pub object_ending : List ℕ → ℕ → Option Object → Ending
object_ending policy handle None = Refused (said.NoObject handle)
object_ending policy handle (Some object) =
    if bytes_eq policy object.policy then Fine (key_text object.secret) else Refused (said.WrongBinding policy object.policy)

-- where the PCR has this value: it has to be the literal's
abbrev pub value_ending : Option (List ℕ) → Literal → ℕ → Parts → Ending
value_ending None literal handle s = Refused (said.BankAbsent literal.bank)
value_ending (Some now) literal handle s =
    if bytes_eq now literal.value
    then object_ending (literal_policy literal.hash literal.bank literal.pcr now) handle (object_at handle s.objects)
    else Refused (said.NotLiteral literal.pcr now literal.value)

-- the value of the literal's PCR, where its bank is present
abbrev pub present_value : Literal → Parts → Option (List ℕ)
present_value literal s = pcr_of s.banks s.pcrs literal.bank literal.pcr

-- the key, or the first refusal whose cause holds: 64 sessions are open, the numbers of sessions
-- are used up, or what the PCR's value and the object give
abbrev pub literal_ending : Literal → ℕ → Parts → Ending
literal_ending literal handle s =
    if nat_le 64 (length s.sessions) then Refused said.SessionsFull
    else if nat_le 0x01000000 s.next_session then Refused (said.Limit (codes "handles") 0x01000000)
    else value_ending (present_value literal s) literal handle s

-- the strings that tell one value of the PCR from another: those of the present one and those of
-- the literal's
abbrev pub value_strings : Option (List ℕ) → Literal → List HashedString
value_strings None literal = []
value_strings (Some now) literal =
    literal_strings literal.hash literal.bank literal.pcr now
    ++ literal_strings literal.hash literal.bank literal.pcr literal.value

-- what an unseal by a literal comes to on a state: but for sessions it changes nothing
abbrev pub unsealed_line : Literal → ℕ → Live → Outcome
unsealed_line literal handle m = record {
  ending = literal_ending literal handle m.state;
  after = machine (record m { state = after_unseal m.state });
  hashed = value_strings (present_value literal m.state) literal;
  stops = machine m ∷ [];
}

-- by what the device stores in the state file at the path
abbrev pub literal_line : List ℕ → Literal → ℕ → Machine → Outcome
literal_line state literal handle m = by_device m.device state m (unsealed_line literal handle)

-- by the policy, which an object needs that is bound to its index
abbrev pub policy_line : List ℕ → ℕ → Result Policy Answer → Machine → Outcome
policy_line state handle (Ok policy) m = bound_line state policy handle m
policy_line state handle (Err answer) m = refused_line answer m

-- by what reading the token gave. Only a bound one needs the policy file. No reading ends for want of memory
abbrev pub token_line : List ℕ → List ℕ → List ℕ → Result Token FileError → Machine → Outcome
token_line state path policy (Ok (token.Literal handle literal)) m = literal_line state literal handle m
token_line state path policy (Ok (token.Bound handle)) m = policy_line state handle (policy_needed m.files policy) m
token_line state path policy (Err (file.Malformed at kind)) m = refused_line (said.Malformed path (place.At at)) m
token_line state path policy (Err file.Memory) m = unchanged (Stops stop.Memory) m

-- by what stands at the token's path
abbrev pub content_line : List ℕ → List ℕ → List ℕ → Content → Machine → Outcome
content_line state path policy Missing m = refused_line (said.NoToken path) m
content_line state path policy (TooLarge size) m = refused_line (said.Limit (codes "token-bytes") size) m
content_line state path policy (Bytes bytes) m = token_line state path policy (token_in bytes) m

-- the key of the token at the path, or the first refusal whose cause holds; the policy file stands at its own path
abbrev pub unseal_line : List ℕ → List ℕ → List ℕ → Machine → Outcome
unseal_line state path policy m = content_line state path policy (content_of m.files path 256) m
