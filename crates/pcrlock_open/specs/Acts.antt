-- `unseal` as an act.
use Rattle.std.specs.Prelude.{ℕ, List, codes, Option, None, Some, Result, Ok, Err}
use Rattle.nv_index.specs.declared.index.NvPublic.{NvPublic}
use Rattle.policy_digest.specs.PlainTable.{PlainTable}
use Rattle.policy_file.specs.declared.policy.Policy.{Policy}
use Rattle.policy_walk.specs.Choosing.{chosen_of}
use Rattle.policy_session.specs.declared.index.IndexError.{IndexError}
use Rattle.pcrlock_answer.specs.declared.answer.Answer.{Answer}
use Rattle.policy_file.specs.declared.error.FileError.{FileError}
use Rattle.policy_file.specs.declared.error.FileError.TheVariants as file
use Rattle.policy_file.specs.declared.token.Literal.{Literal}
use Rattle.policy_file.specs.declared.token.Token.{Token}
use Rattle.policy_file.specs.declared.token.Token.TheVariants as token
use Rattle.policy_file.specs.TokenReading.{token_in}
use Rattle.tpm_model.specs.World.{World}
use Rattle.pcrlock_answer.specs.declared.answer.Answer.TheVariants as said
use Rattle.pcrlock_answer.specs.declared.place.Place.TheVariants as place
use Rattle.pcrlock_line.specs.Content.{Content, Missing, TooLarge, Bytes, content_of}
use Rattle.pcrlock_line.specs.Machine.{Machine}
use Rattle.pcrlock_line.specs.declared.stop.Stop.TheVariants as stop
use Rattle.pcrlock_line.specs.Outcome.{Ending, Refused, Stops}
use Rattle.pcrlock_deeds.specs.Acts.{Act, says, works}
use Rattle.pcrlock_deeds.specs.Deed.{Deed, ends, hashes, sees, walks}
use Rattle.pcrlock_deeds.specs.PolicyAt.{policy_needed}
use Rattle.pcrlock_open.specs.Bound.{held_by, held_ending, held_strings, plain_tables}
use Rattle.pcrlock_open.specs.Unseal.{literal_ending, present_value, value_strings}

-- the strings of the present value and of the literal's are hashed; then a session opens the object, or doesn't
abbrev pub unseal_deed : Literal → ℕ → Deed
unseal_deed literal handle = sees (λ live.
    hashes (value_strings (present_value literal live.state) literal) (walks (ends (literal_ending literal handle live.state))))

-- where a table was chosen a session walks by it
abbrev pub table_deed : Ending → Option PlainTable → Deed
table_deed last None = ends last
table_deed last (Some table) = walks (ends last)

-- by what the index holds
abbrev pub held_deed : Policy → Ending → Result (NvPublic × List ℕ) IndexError → Deed
held_deed policy last (Ok held) = table_deed last (chosen_of held.1 (plain_tables policy))
held_deed policy last (Err why) = ends last

-- the strings of the table, of the walk and of the index are hashed; then a session opens the object, or doesn't
abbrev pub bound_deed : Policy → ℕ → Deed
bound_deed policy handle = sees (λ live.
    hashes (held_strings policy live.state (held_by policy live.state)) (held_deed policy (held_ending policy handle live.state) (held_by policy live.state)))

-- by the policy file
abbrev pub policy_act : ℕ → Result Policy Answer → Act
policy_act handle (Ok policy) = works (bound_deed policy handle)
policy_act handle (Err answer) = says (Refused answer)

-- by what reading the token gave
abbrev pub token_act : List ℕ → List ℕ → Result Token FileError → Machine → Act
token_act path policy (Ok (token.Literal handle literal)) m = works (unseal_deed literal handle)
token_act path policy (Ok (token.Bound handle)) m = policy_act handle (policy_needed m.files policy)
token_act path policy (Err (file.Malformed at kind)) m = says (Refused (said.Malformed path (place.At at)))
token_act path policy (Err file.Memory) m = says (Stops stop.Memory)

-- by what stands at the token's path
abbrev pub content_act : List ℕ → List ℕ → Content → Machine → Act
content_act path policy Missing m = says (Refused (said.NoToken path))
content_act path policy (TooLarge size) m = says (Refused (said.Limit (codes "token-bytes") size))
content_act path policy (Bytes bytes) m = token_act path policy (token_in bytes) m

-- `unseal` of the token at the path, with the policy file at its own
unfoldable pub unseal_act : List ℕ → List ℕ → Machine → World → Act
unseal_act path policy m w = content_act path policy (content_of m.files path 256) m
