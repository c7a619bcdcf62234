-- What opening an object that is bound to an index comes to, told by the values of PCRs. No session's digest stands
-- here but where the command prints it.
use Rattle.std.specs.Prelude.{ℕ, nat_le, if◌then◌else◌, List, [], ◌∷◌, ◌++◌, length, map, drop, codes, Option, None, Some, Result, Ok, Err}
use Rattle.std.specs.Str.{bytes_eq}
use Rattle.hash_bank.specs.declared.bank.Bank.{Bank}
use Rattle.hash_bank.specs.declared.bank.Bank.TheVariants.{Sha256}
use Rattle.hash_bank.specs.Banks.{has_bank}
use Rattle.hash_bank.specs.HashedString.{HashedString}
use Rattle.nv_index.specs.IndexName.{index_name_of}
use Rattle.nv_index.specs.declared.index.NvPublic.{NvPublic}
use Rattle.policy_digest.specs.BindingStrings.{name_strings_in}
use Rattle.policy_digest.specs.Plain.{plain_table}
use Rattle.policy_digest.specs.PlainTable.{PlainTable}
use Rattle.policy_digest.specs.Policies.{policy_authorize_nv_of}
use Rattle.policy_digest.specs.TableStrings.{table_strings}
use Rattle.policy_file.specs.declared.policy.Policy.{Policy}
use Rattle.policy_walk.specs.Choosing.{chosen_of, newest_root}
use Rattle.policy_walk.specs.Ends.{End, past_rows, at_row}
use Rattle.tpm_model.specs.declared.object.Object.{Object}
use Rattle.tpm_model.specs.declared.parts.Parts.{Parts}
use Rattle.tpm_model.specs.Sessions.{object_at}
use Rattle.policy_session.specs.declared.index.IndexError.{IndexError}
use Rattle.policy_session.specs.declared.index.IndexError.TheVariants as index
use Rattle.policy_session.specs.BoundUnseal.{bound_strings, foreseen_end, present_values, shown}
use Rattle.policy_session.specs.IndexReads.{index_read}
use Rattle.policy_session.specs.LiteralUnseal.{after_unseal}
use Rattle.pcrlock_answer.specs.declared.answer.Answer.{Answer}
use Rattle.pcrlock_answer.specs.declared.answer.Answer.TheVariants as said
use Rattle.pcrlock_answer.specs.Texts.{key_text}
use Rattle.pcrlock_line.specs.Machine.{Machine, Live, machine}
use Rattle.pcrlock_line.specs.Outcome.{Ending, Fine, Refused, Outcome}
use Rattle.pcrlock_line.specs.Begun.{by_device}

-- the secret, where the object that was found is bound to this policy (TPM 2.0 Library Part 3, TPM2_Unseal)
abbrev pub object_opened : List ℕ → ℕ → Option Object → Result (List ℕ) Answer
object_opened policy handle None = Err (said.NoObject handle)
object_opened policy handle (Some object) =
    if bytes_eq policy object.policy then Ok object.secret else Err (said.WrongBinding policy object.policy)

-- past all rows the object's policy has to be that of the index; at a row that isn't met its PCRs are told
abbrev pub walk_opened : Bank → NvPublic → ℕ → Parts → End → Result (List ℕ) Answer
walk_opened bank public handle s (past_rows digest) =
    object_opened (policy_authorize_nv_of Sha256 (index_name_of public)) handle (object_at handle s.objects)
walk_opened bank public handle s (at_row pcrs) = Err (said.NotForeseen pcrs (shown (present_values bank s pcrs)))

-- the secret, or the first refusal whose cause holds, where the walk over the rows ends so
abbrev pub bound_by : Bank → NvPublic → ℕ → Parts → End → Result (List ℕ) Answer
bound_by bank public handle s end =
    if nat_le 64 (length s.sessions) then Err said.SessionsFull
    else if nat_le 0x01000000 s.next_session then Err (said.Limit (codes "handles") 0x01000000)
    else if has_bank s.banks bank then walk_opened bank public handle s end
    else Err (said.BankAbsent bank)

-- the last of the tables whose root the index holds, or that it holds that of none; the root stands behind two bytes
abbrev pub table_opened : List PlainTable → NvPublic → List ℕ → ℕ → Parts → Option PlainTable → Result (List ℕ) Answer
table_opened tables public content handle s None = Err (said.Outdated (drop 2 content) (newest_root tables))
table_opened tables public content handle s (Some table) = bound_by table.bank public handle s (foreseen_end table s)

abbrev pub plain_tables : Policy → List PlainTable
plain_tables policy = map plain_table policy.tables

-- by what the index holds. No reading of an index fails in a definition
abbrev pub opened_by_held : Policy → ℕ → Parts → Result (NvPublic × List ℕ) IndexError → Result (List ℕ) Answer
opened_by_held policy handle s (Ok held) = table_opened (plain_tables policy) held.0 held.1 handle s (chosen_of held.1 (plain_tables policy))
opened_by_held policy handle s (Err index.NoIndex) = Err (said.NoIndex policy.handle)
opened_by_held policy handle s (Err index.Unwritten) = Err (said.UnwrittenIndex policy.handle)
opened_by_held policy handle s (Err other) = Err said.TpmFault

-- the number of a session is used where a table was chosen
abbrev pub table_after : Parts → Option PlainTable → Parts
table_after s None = s
table_after s (Some table) = after_unseal s

abbrev pub held_after : Policy → Parts → Result (NvPublic × List ℕ) IndexError → Parts
held_after policy s (Ok held) = table_after s (chosen_of held.1 (plain_tables policy))
held_after policy s (Err other) = s

-- the strings of the table, of the walk over it, and of the index
abbrev pub chosen_strings : NvPublic → Parts → Option PlainTable → List HashedString
chosen_strings public s None = []
chosen_strings public s (Some table) = table_strings table ++ bound_strings table s ++ name_strings_in Sha256 public

abbrev pub held_strings : Policy → Parts → Result (NvPublic × List ℕ) IndexError → List HashedString
held_strings policy s (Ok held) = chosen_strings held.0 s (chosen_of held.1 (plain_tables policy))
held_strings policy s (Err other) = []

-- what the policy's index holds
abbrev pub held_by : Policy → Parts → Result (NvPublic × List ℕ) IndexError
held_by policy s = index_read policy.handle s

-- the secret of the object that is bound to the policy's index, or the first refusal whose cause holds
abbrev pub held_opened : Policy → ℕ → Parts → Result (List ℕ) Answer
held_opened policy handle s = opened_by_held policy handle s (held_by policy s)

-- the secret as the line of a key
abbrev pub secret_ending : Result (List ℕ) Answer → Ending
secret_ending (Ok secret) = Fine (key_text secret)
secret_ending (Err answer) = Refused answer

abbrev pub held_ending : Policy → ℕ → Parts → Ending
held_ending policy handle s = secret_ending (held_opened policy handle s)

-- what opening the object comes to on a state: but for sessions it changes nothing
abbrev pub bound_on : Policy → ℕ → Live → Outcome
bound_on policy handle m = record {
  ending = held_ending policy handle m.state;
  after = machine (record m { state = held_after policy m.state (held_by policy m.state) });
  hashed = held_strings policy m.state (held_by policy m.state);
  stops = machine m ∷ [];
}

-- by what the device stores in the state file at the path
abbrev pub bound_line : List ℕ → Policy → ℕ → Machine → Outcome
bound_line state policy handle m = by_device m.device state m (bound_on policy handle)
