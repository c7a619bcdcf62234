-- What `remove-policy` does: it takes away the index that holds the policy in force, the object that holds
-- the pin, and the policy file.
use Rattle.std.specs.Prelude.{ℕ, Bool, true, false, if◌then◌else◌, List, [], ◌∷◌, ◌++◌, codes, Option, None, Some, Result, Ok, Err}
use Rattle.std.specs.FinMap.{remove}
use Rattle.std.specs.Str.{bytes_eq}
use Rattle.nv_index.specs.declared.index.Index.{Index}
use Rattle.nv_index.specs.Table.{index_at}
use Rattle.policy_file.specs.declared.policy.Policy.{Policy}
use Rattle.tpm_model.specs.declared.parts.Parts.{Parts}
use Rattle.tpm_model.specs.declared.response.Response.{Response}
use Rattle.tpm_model.specs.declared.response.Response.TheVariants as answer
use Rattle.tpm_model.specs.declared.response.Refusal.TheVariants as refusal
use Rattle.tpm_model.specs.IndexCommands.{nv_undefine}
use Rattle.tpm_model.specs.ObjectCommands.{evict}
use Rattle.pcrlock_answer.specs.declared.answer.Answer.{Answer}
use Rattle.pcrlock_answer.specs.declared.answer.Answer.TheVariants as said
use Rattle.pcrlock_answer.specs.Texts.{line_end}
use Rattle.pcrlock_line.specs.Begun.{by_device}
use Rattle.pcrlock_line.specs.Machine.{Machine, Live, machine}
use Rattle.pcrlock_line.specs.Outcome.{Outcome, Fine, refused_line}
use Rattle.pcrlock_deeds.specs.PolicyAt.{policy_of}

-- the line that is printed
unfoldable pub removed_text : List ℕ
removed_text = codes "removed" ++ line_end

-- whether an answer shows an index with this digest of a policy; whether a command was done; and whether
-- an object is gone, taken away or not there
abbrev pub shows_policy : List ℕ → Response → Bool
shows_policy digest (answer.Public public) = bytes_eq public.policy digest
shows_policy digest other = false

abbrev pub is_done : Response → Bool
is_done answer.Done = true
is_done other = false

abbrev pub is_gone : Response → Bool
is_gone answer.Done = true
is_gone (answer.Refused (refusal.Handle handle)) = true
is_gone other = false

-- whether the index that was found has this digest of a policy
abbrev pub has_policy : List ℕ → Option Index → Bool
has_policy digest None = false
has_policy digest (Some index) = bytes_eq index.public.policy digest

-- the state without the policy's index; one that has another policy stays (TPM 2.0 Library Part 3,
-- TPM2_NV_UndefineSpace)
abbrev pub without_index : Policy → Parts → Parts
without_index policy s =
    if has_policy policy.index_policy (index_at policy.handle s.indices) then (nv_undefine policy.handle s).1 else s

-- the state without the object that holds the pin, which need not be there (TPM2_EvictControl)
abbrev pub without_pin : Policy → Parts → Parts
without_pin policy s = (evict policy.pin_object s).1

-- the machine with another state, and without the file besides
abbrev pub with_state : Parts → Live → Machine
with_state s m = machine (record m { state = s })

abbrev pub without_file : List ℕ → Parts → Live → Machine
without_file path s m = machine (record m { files = remove m.files path; state = s })

-- the index goes first, then the pin's object, and then the file
abbrev pub removed_line : List ℕ → Policy → Live → Outcome
removed_line path policy m =
    let first : Parts = without_index policy m.state in
    let second : Parts = without_pin policy first in
    record {
      ending = Fine removed_text;
      after = without_file path second m;
      hashed = [];
      stops = machine m ∷ with_state first m ∷ with_state second m ∷ without_file path second m ∷ [];
    }

-- by what the device stores in the state file at the path
abbrev pub removal_line : List ℕ → List ℕ → Policy → Machine → Outcome
removal_line state path policy m = by_device m.device state m (removed_line path policy)

-- by what the policy file gave
abbrev pub removal_of : List ℕ → List ℕ → Result (Option Policy) Answer → Machine → Outcome
removal_of state path (Ok None) m = refused_line (said.NoPolicy path) m
removal_of state path (Ok (Some policy)) m = removal_line state path policy m
removal_of state path (Err answer) m = refused_line answer m

-- `remove-policy` over the policy file at the path, and what is stored in the state file
abbrev pub remove_policy_line : List ℕ → List ℕ → Machine → Outcome
remove_policy_line state path m = removal_of state path (policy_of m.files path) m
