-- What is tested of a written index before a policy is put in force under its handle.
use Rattle.std.specs.Prelude.{ℕ, ◌==◌, Bool, false, not, ◌&&◌, ◌||◌, if◌then◌else◌, List, Option, None, Some, Result, Ok, Err}
use Rattle.std.specs.Cmp.Lexicographic.{pointwise}
use Rattle.std.specs.List.{list_any}
use Rattle.std.specs.Str.{bytes_eq}
use Rattle.hash_bank.specs.Hash.{algorithm_in}
use Rattle.nv_index.specs.declared.index.NvPublic.{NvPublic}
use Rattle.nv_index.specs.IndexName.{index_name_of}
use Rattle.policy_digest.specs.declared.table.Row.{Row}
use Rattle.policy_digest.specs.declared.table.Table.{Table}
use Rattle.policy_digest.specs.Pin.{pin_policy_of}
use Rattle.policy_digest.specs.Table.{values_eq}
use Rattle.policy_file.specs.declared.policy.Policy.{Policy}
use Rattle.pcrlock_answer.specs.declared.answer.Answer.{Answer}
use Rattle.pcrlock_answer.specs.declared.answer.Answer.TheVariants as said
use Rattle.pcrlock_update.specs.NewPolicy.{content_for}

-- whether two tables are the same: one bank, and the same lists of values for the same PCRs, in order
abbrev pub same_row : Row → Row → Bool
same_row a b = (a.pcrs == b.pcrs) && pointwise values_eq a.choices b.choices

abbrev pub same_table : Table → Table → Bool
same_table a b = (algorithm_in a.bank == algorithm_in b.bank) && pointwise same_row a.rows b.rows

-- whether the policy file has this digest of a policy
abbrev pub file_has : List ℕ → Option Policy → Bool
file_has digest None = false
file_has digest (Some policy) = bytes_eq policy.index_policy digest

-- whether it has the table
abbrev pub file_holds : Table → Option Policy → Bool
file_holds table None = false
file_holds table (Some policy) = list_any (same_table table) policy.tables

-- whether the pin that was given has this policy
abbrev pub pin_has : List ℕ → Option (List ℕ) → Bool
pin_has digest None = false
pin_has digest (Some pin) = bytes_eq (pin_policy_of pin) digest

-- whether nothing has to be changed: the index is the file's, it holds the table's policy, and the file has
-- the table
abbrev pub is_unchanged : Option Policy → Bool → NvPublic → List ℕ → Table → Bool
is_unchanged found force public held table =
    not force && file_has public.policy found && file_holds table found && bytes_eq held (content_for table)

-- a pin that was given has to be that of the index
abbrev pub with_given : Option (List ℕ) → List ℕ → Bool → Result Bool Answer
with_given None digest same = Ok same
with_given (Some pin) digest same = if bytes_eq (pin_policy_of pin) digest then Ok same else Err (said.PinRefused (pin_policy_of pin) digest)

-- the index has to be the policy file's, or the given pin's; then whether nothing has to be changed
abbrev pub standing_of : Option Policy → Option (List ℕ) → Bool → NvPublic → List ℕ → Table → Result Bool Answer
standing_of found pin force public held table =
    if file_has public.policy found || pin_has public.policy pin
    then with_given pin public.policy (is_unchanged found force public held table)
    else Err (said.IndexTaken public.handle (index_name_of public))
