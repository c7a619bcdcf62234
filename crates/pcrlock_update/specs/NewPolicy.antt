-- A policy is put in force where no index, or an unwritten one, stands under its handle.
use Rattle.std.specs.Prelude.{ℕ, Bool, true, false, List, [], ◌∷◌, ◌++◌, codes, Option, None, Some}
use Rattle.hash_bank.specs.HashedString.{HashedString}
use Rattle.nv_index.specs.Attributes.{content_size, defined_attributes}
use Rattle.nv_index.specs.declared.index.NvPublic.{NvPublic}
use Rattle.policy_digest.specs.declared.table.Table.{Table}
use Rattle.policy_digest.specs.BindingStrings.{bind_strings}
use Rattle.policy_digest.specs.Pin.{pin_policy_of}
use Rattle.policy_digest.specs.Plain.{plain_table}
use Rattle.policy_digest.specs.PlainTable.{root_of}
use Rattle.policy_digest.specs.TableStrings.{table_strings}
use Rattle.policy_file.specs.declared.policy.Policy.{Policy}
use Rattle.policy_file.specs.PolicyText.{policy_text}
use Rattle.pcrlock_answer.specs.declared.answer.Answer.{Answer}
use Rattle.pcrlock_answer.specs.Texts.{line_end, pin_text}
use Rattle.pcrlock_line.specs.Machine.{Live, machine}
use Rattle.pcrlock_line.specs.declared.stop.Stop.TheVariants as stop
use Rattle.pcrlock_line.specs.Outcome.{Ending, Fine, Refused, Stops, Outcome}
use Rattle.pcrlock_update.specs.Changes.{Made, changes_made, made_then}
use Rattle.pcrlock_update.specs.Sealed.{pin_made}
use Rattle.pcrlock_update.specs.declared.change.Change.{Change}
use Rattle.pcrlock_update.specs.declared.change.Change.TheVariants as change
use Rattle.pcrlock_update.specs.declared.change.TpmChange.TheVariants as tpm

-- ---- the changes

-- a new index that is written with the pin
abbrev pub new_public : ℕ → List ℕ → NvPublic
new_public index pin = record { handle = index; attributes = defined_attributes; policy = pin_policy_of pin; size = content_size }

-- the index is defined, in place of an unwritten one
abbrev pub define_changes : Bool → ℕ → List ℕ → List Change
define_changes true index pin = change.Tpm (tpm.Undefine index) ∷ change.Tpm (tpm.Define (new_public index pin)) ∷ []
define_changes false index pin = change.Tpm (tpm.Define (new_public index pin)) ∷ []

-- what the policy file says, by some tables
abbrev pub stated : ℕ → List ℕ → ℕ → List Table → Policy
stated index pin object tables = record { handle = index; index_policy = pin_policy_of pin; pin_object = object; tables = tables }

-- what the index holds for a table: the hash's algorithm, SHA-256, and the table's policy
abbrev pub content_for : Table → List ℕ
content_for table = 0x00 ∷ 0x0B ∷ root_of (plain_table table)

-- an old policy's pin goes
abbrev pub evict_changes : Option ℕ → List Change
evict_changes None = []
evict_changes (Some object) = change.Tpm (tpm.Evict object) ∷ []

-- the policy file is written, then the index, and then an old pin goes
abbrev pub force_changes : Option ℕ → ℕ → List ℕ → Table → ℕ → List Change
force_changes old index pin table object =
    change.File (policy_text (stated index pin object (table ∷ [])))
    ∷ change.Tpm (tpm.Write index pin (content_for table))
    ∷ evict_changes old

-- the index is defined, the pin sealed, and the table put in force
abbrev pub new_made : List ℕ → Option ℕ → Bool → ℕ → List ℕ → Table → Live → Made
new_made path old stands index pin table m =
    made_then (changes_made path (define_changes stands index pin) m)
    (pin_made index pin (λ object. changes_made path (force_changes old index pin table object)))

-- ---- the end

unfoldable pub made_text : List ℕ
made_text = codes "made" ++ line_end

-- the strings of a table and of the index that it is put into
abbrev pub update_strings : ℕ → List ℕ → Table → List HashedString
update_strings index pin table = table_strings (plain_table table) ++ bind_strings index pin

-- the text, unless a change was refused
abbrev pub made_ending : List ℕ → Option Answer → Ending
made_ending text None = Fine text
made_ending text (Some why) = Refused why

-- the random words to come stay
abbrev pub made_line : List ℕ → List HashedString → Live → Made → Outcome
made_line text strings m made = record {
  ending = made_ending text made.refusal;
  after = machine (record made.after { draws = m.draws });
  hashed = strings;
  stops = made.stops;
}

-- with this pin
abbrev pub new_with : List ℕ → List ℕ → Option ℕ → Bool → ℕ → Table → List ℕ → Live → Outcome
new_with text path old stands index table pin m =
    made_line (text ++ made_text) (update_strings index pin table) m (new_made path old stands index pin table m)

-- the pin is the one given, or the next random word, which is printed; where none is left, the command
-- stops
abbrev pub new_line_from : List (List ℕ) → List ℕ → List ℕ → Option ℕ → Bool → ℕ → Table → Option (List ℕ) → Live → Outcome
new_line_from draws text path old stands index table (Some pin) m = new_with text path old stands index table pin m
new_line_from (word ∷ rest) text path old stands index table None m =
    new_with (text ++ pin_text word) path old stands index table word (record m { draws = rest })
new_line_from [] text path old stands index table None m = record {
  ending = Stops stop.EntropyFault;
  after = machine m;
  hashed = [];
  stops = machine m ∷ [];
}

-- a new policy, behind a text, by the table; an old policy file names the object that holds its pin
abbrev pub new_line : List ℕ → List ℕ → Option ℕ → Bool → ℕ → Table → Option (List ℕ) → Live → Outcome
new_line text path old stands index table pin m = new_line_from m.draws text path old stands index table pin m
