-- A policy is put in force where a written index stands under its handle.
use Rattle.std.specs.Prelude.{◌≡◌, ℕ, true, if◌then◌else◌, List, [], ◌∷◌, ◌++◌, codes, Option, None, Some, IfSome}
use Rattle.std.specs.Option.{option_or}
use Rattle.std.specs.Str.{bytes_eq}
use Rattle.policy_digest.specs.declared.table.Table.{Table}
use Rattle.policy_digest.specs.Table.{valid_table}
use Rattle.policy_file.specs.declared.policy.Policy.{Policy}
use Rattle.policy_file.specs.PolicyText.{policy_text}
use Rattle.pcrlock_answer.specs.Texts.{line_end}
use Rattle.pcrlock_line.specs.Machine.{Live}
use Rattle.pcrlock_line.specs.Outcome.{Outcome}
use Rattle.pcrlock_update.specs.Changes.{Made, changes_made}
use Rattle.pcrlock_update.specs.NewPolicy.{content_for, evict_changes, force_changes, made_line, stated, update_strings}
use Rattle.pcrlock_update.specs.Sealed.{pin_made}
use Rattle.pcrlock_update.specs.declared.change.Change.{Change}
use Rattle.pcrlock_update.specs.declared.change.Change.TheVariants as change
use Rattle.pcrlock_update.specs.declared.change.TpmChange.TheVariants as tpm
use Rattle.pcrlock_update.specs.declared.putting.Before.{Before}
use Rattle.pcrlock_update.specs.declared.putting.Before.TheVariants as before

-- the last table for which the index holds this content
abbrev pub if_named : List ℕ → Table → Option Table
if_named content table = if bytes_eq content (content_for table) then Some table else None

abbrev pub named_in : List ℕ → List Table → Option Table
named_in content [] = None
named_in content (table ∷ tables) = option_or (named_in content tables) (if_named content table)

-- that of a policy file, where one is there
abbrev pub named_by : List ℕ → Option Policy → Option Table
named_by content None = None
named_by content (Some policy) = named_in content policy.tables

-- an old policy file's pin
abbrev pub pin_in : Option Policy → Option ℕ
pin_in None = None
pin_in (Some policy) = Some policy.pin_object

-- until the index is written, the table that it names stands before the new one
abbrev pub tables_between : Option Table → Table → List Table
tables_between None table = table ∷ []
tables_between (Some named) table = named ∷ table ∷ []

-- the policy file is written with both tables, then the index, then the file with the new table alone;
-- and then an old pin goes
abbrev pub update_changes : Option ℕ → ℕ → List ℕ → ℕ → Option Table → Table → List Change
update_changes old index pin object named table =
    change.File (policy_text (stated index pin object (tables_between named table)))
    ∷ change.Tpm (tpm.Write index pin (content_for table))
    ∷ change.File (policy_text (stated index pin object (table ∷ [])))
    ∷ evict_changes old

-- by what the index holds before: nothing, or what it holds for the table that is named, if for one
abbrev pub put_changes : Before → Option ℕ → ℕ → List ℕ → ℕ → Table → List Change
put_changes before.Unwritten old index pin object table = force_changes old index pin table object
put_changes (before.Written named) old index pin object table = update_changes old index pin object named table

unfoldable pub updated_text : List ℕ
updated_text = codes "updated" ++ line_end

-- with a pin that was given: it is sealed anew, and an old one goes
abbrev pub sealed_update : List ℕ → Option Policy → ℕ → List ℕ → List ℕ → Table → Live → Made
sealed_update path found index pin content table m =
    pin_made index pin (λ object. changes_made path (update_changes (pin_in found) index pin object (named_by content found) table)) m

abbrev pub pinned_line : List ℕ → List ℕ → Option Policy → ℕ → List ℕ → List ℕ → Table → Live → Outcome
pinned_line text path found index pin content table m =
    made_line (text ++ updated_text) (update_strings index pin table) m (sealed_update path found index pin content table m)

-- with the pin that the policy file's object holds
abbrev pub kept_update : List ℕ → Policy → List ℕ → List ℕ → Table → Live → Made
kept_update path policy pin content table m =
    changes_made path (update_changes None policy.handle pin policy.pin_object (named_in content policy.tables) table) m

abbrev pub kept_line : List ℕ → List ℕ → Policy → List ℕ → List ℕ → Table → Live → Outcome
kept_line text path policy pin content table m =
    made_line (text ++ updated_text) (update_strings policy.handle pin table) m (kept_update path policy pin content table m)

-- a table that was named is valid
abbrev pub IsNamed : Option Table → Type 0
IsNamed named = IfSome named (λ table. valid_table table ≡ true)

abbrev pub IsBefore : Before → Type 0
IsBefore before.Unwritten = Unit {0}
IsBefore (before.Written named) = IsNamed named
