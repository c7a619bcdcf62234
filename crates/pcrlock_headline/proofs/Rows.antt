-- The way over a table's rows, by what the PCRs hold, ends past all of them exactly where each lists that.
use Rattle.std.proofs.Common.{◌≡◌, ℕ, Bool, true, false, cond, List, [], ◌∷◌, refl, ap, ◌∙◌, Contains}
use Rattle.std.specs.List.{AllByRecursion, list_any}
use Rattle.std.specs.Str.{bytes_eq}
use Rattle.std.proofs.lemmas.List.{get_or_default}
use Rattle.std.proofs.lemmas.Map.Views.{Contains-from_any}
use Rattle.std.proofs.lemmas.Slice.Eq.{bytes_eq-Decides}
use Rattle.hash_bank.specs.declared.bank.Bank.{Bank}
use Rattle.policy_digest.specs.PlainTable.{PlainRow, root_after, top_of_row}
use Rattle.policy_walk.specs.Ends.{End, past_rows, at_row, is_met, values_end}
use Rattle.policy_walk.proofs.Ends.{contains_met}

-- a row lists what its PCRs hold
abbrev pub Lists : (ℕ → List ℕ) → PlainRow → Type 0
Lists values row = Contains row.lists (values row.pcrs)

met_listed : (v : List ℕ) (lists : List (List ℕ)) → list_any (bytes_eq v) lists ≡ true → Contains lists v
met_listed v lists met = Contains-from_any (λ a b e. (bytes_eq-Decides a b).0 e) v lists met

listed_met : (v : List ℕ) (lists : List (List ℕ)) → Contains lists v → list_any (bytes_eq v) lists ≡ true
listed_met v lists at = contains_met v lists at.0 at.1 (get_or_default lists at.0 [] v at.1 ∙ at.2)

pub past_all : (bank : Bank) (values : ℕ → List ℕ) (before : List ℕ) (rows : List PlainRow) → AllByRecursion (Lists values) rows
    → values_end bank values before rows ≡ past_rows (root_after bank before rows)
unfolding values_end root_after
past_all bank values before [] all = refl
past_all bank values before (row ∷ rows) all =
    ap (λ b. cond b (values_end bank values (top_of_row bank before row) rows) (at_row row.pcrs)) (listed_met (values row.pcrs) row.lists all.0)
    ∙ past_all bank values (top_of_row bank before row) rows all.1

pub all_past : (bank : Bank) (values : ℕ → List ℕ) (before digest : List ℕ) (rows : List PlainRow) → values_end bank values before rows ≡ past_rows digest
    → AllByRecursion (Lists values) rows
unfolding values_end
all_past bank values before digest [] e = tt
all_past bank values before digest (row ∷ rows) e = by_test (is_met values row) refl e (all_past bank values (top_of_row bank before row) digest rows)
  where
    rest : End
    rest = values_end bank values (top_of_row bank before row) rows

    by_test : (b : Bool) → is_met values row ≡ b → cond b rest (at_row row.pcrs) ≡ past_rows digest
        → (rest ≡ past_rows digest → AllByRecursion (Lists values) rows) → AllByRecursion (Lists values) (row ∷ rows)
    by_test true met f further = (met_listed (values row.pcrs) row.lists met, further f)
    by_test false unmet f further = absurd (cc f)
