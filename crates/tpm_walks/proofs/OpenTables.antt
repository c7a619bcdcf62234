-- A valid table is open exactly where each of its rows lists what its PCRs hold.
use Rattle.std.proofs.Common.{◌≡◌, ℕ, ◌==◌, true, List, [], ◌∷◌, map, length, refl, sym, ap, ap₂, subst, ◌∙◌, Contains}
use Rattle.std.specs.Prelude.{Some}
use Rattle.std.specs.List.{All, AllByRecursion, list_all}
use Rattle.std.proofs.lemmas.Bool.{and_parts, eqb-true}
use Rattle.std.proofs.lemmas.List.Elements.{All-cons, All-nil}
use Rattle.hash_bank.specs.declared.bank.Bank.{Bank}
use Rattle.hash_bank.specs.declared.banks.Banks.{Banks}
use Rattle.hash_bank.specs.Banks.{has_bank}
use Rattle.hash_bank.specs.Hash.{size_in}
use Rattle.hash_bank.proofs.Sizes.{one_le-size_in}
use Rattle.policy_digest.specs.Mask.{pcrs_of}
use Rattle.policy_digest.specs.Plain.{plain_row, plain_table}
use Rattle.policy_digest.specs.PlainTable.{PlainRow}
use Rattle.policy_digest.specs.Strings.{values_string}
use Rattle.policy_digest.specs.Table.{differ, each_pair, fits, precedes, valid_row, valid_table}
use Rattle.policy_digest.specs.declared.table.Row.{Row}
use Rattle.policy_digest.specs.declared.table.Table.{Table}
use Rattle.policy_roots.proofs.Parsed.{same_digests}
use Rattle.tpm_model.specs.Opening.{Open}
use Rattle.tpm_model.specs.Pcrs.{chosen, values_of, HasValues}
use Rattle.tpm_walks.specs.ByValues.{IsMet, IsOpenByValues}
use Rattle.tpm_walks.proofs.Chosen.{chosen_sizes, chosen_values}
use Rattle.tpm_walks.proofs.Members.{map_member, mapped, passes}

same_some : (xs ys : List (List ℕ)) → map Some xs ≡ map Some ys → xs ≡ ys
same_some [] [] e = refl
same_some [] (y ∷ ys) e = cc
same_some (x ∷ xs) [] e = cc
same_some (x ∷ xs) (y ∷ ys) e =
    let one : x ≡ y = cc in
    let rest : map Some xs ≡ map Some ys = cc in
    ap₂ (λ (z : List ℕ) (zs : List (List ℕ)). z ∷ zs) one (same_some xs ys rest)

-- each digest of a list that fits has the bank's size
sizes : (bank : Bank) (values : List (List ℕ)) → list_all (λ d. length d == size_in bank) values ≡ true → All (λ (d : List ℕ). length d ≡ size_in bank) values
sizes bank [] h = All-nil _
sizes bank (value ∷ values) h =
    let both = and_parts (length value == size_in bank) (list_all (λ d. length d == size_in bank) values) h in
    All-cons (λ (d : List ℕ). length d ≡ size_in bank) value values (eqb-true (length value) (size_in bank) both.0) (sizes bank values both.1)

module _ (banks : Banks) (pcrs : List (List ℕ)) (bank : Bank) (has : HasValues banks pcrs) (present : has_bank banks bank ≡ true) where
  abbrev Now : Row → List (List ℕ)
  Now row = chosen row.pcrs (values_of banks pcrs bank)

  met : (row : Row) → valid_row bank row ≡ true → Contains (map values_string row.choices) (values_string (Now row)) → IsMet bank banks pcrs row
  met row valid listed =
      let choice = mapped values_string [] row.choices (values_string (Now row)) listed in
      let a = and_parts _ (each_pair differ row.choices) valid in
      let b = and_parts _ (list_all (fits bank (length (pcrs_of row.pcrs))) row.choices) a.0 in
      let fit = passes (fits bank (length (pcrs_of row.pcrs))) row.choices choice.0 b.1 choice.1 in
      let sized = sizes bank choice.0 (and_parts (length choice.0 == length (pcrs_of row.pcrs)) _ fit).1 in
      let same : choice.0 ≡ Now row = same_digests (size_in bank) (one_le-size_in bank) choice.0 (Now row) sized (chosen_sizes banks pcrs bank has present row.pcrs) choice.2 in
      record { choice = choice.0; listed = choice.1; holds = chosen_values banks pcrs bank has present row.pcrs ∙ ap (map Some) (sym same) }

  listed : (row : Row) → IsMet bank banks pcrs row → Contains (map values_string row.choices) (values_string (Now row))
  listed row met =
      let same : met.choice ≡ Now row = same_some met.choice (Now row) (sym met.holds ∙ chosen_values banks pcrs bank has present row.pcrs) in
      subst (λ (values : List (List ℕ)). Contains (map values_string row.choices) (values_string values)) same (map_member values_string row.choices met.choice met.listed)

  abbrev Listed : PlainRow → Type 0
  Listed row = Contains row.lists (values_string (chosen row.pcrs (values_of banks pcrs bank)))

  all_met : (rows : List Row) → list_all (valid_row bank) rows ≡ true → AllByRecursion Listed (map plain_row rows) → AllByRecursion (IsMet bank banks pcrs) rows
  all_met [] valid all = tt
  all_met (row ∷ rows) valid all =
      let both = and_parts (valid_row bank row) (list_all (valid_row bank) rows) valid in
      (met row both.0 all.0, all_met rows both.1 all.1)

  all_listed : (rows : List Row) → AllByRecursion (IsMet bank banks pcrs) rows → AllByRecursion Listed (map plain_row rows)
  all_listed [] all = tt
  all_listed (row ∷ rows) all = (listed row all.0, all_listed rows all.1)

pub opens_by_values : (table : Table) (banks : Banks) (pcrs : List (List ℕ)) → valid_table table ≡ true → HasValues banks pcrs → Open (plain_table table) banks pcrs → IsOpenByValues table banks pcrs
opens_by_values table banks pcrs valid has open_now =
    let a = and_parts _ (each_pair precedes table.rows) valid in
    let b = and_parts _ (list_all (valid_row table.bank) table.rows) a.0 in
    record { present = open_now.present; met = all_met banks pcrs table.bank has open_now.present table.rows b.1 open_now.listed }

pub opens_joined : (table : Table) (banks : Banks) (pcrs : List (List ℕ)) → HasValues banks pcrs → IsOpenByValues table banks pcrs → Open (plain_table table) banks pcrs
opens_joined table banks pcrs has by = record { present = by.present; listed = all_listed banks pcrs table.bank has by.present table.rows by.met }
