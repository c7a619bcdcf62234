-- A session that walked a table, and saw what PCRs hold now, saw the table open.
use Rattle.std.proofs.Common.{◌≡◌, ℕ, List, [], ◌∷◌, true, sym, subst, arith, Contains}
use Rattle.std.specs.List.{AllByRecursion}
use Rattle.hash_bank.specs.declared.bank.Bank.{Bank}
use Rattle.hash_bank.specs.declared.bank.Bank.TheVariants.{Sha256}
use Rattle.hash_bank.specs.Banks.{has_bank}
use Rattle.hash_bank.specs.Hash.{digest_in, zeros_in}
use Rattle.hash_bank.proofs.Sizes.{length-zeros_in}
use Rattle.policy_digest.specs.PlainTable.{PlainRow, PlainTable, top_of_row}
use Rattle.policy_digest.specs.Strings.{values_string}
use Rattle.policy_digest.specs.TableStrings.{table_strings, under_sha256}
use Rattle.policy_roots.specs.Rows.{HasRows}
use Rattle.policy_roots.proofs.Depths.{same_bytes}
use Rattle.policy_roots.proofs.Leaves.{row_parts}
use Rattle.policy_roots.proofs.Tables.{AreRows, first_held, later_rows}
use Rattle.tpm_model.specs.declared.parts.Parts.{Parts}
use Rattle.tpm_model.specs.declared.trail.TrailEntry.{TrailEntry}
use Rattle.tpm_model.specs.Opening.{Open}
use Rattle.tpm_model.specs.Pcrs.{chosen, values_of}
use Rattle.tpm_model.specs.Strings.{joined_values}
use Rattle.tpm_model.specs.World.{World, AreHashed}
use Rattle.tpm_walks.specs.Walks.{LooksAt, Walks}
use Rattle.tpm_walks.proofs.Inside.{walk_looks}
use Rattle.tpm_worlds.specs.EventLists.{Safe}
use Rattle.tpm_worlds.specs.SteadySessions.{IsSeen, SeesNow}
use Rattle.tpm_walks.proofs.Members.{map_member}

module _ (s : Parts) (w : World) (safe : Safe w) (walk : List TrailEntry) (saw : (entry : TrailEntry) → Contains walk entry → SeesNow s w Sha256 entry) where
  -- the row has the present values of its PCRs
  abbrev IsListed : Bank → PlainRow → Type 0
  IsListed bank row = Contains row.lists (values_string (chosen row.pcrs (values_of s.banks s.pcrs bank)))

  seen : (bank : Bank) (row : PlainRow) (look : LooksAt bank row walk) → IsSeen s w Sha256 bank row.pcrs (digest_in Sha256 look.list)
  seen bank row look = saw _ look.stands

  listed : (bank : Bank) (before : List ℕ) (row : PlainRow) (rows : List PlainRow) → AreRows (Contains w.hashed) bank before (row ∷ rows) → LooksAt bank row walk → IsListed bank row
  listed bank before row rows are look =
      let now = seen bank row look in
      let parts = row_parts (Contains w.hashed) bank before row (first_held (Contains w.hashed) bank before row rows are) in
      let held : Contains w.hashed (under_sha256 look.list) = parts.lists (under_sha256 look.list) (map_member under_sha256 row.lists look.list look.listed) in
      let same : joined_values bank row.pcrs s ≡ look.list = same_bytes (Contains w.hashed) safe (joined_values bank row.pcrs s) look.list now.joined held (sym now.digest) in
      subst (Contains row.lists) (sym same) look.listed

  all_listed : (bank : Bank) (before : List ℕ) (rows : List PlainRow) → AreRows (Contains w.hashed) bank before rows → AllByRecursion (λ (row : PlainRow). LooksAt bank row walk) rows
      → AllByRecursion (IsListed bank) rows
  all_listed bank before [] are looks = tt
  all_listed bank before (row ∷ rows) are looks =
      (listed bank before row rows are looks.0, all_listed bank (top_of_row bank before row) rows (later_rows (Contains w.hashed) bank before row rows are) looks.1)

  present : (bank : Bank) (rows : List PlainRow) → HasRows (record { bank = bank; rows = rows }) → AllByRecursion (λ (row : PlainRow). LooksAt bank row walk) rows → has_bank s.banks bank ≡ true
  present bank [] has looks = absurd (omega (arith, has.some))
  present bank (row ∷ rows) has looks = (seen bank row looks.0).present

  pub walk_opens : (table : PlainTable) → AreHashed w (table_strings table) → HasRows table → Walks walk table → Open table s.banks s.pcrs
  walk_opens table strings has walks =
      let looks = walk_looks table walk walks in
      let are : AreRows (Contains w.hashed) table.bank (zeros_in Sha256) table.rows = record { size = length-zeros_in Sha256; lists = has.rows; held = strings } in
      record { present = present table.bank table.rows has looks; listed = all_listed table.bank (zeros_in Sha256) table.rows are looks }
