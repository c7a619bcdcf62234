-- A trail that leads to the root of a table walks the table, row by row from the last to the first.
use Rattle.std.proofs.Common.{◌≡◌, ℕ, List, [], ◌∷◌, ◌++◌, refl, sym, ap, subst, ◌∙◌, append-nil, append_assoc, length}
use Rattle.std.specs.Prelude.{reverse}
use Rattle.std.proofs.lemmas.List.{reverse-reverse}
use Rattle.hash_bank.specs.declared.bank.Bank.{Bank}
use Rattle.hash_bank.specs.declared.bank.Bank.TheVariants.{Sha256}
use Rattle.hash_bank.specs.Hash.{zeros_in}
use Rattle.hash_bank.specs.HashedString.{HashedString, NoClash}
use Rattle.hash_bank.proofs.Sizes.{length-zeros_in}
use Rattle.policy_digest.specs.PlainTable.{PlainRow, PlainTable, root_after, root_of, top_of_row}
use Rattle.policy_digest.specs.TableStrings.{row_strings, table_strings}
use Rattle.policy_roots.specs.Held.{AreHeld}
use Rattle.policy_roots.specs.Rows.{HasLists, HasRows}
use Rattle.policy_roots.proofs.Tables.{AreRows, first_held, later_rows}
use Rattle.tpm_model.specs.declared.trail.TrailEntry.{TrailEntry}
use Rattle.tpm_model.specs.Trails.{digest_of_in, trail_digest}
use Rattle.tpm_walks.specs.Known.{IsTrail}
use Rattle.tpm_walks.specs.Walks.{EndsWithRow, Walks, WalksRows, row_entries}
use Rattle.tpm_walks.proofs.RowWalks.{row_walked}
use Rattle.tpm_walks.proofs.Sound.{AreSound, none_from_zeros, sound_trail}

module _ (S : HashedString → Type 0) where
  -- the trail ends with a walk of the rows
  record FromRows (bank : Bank) (before : List ℕ) (rows : List PlainRow) (entries : List TrailEntry) : Type 0 where
    earlier : List TrailEntry
    walk : List TrailEntry
    way : reverse entries ≡ reverse earlier ++ walk
    walks : WalksRows bank before rows walk
    led : digest_of_in Sha256 earlier ≡ before
    sound : AreSound S earlier

  module _ (safe : NoClash S) where
    rows_walked : (bank : Bank) (before : List ℕ) (rows : List PlainRow) (entries : List TrailEntry) → AreRows S bank before rows → AreSound S entries
        → digest_of_in Sha256 entries ≡ root_after bank before rows → FromRows bank before rows entries
    unfolding root_after
    rows_walked bank before [] entries are sound e = record { earlier = entries; walk = []; way = sym (append-nil (reverse entries)); walks = refl; led = e; sound = sound }
    rows_walked bank before (row ∷ rows) entries are sound e =
        let later = rows_walked bank (top_of_row bank before row) rows entries (later_rows S bank before row rows are) sound e in
        let here = row_walked S safe bank before row later.earlier are.size are.lists.0 (first_held S bank before row rows are) later.sound later.led in
        let own = row_entries bank before row here.place in
        record {
          earlier = here.earlier;
          walk = own ++ later.walk;
          way = later.way ∙ ap (λ xs. xs ++ later.walk) here.way ∙ append_assoc (reverse here.earlier) own later.walk;
          walks = (here.place, here.inside, later.walk, refl, later.walks);
          led = here.led;
          sound = here.sound;
        }

    pub table_walked : (table : PlainTable) (trail : List TrailEntry) → AreHeld S (table_strings table) → HasRows table → IsTrail S trail
        → trail_digest Sha256 trail ≡ root_of table → Walks trail table
    table_walked table trail held has known e =
        let are : AreRows S table.bank (zeros_in Sha256) table.rows = record { size = length-zeros_in Sha256; lists = has.rows; held = held } in
        let from = rows_walked table.bank (zeros_in Sha256) table.rows (reverse trail) are (sound_trail S trail known) e in
        let none : from.earlier ≡ [] = none_from_zeros S safe from.earlier from.sound from.led in
        let whole : trail ≡ from.walk = sym (reverse-reverse trail) ∙ from.way ∙ ap (λ xs. reverse xs ++ from.walk) none in
        subst (WalksRows table.bank (zeros_in Sha256) table.rows) (sym whole) from.walks

    pub row_ends : (bank : Bank) (before : List ℕ) (row : PlainRow) (trail : List TrailEntry) → AreHeld S (row_strings bank before row) → HasLists row → length before ≡ 32 → IsTrail S trail
        → trail_digest Sha256 trail ≡ top_of_row bank before row → EndsWithRow bank before row trail
    row_ends bank before row trail held has size known e =
        let from = row_walked S safe bank before row (reverse trail) size has held (sound_trail S trail known) e in
        record {
          place = from.place;
          inside = from.inside;
          earlier = reverse from.earlier;
          walked = sym (reverse-reverse trail) ∙ from.way;
          led = ap (digest_of_in Sha256) (reverse-reverse from.earlier) ∙ from.led;
        }
