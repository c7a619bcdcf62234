-- A trail that leads to the top of a row ends with a walk of the row: three rises, and its leaf.
use Rattle.std.proofs.Common.{◌≡◌, ℕ, zero, suc, ◌/◌, ◌<◌, List, [], ◌∷◌, ◌++◌, map, length, get_or, sym, ap, ◌∙◌, append_assoc, arith}
use Rattle.std.specs.Prelude.{reverse}
use Rattle.std.proofs.lemmas.List.{get_or-map, map-append, reverse-append}
use Rattle.hash_bank.specs.declared.bank.Bank.{Bank}
use Rattle.hash_bank.specs.declared.bank.Bank.TheVariants.{Sha256}
use Rattle.hash_bank.specs.Hash.{digest_in}
use Rattle.hash_bank.specs.HashedString.{HashedString, NoClash}
use Rattle.policy_digest.specs.Levels.{group, listed, next_level, path_of, top_of_leaves}
use Rattle.policy_digest.specs.PlainTable.{PlainRow, leaf_of, leaves_of, top_of_row}
use Rattle.policy_digest.specs.Strings.{pcr_string_in}
use Rattle.policy_digest.specs.TableStrings.{leaf_string, row_strings}
use Rattle.policy_roots.specs.Depth.{IsLevel}
use Rattle.policy_roots.specs.Held.{AreHeld}
use Rattle.policy_roots.specs.Rows.{HasLists}
use Rattle.policy_roots.proofs.Depths.{same_bytes}
use Rattle.policy_roots.proofs.Leaves.{leaf_count, leaves_level, row_parts}
use Rattle.policy_roots.proofs.Levels.{held_head, held_tail, levels_of}
use Rattle.policy_roots.proofs.Parsed.{nv_is_no_pcr, or_is_no_pcr, same_pcr_string}
use Rattle.tpm_model.specs.declared.trail.TrailEntry.{TrailEntry}
use Rattle.tpm_model.specs.declared.trail.TrailEntry.TheVariants.{Pcr, Or, AuthorizeNv}
use Rattle.tpm_model.specs.Trails.{digest_of_in, entry_string_in}
use Rattle.tpm_walks.specs.Walks.{row_entries}
use Rattle.tpm_walks.proofs.Rises.{rise}
use Rattle.tpm_walks.proofs.Sound.{AreSound, entries_size}

-- ---- lists

joined_ways : {A : Type 0} (whole second first start a b c : List A) → first ≡ start ++ a → second ≡ first ++ b → whole ≡ second ++ c → whole ≡ start ++ (a ++ b ++ c)
joined_ways whole second first start a b c e f g =
    g ∙ ap (λ xs. xs ++ c) (f ∙ ap (λ xs. xs ++ b) e ∙ append_assoc start a b) ∙ append_assoc start (a ++ b) c

-- a way on from an entry
behind_entry : {A : Type 0} (whole first start path : List A) (x : A) → whole ≡ first ++ path → first ≡ start ++ x ∷ [] → whole ≡ start ++ (x ∷ path)
behind_entry whole first start path x e f = e ∙ ap (λ xs. xs ++ path) f ∙ append_assoc start (x ∷ []) path

-- the way up from a leaf, by the numbers of its groups
path_by : (leaves : List (List ℕ)) (place one two three : ℕ) → place / 8 ≡ one → place / 8 / 8 ≡ two → place / 8 / 8 / 8 ≡ three
    → map Or (listed (group leaves one)) ++ map Or (listed (group (next_level leaves) two)) ++ map Or (listed (group (next_level (next_level leaves)) three)) ≡ map Or (path_of leaves place)
path_by leaves place one two three e f g =
    let a = λ (n : ℕ). listed (group leaves n) in
    let b = λ (n : ℕ). listed (group (next_level leaves) n) in
    let c = λ (n : ℕ). listed (group (next_level (next_level leaves)) n) in
    ap (λ (n : ℕ). map Or (a n) ++ map Or (b two) ++ map Or (c three)) (sym e)
    ∙ ap (λ (n : ℕ). map Or (a (place / 8)) ++ map Or (b n) ++ map Or (c three)) (sym f)
    ∙ ap (λ (n : ℕ). map Or (a (place / 8)) ++ map Or (b (place / 8 / 8)) ++ map Or (c n)) (sym g)
    ∙ ap (λ xs. xs ++ map Or (c (place / 8 / 8 / 8))) (sym (map-append Or (a (place / 8)) (b (place / 8 / 8))))
    ∙ sym (map-append Or (a (place / 8) ++ b (place / 8 / 8)) (c (place / 8 / 8 / 8)))

first_is : (level : List (List ℕ)) (d : List ℕ) → level ≡ d ∷ [] → get_or level 0 [] ≡ d
first_is level d e = ap (λ (l : List (List ℕ)). get_or l 0 []) e

module _ (S : HashedString → Type 0) where
  list_held : (string : List ℕ → HashedString) (lists : List (List ℕ)) (place : ℕ) → place < length lists → AreHeld S (map string lists) → S (string (get_or lists place []))
  list_held string [] place inside held = absurd (omega (arith, inside))
  list_held string (list ∷ lists) zero inside held = held_head S (string list) (map string lists) held
  list_held string (list ∷ lists) (suc place) inside held =
      let fewer : place < length lists = omega (arith, inside) in
      list_held string lists place fewer (held_tail S (string list) (map string lists) held)

  -- ---- a leaf

  -- the last entry is the PolicyPCR of the leaf
  record FromLeaf (bank : Bank) (before : List ℕ) (pcrs : ℕ) (list : List ℕ) (entries : List TrailEntry) : Type 0 where
    earlier : List TrailEntry
    way : reverse entries ≡ reverse earlier ++ Pcr bank pcrs (digest_in Sha256 list) ∷ []
    led : digest_of_in Sha256 earlier ≡ before
    sound : AreSound S earlier

  by_pcr : (bank : Bank) (before : List ℕ) (pcrs : ℕ) (values : List ℕ) → length before ≡ 32 → (entry : TrailEntry) (entries : List TrailEntry)
      → entry_string_in Sha256 (digest_of_in Sha256 entries) entry ≡ pcr_string_in Sha256 before bank pcrs values
      → (entry ≡ Pcr bank pcrs values) × (digest_of_in Sha256 entries ≡ before)
  by_pcr bank before pcrs values size (Pcr other mask seen) entries same =
      let look = same_pcr_string Sha256 (digest_of_in Sha256 entries) before other bank mask pcrs seen values (entries_size entries ∙ sym size) same in (
        ap (λ (k : Bank). Pcr k mask seen) look.banks ∙ ap (λ (n : ℕ). Pcr bank n seen) look.masks ∙ ap (λ (v : List ℕ). Pcr bank pcrs v) look.digests,
        look.old,
      )
  by_pcr bank before pcrs values size (Or list) entries same = absurd (or_is_no_pcr Sha256 before list bank pcrs values size same)
  by_pcr bank before pcrs values size (AuthorizeNv name digest written) entries same = absurd (nv_is_no_pcr Sha256 before name bank pcrs values size same)

  -- the trail ends with a walk of the row
  pub record FromRow (bank : Bank) (before : List ℕ) (row : PlainRow) (entries : List TrailEntry) : Type 0 where
    pub place : ℕ
    pub inside : place < length row.lists
    pub earlier : List TrailEntry
    pub way : reverse entries ≡ reverse earlier ++ row_entries bank before row place
    pub led : digest_of_in Sha256 earlier ≡ before
    pub sound : AreSound S earlier

  module _ (safe : NoClash S) where
    from_leaf : (bank : Bank) (before : List ℕ) (pcrs : ℕ) (list : List ℕ) → length before ≡ 32 → S (leaf_string bank before pcrs list) → (entries : List TrailEntry) → AreSound S entries
        → digest_of_in Sha256 entries ≡ leaf_of bank before pcrs list → FromLeaf bank before pcrs list entries
    from_leaf bank before pcrs list size string [] sound e = absurd (safe.nonzero (leaf_string bank before pcrs list) string (sym e))
    from_leaf bank before pcrs list size string (entry ∷ entries) sound e =
        let values = digest_in Sha256 list in
        let looked = by_pcr bank before pcrs values size entry entries
        (same_bytes S safe (entry_string_in Sha256 (digest_of_in Sha256 entries) entry) (pcr_string_in Sha256 before bank pcrs values) sound.0 string e) in
        record {
          earlier = entries;
          way = reverse-append (entry ∷ []) entries ∙ ap (λ (x : TrailEntry). reverse entries ++ x ∷ []) looked.0;
          led = looked.1;
          sound = sound.2;
        }

    -- ---- the row

    pub row_walked : (bank : Bank) (before : List ℕ) (row : PlainRow) (entries : List TrailEntry) → length before ≡ 32 → HasLists row → AreHeld S (row_strings bank before row)
        → AreSound S entries → digest_of_in Sha256 entries ≡ top_of_row bank before row → FromRow bank before row entries
    row_walked bank before row entries size has held sound e =
        let leaves = leaves_of bank before row in
        let first_level = next_level leaves in
        let second_level = next_level first_level in
        let strings = row_parts S bank before row held in
        let count = leaf_count S bank before row in
        let is : IsLevel S 0 leaves = leaves_level S bank before row.pcrs row.lists size strings.leaves in
        let levels = levels_of S leaves (omega (arith, count, has.some)) (omega (arith, count, has.few)) is strings.levels in
        let single : length (next_level second_level) ≡ 1 = ap length levels.single in
        let top = e ∙ sym (first_is (next_level second_level) (top_of_leaves leaves) levels.single) in
        let third = rise S safe 2 second_level 0 entries (omega (arith, single)) levels.second levels.held_second sound top in
        let second = rise S safe 1 first_level third.place third.earlier third.inside levels.first levels.held_first third.sound third.led in
        let first = rise S safe 0 leaves second.place second.earlier second.inside is levels.held_leaves second.sound second.led in
        let place = first.place in
        let inside : place < length row.lists = omega (arith, count, first.inside) in
        let list = get_or row.lists place [] in
        let leaf_led = first.led ∙ get_or-map (leaf_of bank before row.pcrs) row.lists place [] [] inside in
        let leaf = from_leaf bank before row.pcrs list size (list_held (leaf_string bank before row.pcrs) row.lists place inside strings.leaves) first.earlier first.sound leaf_led in
        let one : place / 8 ≡ second.place = first.above in
        let two : place / 8 / 8 ≡ third.place = ap (λ (n : ℕ). n / 8) one ∙ second.above in
        let three : place / 8 / 8 / 8 ≡ 0 = ap (λ (n : ℕ). n / 8) two ∙ third.above in
        let path = map Or (path_of leaves place) in
        let looked = Pcr bank row.pcrs (digest_in Sha256 list) in
        let up =
        joined_ways (reverse entries) (reverse third.earlier) (reverse second.earlier) (reverse first.earlier)
        (map Or (listed (group leaves second.place))) (map Or (listed (group first_level third.place))) (map Or (listed (group second_level 0))) first.way second.way third.way in
        let whole : reverse entries ≡ reverse first.earlier ++ path = up ∙ ap (λ xs. reverse first.earlier ++ xs) (path_by leaves place second.place third.place 0 one two three) in
        record {
          place = place;
          inside = inside;
          earlier = leaf.earlier;
          way = behind_entry (reverse entries) (reverse first.earlier) (reverse leaf.earlier) path looked whole leaf.way;
          led = leaf.led;
          sound = leaf.sound;
        }
