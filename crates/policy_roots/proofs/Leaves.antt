-- A row's leaves tell the row, and what was before it; so does its top.
use Rattle.std.proofs.Common.{◌≡◌, ℕ, ◌≤◌, List, [], ◌∷◌, ◌++◌, map, length, refl, sym, ap₂, ◌∙◌, arith}
use Rattle.std.proofs.lemmas.List.{length-map}
use Rattle.hash_bank.specs.declared.bank.Bank.{Bank}
use Rattle.hash_bank.specs.declared.bank.Bank.TheVariants.{Sha256}
use Rattle.hash_bank.specs.Hash.{digest_in}
use Rattle.hash_bank.specs.HashedString.{HashedString, NoClash}
use Rattle.policy_digest.specs.PlainTable.{PlainRow, leaf_of, leaves_of, top_of_row}
use Rattle.policy_digest.specs.Strings.{pcr_string_in}
use Rattle.policy_digest.specs.TableStrings.{leaf_string, levels_strings, row_strings, under_sha256}
use Rattle.policy_roots.specs.Depth.{IsLeaf, IsLevel, IsWithin}
use Rattle.policy_roots.specs.Held.{AreHeld}
use Rattle.policy_roots.specs.Looks.{IsSameLook}
use Rattle.policy_roots.specs.Rows.{HasLists}
use Rattle.policy_roots.proofs.Depths.{exactly, same_bytes}
use Rattle.policy_roots.proofs.Levels.{held_head, held_left, held_right, held_tail, same_leaves, top_within}
use Rattle.policy_roots.proofs.Parsed.{same_pcr_string}

-- the strings of a row, part by part
pub record HoldsRow (S : HashedString → Type 0) (bank : Bank) (before : List ℕ) (row : PlainRow) : Type 0 where
  pub lists : AreHeld S (map under_sha256 row.lists)
  pub leaves : AreHeld S (map (leaf_string bank before row.pcrs) row.lists)
  pub levels : AreHeld S (levels_strings (leaves_of bank before row))

-- the same row behind the same policy
pub record IsSameRow (bank other : Bank) (before after : List ℕ) (row one : PlainRow) : Type 0 where
  pub bank_same : bank ≡ other
  pub old : before ≡ after
  pub row_same : row ≡ one

module _ (S : HashedString → Type 0) where
  pub row_parts : (bank : Bank) (before : List ℕ) (row : PlainRow) → AreHeld S (row_strings bank before row) → HoldsRow S bank before row
  unfolding row_strings
  row_parts bank before row held =
      let lists = map under_sha256 row.lists in
      let leaves = map (leaf_string bank before row.pcrs) row.lists in
      let levels = levels_strings (leaves_of bank before row) in
      let front = held_left S (lists ++ leaves) levels held in
      record { lists = held_left S lists leaves front; leaves = held_right S lists leaves front; levels = held_right S (lists ++ leaves) levels held }

  -- the leaves are level 0
  pub leaves_level : (bank : Bank) (before : List ℕ) (pcrs : ℕ) (lists : List (List ℕ)) → length before ≡ 32
      → AreHeld S (map (leaf_string bank before pcrs) lists) → IsLevel S 0 (map (leaf_of bank before pcrs) lists)
  leaves_level bank before pcrs [] long held = tt
  leaves_level bank before pcrs (list ∷ lists) long held =
      let string : S (leaf_string bank before pcrs list) = held_head S _ (map (leaf_string bank before pcrs) lists) held in
      let leaf : IsLeaf S (leaf_of bank before pcrs list) =
      record { before = before; bank = bank; pcrs = pcrs; values = digest_in Sha256 list; size = long; string = string; same = refl } in
      (exactly S (leaf_of bank before pcrs list) (map (leaf_of bank before pcrs) lists) 0 leaf, leaves_level bank before pcrs lists long (held_tail S _ _ held))

  pub leaf_count : (bank : Bank) (before : List ℕ) (row : PlainRow) → length (leaves_of bank before row) ≡ length row.lists
  leaf_count bank before row = length-map row.lists (leaf_of bank before row.pcrs)

  pub row_within : (bank : Bank) (before : List ℕ) (row : PlainRow) → length before ≡ 32 → HasLists row → AreHeld S (row_strings bank before row)
      → IsWithin S (top_of_row bank before row) 3
  row_within bank before row long has held =
      let p = row_parts bank before row held in
      let count = leaf_count bank before row in
      top_within S (leaves_of bank before row) (omega (arith, count, has.some)) (omega (arith, count, has.few)) (leaves_level bank before row.pcrs row.lists long p.leaves) p.levels

  module _ (safe : NoClash S) where
    -- what two equal leaves have in common
    same_leaf : (bank other : Bank) (before after : List ℕ) (m n : ℕ) (list values : List ℕ) → length before ≡ 32 → length after ≡ 32
        → S (leaf_string bank before m list) → S (leaf_string other after n values) → leaf_of bank before m list ≡ leaf_of other after n values
        → IsSameLook before after bank other m n (digest_in Sha256 list) (digest_in Sha256 values)
    same_leaf bank other before after m n list values long size h k e =
        same_pcr_string Sha256 before after bank other m n (digest_in Sha256 list) (digest_in Sha256 values) (long ∙ sym size)
        (same_bytes S safe (pcr_string_in Sha256 before bank m (digest_in Sha256 list)) (pcr_string_in Sha256 after other n (digest_in Sha256 values)) h k e)

    same_lists : (bank other : Bank) (before after : List ℕ) (m n : ℕ) (lists others : List (List ℕ)) → length before ≡ 32 → length after ≡ 32
        → AreHeld S (map (leaf_string bank before m) lists) → AreHeld S (map (leaf_string other after n) others)
        → AreHeld S (map under_sha256 lists) → AreHeld S (map under_sha256 others)
        → map (leaf_of bank before m) lists ≡ map (leaf_of other after n) others → lists ≡ others
    same_lists bank other before after m n [] [] long size h k a b e = refl
    same_lists bank other before after m n [] (values ∷ others) long size h k a b e = absurd cc
    same_lists bank other before after m n (list ∷ lists) [] long size h k a b e = absurd cc
    same_lists bank other before after m n (list ∷ lists) (values ∷ others) long size h k a b e =
        let first : leaf_of bank before m list ≡ leaf_of other after n values = cc in
        let later : map (leaf_of bank before m) lists ≡ map (leaf_of other after n) others = cc in
        let look = same_leaf bank other before after m n list values long size (held_head S _ _ h) (held_head S _ _ k) first in
        let here = same_bytes S safe list values (held_head S _ _ a) (held_head S _ _ b) look.digests in
        let rest = same_lists bank other before after m n lists others long size (held_tail S _ _ h) (held_tail S _ _ k) (held_tail S _ _ a) (held_tail S _ _ b) later in
        ap₂ (λ (x : List ℕ) (xs : List (List ℕ)). x ∷ xs) here rest

    -- what the first leaves have in common
    same_first : (bank other : Bank) (before after : List ℕ) (m n : ℕ) (lists others : List (List ℕ)) → 1 ≤ length lists → length before ≡ 32 → length after ≡ 32
        → AreHeld S (map (leaf_string bank before m) lists) → AreHeld S (map (leaf_string other after n) others)
        → map (leaf_of bank before m) lists ≡ map (leaf_of other after n) others → (bank ≡ other) × (before ≡ after) × (m ≡ n)
    same_first bank other before after m n [] others some long size h k e = absurd (omega (arith, some))
    same_first bank other before after m n (list ∷ lists) [] some long size h k e = absurd cc
    same_first bank other before after m n (list ∷ lists) (values ∷ others) some long size h k e =
        let first : leaf_of bank before m list ≡ leaf_of other after n values = cc in
        let look = same_leaf bank other before after m n list values long size (held_head S _ _ h) (held_head S _ _ k) first in
        (look.banks, look.old, look.masks)

    pub same_row : (bank other : Bank) (before after : List ℕ) (row one : PlainRow) → length before ≡ 32 → length after ≡ 32 → HasLists row → HasLists one
        → AreHeld S (row_strings bank before row) → AreHeld S (row_strings other after one)
        → top_of_row bank before row ≡ top_of_row other after one → IsSameRow bank other before after row one
    same_row bank other before after row one long size has keeps held kept e =
        let p = row_parts bank before row held in
        let q = row_parts other after one kept in
        let count = leaf_count bank before row in
        let number = leaf_count other after one in
        let leaves : leaves_of bank before row ≡ leaves_of other after one =
        same_leaves S safe (leaves_of bank before row) (leaves_of other after one)
        (omega (arith, count, has.some)) (omega (arith, count, has.few)) (omega (arith, number, keeps.some)) (omega (arith, number, keeps.few))
        (leaves_level bank before row.pcrs row.lists long p.leaves) (leaves_level other after one.pcrs one.lists size q.leaves) p.levels q.levels e in
        let first = same_first bank other before after row.pcrs one.pcrs row.lists one.lists has.some long size p.leaves q.leaves leaves in
        let lists = same_lists bank other before after row.pcrs one.pcrs row.lists one.lists long size p.leaves q.leaves p.lists q.lists leaves in
        record { bank_same = first.0; old = first.1; row_same = ap₂ (λ (m : ℕ) (ls : List (List ℕ)). record { pcrs = m; lists = ls }) first.2 lists }
