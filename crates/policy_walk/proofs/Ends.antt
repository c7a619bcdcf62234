-- Where a walk ends, as the client goes, is where it ends by what the PCRs hold.
use Rattle.std.proofs.Common.{◌≡◌, ℕ, zero, suc, ◌+◌, ◌*◌, ◌<◌, ◌≤◌, Bool, true, false, ◌||◌, cond, List, [], ◌∷◌, ◌++◌, map, length, get_or, Contains, Option, None, Some, position, refl, sym, ap, subst, ◌∙◌, arith}
use Rattle.std.specs.List.{AllByRecursion, list_any, position_or_len}
use Rattle.std.specs.Str.{bytes_eq}
use Rattle.std.specs.Prelude.{nat_lt}
use Rattle.std.specs.Int.{w32, to_be_bytes}
use Rattle.std.proofs.lemmas.Bool.{ltb-false}
use Rattle.std.proofs.lemmas.List.{append_cancel_left, append_cancel_right, get_or-map, get_or_default, length-map}
use Rattle.std.proofs.lemmas.List.Elements.{Contains-append_left, Contains-append_right}
use Rattle.std.proofs.lemmas.List.Quantifiers.{position-Some}
use Rattle.std.proofs.lemmas.List.Sums.{fails_before_first}
use Rattle.std.proofs.lemmas.Slice.Eq.{bytes_eq-Decides}
use Rattle.hash_bank.specs.declared.bank.Bank.{Bank}
use Rattle.hash_bank.specs.declared.bank.Bank.TheVariants.{Sha256}
use Rattle.hash_bank.specs.Hash.{digest_in}
use Rattle.hash_bank.specs.HashedString.{HashedString, NoClash}
use Rattle.or_tree.specs.Leading.{Leads}
use Rattle.or_tree.specs.Plan.{RowPlan, row_plan, rows_after}
use Rattle.or_tree.proofs.Leading.{few_lists, leads}
use Rattle.policy_digest.specs.Levels.{path_of, top_of_leaves}
use Rattle.policy_digest.specs.PlainTable.{PlainRow, leaf_of, leaves_of, root_after, top_of_row}
use Rattle.policy_digest.specs.Policies.{policy_or_of}
use Rattle.policy_digest.specs.Strings.{pcr_string_in, policy_pcr_code, selection_of}
use Rattle.policy_digest.specs.TableStrings.{leaf_string, levels_strings, row_strings, rows_strings, under_sha256}
use Rattle.policy_walk.specs.Ends.{End, past_rows, at_row, after_lists, end_from, leaf_at, client_end, is_met, values_end, walk_strings, entries_from, client_entries}

-- ---- where a digest is found

not_inside : (b : Bool) (n : ℕ) → cond b (Some n) None ≡ None → b ≡ false
not_inside true n e = cc
not_inside false n e = refl

-- where none is found, none passes
none_found : {X : Type 0} (p : X → Bool) (xs : List X) (k : ℕ) (d : X) → position p xs ≡ None → k < length xs → p (get_or xs k d) ≡ false
none_found p xs k d e inside =
    let past : length xs ≤ position_or_len p xs = ltb-false (position_or_len p xs) (length xs) (not_inside (nat_lt (position_or_len p xs) (length xs)) (position_or_len p xs) e) in
    fails_before_first p xs k d (omega arith)

-- between the test and membership
met_contains : (v : List ℕ) (lists : List (List ℕ)) → list_any (bytes_eq v) lists ≡ true → Contains lists v
met_contains v [] e = cc
met_contains v (list ∷ lists) e = by_test (bytes_eq v list) refl (met_contains v lists)
  where
    by_test : (b : Bool) → bytes_eq v list ≡ b → (list_any (bytes_eq v) lists ≡ true → Contains lists v) → Contains (list ∷ lists) v
    by_test true here later = (0, omega arith, sym ((bytes_eq-Decides v list).0 here))
    by_test false here later =
        let rest = later (ap (λ b. (b || list_any (bytes_eq v) lists)) (sym here) ∙ e) in
        (suc rest.0, omega (arith, rest.1), rest.2)

pub contains_met : (v : List ℕ) (lists : List (List ℕ)) (k : ℕ) → k < length lists → get_or lists k [] ≡ v → list_any (bytes_eq v) lists ≡ true
contains_met v [] k inside e = absurd (omega arith)
contains_met v (list ∷ lists) zero inside e = ap (λ b. (b || list_any (bytes_eq v) lists)) ((bytes_eq-Decides v list).1 (sym e))
contains_met v (list ∷ lists) (suc k) inside e = either_way (bytes_eq v list) (contains_met v lists k (omega (arith, inside)) e)
  where
    either_way : (b : Bool) → list_any (bytes_eq v) lists ≡ true → (b || list_any (bytes_eq v) lists) ≡ true
    either_way true later = refl
    either_way false later = later

-- ---- where lists lead

-- lists that lead to the top leave its digest
pub led : (lists : List (List (List ℕ))) (digest top : List ℕ) → Leads digest lists top → after_lists digest lists ≡ top
led [] digest top h = h
led (list ∷ lists) digest top h = led lists (policy_or_of Sha256 list) top h.3

-- ---- one row

-- each of the strings is in S
abbrev pub Held : (HashedString → Type 0) → List HashedString → Type 0
Held S strings = (s : HashedString) → Contains strings s → S s

-- the string of PolicyPCR tells the digest of the values
same_values : (bank : Bank) (before : List ℕ) (pcrs : ℕ) (a b : List ℕ) → pcr_string_in Sha256 before bank pcrs a ≡ pcr_string_in Sha256 before bank pcrs b → a ≡ b
unfolding pcr_string_in
same_values bank before pcrs a b e =
    append_cancel_right a b [] (append_cancel_left (selection_of bank pcrs) _ _ (append_cancel_left (to_be_bytes w32 policy_pcr_code) _ _ (append_cancel_left before _ _ e)))

module _ (bank : Bank) (values : ℕ → List ℕ) (before : List ℕ) (row : PlainRow) (few : length row.lists ≤ 512) (rest : List ℕ → End) where
  -- the session's digest behind PolicyPCR, and the row's leaves
  abbrev pub now : List ℕ
  now = leaf_of bank before row.pcrs (values row.pcrs)

  abbrev pub plan : RowPlan
  plan = row_plan bank before row

  leaf_is : (k : ℕ) → k < length row.lists → get_or (leaves_of bank before row) k [] ≡ leaf_of bank before row.pcrs (get_or row.lists k [])
  leaf_is k inside = get_or-map (leaf_of bank before row.pcrs) row.lists k [] [] inside

  long : length (leaves_of bank before row) ≡ length row.lists
  long = length-map row.lists (leaf_of bank before row.pcrs)

  -- from a leaf that is the digest, the walk goes to the row's top
  through_leaf : (leaf : ℕ) → leaf_at plan now ≡ Some leaf → end_from plan now (Some leaf) rest ≡ rest (top_of_row bank before row)
  through_leaf leaf found =
      let at = position-Some (λ l. bytes_eq l now) (leaves_of bank before row) leaf [] found in
      let is : get_or (leaves_of bank before row) leaf [] ≡ now = (bytes_eq-Decides _ _).0 at.1 in
      let up = leads (leaves_of bank before row) leaf at.0 (omega (arith, long, few)) in
      ap rest (led _ now _ (subst (λ d. Leads d (path_of (leaves_of bank before row) leaf) (top_of_leaves (leaves_of bank before row))) is up))

  -- a row that is met is passed
  pub passed : is_met values row ≡ true → end_from plan now (leaf_at plan now) rest ≡ rest (top_of_row bank before row)
  passed met = by_leaf (leaf_at plan now) refl
    where
      by_leaf : (o : Option ℕ) → leaf_at plan now ≡ o → end_from plan now o rest ≡ rest (top_of_row bank before row)
      by_leaf (Some leaf) found = through_leaf leaf found
      by_leaf None none =
          let at = met_contains (values row.pcrs) row.lists met in
          let list : get_or row.lists at.0 [] ≡ values row.pcrs = get_or_default row.lists at.0 [] (values row.pcrs) at.1 ∙ at.2 in
          let is : get_or (leaves_of bank before row) at.0 [] ≡ now = leaf_is at.0 at.1 ∙ ap (leaf_of bank before row.pcrs) list in
          let no : bytes_eq (get_or (leaves_of bank before row) at.0 []) now ≡ false = none_found (λ l. bytes_eq l now) (leaves_of bank before row) at.0 [] none (omega (arith, long, at.1)) in
          let yes : bytes_eq (get_or (leaves_of bank before row) at.0 []) now ≡ true = (bytes_eq-Decides _ _).1 is in
          cc

  -- a row that isn't met is where the walk stops, where no strings clash
  module _ (S : HashedString → Type 0) (safe : NoClash S) (own : Held S (row_strings bank before row))
      (seen : S (under_sha256 (values row.pcrs))) (leaf_seen : S (leaf_string bank before row.pcrs (values row.pcrs))) where
    list_held : (k : ℕ) → k < length row.lists → S (under_sha256 (get_or row.lists k []))
    unfolding row_strings
    list_held k inside =
        let s = under_sha256 (get_or row.lists k []) in
        own s (Contains-append_left (map under_sha256 row.lists ++ map (leaf_string bank before row.pcrs) row.lists) _ s
        (Contains-append_left (map under_sha256 row.lists) _ s (k, omega (arith, inside, length-map row.lists under_sha256), get_or-map under_sha256 row.lists k [] s inside)))

    leaf_held : (k : ℕ) → k < length row.lists → S (leaf_string bank before row.pcrs (get_or row.lists k []))
    unfolding row_strings
    leaf_held k inside =
        let s = leaf_string bank before row.pcrs (get_or row.lists k []) in
        own s (Contains-append_left (map under_sha256 row.lists ++ map (leaf_string bank before row.pcrs) row.lists) _ s
        (Contains-append_right (map under_sha256 row.lists) (map (leaf_string bank before row.pcrs) row.lists) s
        (k, omega (arith, inside, length-map row.lists (leaf_string bank before row.pcrs)), get_or-map (leaf_string bank before row.pcrs) row.lists k [] s inside)))

    -- a leaf is that of the values only where its list is
    same_list : (k : ℕ) → k < length row.lists → get_or (leaves_of bank before row) k [] ≡ now → get_or row.lists k [] ≡ values row.pcrs
    same_list k inside e =
        let list = get_or row.lists k [] in
        let leaf = safe.distinct (leaf_string bank before row.pcrs list) (leaf_string bank before row.pcrs (values row.pcrs)) (leaf_held k inside) leaf_seen refl (sym (leaf_is k inside) ∙ e) in
        let digest = same_values bank before row.pcrs (digest_in Sha256 list) (digest_in Sha256 (values row.pcrs)) (ap (λ (s : HashedString). s.bytes) leaf) in
        ap (λ (s : HashedString). s.bytes) (safe.distinct (under_sha256 list) (under_sha256 (values row.pcrs)) (list_held k inside) seen refl digest)

    pub stopped : is_met values row ≡ false → end_from plan now (leaf_at plan now) rest ≡ at_row row.pcrs
    stopped unmet = by_leaf (leaf_at plan now) refl
      where
        by_leaf : (o : Option ℕ) → leaf_at plan now ≡ o → end_from plan now o rest ≡ at_row row.pcrs
        by_leaf None none = refl
        by_leaf (Some leaf) found =
            let at = position-Some (λ l. bytes_eq l now) (leaves_of bank before row) leaf [] found in
            let is : get_or (leaves_of bank before row) leaf [] ≡ now = (bytes_eq-Decides _ _).0 at.1 in
            let inside : leaf < length row.lists = omega (arith, at.0, long) in
            let met : is_met values row ≡ true = contains_met (values row.pcrs) row.lists leaf inside (same_list leaf inside is) in
            cc

-- ---- all rows

-- rows of at most 512 lists
abbrev pub HaveFewLists : List PlainRow → Type 0
HaveFewLists rows = AllByRecursion (λ (row : PlainRow). length row.lists ≤ 512) rows

-- the way over the rows, where no strings clash
pub same_end : (S : HashedString → Type 0) → NoClash S → (bank : Bank) (values : ℕ → List ℕ) (before : List ℕ) (rows : List PlainRow)
    → HaveFewLists rows → Held S (rows_strings bank before rows) → Held S (walk_strings bank values before rows)
    → client_end bank values before (rows_after bank before rows) ≡ values_end bank values before rows
unfolding rows_after rows_strings walk_strings client_end values_end
same_end S safe bank values before [] few own seen = refl
same_end S safe bank values before (row ∷ rows) few own seen =
    by_test (is_met values row) refl (λ met. same_end S safe bank values (top_of_row bank before row) rows few.1 own_rest (seen_rest met))
  where
    rest : List ℕ → End
    rest after = client_end bank values after (rows_after bank (top_of_row bank before row) rows)

    values_seen : S (under_sha256 (values row.pcrs))
    values_seen = seen _ (0, omega arith, refl)

    leaf_seen : S (leaf_string bank before row.pcrs (values row.pcrs))
    leaf_seen = seen _ (1, omega arith, refl)

    own_row : Held S (row_strings bank before row)
    own_row s h = own s (Contains-append_left (row_strings bank before row) _ s h)

    own_rest : Held S (rows_strings bank (top_of_row bank before row) rows)
    own_rest s h = own s (Contains-append_right (row_strings bank before row) _ s h)

    seen_rest : is_met values row ≡ true → Held S (walk_strings bank values (top_of_row bank before row) rows)
    seen_rest met s h =
        let further = walk_strings bank values (top_of_row bank before row) rows in
        seen s (subst (λ b. Contains (under_sha256 (values row.pcrs) ∷ leaf_string bank before row.pcrs (values row.pcrs) ∷ cond b further []) s) (sym met)
        (suc (suc h.0), omega (arith, h.1), h.2))

    by_test : (b : Bool) → is_met values row ≡ b
        → (is_met values row ≡ true → rest (top_of_row bank before row) ≡ values_end bank values (top_of_row bank before row) rows)
        → end_from (row_plan bank before row) (leaf_of bank before row.pcrs (values row.pcrs)) (leaf_at (row_plan bank before row) (leaf_of bank before row.pcrs (values row.pcrs))) rest
        ≡ cond b (values_end bank values (top_of_row bank before row) rows) (at_row row.pcrs)
    by_test true met further = passed bank values before row few.0 rest met ∙ further met
    by_test false unmet further = stopped bank values before row few.0 rest S safe own_row values_seen leaf_seen unmet

-- where each row is met, the walk ends past all rows with the root, whatever strings clash
pub met_end : (bank : Bank) (values : ℕ → List ℕ) (before : List ℕ) (rows : List PlainRow) → HaveFewLists rows
    → AllByRecursion (λ (row : PlainRow). is_met values row ≡ true) rows → client_end bank values before (rows_after bank before rows) ≡ past_rows (root_after bank before rows)
unfolding rows_after root_after client_end
met_end bank values before [] few met = refl
met_end bank values before (row ∷ rows) few met =
    passed bank values before row few.0 (λ after. client_end bank values after (rows_after bank (top_of_row bank before row) rows)) met.0
    ∙ met_end bank values (top_of_row bank before row) rows few.1 met.1

-- a walk that ends past all rows has the root, whatever strings clash
pub past_root : (bank : Bank) (values : ℕ → List ℕ) (before digest : List ℕ) (rows : List PlainRow) → HaveFewLists rows
    → client_end bank values before (rows_after bank before rows) ≡ past_rows digest → digest ≡ root_after bank before rows
unfolding rows_after root_after client_end
past_root bank values before digest [] few e = cc
past_root bank values before digest (row ∷ rows) few e =
    by_leaf (leaf_at (plan bank values before row few.0 rest) (now bank values before row few.0 rest)) refl e (λ f. past_root bank values (top_of_row bank before row) digest rows few.1 f)
  where
    rest : List ℕ → End
    rest after = client_end bank values after (rows_after bank (top_of_row bank before row) rows)

    by_leaf : (o : Option ℕ) → leaf_at (plan bank values before row few.0 rest) (now bank values before row few.0 rest) ≡ o
        → end_from (plan bank values before row few.0 rest) (now bank values before row few.0 rest) o rest ≡ past_rows digest
        → (rest (top_of_row bank before row) ≡ past_rows digest → digest ≡ root_after bank (top_of_row bank before row) rows)
        → digest ≡ root_after bank (top_of_row bank before row) rows
    by_leaf None none f further = cc
    by_leaf (Some leaf) found f further = further (sym (through_leaf bank values before row few.0 rest leaf found) ∙ f)

-- at most four entries a row
pub few_entries : (bank : Bank) (values : ℕ → List ℕ) (digest : List ℕ) (rows : List RowPlan) → client_entries bank values digest rows ≤ 4 * length rows
unfolding client_entries
few_entries bank values digest [] = omega arith
few_entries bank values digest (row ∷ rows) = by_leaf (leaf_at row now) (λ after. few_entries bank values after rows)
  where
    now : List ℕ
    now = leaf_of bank digest row.pcrs (values row.pcrs)

    by_leaf : (o : Option ℕ) → ((after : List ℕ) → client_entries bank values after rows ≤ 4 * length rows) → entries_from row now o (λ after. client_entries bank values after rows) ≤ 4 * length (row ∷ rows)
    by_leaf None further = omega arith
    by_leaf (Some leaf) further =
        let lists = path_of row.leaves leaf in
        omega (arith, few_lists row.leaves leaf, further (after_lists now lists))
