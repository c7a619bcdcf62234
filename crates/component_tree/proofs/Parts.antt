-- The name directly below a path, on the way to a held path.
use Rattle.std.proofs.Common.{◌≡◌, ℕ, Bool, true, false, cond, not, ◌&&◌, ◌||◌, eqb, List, [], ◌∷◌, ◌++◌, length, Option, Some, None, refl, sym, ap, ◌∙◌, arith}
use Rattle.std.specs.Prelude.{nat_eq, option_and_then}
use Rattle.std.specs.List.{starts_with, list_any}
use Rattle.std.specs.Str.{bytes_eq}
use Rattle.std.proofs.lemmas.Bool.{not-true, ne_eqb, and_parts, or_parts, true≢false}
use Rattle.std.proofs.lemmas.Bool.Decides.{nat_tests}
use Rattle.std.proofs.lemmas.Slice.Eq.{bytes_eq-Decides}
use Rattle.pl_base.specs.FileMap.{slash, path_below}
use Rattle.component_tree.specs.Listing.{following, until_slash, first_part, name_below}

-- whether it is this name
abbrev pub is_name : List ℕ → Option (List ℕ) → Bool
is_name q None = false
is_name q (Some name) = bytes_eq q name

-- whether a name is one part of a path
abbrev pub is_part : List ℕ → Bool
is_part q = not (nat_eq (length q) 0) && not (list_any (nat_eq slash) q)

both_factor : (a b c : Bool) → ((a && b) || (a && c)) ≡ (a && (b || c))
both_factor true b c = refl
both_factor false b c = refl

-- a byte that isn't the slash is no slash
apart : (x b : ℕ) → eqb slash b ≡ true → eqb slash x ≡ false → eqb x b ≡ false
apart x b at off = grind (arith, nat_tests)

-- up to the slash stands q, exactly where all is q, or q and a slash begin it
until_is : (q rest : List ℕ) → list_any (nat_eq slash) q ≡ false → bytes_eq q (until_slash rest) ≡ (bytes_eq q rest || starts_with nat_eq rest (q ++ slash ∷ []))
until_is [] [] plain = refl
until_is [] (b ∷ rest) plain =
    elim (eqb slash b) as (λ t. bytes_eq [] (cond t [] (b ∷ until_slash rest)) ≡ (t && true)) [ true ↦ refl | false ↦ refl ]
until_is (x ∷ q) [] plain = refl
until_is (x ∷ q) (b ∷ rest) plain =
    let here = or_parts (eqb slash x) (list_any (nat_eq slash) q) plain in
    let begins = starts_with nat_eq rest (q ++ slash ∷ []) in
    elim (eqb slash b) as (λ t. eqb slash b ≡ t → bytes_eq (x ∷ q) (cond t [] (b ∷ until_slash rest)) ≡ ((eqb x b && bytes_eq q rest) || (eqb x b && begins))) [
      | true ↦ λ at. rw (apart x b at here.0) refl
      | false ↦ λ off. ap (λ z. eqb x b && z) (until_is q rest here.1) ∙ sym (both_factor (eqb x b) (bytes_eq q rest) begins)
    ] refl

some_length : (b : ℕ) (bs : List ℕ) → eqb (length (b ∷ bs)) 0 ≡ false
some_length b bs = ne_eqb (length (b ∷ bs)) 0 (λ e. omega arith)

-- the first part is q, exactly where all is q, or q and a slash begin it
first_is : (q rest : List ℕ) → is_part q ≡ true → is_name q (first_part rest) ≡ (bytes_eq q rest || starts_with nat_eq rest (q ++ slash ∷ []))
first_is [] rest part = absurd cc
first_is (x ∷ q) rest part =
    let plain : list_any (nat_eq slash) (x ∷ q) ≡ false = not-true (list_any (nat_eq slash) (x ∷ q)) (and_parts (not (nat_eq (length (x ∷ q)) 0)) (not (list_any (nat_eq slash) (x ∷ q))) part).1 in
    elim (until_slash rest) as (λ u. until_slash rest ≡ u → is_name (x ∷ q) (cond (eqb (length u) 0) None (Some u)) ≡ bytes_eq (x ∷ q) u) [
      | [] ↦ λ _. refl
      | b ∷ bs ↦ λ _. rw (some_length b bs) refl
    ] refl ∙ until_is (x ∷ q) rest plain

-- the name below a path is q, exactly where the held path is that of q, or goes on below it
pub below_is : (path q held : List ℕ) → is_part q ≡ true
    → is_name q (name_below path held) ≡ (bytes_eq (path_below path q) held || starts_with nat_eq held (path_below path q ++ slash ∷ []))
below_is [] q [] part = refl
below_is [] q (b ∷ held) part =
    let begins = starts_with nat_eq held (q ++ slash ∷ []) in
    elim (eqb slash b) as (λ t. is_name q (option_and_then first_part (cond t (Some held) None)) ≡ ((t && bytes_eq q held) || (t && begins))) [
      | true ↦ first_is q held part
      | false ↦ refl
    ]
below_is (p ∷ path) q [] part = refl
below_is (p ∷ path) q (b ∷ held) part =
    let same = bytes_eq (path_below path q) held in
    let begins = starts_with nat_eq held (path_below path q ++ slash ∷ []) in
    elim (eqb p b) as (λ t. is_name q (option_and_then first_part (cond t (following (path ++ slash ∷ []) held) None)) ≡ ((t && same) || (t && begins))) [
      | true ↦ below_is path q held part
      | false ↦ refl
    ]

until_plain : (rest : List ℕ) → list_any (nat_eq slash) (until_slash rest) ≡ false
until_plain [] = refl
until_plain (b ∷ rest) =
    elim (eqb slash b) as (λ t. eqb slash b ≡ t → list_any (nat_eq slash) (cond t [] (b ∷ until_slash rest)) ≡ false) [
      | true ↦ λ at. refl
      | false ↦ λ off. rw off (until_plain rest)
    ] refl

whole_part : (q u : List ℕ) → q ≡ u → eqb (length u) 0 ≡ false → list_any (nat_eq slash) u ≡ false → is_part q ≡ true
whole_part q u same some plain = ap is_part same ∙ ap (λ b. not b && not (list_any (nat_eq slash) u)) some ∙ ap not plain

-- what isn't one part of a path is no first part
no_first : (q rest : List ℕ) → is_part q ≡ false → is_name q (first_part rest) ≡ false
no_first q rest part =
    elim (until_slash rest) as (λ u. list_any (nat_eq slash) u ≡ false → is_name q (cond (eqb (length u) 0) None (Some u)) ≡ false) [
      | [] ↦ λ plain. refl
      | b ∷ bs ↦ λ plain. rw (some_length b bs) (elim (bytes_eq q (b ∷ bs)) as (λ t. bytes_eq q (b ∷ bs) ≡ t → t ≡ false) [
        | true ↦ λ same. absurd (true≢false (sym (whole_part q (b ∷ bs) ((bytes_eq-Decides q (b ∷ bs)).0 same) (some_length b bs) plain) ∙ part))
        | false ↦ λ _. refl
      ] refl)
    ] (until_plain rest)

-- a name that isn't one part is below no path
pub below_no_part : (path q held : List ℕ) → is_part q ≡ false → is_name q (name_below path held) ≡ false
below_no_part path q held part =
    elim (following (path ++ slash ∷ []) held) as (λ o. is_name q (option_and_then first_part o) ≡ false) [ None ↦ refl | Some rest ↦ no_first q rest part ]
