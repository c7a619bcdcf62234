-- What one held path tells of the names below a path.
use Rattle.std.proofs.Common.{◌≡◌, ◌≢◌, ℕ, suc, ◌<◌, Bool, true, false, cond, not, ◌&&◌, ◌||◌, List, [], ◌∷◌, ◌++◌, length, get_or, nat_eq, refl, sym, ap, ◌∙◌, arith, append_assoc}
use Rattle.std.specs.Prelude.{Option, None, Some, if◌then◌else◌}
use Rattle.std.specs.List.{starts_with, list_any}
use Rattle.std.specs.Str.{bytes_eq}
use Rattle.std.specs.Bool.{Decides, one_answer}
use Rattle.std.proofs.lemmas.Bool.{false_from_ne_true, ne_eqb, eq-eqb}
use Rattle.std.proofs.lemmas.Bool.Decides.{Decides-eqb}
use Rattle.std.proofs.lemmas.List.{append_cancel_left}
use Rattle.std.proofs.lemmas.Slice.Eq.{bytes_eq-Decides, starts_is}
use Rattle.std.specs.BTreeMap.{BTreeMap, UpdatesBy, get_by_text}
use Rattle.std.specs.String.{string_cmp, string_bytes}
use Rattle.std.specs.declared.alloc.Global.{Global}
use Rattle.std.specs.declared.string.String.{String}
use Rattle.std.proofs.lemmas.Map.Text.{btree_map_updates_text}
use Rattle.pl_base.specs.FileMap.{slash, path_below}
use Rattle.pl_base.specs.Listing.{told_of, is_part, joined}

-- without a slash
abbrev pub IsPlain : List ℕ → Type 0
IsPlain bytes = list_any (nat_eq slash) bytes ≡ false

or_false : (a b : Bool) → (a || b) ≡ false → (a ≡ false) × (b ≡ false)
or_false true b h = absurd (cc)
or_false false b h = (refl, h)

-- no byte is a slash
pub plain_from_bytes : (bytes : List ℕ) → ((i : ℕ) → i < length bytes → get_or bytes i 0 ≢ slash) → IsPlain bytes
plain_from_bytes [] h = refl
plain_from_bytes (byte ∷ bytes) h =
    let here : nat_eq slash byte ≡ false = ne_eqb slash byte (λ e. h 0 (omega arith) (sym e)) in
    rw here (plain_from_bytes bytes (λ i less. h (suc i) (omega arith)))

-- bytes with a slash are not plain
pub has_slash : (front back : List ℕ) → list_any (nat_eq slash) (front ++ slash ∷ back) ≡ true
has_slash [] back = refl
has_slash (byte ∷ front) back = rw (has_slash front back) (or_true (nat_eq slash byte))
  where
    or_true : (a : Bool) → (a || true) ≡ true
    or_true true = refl
    or_true false = refl

not_plain : (bytes front back : List ℕ) → IsPlain bytes → bytes ≡ front ++ slash ∷ back → ⊥
not_plain bytes front back plain e = let f : list_any (nat_eq slash) bytes ≡ true = ap (list_any (nat_eq slash)) e ∙ has_slash front back in cc

-- two plain parts before a slash are one
pub same_part : (first second : List ℕ) (x y : List ℕ) → IsPlain first → IsPlain second → first ++ slash ∷ x ≡ second ++ slash ∷ y → first ≡ second
same_part [] [] x y p q e = refl
same_part [] (byte ∷ second) x y p q e =
    let head : slash ≡ byte = cc in let f : nat_eq slash byte ≡ true = eq-eqb slash byte head in let g : nat_eq slash byte ≡ false = (or_false _ _ q).0 in absurd (cc)
same_part (byte ∷ first) [] x y p q e =
    let head : slash ≡ byte = cc in let f : nat_eq slash byte ≡ true = eq-eqb slash byte head in let g : nat_eq slash byte ≡ false = (or_false _ _ p).0 in absurd (cc)
same_part (byte ∷ first) (other ∷ second) x y p q e =
    let head : byte ≡ other = cc in let tail : first ++ slash ∷ x ≡ second ++ slash ∷ y = cc in
    let rest : first ≡ second = same_part first second x y (or_false (nat_eq slash byte) _ p).1 (or_false (nat_eq slash other) _ q).1 tail in
    cc

starts_below : List ℕ → List ℕ → List ℕ → Bool
starts_below path name held = starts_with nat_eq held (path_below path name ++ slash ∷ [])

regroup : (path name rest : List ℕ) → (path_below path name ++ slash ∷ []) ++ rest ≡ path ++ slash ∷ (name ++ slash ∷ rest)
regroup path name rest = simp append_assoc

-- whether a path goes on below a name
pub starts_below-Decides : (path name held : List ℕ) → Decides (starts_with nat_eq held (path_below path name ++ slash ∷ [])) ((rest : List ℕ) × (held ≡ path ++ slash ∷ (name ++ slash ∷ rest)))
starts_below-Decides path name held =
    let laws = starts_is Decides-eqb held (path_below path name ++ slash ∷ []) _ refl in
    ((λ e. (_, laws.0 e ∙ regroup path name _)), (λ found. laws.1 found.0 (found.1 ∙ sym (regroup path name found.0))))

below_cancel : (path x y : List ℕ) → path ++ slash ∷ x ≡ path ++ slash ∷ y → x ≡ y
below_cancel path x y e = let f : slash ∷ x ≡ slash ∷ y = append_cancel_left path _ _ e in cc

part_plain : (part : List ℕ) → is_part part ≡ true → IsPlain part
part_plain part e = second _ _ e
  where
    second : (a b : Bool) → (a && not b) ≡ true → b ≡ false
    second true true e = absurd (cc)
    second true false e = refl
    second false b e = absurd (cc)

both_false : (p : Bool) → cond p (cond false (Some true) (cond false (Some false) None)) None ≡ (let none : Option Bool = None in none)
both_false true = refl
both_false false = refl

-- a path that isn't below tells of no name
pub told_other : (path name held : List ℕ) → ((rest : List ℕ) → held ≢ path ++ slash ∷ rest) → told_of path name held ≡ None
unfolding told_of
told_other path name held h =
    let starts : starts_with nat_eq held (path_below path name ++ slash ∷ []) ≡ false = false_from_ne_true _ (λ e. let found = (starts_below-Decides path name held).0 e in h _ found.1) in
    let same : bytes_eq (path_below path name) held ≡ false = false_from_ne_true _ (λ e. h name (sym ((bytes_eq-Decides (path_below path name) held).0 e))) in
    rw (starts, same) (both_false (is_part name))

-- the tests of a name that is told of: as a folder, as a file
whole_folder : (part : Bool) (same : Bool) (p : Bool) → (same ≡ true → p ≡ part) → cond part (cond same (Some true) (cond false (Some false) None)) None ≡ cond same (cond p (Some true) None) None
whole_folder true true p h = rw (h refl) refl
whole_folder true false p h = refl
whole_folder false true p h = rw (h refl) refl
whole_folder false false p h = refl

whole_file : (part : Bool) (same : Bool) (p : Bool) → (same ≡ true → p ≡ part) → cond part (cond false (Some true) (cond same (Some false) None)) None ≡ cond same (cond p (Some false) None) None
whole_file true true p h = rw (h refl) refl
whole_file true false p h = refl
whole_file false true p h = rw (h refl) refl
whole_file false false p h = refl

-- a name that is no part is told of by no path
no_part : (same p : Bool) → (same ≡ true → p ≡ false) → (kind : Bool) → (let none : Option Bool = None in none) ≡ cond same (cond p (Some kind) None) None
no_part true p h kind = rw (h refl) refl
no_part false p h kind = refl

part_of : (name part : List ℕ) → bytes_eq name part ≡ true → is_part part ≡ is_part name
part_of name part e = ap is_part (sym ((bytes_eq-Decides name part).0 e))

told_file : (path name part : List ℕ) → IsPlain part → told_of path name (path ++ slash ∷ part) ≡ cond (bytes_eq name part) (cond (is_part part) (Some false) None) None
unfolding told_of
told_file path name part plain =
    let starts : starts_with nat_eq (path ++ slash ∷ part) (path_below path name ++ slash ∷ []) ≡ false = false_from_ne_true _ (λ e. let found = (starts_below-Decides path name (path ++ slash ∷ part)).0 e in not_plain part name found.0 plain (below_cancel path part (name ++ slash ∷ found.0) found.1)) in
    let same : bytes_eq (path_below path name) (path ++ slash ∷ part) ≡ bytes_eq name part = one_answer _ _ (bytes_eq-Decides _ _) ((λ e. ap (λ n. path ++ slash ∷ n) ((bytes_eq-Decides name part).0 e)), (λ e. (bytes_eq-Decides name part).1 (below_cancel path name part e))) in
    rw (starts, same) (whole_file (is_part name) (bytes_eq name part) (is_part part) (part_of name part))

told_folder_by : (b : Bool) (path name part more : List ℕ) → is_part name ≡ b → IsPlain part → told_of path name (path ++ slash ∷ (part ++ slash ∷ more)) ≡ cond (bytes_eq name part) (cond (is_part part) (Some true) None) None
unfolding told_of
told_folder_by true path name part more is plain =
    let held = path ++ slash ∷ (part ++ slash ∷ more) in
    let starts : starts_with nat_eq held (path_below path name ++ slash ∷ []) ≡ bytes_eq name part = one_answer _ _ (starts_below-Decides path name held) (
      (λ e. (more, ap (λ n. path ++ slash ∷ (n ++ slash ∷ more)) (sym ((bytes_eq-Decides name part).0 e)))),
      (λ found. (bytes_eq-Decides name part).1 (sym (same_part part name more found.0 plain (part_plain name is) (below_cancel path _ _ found.1)))),
    ) in
    let same : bytes_eq (path_below path name) held ≡ false = false_from_ne_true _ (λ e. not_plain name part more (part_plain name is) (below_cancel path _ _ ((bytes_eq-Decides (path_below path name) held).0 e))) in
    rw (starts, same) (whole_folder (is_part name) (bytes_eq name part) (is_part part) (part_of name part))
told_folder_by false path name part more is plain = rw is (no_part (bytes_eq name part) (is_part part) (λ e. part_of name part e ∙ is) true)

-- what a path below tells of each name: of its first part alone
pub told_part : (path name part more held : List ℕ) (folder : Bool) → IsPlain part → held ≡ path ++ slash ∷ (if folder then part ++ slash ∷ more else part) → told_of path name held ≡ cond (bytes_eq name part) (cond (is_part part) (Some folder) None) None
told_part path name part more held true plain e = ap (told_of path name) e ∙ told_folder_by (is_part name) path name part more refl plain
told_part path name part more held false plain e = ap (told_of path name) e ∙ told_file path name part plain

-- an empty first part is no name
pub told_empty : (path name part more held : List ℕ) (folder : Bool) → IsPlain part → held ≡ path ++ slash ∷ (if folder then part ++ slash ∷ more else part) → length part ≡ 0 → told_of path name held ≡ None
told_empty path name part more held folder plain e none =
    let p : is_part part ≡ false = rw none refl in told_part path name part more held folder plain e ∙ rw p (sym (no_part (bytes_eq name part) false (λ _. refl) folder))

-- another first part is one
pub told_named : (path name part more held : List ℕ) (folder : Bool) → IsPlain part → held ≡ path ++ slash ∷ (if folder then part ++ slash ∷ more else part) → length part ≢ 0 → told_of path name held ≡ cond (bytes_eq name part) (Some folder) None
told_named path name part more held folder plain e some =
    let long : nat_eq (length part) 0 ≡ false = ne_eqb _ _ some in
    let p : is_part part ≡ true = rw (long, plain) refl in told_part path name part more held folder plain e ∙ rw p refl

joined-none : (told : Option Bool) → joined told None ≡ told
joined-none None = refl
joined-none (Some folder) = refl

pub joined_assoc : (x y z : Option Bool) → joined (joined x y) z ≡ joined x (joined y z)
joined_assoc None y z = refl
joined_assoc (Some a) None z = refl
joined_assoc (Some a) (Some b) None = refl
joined_assoc (Some true) (Some b) (Some d) = refl
joined_assoc (Some false) (Some b) (Some d) = refl

noted_by : (same : Bool) (value folder : Bool) (at_name at_other : Option Bool) → Some value ≡ joined at_name (Some folder) → (same ≡ true → at_other ≡ at_name) → cond same (Some value) at_other ≡ joined at_other (cond same (Some folder) None)
noted_by true value folder at_name at_other e h = rw (h refl) e
noted_by false value folder at_name at_other e h = sym (joined-none at_other)

-- what names have once one is set to what is known and told of it
pub noted : (before after : BTreeMap (String Global) Bool) (key : String Global) (name : List ℕ) (value folder : Bool) → string_bytes key ≡ name → UpdatesBy string_cmp (string_cmp key) before after (Some value) → Some value ≡ joined (get_by_text before name) (Some folder) → (other : List ℕ) → get_by_text after other ≡ joined (get_by_text before other) (cond (bytes_eq other name) (Some folder) None)
noted before after key name value folder named h e other =
    let turned : bytes_eq (string_bytes key) other ≡ bytes_eq other name = one_answer _ _ (bytes_eq-Decides (string_bytes key) other) ((λ f. named ∙ sym ((bytes_eq-Decides other name).0 f)), (λ f. (bytes_eq-Decides other name).1 (sym f ∙ named))) in
    btree_map_updates_text (string_bytes key) before after (Some value) h other
    ∙ ap (λ b. cond b (Some value) (get_by_text before other)) turned
    ∙ noted_by (bytes_eq other name) value folder (get_by_text before name) (get_by_text before other) e (λ f. ap (get_by_text before) ((bytes_eq-Decides other name).0 f))
