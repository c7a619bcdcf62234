-- The paths below a path stand together in the order of bytes: between the path with a slash and the path with the next byte behind it.
use Rattle.std.proofs.Common.{◌≡◌, ℕ, Bool, true, false, cond, not, ◌&&◌, List, [], ◌∷◌, ◌++◌, refl, sym, ap, ◌∙◌}
use Rattle.std.specs.Prelude.{Option, None}
use Rattle.std.specs.Cmp.{nat_cmp_total, tied_itself}
use Rattle.std.specs.Cmp.Lexicographic.{slice_cmp}
use Rattle.std.specs.Ordering.{nat_cmp, is_le, is_gt, ordering_then}
use Rattle.std.specs.declared.cmp.Ordering.TheVariants.{Equal}
use Rattle.std.specs.declared.ops.Bound.TheVariants.{Included, Excluded}
use Rattle.std.specs.BTreeMap.{BTreeMap, get_by_text, is_at}
use Rattle.std.specs.BTreeMap.Range.{range_contains, entries_between, IsLeBy}
use Rattle.std.specs.Map.{keys_of, lookup}
use Rattle.std.specs.String.{string_cmp, string_bytes}
use Rattle.std.specs.declared.alloc.Global.{Global}
use Rattle.std.specs.declared.string.String.{String}
use Rattle.std.specs.declared.vec.Vec.{Vec}
use Rattle.pl_base.specs.FileMap.{slash}
use Rattle.pl_base.specs.Listing.{told_of, told_by_all, joined}
use Rattle.pl_base.proofs.Parts.{told_other}

same_byte : (byte : ℕ) → nat_cmp byte byte ≡ Equal
same_byte byte = tied_itself nat_cmp_total byte

-- the path with a slash is at most each path below it
lower : (path rest : List ℕ) → is_le (slice_cmp nat_cmp (path ++ 47 ∷ []) (path ++ 47 ∷ rest)) ≡ true
lower [] [] = refl
lower [] (byte ∷ rest) = refl
lower (byte ∷ path) rest = ap (λ order. is_le (ordering_then order (slice_cmp nat_cmp (path ++ 47 ∷ []) (path ++ 47 ∷ rest)))) (same_byte byte) ∙ lower path rest

-- and the path with the next byte is above it
upper : (path rest : List ℕ) → is_le (slice_cmp nat_cmp (path ++ 48 ∷ []) (path ++ 47 ∷ rest)) ≡ false
upper [] rest = refl
upper (byte ∷ path) rest = ap (λ order. is_le (ordering_then order (slice_cmp nat_cmp (path ++ 48 ∷ []) (path ++ 47 ∷ rest)))) (same_byte byte) ∙ upper path rest

ordered : (path : List ℕ) → is_gt (slice_cmp nat_cmp (path ++ 47 ∷ []) (path ++ 48 ∷ [])) ≡ false
ordered [] = refl
ordered (byte ∷ path) = ap (λ order. is_gt (ordering_then order (slice_cmp nat_cmp (path ++ 47 ∷ []) (path ++ 48 ∷ [])))) (same_byte byte) ∙ ordered path

module _ (path : List ℕ) (from to : String Global) (starts : string_bytes from ≡ path ++ 47 ∷ []) (ends : string_bytes to ≡ path ++ 48 ∷ []) where
  -- the two ends are in order
  pub forward : IsLeBy string_cmp from to
  forward = ap (λ a. is_gt (slice_cmp nat_cmp a (string_bytes to))) starts ∙ ap (λ b. is_gt (slice_cmp nat_cmp (path ++ 47 ∷ []) b)) ends ∙ ordered path

  inside : (held : String Global) (rest : List ℕ) → string_bytes held ≡ path ++ slash ∷ rest → range_contains string_cmp (Included from) (Excluded to) held ≡ true
  inside held rest is =
      let low : is_le (slice_cmp nat_cmp (string_bytes from) (string_bytes held)) ≡ true = ap (λ a. is_le (slice_cmp nat_cmp a (string_bytes held))) starts ∙ ap (λ b. is_le (slice_cmp nat_cmp (path ++ 47 ∷ []) b)) is ∙ lower path rest in
      let high : is_le (slice_cmp nat_cmp (string_bytes to) (string_bytes held)) ≡ false = ap (λ a. is_le (slice_cmp nat_cmp a (string_bytes held))) ends ∙ ap (λ b. is_le (slice_cmp nat_cmp (path ++ 48 ∷ []) b)) is ∙ upper path rest in
      ap (λ b. b && not (is_le (slice_cmp nat_cmp (string_bytes to) (string_bytes held)))) low ∙ ap not high

  told_outside : (name : List ℕ) (held : String Global) → range_contains string_cmp (Included from) (Excluded to) held ≡ false → told_of path name (string_bytes held) ≡ None
  told_outside name held out = told_other path name (string_bytes held) (λ rest is. let f = inside held rest is in cc)

  told_kept : (name : List ℕ) (e : String Global × Vec ℕ Global) (rest kept : List (String Global × Vec ℕ Global)) (inside : Bool) → range_contains string_cmp (Included from) (Excluded to) e.0 ≡ inside → told_by_all path name (keys_of kept) ≡ told_by_all path name (keys_of rest) → told_by_all path name (keys_of (cond inside (e ∷ kept) kept)) ≡ told_by_all path name (keys_of (e ∷ rest))
  told_kept name e rest kept true is h = ap (joined (told_of path name (string_bytes e.0))) h
  told_kept name e rest kept false is h = h ∙ sym (ap (λ told. joined told (told_by_all path name (keys_of rest))) (told_outside name e.0 is))

  -- the paths between the two ends tell all that is told of a name below the path
  pub told_between : (name : List ℕ) (files : List (String Global × Vec ℕ Global)) → told_by_all path name (keys_of (entries_between string_cmp (Included from) (Excluded to) files)) ≡ told_by_all path name (keys_of files)
  told_between name [] = refl
  told_between name (e ∷ files) = told_kept name e files _ (range_contains string_cmp (Included from) (Excluded to) e.0) refl (told_between name files)

-- an empty map has no word on a name
pub nothing_noted : (names : BTreeMap (String Global) Bool) → names.entries ≡ [] → (name : List ℕ) (told : Option Bool) → joined (get_by_text names name) told ≡ told
nothing_noted names none name told = ap (λ es. joined (lookup (is_at (λ k. slice_cmp nat_cmp name (string_bytes k))) es) told) none
