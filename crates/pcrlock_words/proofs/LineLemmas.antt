-- Cutting a line at one blank after another.
use Rattle.std.proofs.Common.{◌≡◌, ℕ, ◌+◌, ◌-◌, ◌<◌, ◌≤◌, true, false, cond, List, [], ◌∷◌, ◌++◌, length, get_or, take, drop, refl, sym, ap, ◌∙◌, subst, arith, add-one, append_assoc, take_all, below_more}
use Rattle.std.specs.List.{All, slice_split}
use Rattle.std.specs.Str.{IsCharBoundary, IsUtf8}
use Rattle.std.proofs.lemmas.Str.{IsCharBoundary-start, IsCharBoundary-after_ascii}
use Rattle.std.proofs.lemmas.Bool.Decides.{nat_tests}
use Rattle.std.proofs.Math.Seq.{drop-cons}
use Rattle.std.proofs.lemmas.List.{take-append-drop, get_or-take, get_or-drop, get_or_default, length-take, length-drop, drop-drop}
use Rattle.std.proofs.lemmas.List.Splits.{slice_split_at, slice_split_none}
use Rattle.std.specs.Prelude.{◌==◌, not}
use Rattle.pcrlock_words.specs.Lines.{is_blank, words_among, words_of}

-- a line is cut into words up to `start`, and no blank stands from there to `end`
pub record Cut (line : List ℕ) (words : List (List ℕ)) (start end : ℕ) : Type 0 where
  pub ordered : start ≤ end
  pub boundary : IsCharBoundary line start
  pub no_blank : (k : ℕ) → start ≤ k → k < end → is_blank (get_or line k 0) ≡ false
  pub so_far : words ++ words_of (drop start line) ≡ words_of line

-- a blank is an ASCII byte
blank_is_ascii : (byte : ℕ) → is_blank byte ≡ true → byte < 128
blank_is_ascii byte blank = grind (arith, nat_tests)

-- the words of a part come before those of the parts behind it
pub words_among-cons : (part : List ℕ) (parts : List (List ℕ)) → words_among (part ∷ parts) ≡ words_among (part ∷ []) ++ words_among parts
words_among-cons part parts =
    elim (not (length part == 0)) as (λ v. cond v (part ∷ words_among parts) (words_among parts) ≡ cond v (part ∷ []) [] ++ words_among parts) [
      | true ↦ refl
      | false ↦ refl
    ]

-- what stands from `start` on, up to `end`, has no blank
pub part_has_no_blank : (line : List ℕ) (words : List (List ℕ)) (start end : ℕ) → Cut line words start end → end ≤ length line → All (λ b. is_blank b ≡ false) (take (end - start) (drop start line))
part_has_no_blank line words start end cut below = λ k d inside.
    let near : k < end - start = omega (arith, inside, length-take (end - start) (drop start line)) in
    let reads : get_or (take (end - start) (drop start line)) k d ≡ get_or line (start + k) d =
    get_or-take (end - start) (drop start line) k d near ∙ get_or-drop start line k d in
    let usual : get_or line (start + k) d ≡ get_or line (start + k) 0 =
    get_or_default line (start + k) d 0 (omega (arith, near, below, cut.ordered)) in
    ap is_blank (reads ∙ usual) ∙ cut.no_blank (start + k) (omega arith) (omega (arith, near, cut.ordered))

-- what stands from `start` on is a part, the byte at `end`, and what follows it
pub drop_at : (line : List ℕ) (start end : ℕ) → start ≤ end → end < length line → drop start line ≡ take (end - start) (drop start line) ++ (get_or line end 0 ∷ drop (end + 1) line)
drop_at line start end ordered below =
    let rest : drop (end - start) (drop start line) ≡ drop end line =
    drop-drop (end - start) start line ∙ ap (λ n. drop n line) (omega (arith, ordered)) in
    let first : drop end line ≡ get_or line end 0 ∷ drop (end + 1) line = rw add-one (drop-cons line end 0 below) in
    sym (take-append-drop (end - start) (drop start line)) ∙ ap (λ tail. take (end - start) (drop start line) ++ tail) (rest ∙ first)

-- at a blank the part before it is the next one
pub parts-blank : (line : List ℕ) (words : List (List ℕ)) (start end : ℕ) → Cut line words start end → end < length line → is_blank (get_or line end 0) ≡ true → slice_split is_blank (drop start line) ≡ take (end - start) (drop start line) ∷ slice_split is_blank (drop (end + 1) line)
parts-blank line words start end cut below blank =
    ap (slice_split is_blank) (drop_at line start end cut.ordered below)
    ∙ slice_split_at is_blank (take (end - start) (drop start line)) (get_or line end 0) (drop (end + 1) line) (part_has_no_blank line words start end cut (omega (arith, below))) blank

pub so_far-blank : (line : List ℕ) (words more : List (List ℕ)) (start end : ℕ) → Cut line words start end → end < length line → is_blank (get_or line end 0) ≡ true → more ≡ words ++ words_among (take (end - start) (drop start line) ∷ []) → more ++ words_of (drop (end + 1) line) ≡ words_of line
unfolding words_of
so_far-blank line words more start end cut below blank pushed =
    let part : List ℕ = take (end - start) (drop start line) in
    let rest : List (List ℕ) = words_of (drop (end + 1) line) in
    ap (λ front. front ++ rest) pushed
    ∙ append_assoc words (words_among (part ∷ [])) rest
    ∙ ap (λ tail. words ++ tail) (sym (words_among-cons part (slice_split is_blank (drop (end + 1) line))))
    ∙ ap (λ parts. words ++ words_among parts) (sym (parts-blank line words start end cut below blank))
    ∙ cut.so_far

-- behind the last blank there is one part
pub so_far-end : (line : List ℕ) (words more : List (List ℕ)) (start end : ℕ) → Cut line words start end → end ≤ length line → length line ≤ end → more ≡ words ++ words_among (drop start line ∷ []) → more ≡ words_of line
unfolding words_of
so_far-end line words more start end cut within whole pushed =
    let short : length (drop start line) ≤ end - start = omega (arith, whole, length-drop start line) in
    let all : take (end - start) (drop start line) ≡ drop start line = take_all (end - start) (drop start line) short in
    let none : All (λ b. is_blank b ≡ false) (drop start line) =
    subst (All (λ b. is_blank b ≡ false)) all (part_has_no_blank line words start end cut within) in
    pushed
    ∙ ap (λ parts. words ++ words_among parts) (sym (slice_split_none is_blank (drop start line) none))
    ∙ cut.so_far

-- at the front nothing is cut yet
pub cut-none : (line : List ℕ) (words : List (List ℕ)) → IsUtf8 line → words ≡ [] → Cut line words 0 0
cut-none line words text empty = record {
  ordered = omega arith;
  boundary = IsCharBoundary-start line text;
  no_blank = λ k _ below. absurd (omega (arith, below));
  so_far = ap (λ front. front ++ words_of line) empty;
}

-- a byte that is no blank belongs to the part that is open
pub cut-more : (line : List ℕ) (words : List (List ℕ)) (start end : ℕ) → Cut line words start end → is_blank (get_or line end 0) ≡ false → Cut line words start (end + 1)
cut-more line words start end cut other = record {
  ordered = omega (arith, cut.ordered);
  boundary = cut.boundary;
  no_blank = λ k from below.
      below_more (λ i. start ≤ i → is_blank (get_or line i 0) ≡ false) end (λ i before from_start. cut.no_blank i from_start before) (λ _. other) k below from;
  so_far = cut.so_far;
}

-- a blank ends the part that is open
pub cut-blank : (line : List ℕ) (words more : List (List ℕ)) (start end : ℕ) → Cut line words start end → IsUtf8 line → end < length line → is_blank (get_or line end 0) ≡ true → more ≡ words ++ words_among (take (end - start) (drop start line) ∷ []) → Cut line more (end + 1) (end + 1)
cut-blank line words more start end cut text below blank pushed = record {
  ordered = omega arith;
  boundary = IsCharBoundary-after_ascii line end text below (blank_is_ascii (get_or line end 0) blank);
  no_blank = λ k from before. absurd (omega (arith, from, before));
  so_far = so_far-blank line words more start end cut below blank pushed;
}
