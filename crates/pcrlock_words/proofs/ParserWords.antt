-- What each word is to the parser of a command's options, and to the definition of the options that
-- words give.
use Rattle.std.proofs.Common.{◌≡◌, ℕ, suc, Bool, true, false, cond, not, ◌||◌, ◌+◌, List, [], ◌∷◌, take, Option, Some, None, refl, sym, ap, ◌∙◌, subst, arith, true≢false}
use Rattle.std.specs.Prelude.{◌==◌, option_map, option_and_then, not}
use Rattle.std.specs.List.{list_any, before_first, after_first, position_or_len}
use Rattle.std.specs.Str.{bytes_eq}
use Rattle.std.proofs.lemmas.Bool.Decides.{nat_tests}
use Rattle.clap.specs.Lexer.{long_of, short_of, name_and_value}
use Rattle.pcrlock_words.specs.Options.{Given, is_dashed, undashed, around_equals, joined, apart}
use Rattle.pcrlock_words.specs.Parser.{is_stray}

abbrev pub Text : Type 0
Text = List ℕ

-- a word that is no option
pub record Plain (word : Text) : Type 0 where
  pub dash : is_dashed word ≡ false
  pub bare : undashed word ≡ None
  pub mark : bytes_eq word (45 ∷ 45 ∷ []) ≡ false
  pub long : long_of word ≡ None
  pub short : short_of word ≡ None
  pub alone : joined word ≡ None
  pub behind : (value : Text) → apart word value ≡ None

-- a word that is an option by itself
pub record Attached (word name value : Text) : Type 0 where
  pub dash : is_dashed word ≡ true
  pub mark : bytes_eq word (45 ∷ 45 ∷ []) ≡ false
  pub long : long_of word ≡ Some (name, Some value)
  pub alone : joined word ≡ Some (name, value)

-- a word that is an option with the word behind it
pub record Waits (word name : Text) : Type 0 where
  pub dash : is_dashed word ≡ true
  pub bare : undashed word ≡ Some name
  pub mark : bytes_eq word (45 ∷ 45 ∷ []) ≡ false
  pub long : long_of word ≡ Some (name, None)
  pub alone : joined word ≡ None
  pub behind : (value : Text) → apart word value ≡ cond (is_dashed value) None (Some (name, value))

pub data Look (word : Text) : Type 0 where
  plain : Plain word → Look word
  attached : (name value : Text) → Attached word name value → Look word
  waits : (name : Text) → Waits word name → Look word

abbrev is_equals : ℕ → Bool
is_equals = λ b. b == 61

-- a text without `=` is its own part before it
before_none : (text : Text) → list_any is_equals text ≡ false → before_first is_equals text ≡ text
before_none [] none = refl
before_none (b ∷ text) none =
    elim (b == 61) as (λ v. (v || list_any is_equals text) ≡ false → take (cond (not v) (1 + position_or_len is_equals text) 0) (b ∷ text) ≡ b ∷ text) [
      | true ↦ λ bad. absurd (true≢false bad)
      | false ↦ λ rest.
          let one_more : 1 + position_or_len is_equals text ≡ suc (position_or_len is_equals text) = omega arith in
          ap (λ n. take n (b ∷ text)) one_more ∙ ap (λ t. b ∷ t) (before_none text rest)
    ] none

-- what stands behind two dashes is an option by itself, or waits for its value
option_look : (word text : Text) → is_dashed word ≡ true → bytes_eq word (45 ∷ 45 ∷ []) ≡ false → long_of word ≡ Some (name_and_value text) → undashed word ≡ Some text → Look word
option_look word text dash mark long bare =
    elim (list_any is_equals text) as (λ v. list_any is_equals text ≡ v → Look word) [
      | true ↦ λ has.
          attached (before_first is_equals text) (after_first is_equals text) (record {
            dash = dash;
            mark = mark;
            long = long ∙ ap (λ b. Some (before_first is_equals text, cond b (Some (after_first is_equals text)) None)) has;
            alone = ap (option_and_then around_equals) bare ∙ ap (λ b. cond b (Some (before_first is_equals text, after_first is_equals text)) None) has;
          })
      | false ↦ λ has.
          waits text (record {
            dash = dash;
            bare = bare;
            mark = mark;
            long = long ∙ ap (λ b. Some (before_first is_equals text, cond b (Some (after_first is_equals text)) None)) has
                ∙ ap (λ t. Some (t, None)) (before_none text has);
            alone = ap (option_and_then around_equals) bare ∙ ap (λ b. cond b (Some (before_first is_equals text, after_first is_equals text)) None) has;
            behind = λ value. ap (λ found. cond (is_dashed value) None (option_map (λ name. (name, value)) found)) bare;
          })
    ] refl

-- a word that has no two dashes at its front
plain_look : (word : Text) → is_dashed word ≡ false → bytes_eq word (45 ∷ 45 ∷ []) ≡ false → long_of word ≡ None → short_of word ≡ None → undashed word ≡ None → Look word
plain_look word dash mark long short bare =
    plain (record {
      dash = dash;
      bare = bare;
      mark = mark;
      long = long;
      short = short;
      alone = ap (option_and_then around_equals) bare;
      behind = λ value. ap (λ found. cond (is_dashed value) None (option_map (λ name. (name, value)) found)) bare
          ∙ elim (is_dashed value) as (λ v. cond {A = Option Given} v None None ≡ None) [ true ↦ refl | false ↦ refl ];
    })

differ : (a b : ℕ) → (a == b) ≡ false → (b == a) ≡ false
differ a b e = grind (arith, nat_tests)

same : (a b : ℕ) → (a == b) ≡ true → a ≡ b
same a b e = grind (arith, nat_tests)

-- a word whose first byte is no dash
undashed_look : (b : ℕ) (rest : Text) → (b == 45) ≡ false → Look (b ∷ rest)
undashed_look b rest other =
    plain_look (b ∷ rest) other (rw other refl) (rw other refl) (rw other refl) (rw (differ b 45 other) refl)

-- a word that begins with a dash
dashed_look : (rest : Text) → is_stray (45 ∷ rest) ≡ false → Look (45 ∷ rest)
dashed_look [] stray = absurd (true≢false stray)
dashed_look (c ∷ []) stray =
    elim (45 == c) as (λ v. (45 == c) ≡ v → Look (45 ∷ c ∷ [])) [
      | true ↦ λ e. absurd (true≢false (rw e at stray))
      | false ↦ λ e. absurd (true≢false (rw e at stray))
    ] refl
dashed_look (c ∷ d ∷ rest) stray =
    elim (45 == c) as (λ v. (45 == c) ≡ v → Look (45 ∷ c ∷ d ∷ rest)) [
      | true ↦ λ e.
          subst (λ x. Look (45 ∷ x ∷ d ∷ rest)) (same 45 c e) (option_look (45 ∷ 45 ∷ d ∷ rest) (d ∷ rest) refl refl refl refl)
      | false ↦ λ e. absurd (true≢false (rw e at stray))
    ] refl

-- each word that isn't stray is one of these
pub look : (word : Text) → is_stray word ≡ false → Look word
look [] stray = plain_look [] refl refl refl refl refl
look (b ∷ rest) stray =
    elim (b == 45) as (λ v. (b == 45) ≡ v → Look (b ∷ rest)) [
      | true ↦ λ e.
          let dash : b ≡ 45 = same b 45 e in
          subst (λ x. Look (x ∷ rest)) (sym dash) (dashed_look rest (subst (λ x. is_stray (x ∷ rest) ≡ false) dash stray))
      | false ↦ λ e. undashed_look b rest e
    ] refl
