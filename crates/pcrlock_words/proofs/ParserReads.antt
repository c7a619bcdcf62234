-- The parser of a table of options reads the options that words give.
use Rattle.std.proofs.Common.{◌≡◌, ℕ, Bool, true, false, cond, not, ◌&&◌, ◌||◌, List, [], ◌∷◌, ◌++◌, map, Option, Some, None, refl, sym, ap, ap₂, ◌∙◌, true≢false, append-nil}
use Rattle.std.specs.Prelude.{find, fold, option_map, not, codes}
use Rattle.std.specs.Option.{option_map_or}
use Rattle.std.specs.List.{list_any, list_all}
use Rattle.std.specs.Str.{bytes_eq}
use Rattle.std.proofs.lemmas.Slice.Eq.{bytes_eq-Decides}
use Rattle.clap.specs.Kinds.{Kinds, or_else}
use Rattle.clap.specs.Walk.{Held, Row, Rule, Text, Waiting, Walk, arg_by_id, arg_by_index, arg_by_long, at_row, has_row, idle, is_early_multiple, more_values, option, positional, reacted, subcommand_met, settled, takes_values, used, walk_from, walked}
use Rattle.clap.specs.Simple.{App, Shape, built, filled, filled_from, with_index, is_buildable, is_ready, is_ready_leaf}
use Rattle.clap.specs.Faults.{is_simple_and_free, settle_fault, turn_fault, use_fault, walk_fault, is_free_app}
use Rattle.clap.specs.declared.builder.action.ArgAction.{ArgAction}
use Rattle.clap.specs.declared.builder.action.ArgAction.TheVariants.{Set, SetTrue}
use Rattle.clap.specs.declared.builder.range.ValueRange.{ValueRange}
use Rattle.clap.specs.declared.builder.value_parser.ValueParser.{ValueParser}
use Rattle.clap.specs.declared.builder.value_parser.ValueParser.TheVariants as vp
use Rattle.clap.specs.declared.parser.matches.ValueSource.TheVariants.{CommandLine}
use Rattle.clap.specs.declared.error.kind.ErrorKind.TheVariants as kind
use Rattle.pcrlock_words.specs.Options.{Entry, Given, given, is_dashed, is_flag, is_known, onto, unless_flag}
use Rattle.pcrlock_words.specs.Parser.{empty_parser, is_stray, parser_for, row_for, rule_for}
use Rattle.pcrlock_words.proofs.ParserWords.{Plain, Attached, Waits, Look, look, plain, attached, waits}

-- ---- the parser as built

-- so many values
abbrev exactly : ℕ → ValueRange
exactly n = record { start_inclusive = n; end_inclusive = n }

-- what a use of an option does, and how many values it has
abbrev built_action : Bool → ArgAction
built_action flag = cond flag SetTrue Set

abbrev pub built_parser_of : Bool → ValueParser
built_parser_of flag = cond flag vp.Bool vp.String

abbrev built_range : Bool → ValueRange
built_range flag = exactly (cond flag 0 1)

abbrev pub flag_value : Bool → Text → List Text
flag_value flag value = cond flag (value ∷ []) []

-- the argument of an option, with what building adds
abbrev pub built_rule : Entry → Rule
built_rule entry = record (rule_for entry) {
  action = Some (built_action entry.is_flag);
  parser = Some (built_parser_of entry.is_flag);
  range = Some (built_range entry.is_flag);
  defaults = flag_value entry.is_flag (codes "false");
  missing = flag_value entry.is_flag (codes "true");
}

abbrev pub rules : List Entry → List Rule
rules entries = map built_rule entries

abbrev shape_with : List Rule → Shape
shape_with args = record empty_parser.top { rules = args; is_built = true; disable_help_subcommand = true }

abbrev app_with : List Rule → App
app_with args = record { top = shape_with args; subs = [] }

abbrev pub shape : List Entry → Shape
shape entries = shape_with (rules entries)

-- what building adds to one argument
filled_rule : (entry : Entry) → with_index 1 (filled (rule_for entry)) ≡ built_rule entry
filled_rule entry =
    elim entry.is_flag as (λ b. with_index 1 (filled (rule_for (record entry { is_flag = b }))) ≡ built_rule (record entry { is_flag = b })) [
      | true ↦ refl
      | false ↦ refl
    ]

filled_rules : (entries : List Entry) → filled_from 1 (map rule_for entries) ≡ rules entries
filled_rules [] = refl
filled_rules (entry ∷ entries) = ap₂ (λ arg args. arg ∷ args) (filled_rule entry) (filled_rules entries)

pub built_is : (entries : List Entry) → built (parser_for entries) ≡ app_with (rules entries)
built_is entries = ap app_with (filled_rules entries)

-- ---- the parser is simple

simple_before : (entries : List Entry) → list_all (λ (a : Rule). a.is_simple) (map rule_for entries) ≡ true
simple_before [] = refl
simple_before (entry ∷ entries) = simple_before entries

simple_after : (entries : List Entry) → list_all (λ (a : Rule). a.is_simple) (rules entries) ≡ true
simple_after [] = refl
simple_after (entry ∷ entries) = simple_after entries

free_after : (entries : List Entry) → list_all (λ (a : Rule). a.is_free) (rules entries) ≡ true
free_after [] = refl
free_after (entry ∷ entries) = free_after entries

none_early : (n : ℕ) (entries : List Entry) → list_any (is_early_multiple n) (rules entries) ≡ false
none_early n [] = refl
none_early n (entry ∷ entries) = none_early n entries

pub is_simple_parser : (entries : List Entry) → is_simple_and_free (parser_for entries) ≡ true
is_simple_parser entries =
    ap (λ (a : App). (is_buildable (parser_for entries) && (is_ready a.top && list_all is_ready_leaf a.subs)) && is_free_app a) (built_is entries)
    ∙ rw (simple_before entries, simple_after entries, none_early _ entries, free_after entries) refl

-- ---- kinds

abbrev pub none : Kinds → Bool
none [] = true
none (k ∷ ks) = false

none_both : {X : Type 0} (a b : Kinds) (c : Bool) (x y : X) → cond (none (or_else a b) && c) x y ≡ cond (none a) (cond (none b && c) x y) y
none_both [] b c x y = refl
none_both (k ∷ ks) b c x y = refl

none_or : (a b : Kinds) → none (or_else (or_else a b) []) ≡ (none a && none b)
none_or [] [] = refl
none_or [] (k ∷ ks) = refl
none_or (k ∷ ks) b = refl

none_or_nothing : (a : Kinds) → none (or_else a []) ≡ none a
none_or_nothing [] = refl
none_or_nothing (k ∷ ks) = refl

bytes_eq-same : (text : Text) → bytes_eq text text ≡ true
bytes_eq-same text = (bytes_eq-Decides text text).1 refl

pub or_false : (a b : Bool) → (a || b) ≡ false → (a ≡ false) × (b ≡ false)
or_false true b e = absurd (true≢false e)
or_false false b e = (refl, e)

-- ---- rows

pub at_no_row : (id : Text) (change : Row → List Row) (missing rows : List Row) → has_row id rows ≡ false → at_row id change missing rows ≡ rows ++ missing
at_no_row id change missing [] absent = refl
at_no_row id change missing (r ∷ rows) absent =
    elim (bytes_eq r.id id) as (λ b. (b || has_row id rows) ≡ false → cond b (change r ++ rows) (r ∷ at_row id change missing rows) ≡ r ∷ (rows ++ missing)) [
      | true ↦ λ bad. absurd (true≢false bad)
      | false ↦ λ rest. ap (λ more. r ∷ more) (at_no_row id change missing rows rest)
    ] absent

-- the rows with one of an option that has none yet
abbrev put_row : Text → Text → List Row → List Row
put_row name value rows =
    at_row name (more_values CommandLine (value ∷ [])) (row_for (name, value) ∷ []) (at_row name (λ _. []) [] rows)

put_new : (name value : Text) (rows : List Row) → has_row name rows ≡ false → put_row name value rows ≡ rows ++ row_for (name, value) ∷ []
put_new name value rows absent =
    let more : Row → List Row = more_values CommandLine (value ∷ []) in
    let row : List Row = row_for (name, value) ∷ [] in
    ap (at_row name more row) (at_no_row name (λ _. []) [] rows absent ∙ append-nil rows) ∙ at_no_row name more row rows absent

conflict_again : (again : Bool) → none (or_else (cond (again && true) (kind.ArgumentConflict ∷ []) []) []) ≡ not again
conflict_again true = refl
conflict_again false = refl

-- a use of an option with these words as its values: it has one value then, and may be used once
pub record UsedOnce (entry : Entry) (words : List Text) (value : Text) : Type 0 where
  pub new : (rows : List Row) → has_row entry.name rows ≡ false → used (built_rule entry) words rows ≡ rows ++ row_for (entry.name, value) ∷ []
  pub again : (rows : List Row) → none (use_fault false (built_rule entry) words rows) ≡ not (has_row entry.name rows)

-- an option is used with its value
value_used : (entry : Entry) (value : Text) → entry.is_flag ≡ false → UsedOnce entry (value ∷ []) value
value_used entry value kind = record {
  new = λ rows absent. rw kind (put_new entry.name value rows absent);
  again = λ rows. rw kind (conflict_again (has_row entry.name rows));
}

-- a flag is used alone
flag_used : (entry : Entry) → entry.is_flag ≡ true → UsedOnce entry [] (codes "true")
flag_used entry kind = record {
  new = λ rows absent. rw kind (put_new entry.name (codes "true") rows absent);
  again = λ rows. rw kind (conflict_again (has_row entry.name rows));
}

-- ---- look-ups

by_long : (entries : List Entry) (name : Text) → arg_by_long (rules entries) name ≡ option_map built_rule (find (λ entry. bytes_eq entry.name name) entries)
by_long [] name = refl
by_long (entry ∷ entries) name =
    elim (bytes_eq entry.name name) as (λ b. cond (b || false) (Some (built_rule entry)) (arg_by_long (rules entries) name) ≡ option_map built_rule (cond b (Some entry) (find (λ e. bytes_eq e.name name) entries))) [
      | true ↦ refl
      | false ↦ by_long entries name
    ]

by_id : (entries : List Entry) (name : Text) → arg_by_id (rules entries) name ≡ option_map built_rule (find (λ entry. bytes_eq entry.name name) entries)
by_id [] name = refl
by_id (entry ∷ entries) name =
    elim (bytes_eq entry.name name) as (λ b. cond b (Some (built_rule entry)) (arg_by_id (rules entries) name) ≡ option_map built_rule (cond b (Some entry) (find (λ e. bytes_eq e.name name) entries))) [
      | true ↦ refl
      | false ↦ by_id entries name
    ]

by_index : (entries : List Entry) (i : ℕ) → arg_by_index (rules entries) i ≡ None
by_index [] i = refl
by_index (entry ∷ entries) i = by_index entries i

no_entry : (entries : List Entry) (name : Text) → is_known entries name ≡ false → find (λ (entry : Entry). bytes_eq entry.name name) entries ≡ None
no_entry [] name unknown = refl
no_entry (entry ∷ entries) name unknown =
    elim (bytes_eq entry.name name) as (λ b. (b || is_known entries name) ≡ false → cond b (Some entry) (find (λ (e : Entry). bytes_eq e.name name) entries) ≡ None) [
      | true ↦ λ bad. absurd (true≢false bad)
      | false ↦ λ rest. no_entry entries name rest
    ] unknown

-- the option of a name that is known
pub record Known (entries : List Entry) (name : Text) : Type 0 where
  pub entry : Entry
  pub named : entry.name ≡ name
  pub kind : is_flag entries name ≡ entry.is_flag
  pub long : arg_by_long (rules entries) name ≡ Some (built_rule entry)
  pub id : arg_by_id (rules entries) entry.name ≡ Some (built_rule entry)

entry_found : (entries : List Entry) (name : Text) → is_known entries name ≡ true → (found : Entry) × (find (λ (entry : Entry). bytes_eq entry.name name) entries ≡ Some found) × (found.name ≡ name)
entry_found [] name known = absurd (true≢false (sym known))
entry_found (entry ∷ entries) name known =
    elim (bytes_eq entry.name name) as (λ b. bytes_eq entry.name name ≡ b → (b || is_known entries name) ≡ true → (found : Entry) × (cond b (Some entry) (find (λ (e : Entry). bytes_eq e.name name) entries) ≡ Some found) × (found.name ≡ name)) [
      | true ↦ λ e _. (entry, refl, (bytes_eq-Decides entry.name name).0 e)
      | false ↦ λ _ rest. entry_found entries name rest
    ] refl known

-- whether what was found is a flag
abbrev found_flag : Option Entry → Bool
found_flag found = option_map_or (λ (entry : Entry). entry.is_flag) found false

known_entry : (entries : List Entry) (name : Text) → is_known entries name ≡ true → Known entries name
known_entry entries name known =
    let found = entry_found entries name known in
    record {
      entry = found.0;
      named = found.2;
      kind = ap found_flag found.1;
      long = by_long entries name ∙ ap (option_map built_rule) found.1;
      id = ap (arg_by_id (rules entries)) found.2 ∙ by_id entries name ∙ ap (option_map built_rule) found.1;
    }

unknown_entry : (entries : List Entry) (name : Text) → is_known entries name ≡ false → arg_by_long (rules entries) name ≡ None
unknown_entry entries name unknown = by_long entries name ∙ ap (option_map built_rule) (no_entry entries name unknown)

-- no flag has a name that isn't known
pub unknown_flag : (entries : List Entry) (name : Text) → is_known entries name ≡ false → is_flag entries name ≡ false
unknown_flag entries name unknown = ap found_flag (no_entry entries name unknown)

value_taken : (entry : Entry) → entry.is_flag ≡ false → takes_values (built_rule entry) ≡ true
value_taken entry kind = rw kind refl

none_taken : (entry : Entry) → entry.is_flag ≡ true → takes_values (built_rule entry) ≡ false
none_taken entry kind = rw kind refl

-- ---- options after rows

-- the rows with those of further options, where each is known and has no row yet
abbrev pub adds : List Entry → List Row → Option (List Given) → Option (List Row)
adds entries rows None = None
adds entries rows (Some []) = Some rows
adds entries rows (Some (one ∷ more)) =
    cond (is_known entries one.0 && not (has_row one.0 rows)) (adds entries (rows ++ row_for one ∷ []) (Some more)) None

adds_onto : (entries : List Entry) (rows : List Row) (one : Given) (rest : Option (List Given)) → adds entries rows (onto (Some one) rest) ≡ cond (is_known entries one.0 && not (has_row one.0 rows)) (adds entries (rows ++ row_for one ∷ []) rest) None
adds_onto entries rows one None =
    elim (is_known entries one.0 && not (has_row one.0 rows)) as (λ b. None ≡ cond {A = Option (List Row)} b None None) [ true ↦ refl | false ↦ refl ]
adds_onto entries rows one (Some more) = refl

adds_unknown : (entries : List Entry) (rows : List Row) (one : Given) (rest : Option (List Given)) → is_known entries one.0 ≡ false → adds entries rows (onto (Some one) rest) ≡ None
adds_unknown entries rows one rest unknown = adds_onto entries rows one rest ∙ rw unknown refl

cond_none : (b : Bool) → None ≡ cond {A = Option (List Row)} b None None
cond_none true = refl
cond_none false = refl

-- one more option, given with its value
add_known : (entries : List Entry) (rows : List Row) (name value : Text) (words : List Text) (entry : Entry) (rest : Option (List Given)) → is_known entries name ≡ true → entry.name ≡ name → UsedOnce entry words value
    → cond (none (use_fault false (built_rule entry) words rows)) (adds entries (used (built_rule entry) words rows) rest) None ≡ adds entries rows (onto (Some (name, value)) rest)
add_known entries rows name value words entry rest known named once =
    ap (λ b. cond b (adds entries (used (built_rule entry) words rows) rest) None) (once.again rows)
    ∙ elim (has_row entry.name rows) as (λ b. has_row entry.name rows ≡ b → cond (not b) (adds entries (used (built_rule entry) words rows) rest) None ≡ cond (not b) (adds entries (rows ++ row_for (entry.name, value) ∷ []) rest) None) [
      | true ↦ λ _. refl
      | false ↦ λ absent. ap (λ more. adds entries more rest) (once.new rows absent)
    ] refl
    ∙ ap (λ n. cond (not (has_row n rows)) (adds entries (rows ++ row_for (n, value) ∷ []) rest) None) named
    ∙ ap (λ b. cond (b && not (has_row name rows)) (adds entries (rows ++ row_for (name, value) ∷ []) rest) None) (sym known)
    ∙ sym (adds_onto entries rows (name, value) rest)

-- ---- one word

module _ (entries : List Entry) where
  -- the fault of one word, and the walk after it
  abbrev fault : Walk → Text → Kinds
  fault w word = turn_fault (shape entries) [] w word

  abbrev after : Walk → Text → Walk
  after w word = walked (rules entries) [] w word

  -- what is wrong with what is held, and the rows of it
  abbrev pub held_fault : Held → Kinds
  held_fault h = settle_fault (rules entries) false h

  abbrev pub held_rows : Held → List Row
  held_rows h = (settled (rules entries) h).rows

  -- a word that is no option, where none waits for its value
  plain_faults : (h : Held) (word : Text) → Plain word → none (fault (walk_from h) word) ≡ false
  plain_faults h word looks = rw (looks.mark, looks.long, looks.short, by_index entries 1) refl

  -- where an option waits for its value, or none does
  abbrev at : Waiting → Held → Walk
  at waiting h = record (walk_from h) { waiting = waiting }

  no_subcommand : (waiting : Waiting) (word : Text) → subcommand_met [] waiting word ≡ None
  no_subcommand idle word = refl
  no_subcommand (option id) word = refl
  no_subcommand positional word = refl

  -- an option that isn't known
  attached_unknown : (waiting : Waiting) (h : Held) (word name value : Text) → Attached word name value → is_known entries name ≡ false → none (fault (at waiting h) word) ≡ false
  attached_unknown waiting h word name value looks unknown =
      rw (no_subcommand waiting word, looks.mark, looks.long, unknown_entry entries name unknown) refl

  waits_unknown : (waiting : Waiting) (h : Held) (word name : Text) → Waits word name → is_known entries name ≡ false → none (fault (at waiting h) word) ≡ false
  waits_unknown waiting h word name looks unknown =
      rw (no_subcommand waiting word, looks.mark, looks.long, unknown_entry entries name unknown) refl

  -- an option by itself
  attached_fault : (waiting : Waiting) (h : Held) (word name value : Text) (known : Known entries name) → known.entry.is_flag ≡ false → Attached word name value → none (fault (at waiting h) word) ≡ (none (held_fault h) && none (use_fault false (built_rule known.entry) (value ∷ []) (held_rows h)))
  attached_fault waiting h word name value known kind looks =
      rw (no_subcommand waiting word, looks.mark, looks.long, known.long, value_taken known.entry kind) (none_or (held_fault h) (use_fault false (built_rule known.entry) (value ∷ []) (held_rows h)))

  attached_after : (h : Held) (word name value : Text) (known : Known entries name) → known.entry.is_flag ≡ false → Attached word name value → after (walk_from h) word ≡ walk_from (reacted (rules entries) (built_rule known.entry) (value ∷ []) h)
  unfolding walked
  attached_after h word name value known kind looks =
      rw (looks.mark, looks.long, known.long, value_taken known.entry kind) refl

  -- a flag takes no value
  flag_with_value : (waiting : Waiting) (h : Held) (word name value : Text) (known : Known entries name) → known.entry.is_flag ≡ true → Attached word name value → none (fault (at waiting h) word) ≡ false
  flag_with_value waiting h word name value known kind looks =
      rw (no_subcommand waiting word, looks.mark, looks.long, known.long, none_taken known.entry kind) refl

  -- a flag
  flag_fault : (waiting : Waiting) (h : Held) (word name : Text) (known : Known entries name) → known.entry.is_flag ≡ true → Waits word name → none (fault (at waiting h) word) ≡ (none (held_fault h) && none (use_fault false (built_rule known.entry) [] (held_rows h)))
  flag_fault waiting h word name known kind looks =
      rw (no_subcommand waiting word, looks.mark, looks.long, known.long, none_taken known.entry kind) (none_or (held_fault h) (use_fault false (built_rule known.entry) [] (held_rows h)))

  flag_after : (h : Held) (word name : Text) (known : Known entries name) → known.entry.is_flag ≡ true → Waits word name → after (walk_from h) word ≡ walk_from (reacted (rules entries) (built_rule known.entry) [] h)
  unfolding walked
  flag_after h word name known kind looks = rw (looks.mark, looks.long, known.long, none_taken known.entry kind) refl

  -- an option that waits for its value
  waits_fault : (waiting : Waiting) (h : Held) (word name : Text) (known : Known entries name) → known.entry.is_flag ≡ false → Waits word name → none (fault (at waiting h) word) ≡ none (held_fault h)
  waits_fault waiting h word name known kind looks =
      rw (no_subcommand waiting word, looks.mark, looks.long, known.long, value_taken known.entry kind) (none_or_nothing (held_fault h))

  -- what is held while an option waits, with the values that it has
  abbrev waiting_for : Text → List Text → Held → Held
  waiting_for id values h = record h { rows = held_rows h; pending = Some (id, values) }

  waits_after : (h : Held) (word name : Text) (known : Known entries name) → known.entry.is_flag ≡ false → Waits word name → after (walk_from h) word ≡ at (option known.entry.name) (waiting_for known.entry.name [] h)
  unfolding walked
  waits_after h word name known kind looks = rw (looks.mark, looks.long, known.long, value_taken known.entry kind) refl

  -- no option may stay without its value
  nothing_waits : (h : Held) (name : Text) (known : Known entries name) → known.entry.is_flag ≡ false → none (held_fault (waiting_for known.entry.name [] h)) ≡ false
  nothing_waits h name known kind = rw (known.id, kind) refl

  -- the value of an option that waits
  value_fault : (h : Held) (id word : Text) → Plain word → fault (at (option id) h) word ≡ []
  value_fault h id word looks = rw (looks.mark, looks.long, looks.short) refl

  value_after : (h : Held) (word name : Text) (known : Known entries name) → known.entry.is_flag ≡ false → Plain word → after (at (option known.entry.name) (waiting_for known.entry.name [] h)) word ≡ walk_from (waiting_for known.entry.name (word ∷ []) h)
  unfolding walked
  value_after h word name known kind looks =
      rw (looks.mark, looks.long, looks.short, known.id, bytes_eq-same known.entry.name, kind) refl

  -- ---- all the words

  -- the rows at the end of a walk, where nothing is wrong with the words
  abbrev pub reading : Walk → List Text → Option (List Row)
  reading w words =
      let end = (fold (walked (rules entries) []) w words).held in
      cond (none (walk_fault (shape entries) [] w words) && none (held_fault end)) (Some (held_rows end)) None

  -- the rows with those of the options, where nothing is wrong with what is held
  abbrev adds_held : Held → Option (List Given) → Option (List Row)
  adds_held h options = cond (none (held_fault h)) (adds entries (held_rows h) options) None

  one_word : (w : Walk) (word : Text) (rest : List Text) → reading w (word ∷ rest) ≡ cond (none (fault w word)) (reading (after w word) rest) None
  unfolding walk_fault
  one_word w word rest =
      none_both (fault w word) (walk_fault (shape entries) [] (after w word) rest) (none (held_fault (fold (walked (rules entries) []) (after w word) rest).held)) (Some (held_rows (fold (walked (rules entries) []) (after w word) rest).held)) None

  faulty_word : (w : Walk) (word : Text) (rest : List Text) → none (fault w word) ≡ false → reading w (word ∷ rest) ≡ None
  faulty_word w word rest faulty = one_word w word rest ∙ ap (λ b. cond b (reading (after w word) rest) None) faulty

  no_words : (w : Walk) → reading w [] ≡ cond (none (held_fault w.held)) (Some (held_rows w.held)) None
  unfolding walk_fault
  no_words w = refl

  held_none : (h : Held) (options : Option (List Given)) → options ≡ None → None ≡ adds_held h options
  held_none h options nothing = cond_none (none (held_fault h)) ∙ ap (adds_held h) (sym nothing)

  held_unknown : (h : Held) (one : Given) (more : Option (List Given)) → is_known entries one.0 ≡ false → None ≡ adds_held h (onto (Some one) more)
  held_unknown h one more unknown =
      cond_none (none (held_fault h)) ∙ ap (λ rows. cond (none (held_fault h)) rows None) (sym (adds_unknown entries (held_rows h) one more unknown))

  -- ---- what words give

  given_plain : (word : Text) (rest : List Text) → Plain word → given entries (word ∷ rest) ≡ None
  given_plain word [] looks = rw (looks.alone, looks.bare) refl
  given_plain word (value ∷ words) looks = rw (looks.alone, looks.behind value, looks.bare) refl

  -- an option that isn't a flag, and one that is
  kept : (name value : Text) → is_flag entries name ≡ false → unless_flag entries (name, value) ≡ Some (name, value)
  kept name value other = ap (λ b. cond b None (Some (name, value))) other

  refused : (name value : Text) → is_flag entries name ≡ true → unless_flag entries (name, value) ≡ None
  refused name value flag = ap (λ b. cond b None (Some (name, value))) flag

  given_attached : (word name value : Text) (rest : List Text) → Attached word name value → given entries (word ∷ rest) ≡ onto (unless_flag entries (name, value)) (given entries rest)
  given_attached word name value [] looks = rw looks.alone refl
  given_attached word name value (next ∷ words) looks = rw looks.alone refl

  given_flag : (word name : Text) (rest : List Text) → Waits word name → is_flag entries name ≡ true → given entries (word ∷ rest) ≡ onto (Some (name, codes "true")) (given entries rest)
  given_flag word name [] looks flag = rw (looks.alone, looks.bare, flag) refl
  given_flag word name (value ∷ words) looks flag = rw (looks.alone, looks.bare, flag) refl

  given_nothing : (word name : Text) → Waits word name → is_flag entries name ≡ false → given entries (word ∷ []) ≡ None
  given_nothing word name looks other = rw (looks.alone, looks.bare, other) refl

  given_waits : (word name value : Text) (words : List Text) → Waits word name → is_flag entries name ≡ false → given entries (word ∷ value ∷ words) ≡ onto (cond (is_dashed value) None (Some (name, value))) (given entries words)
  given_waits word name value words looks other = rw (looks.alone, looks.behind value, looks.bare, other) refl

  both_none : (a b : Bool) (x : Option (List Row)) → cond (a && b) x None ≡ cond a (cond b x None) None
  both_none true b x = refl
  both_none false b x = refl

  -- ---- words that are an option by themselves

  -- an option with its value, and then the others
  reads_known : (h : Held) (word name value : Text) (rest : List Text) (known : Known entries name) → is_known entries name ≡ true → known.entry.is_flag ≡ false → Attached word name value → ((next : Held) → reading (walk_from next) rest ≡ adds_held next (given entries rest)) → reading (walk_from h) (word ∷ rest) ≡ adds_held h (onto (Some (name, value)) (given entries rest))
  reads_known h word name value rest known is_known kind looks others =
      let rule = built_rule known.entry in
      let next : Held = reacted (rules entries) rule (value ∷ []) h in
      one_word (walk_from h) word rest
      ∙ ap₂ (λ b w. cond b (reading w rest) None) (attached_fault idle h word name value known kind looks) (attached_after h word name value known kind looks)
      ∙ both_none (none (held_fault h)) (none (use_fault false rule (value ∷ []) (held_rows h))) (reading (walk_from next) rest)
      ∙ ap (λ rows. cond (none (held_fault h)) (cond (none (use_fault false rule (value ∷ []) (held_rows h))) rows None) None) (others next)
      ∙ ap (λ rows. cond (none (held_fault h)) rows None) (add_known entries (held_rows h) name value (value ∷ []) known.entry (given entries rest) is_known known.named (value_used known.entry value kind))

  reads_attached : (h : Held) (word name value : Text) (rest : List Text) → Attached word name value → ((next : Held) → reading (walk_from next) rest ≡ adds_held next (given entries rest)) → reading (walk_from h) (word ∷ rest) ≡ adds_held h (given entries (word ∷ rest))
  reads_attached h word name value rest looks others =
      elim (is_known entries name) as (λ b. is_known entries name ≡ b → reading (walk_from h) (word ∷ rest) ≡ adds_held h (onto (unless_flag entries (name, value)) (given entries rest))) [
        | false ↦ λ unknown.
            faulty_word (walk_from h) word rest (attached_unknown idle h word name value looks unknown)
            ∙ held_unknown h (name, value) (given entries rest) unknown
            ∙ ap (λ one. adds_held h (onto one (given entries rest))) (sym (kept name value (unknown_flag entries name unknown)))
        | true ↦ λ is_known.
            let known = known_entry entries name is_known in
            elim known.entry.is_flag as (λ b. known.entry.is_flag ≡ b → reading (walk_from h) (word ∷ rest) ≡ adds_held h (onto (unless_flag entries (name, value)) (given entries rest))) [
              | true ↦ λ kind.
                  faulty_word (walk_from h) word rest (flag_with_value idle h word name value known kind looks)
                  ∙ held_none h (onto (unless_flag entries (name, value)) (given entries rest)) (ap (λ one. onto one (given entries rest)) (refused name value (known.kind ∙ kind)))
              | false ↦ λ kind.
                  reads_known h word name value rest known is_known kind looks others
                  ∙ ap (λ one. adds_held h (onto one (given entries rest))) (sym (kept name value (known.kind ∙ kind)))
            ] refl
      ] refl
      ∙ ap (adds_held h) (sym (given_attached word name value rest looks))

  -- a flag, and then the others
  reads_flag : (h : Held) (word name : Text) (rest : List Text) (known : Known entries name) → is_known entries name ≡ true → known.entry.is_flag ≡ true → Waits word name → ((next : Held) → reading (walk_from next) rest ≡ adds_held next (given entries rest)) → reading (walk_from h) (word ∷ rest) ≡ adds_held h (given entries (word ∷ rest))
  reads_flag h word name rest known is_known kind looks others =
      let rule = built_rule known.entry in
      let next : Held = reacted (rules entries) rule [] h in
      one_word (walk_from h) word rest
      ∙ ap₂ (λ b w. cond b (reading w rest) None) (flag_fault idle h word name known kind looks) (flag_after h word name known kind looks)
      ∙ both_none (none (held_fault h)) (none (use_fault false rule [] (held_rows h))) (reading (walk_from next) rest)
      ∙ ap (λ rows. cond (none (held_fault h)) (cond (none (use_fault false rule [] (held_rows h))) rows None) None) (others next)
      ∙ ap (λ rows. cond (none (held_fault h)) rows None) (add_known entries (held_rows h) name (codes "true") [] known.entry (given entries rest) is_known known.named (flag_used known.entry kind))
      ∙ ap (adds_held h) (sym (given_flag word name rest looks (known.kind ∙ kind)))

  -- ---- words that wait for a value

  -- an option with no word behind it
  reads_alone : (h : Held) (word name : Text) → Waits word name → reading (walk_from h) (word ∷ []) ≡ adds_held h (given entries (word ∷ []))
  reads_alone h word name looks =
      elim (is_known entries name) as (λ b. is_known entries name ≡ b → reading (walk_from h) (word ∷ []) ≡ adds_held h (given entries (word ∷ []))) [
        | false ↦ λ unknown.
            faulty_word (walk_from h) word [] (waits_unknown idle h word name looks unknown)
            ∙ held_none h (given entries (word ∷ [])) (given_nothing word name looks (unknown_flag entries name unknown))
        | true ↦ λ is_known.
            let known = known_entry entries name is_known in
            elim known.entry.is_flag as (λ b. known.entry.is_flag ≡ b → reading (walk_from h) (word ∷ []) ≡ adds_held h (given entries (word ∷ []))) [
              | true ↦ λ kind. reads_flag h word name [] known is_known kind looks (λ next. no_words (walk_from next))
              | false ↦ λ kind.
                  let held : Held = waiting_for known.entry.name [] h in
                  one_word (walk_from h) word []
                  ∙ ap₂ (λ b w. cond b (reading w []) None) (waits_fault idle h word name known kind looks) (waits_after h word name known kind looks)
                  ∙ ap (λ rows. cond (none (held_fault h)) rows None) (no_words (at (option known.entry.name) held) ∙ ap (λ b. cond b (Some (held_rows held)) None) (nothing_waits h name known kind))
                  ∙ sym (cond_none (none (held_fault h)))
                  ∙ held_none h (given entries (word ∷ [])) (given_nothing word name looks (known.kind ∙ kind))
            ] refl
      ] refl

  -- a word that begins with a dash is no value
  module _ (h : Held) (name word : Text) (known : Known entries name) (kind : known.entry.is_flag ≡ false) where
    -- while the option waits
    abbrev here : Held
    here = waiting_for known.entry.name [] h

    attached_refused : (other value : Text) → Attached word other value → none (fault (at (option known.entry.name) here) word) ≡ false
    attached_refused other value looks =
        elim (is_known entries other) as (λ b. is_known entries other ≡ b → none (fault (at (option known.entry.name) here) word) ≡ false) [
          | false ↦ λ unknown. attached_unknown (option known.entry.name) here word other value looks unknown
          | true ↦ λ is_known.
              let next = known_entry entries other is_known in
              elim next.entry.is_flag as (λ b. next.entry.is_flag ≡ b → none (fault (at (option known.entry.name) here) word) ≡ false) [
                | true ↦ λ flag. flag_with_value (option known.entry.name) here word other value next flag looks
                | false ↦ λ plain.
                    attached_fault (option known.entry.name) here word other value next plain looks
                    ∙ ap (λ b. b && none (use_fault false (built_rule next.entry) (value ∷ []) (held_rows here))) (nothing_waits h name known kind)
              ] refl
        ] refl

    waits_refused : (other : Text) → Waits word other → none (fault (at (option known.entry.name) here) word) ≡ false
    waits_refused other looks =
        elim (is_known entries other) as (λ b. is_known entries other ≡ b → none (fault (at (option known.entry.name) here) word) ≡ false) [
          | false ↦ λ unknown. waits_unknown (option known.entry.name) here word other looks unknown
          | true ↦ λ is_known.
              let next = known_entry entries other is_known in
              elim next.entry.is_flag as (λ b. next.entry.is_flag ≡ b → none (fault (at (option known.entry.name) here) word) ≡ false) [
                | true ↦ λ flag.
                    flag_fault (option known.entry.name) here word other next flag looks
                    ∙ ap (λ b. b && none (use_fault false (built_rule next.entry) [] (held_rows here))) (nothing_waits h name known kind)
                | false ↦ λ plain.
                    waits_fault (option known.entry.name) here word other next plain looks
                    ∙ nothing_waits h name known kind
              ] refl
        ] refl

    dashed_faults : is_dashed word ≡ true → Look word → none (fault (at (option known.entry.name) here) word) ≡ false
    dashed_faults dash (plain looks) = absurd (true≢false (sym dash ∙ looks.dash))
    dashed_faults dash (attached other value looks) = attached_refused other value looks
    dashed_faults dash (waits other looks) = waits_refused other looks

  plain_of : (word : Text) → Look word → is_dashed word ≡ false → Plain word
  plain_of word (plain looks) bare = looks
  plain_of word (attached name value looks) bare = absurd (true≢false (sym looks.dash ∙ bare))
  plain_of word (waits name looks) bare = absurd (true≢false (sym looks.dash ∙ bare))

  -- what is held of an option with its value
  held_value : (h : Held) (name value : Text) (known : Known entries name) (rest : Option (List Given)) → adds_held (waiting_for known.entry.name (value ∷ []) h) rest ≡ cond (none (use_fault false (built_rule known.entry) (value ∷ []) (held_rows h))) (adds entries (used (built_rule known.entry) (value ∷ []) (held_rows h)) rest) None
  held_value h name value known rest = rw known.id refl

  -- the word behind an option that waits, and then the others
  reads_value : (h : Held) (name value : Text) (words : List Text) (known : Known entries name) → is_known entries name ≡ true → known.entry.is_flag ≡ false → Look value → ((next : Held) → reading (walk_from next) words ≡ adds_held next (given entries words)) → reading (at (option known.entry.name) (waiting_for known.entry.name [] h)) (value ∷ words) ≡ adds entries (held_rows h) (onto (cond (is_dashed value) None (Some (name, value))) (given entries words))
  reads_value h name value words known is_known kind looks others =
      elim (is_dashed value) as (λ b. is_dashed value ≡ b → reading (at (option known.entry.name) (waiting_for known.entry.name [] h)) (value ∷ words) ≡ adds entries (held_rows h) (onto (cond b None (Some (name, value))) (given entries words))) [
        | true ↦ λ dash.
            faulty_word (at (option known.entry.name) (waiting_for known.entry.name [] h)) value words (dashed_faults h name value known kind dash looks)
        | false ↦ λ plain_value.
            let bare = plain_of value looks plain_value in
            let held : Held = waiting_for known.entry.name (value ∷ []) h in
            one_word (at (option known.entry.name) (waiting_for known.entry.name [] h)) value words
            ∙ ap₂ (λ k w. cond (none k) (reading w words) None) (value_fault (waiting_for known.entry.name [] h) known.entry.name value bare) (value_after h value name known kind bare)
            ∙ others held
            ∙ held_value h name value known (given entries words)
            ∙ add_known entries (held_rows h) name value (value ∷ []) known.entry (given entries words) is_known known.named (value_used known.entry value kind)
      ] refl

  -- an option that isn't known, and the word behind it
  unknown_apart : (h : Held) (word name value : Text) (words : List Text) → Waits word name → is_known entries name ≡ false → reading (walk_from h) (word ∷ value ∷ words) ≡ adds_held h (onto (cond (is_dashed value) None (Some (name, value))) (given entries words))
  unknown_apart h word name value words looks unknown =
      faulty_word (walk_from h) word (value ∷ words) (waits_unknown idle h word name looks unknown)
      ∙ elim (is_dashed value) as (λ b. None ≡ adds_held h (onto (cond b None (Some (name, value))) (given entries words))) [
        | true ↦ cond_none (none (held_fault h))
        | false ↦ held_unknown h (name, value) (given entries words) unknown
      ]

  -- an option that is, and the word behind it
  known_apart : (h : Held) (word name value : Text) (words : List Text) (known : Known entries name) → is_known entries name ≡ true → known.entry.is_flag ≡ false → Waits word name → Look value → ((next : Held) → reading (walk_from next) words ≡ adds_held next (given entries words)) → reading (walk_from h) (word ∷ value ∷ words) ≡ adds_held h (onto (cond (is_dashed value) None (Some (name, value))) (given entries words))
  known_apart h word name value words known is_known kind looks value_looks others =
      one_word (walk_from h) word (value ∷ words)
      ∙ ap₂ (λ b w. cond b (reading w (value ∷ words)) None) (waits_fault idle h word name known kind looks) (waits_after h word name known kind looks)
      ∙ ap (λ rows. cond (none (held_fault h)) rows None) (reads_value h name value words known is_known kind value_looks others)

  reads_apart : (h : Held) (word name value : Text) (words : List Text) → Waits word name → Look value → ((next : Held) → reading (walk_from next) words ≡ adds_held next (given entries words)) → ((next : Held) → reading (walk_from next) (value ∷ words) ≡ adds_held next (given entries (value ∷ words))) → reading (walk_from h) (word ∷ value ∷ words) ≡ adds_held h (given entries (word ∷ value ∷ words))
  reads_apart h word name value words looks value_looks others all =
      elim (is_known entries name) as (λ b. is_known entries name ≡ b → reading (walk_from h) (word ∷ value ∷ words) ≡ adds_held h (given entries (word ∷ value ∷ words))) [
        | false ↦ λ unknown.
            unknown_apart h word name value words looks unknown
            ∙ ap (adds_held h) (sym (given_waits word name value words looks (unknown_flag entries name unknown)))
        | true ↦ λ is_known.
            let known = known_entry entries name is_known in
            elim known.entry.is_flag as (λ b. known.entry.is_flag ≡ b → reading (walk_from h) (word ∷ value ∷ words) ≡ adds_held h (given entries (word ∷ value ∷ words))) [
              | true ↦ λ kind. reads_flag h word name (value ∷ words) known is_known kind looks all
              | false ↦ λ kind.
                  known_apart h word name value words known is_known kind looks value_looks others
                  ∙ ap (adds_held h) (sym (given_waits word name value words looks (known.kind ∙ kind)))
            ] refl
      ] refl

  reads_plain : (h : Held) (word : Text) (rest : List Text) → Plain word → reading (walk_from h) (word ∷ rest) ≡ adds_held h (given entries (word ∷ rest))
  reads_plain h word rest looks =
      faulty_word (walk_from h) word rest (plain_faults h word looks) ∙ held_none h (given entries (word ∷ rest)) (given_plain word rest looks)

  -- the walk over words none of which is stray reads the options that they give
  pub reads : (words : List Text) → list_any is_stray words ≡ false → (h : Held) → reading (walk_from h) words ≡ adds_held h (given entries words)
  reads [] fine h = no_words (walk_from h)
  reads (word ∷ []) fine h =
      elim (look word (or_false (is_stray word) false fine).0) [
        | plain looks ↦ reads_plain h word [] looks
        | attached name value looks ↦ reads_attached h word name value [] looks (λ next. reads [] refl next)
        | waits name looks ↦ reads_alone h word name looks
      ]
  reads (word ∷ value ∷ words) fine h =
      let parts = or_false (is_stray word) (list_any is_stray (value ∷ words)) fine in
      let more = or_false (is_stray value) (list_any is_stray words) parts.1 in
      elim (look word parts.0) [
        | plain looks ↦ reads_plain h word (value ∷ words) looks
        | attached name v looks ↦ reads_attached h word name v (value ∷ words) looks (λ next. reads (value ∷ words) parts.1 next)
        | waits name looks ↦
            reads_apart h word name value words looks (look value more.0) (λ next. reads words more.1 next) (λ next. reads (value ∷ words) parts.1 next)
      ]
