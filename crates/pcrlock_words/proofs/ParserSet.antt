-- The parser of a table of options takes the words that give some of these options, and has them as its
-- matches.
use Rattle.std.proofs.Common.{◌≡◌, ℕ, Bool, true, false, cond, not, ◌&&◌, ◌||◌, List, [], ◌∷◌, ◌++◌, map, length, Option, Some, None, is_some, refl, sym, ap, ap₂, ◌∙◌, subst, inl, inr, ⊎_elim, true≢false, append-nil, append_assoc, get_or, arith}
use Rattle.std.specs.Prelude.{codes, filter, find, fold, option_map, option_and_then, not, slice_get, ◌==◌, ◌⊎◌}
use Rattle.std.specs.List.{list_any, list_all}
use Rattle.std.specs.Option.{option_map_or}
use Rattle.clap.specs.Facts.{explicit_source}
use Rattle.std.specs.Str.{bytes_eq}
use Rattle.std.proofs.lemmas.Slice.Eq.{bytes_eq-Decides}
use Rattle.clap.specs.Kinds.{HasKind, IsAmong, Kinds, or_else}
use Rattle.clap.specs.Walk.{Held, Row, Rule, default_rows, first_of, finished, has_row, is_empty, more_values, nothing_held, row_of, rows_of, walk, walk_from, with_default}
use Rattle.clap.specs.Values.{reading_of}
use Rattle.clap.specs.Facts.{Entry as Matched, parser_of_value}
use Rattle.clap.specs.Words.{HasMatchesOf, found_of, kind_of, matched_of}
use Rattle.clap.specs.Matches.{first_value}
use Rattle.clap.specs.Simple.{App, entered, is_simple, matches_of}
use Rattle.clap.specs.Takes.{is_given as has_given}
use Rattle.clap.specs.Faults.{built_fault, check_fault, default_fault, defaults_fault, entered_fault, fault_of, given_default_fault, walk_fault}
use Rattle.clap.specs.declared.error.Error.{Error}
use Rattle.std.proofs.lemmas.Bool.Decides.{nat_tests}
use Rattle.clap.specs.declared.error.kind.ErrorKind.{ErrorKind}
use Rattle.clap.specs.declared.error.kind.ErrorKind.TheVariants.{MissingRequiredArgument}
use Rattle.clap.specs.declared.parser.matches.ArgMatches.{ArgMatches}
use Rattle.clap.specs.declared.parser.matches.MatchedArg.{MatchedArg}
use Rattle.clap.specs.declared.parser.matches.Found.{Found}
use Rattle.clap.specs.declared.parser.matches.ValueSource.TheVariants.{DefaultValue}
use Rattle.clap.proofs.WalkLemmas.{both, find_row, first_value-rows}
use Rattle.pcrlock_words.specs.Options.{Entry, Given, accepted, apart, are_taken, around_equals, as_flag, flagged, given, is_dashed, is_flag, is_given, is_known, joined, lacks_one, onto, undashed, unless_flag, value_of}
use Rattle.pcrlock_words.specs.Parser.{HasOptions, is_from_words, is_of_words, is_stray, left_in, options_in, parser_for, refusal_of, row_for, row_left}
use Rattle.pcrlock_words.specs.Readings.{Refuses}
use Rattle.pcrlock_words.specs.declared.error.WordsError.{WordsError}
use Rattle.pcrlock_words.specs.declared.error.WordsError.TheVariants.{BadWords, Memory}
use Rattle.pcrlock_words.proofs.ParserWords.{Text, look, plain, attached, waits}
use Rattle.pcrlock_words.proofs.ParserReads.{adds, at_no_row, built_is, built_parser_of, built_rule, flag_value, held_fault, held_rows, is_simple_parser, none, reading, reads, rules, shape, unknown_flag}

-- ---- options none of which is given twice

bytes_eq-turned : (xs ys : Text) → bytes_eq xs ys ≡ bytes_eq ys xs
bytes_eq-turned xs ys =
    elim (bytes_eq xs ys) as (λ a. bytes_eq xs ys ≡ a → a ≡ bytes_eq ys xs) [
      | true ↦ λ e. sym ((bytes_eq-Decides ys xs).1 (sym ((bytes_eq-Decides xs ys).0 e)))
      | false ↦ λ e.
          elim (bytes_eq ys xs) as (λ b. bytes_eq ys xs ≡ b → false ≡ b) [
            | true ↦ λ f. absurd (true≢false (sym ((bytes_eq-Decides xs ys).1 (sym ((bytes_eq-Decides ys xs).0 f))) ∙ e))
            | false ↦ λ _. refl
          ] refl
    ] refl

-- no option has a row among these
abbrev fresh : List Row → List Given → Bool
fresh rows options = list_all (λ one. not (has_row one.0 rows)) options

row_pushed : (id : Text) (rows : List Row) (one : Given) → has_row id (rows ++ row_for one ∷ []) ≡ (has_row id rows || bytes_eq one.0 id)
row_pushed id [] one = elim (bytes_eq one.0 id) as (λ b. (b || false) ≡ b) [ true ↦ refl | false ↦ refl ]
row_pushed id (r ∷ rows) one =
    elim (bytes_eq r.id id) as (λ b. (b || has_row id (rows ++ row_for one ∷ [])) ≡ ((b || has_row id rows) || bytes_eq one.0 id)) [
      | true ↦ refl
      | false ↦ row_pushed id rows one
    ]

regroup : (a b c d : Bool) → (not (a || b) && (not c && d)) ≡ (not (b || c) && (not a && d))
regroup true true c d = refl
regroup true false true d = refl
regroup true false false d = refl
regroup false true c d = refl
regroup false false c d = refl

fresh_pushed : (rows : List Row) (one : Given) (options : List Given) → fresh (rows ++ row_for one ∷ []) options ≡ (not (is_given one.0 options) && fresh rows options)
fresh_pushed rows one [] = refl
fresh_pushed rows one (next ∷ options) =
    ap₂ (λ b c. not b && c) (row_pushed next.0 rows one ∙ ap (λ b. has_row next.0 rows || b) (bytes_eq-turned one.0 next.0)) (fresh_pushed rows one options)
    ∙ regroup (has_row next.0 rows) (bytes_eq next.0 one.0) (is_given one.0 options) (fresh rows options)

fresh_start : (options : List Given) → fresh [] options ≡ true
fresh_start [] = refl
fresh_start (one ∷ options) = fresh_start options

joined_tests : (k h g t f : Bool) (x : Option (List Row)) → cond (k && not h) (cond (t && (not g && f)) x None) None ≡ cond ((k && not g && t) && (not h && f)) x None
joined_tests true true true t f x = refl
joined_tests true true false true f x = refl
joined_tests true true false false f x = refl
joined_tests true false true true f x = refl
joined_tests true false true false f x = refl
joined_tests true false false true f x = refl
joined_tests true false false false f x = refl
joined_tests false h g t f x = refl

adds_taken : (entries : List Entry) (rows : List Row) (options : List Given) → adds entries rows (Some options) ≡ cond (are_taken entries options && fresh rows options) (Some (rows ++ map row_for options)) None
adds_taken entries rows [] = ap Some (sym (append-nil rows))
adds_taken entries rows (one ∷ options) =
    ap (λ more. cond (is_known entries one.0 && not (has_row one.0 rows)) more None)
    (adds_taken entries (rows ++ row_for one ∷ []) options
    ∙ ap₂ (λ b all. cond (are_taken entries options && b) (Some all) None) (fresh_pushed rows one options) (append_assoc rows (row_for one ∷ []) (map row_for options)))
    ∙ joined_tests (is_known entries one.0) (has_row one.0 rows) (is_given one.0 options) (are_taken entries options) (fresh rows options) (Some (rows ++ map row_for (one ∷ options)))

adds_from_none : (entries : List Entry) (options : List Given) → adds entries [] (Some options) ≡ cond (are_taken entries options) (Some (map row_for options)) None
adds_from_none entries options =
    adds_taken entries [] options
    ∙ ap (λ b. cond (are_taken entries options && b) (Some (map row_for options)) None) (fresh_start options)
    ∙ elim (are_taken entries options) as (λ b. cond (b && true) (Some (map row_for options)) None ≡ cond b (Some (map row_for options)) None) [ true ↦ refl | false ↦ refl ]

-- ---- what is there in the rows of options, and of flags that aren't given

row_given_left : (id : Text) (names : List Text) → has_given id (map row_left names) ≡ false
row_given_left id [] = refl
row_given_left id (name ∷ names) =
    elim (bytes_eq name id) as (λ b. option_map_or (λ r. explicit_source r.source) (cond b (Some (row_left name)) (find (λ (r : Row). bytes_eq r.id id) (map row_left names))) false ≡ false) [
      | true ↦ refl
      | false ↦ row_given_left id names
    ]

row_given : (id : Text) (options : List Given) (names : List Text) → has_given id (map row_for options ++ map row_left names) ≡ is_given id options
row_given id [] names = row_given_left id names
row_given id (one ∷ options) names =
    elim (bytes_eq one.0 id) as (λ b. option_map_or (λ r. explicit_source r.source) (cond b (Some (row_for one)) (find (λ (r : Row). bytes_eq r.id id) (map row_for options ++ map row_left names))) false ≡ (b || is_given id options)) [
      | true ↦ refl
      | false ↦ row_given id options names
    ]

-- an argument that has to be given isn't
abbrev lacks_row : List Row → List Rule → Bool
lacks_row rows args = list_any (λ a. a.required && not (has_given a.id rows)) args

lacks_is : (entries : List Entry) (options : List Given) (names : List Text) → lacks_row (map row_for options ++ map row_left names) (rules entries) ≡ lacks_one entries options
lacks_is [] options names = refl
lacks_is (entry ∷ entries) options names =
    ap₂ (λ b c. (entry.is_needed && not b) || c) (row_given entry.name options names) (lacks_is entries options names)

row_value : (id : Text) (options : List Given) (names : List Text) → is_given id options ≡ true → first_of id (map row_for options ++ map row_left names) ≡ value_of id options
row_value id [] names given = absurd (true≢false (sym given))
row_value id (one ∷ options) names given =
    elim (bytes_eq one.0 id) as (λ b. (b || is_given id options) ≡ true → option_and_then (λ (r : Row). slice_get r.values 0) (cond b (Some (row_for one)) (find (λ (r : Row). bytes_eq r.id id) (map row_for options ++ map row_left names))) ≡ option_map (λ option. option.1) (cond b (Some one) (find (λ o. bytes_eq o.0 id) options))) [
      | true ↦ λ _. refl
      | false ↦ λ more. row_value id options names more
    ] given

-- an option that isn't given has no value
pub no_value : (id : Text) (options : List Given) → is_given id options ≡ false → value_of id options ≡ None
no_value id [] none_given = refl
no_value id (one ∷ options) none_given =
    elim (bytes_eq one.0 id) as (λ b. (b || is_given id options) ≡ false → option_map (λ option. option.1) (cond b (Some one) (find (λ o. bytes_eq o.0 id) options)) ≡ None) [
      | true ↦ λ bad. absurd (true≢false bad)
      | false ↦ λ more. no_value id options more
    ] none_given

row_source_left : (id : Text) (names : List Text) → is_of_words (option_and_then (λ (r : Row). r.source) (find (λ (r : Row). bytes_eq r.id id) (map row_left names))) ≡ false
row_source_left id [] = refl
row_source_left id (name ∷ names) =
    elim (bytes_eq name id) as (λ b. is_of_words (option_and_then (λ (r : Row). r.source) (cond b (Some (row_left name)) (find (λ (r : Row). bytes_eq r.id id) (map row_left names)))) ≡ false) [
      | true ↦ refl
      | false ↦ row_source_left id names
    ]

row_source : (id : Text) (options : List Given) (names : List Text) → is_of_words (option_and_then (λ (r : Row). r.source) (find (λ (r : Row). bytes_eq r.id id) (map row_for options ++ map row_left names))) ≡ is_given id options
row_source id [] names = row_source_left id names
row_source id (one ∷ options) names =
    elim (bytes_eq one.0 id) as (λ b. is_of_words (option_and_then (λ (r : Row). r.source) (cond b (Some (row_for one)) (find (λ (r : Row). bytes_eq r.id id) (map row_for options ++ map row_left names)))) ≡ (b || is_given id options)) [
      | true ↦ refl
      | false ↦ row_source id options names
    ]

-- ---- the default of a flag

-- the rows with the default of an argument that is there already
default_there : (entry : Entry) (rows : List Row) → has_row entry.name rows ≡ true → with_default rows (built_rule entry) ≡ rows
default_there entry rows there =
    ap (λ b. cond b rows (default_rows entry.name (reading_of (parser_of_value (Some (built_parser_of entry.is_flag)))) (flag_value entry.is_flag (codes "false")) rows)) there

-- the rows with the default of one that isn't
default_by : (entry : Entry) (rows : List Row) (flag : Bool) → has_row entry.name rows ≡ false → entry.is_flag ≡ flag → with_default rows (built_rule entry) ≡ default_rows entry.name (reading_of (parser_of_value (Some (built_parser_of flag)))) (flag_value flag (codes "false")) rows
default_by entry rows flag absent kind =
    ap (λ b. cond b rows (default_rows entry.name (reading_of (parser_of_value (Some (built_parser_of entry.is_flag)))) (flag_value entry.is_flag (codes "false")) rows)) absent
    ∙ ap (λ f. default_rows entry.name (reading_of (parser_of_value (Some (built_parser_of f)))) (flag_value f (codes "false")) rows) kind

default_flag : (entry : Entry) (rows : List Row) → has_row entry.name rows ≡ false → entry.is_flag ≡ true → with_default rows (built_rule entry) ≡ rows ++ row_left entry.name ∷ []
default_flag entry rows absent kind =
    default_by entry rows true absent kind
    ∙ at_no_row entry.name (more_values DefaultValue (codes "false" ∷ [])) (row_left entry.name ∷ []) rows absent

-- the names of the flags for which the defaults stand, behind some rows
pub record Defaults (entries : List Entry) (rows : List Row) : Type 0 where
  pub names : List Text
  pub are : fold with_default rows (rules entries) ≡ rows ++ map row_left names

defaults_of : (entries : List Entry) (rows : List Row) → Defaults entries rows
defaults_of [] rows = record { names = []; are = sym (append-nil rows) }
defaults_of (entry ∷ entries) rows =
    let behind : List Row → List Row = λ r. fold with_default r (rules entries) in
    elim (has_row entry.name rows) as (λ b. has_row entry.name rows ≡ b → Defaults (entry ∷ entries) rows) [
      | true ↦ λ there.
          let more = defaults_of entries rows in
          record { names = more.names; are = ap behind (default_there entry rows there) ∙ more.are }
      | false ↦ λ absent.
          elim entry.is_flag as (λ b. entry.is_flag ≡ b → Defaults (entry ∷ entries) rows) [
            | true ↦ λ kind.
                let more = defaults_of entries (rows ++ row_left entry.name ∷ []) in
                record {
                  names = entry.name ∷ more.names;
                  are = ap behind (default_flag entry rows absent kind) ∙ more.are ∙ append_assoc rows (row_left entry.name ∷ []) (map row_left more.names);
                }
            | false ↦ λ kind.
                let more = defaults_of entries rows in
                record { names = more.names; are = ap behind (default_by entry rows false absent kind) ∙ more.are }
          ] refl
    ] refl

-- a default is a value that its argument takes
no_fault : (entry : Entry) (rows : List Row) → default_fault rows (built_rule entry) ≡ []
no_fault entry rows =
    elim (has_row entry.name rows) as (λ b. cond (b || is_empty (flag_value entry.is_flag (codes "false"))) [] (given_default_fault (built_rule entry) (flag_value entry.is_flag (codes "false"))) ≡ []) [
      | true ↦ refl
      | false ↦ elim entry.is_flag as (λ f. cond (false || is_empty (flag_value f (codes "false"))) [] (given_default_fault (built_rule (record entry { is_flag = f })) (flag_value f (codes "false"))) ≡ []) [
        | true ↦ refl
        | false ↦ refl
      ]
    ]

no_default_fault : (entries : List Entry) (rows : List Row) → defaults_fault rows (rules entries) ≡ []
unfolding defaults_fault
no_default_fault [] rows = refl
no_default_fault (entry ∷ entries) rows =
    ap (λ k. or_else k (defaults_fault (with_default rows (built_rule entry)) (rules entries))) (no_fault entry rows)
    ∙ no_default_fault entries (with_default rows (built_rule entry))

-- ---- the set of words

abbrev built_parser : List Entry → App
built_parser entries = record { top = shape entries; subs = [] }

some-injective : {X : Type 0} {x y : X} → Some x ≡ Some y → x ≡ y
some-injective e = cc

none≢some : {X : Type 0} {x : X} → None ≡ Some x → ⊥
none≢some e = cc

-- options that are accepted are those that were given
accepted_are : (entries : List Entry) (options others : List Given) → accepted entries (Some options) ≡ Some others → (are_taken entries options ≡ true) × (options ≡ others)
accepted_are entries options others e =
    elim (are_taken entries options) as (λ b. cond (b && not (lacks_one entries options)) (Some options) None ≡ Some others → (b ≡ true) × (options ≡ others)) [
      | true ↦ λ taken.
          elim (lacks_one entries options) as (λ l. cond (not l) (Some options) None ≡ Some others → (true ≡ true) × (options ≡ others)) [
            | true ↦ λ bad. absurd (none≢some bad)
            | false ↦ λ same. (refl, some-injective same)
          ] taken
      | false ↦ λ bad. absurd (none≢some bad)
    ] e

no_sub_entered : (entries : List Entry) (stop : Option (Text × List Text)) → entered (built_parser entries) stop ≡ None
no_sub_entered entries None = refl
no_sub_entered entries (Some stop) = refl

no_sub_fault : (entries : List Entry) (stop : Option (Text × List Text)) → entered_fault (built_parser entries) stop ≡ []
no_sub_fault entries None = refl
no_sub_fault entries (Some stop) = refl

-- the walk over the words, its fault, and where it ends
abbrev end_of : List Entry → List Text → Held
end_of entries words = (walk (rules entries) [] nothing_held words).held

abbrev words_fault : List Entry → List Text → Kinds
words_fault entries words = walk_fault (shape entries) [] (walk_from nothing_held) words

-- the rows at the end of it, with the defaults
abbrev end_rows : List Entry → List Text → List Row
end_rows entries words = finished (rules entries) (end_of entries words)

fault_parts : (entries : List Entry) (words : List Text) → fault_of (parser_for entries) words ≡ or_else (words_fault entries words) (or_else (held_fault entries (end_of entries words)) (check_fault (shape entries) (end_rows entries words) false))
fault_parts entries words =
    let stop = (walk (rules entries) [] nothing_held words).stopped in
    let end = end_of entries words in
    let faults : Kinds → Bool → Kinds → Kinds = λ below sub defaults.
    or_else (words_fault entries words)
    (or_else below (or_else (held_fault entries end) (or_else defaults (check_fault (shape entries) (end_rows entries words) sub)))) in
    ap (λ (a : App). built_fault a nothing_held words) (built_is entries)
    ∙ ap₂ (λ below sub. faults below (is_some sub) (defaults_fault (held_rows entries end) (rules entries))) (no_sub_fault entries stop) (no_sub_entered entries stop)
    ∙ ap (faults [] false) (no_default_fault entries (held_rows entries end))

-- whether the last test passes
none_three : (a b : Kinds) (entries : List Entry) (rows : List Row) → none (or_else a (or_else b (check_fault (shape entries) rows false))) ≡ ((none a && none b) && not (lacks_row rows (rules entries)))
none_three [] [] entries rows =
    elim (lacks_row rows (rules entries)) as (λ l. none (cond l (MissingRequiredArgument ∷ []) []) ≡ not l) [ true ↦ refl | false ↦ refl ]
none_three [] (k ∷ ks) entries rows = refl
none_three (k ∷ ks) b entries rows = refl

-- what the parser reads of words none of which is stray
pub record Reads (entries : List Entry) (words : List Text) : Type 0 where
  pub fault : none (fault_of (parser_for entries) words) ≡ is_some (accepted entries (given entries words))
  -- the flags that aren't given
  pub names : List Text
  pub rows : (options : List Given) → accepted entries (given entries words) ≡ Some options → matches_of (parser_for entries) words ≡ map row_for options ++ map row_left names

matches_are : (entries : List Entry) (words : List Text) → matches_of (parser_for entries) words ≡ end_rows entries words
matches_are entries words =
    ap (λ (a : App). finished a.top.rules (walk a.top.rules [] nothing_held words).held) (built_is entries)

-- a walk that gives rows had no fault
some_rows : (b : Bool) (rows more : List Row) (t : Bool) → cond b (Some rows) None ≡ cond t (Some more) None → (b ≡ t) × (t ≡ true → rows ≡ more)
some_rows true rows more true e = (refl, λ _. some-injective e)
some_rows true rows more false e = cc
some_rows false rows more true e = cc
some_rows false rows more false e = (refl, λ bad. absurd (true≢false (sym bad)))

no_rows : (b : Bool) (rows : List Row) → cond b (Some rows) None ≡ None → b ≡ false
no_rows true rows e = cc
no_rows false rows e = refl

reads_options : (entries : List Entry) (words : List Text) (options : Option (List Given)) → given entries words ≡ options → reading entries (walk_from nothing_held) words ≡ adds entries [] options → Reads entries words
reads_options entries words None is walked =
    let end = end_of entries words in
    record {
      fault = ap none (fault_parts entries words)
          ∙ none_three (words_fault entries words) (held_fault entries end) entries (end_rows entries words)
          ∙ ap (λ b. b && not (lacks_row (end_rows entries words) (rules entries))) (no_rows (none (words_fault entries words) && none (held_fault entries end)) (held_rows entries end) walked)
          ∙ ap (λ o. is_some (accepted entries o)) (sym is);
      names = [];
      rows = λ options taken. absurd (none≢some (sym (ap (accepted entries) is) ∙ taken));
    }
reads_options entries words (Some options) is walked =
    let end = end_of entries words in
    let rows = held_rows entries end in
    let parts = some_rows (none (words_fault entries words) && none (held_fault entries end)) rows (map row_for options) (are_taken entries options) (walked ∙ adds_from_none entries options) in
    let defaults = defaults_of entries rows in
    record {
      fault = ap none (fault_parts entries words)
          ∙ none_three (words_fault entries words) (held_fault entries end) entries (end_rows entries words)
          ∙ ap (λ b. b && not (lacks_row (end_rows entries words) (rules entries))) parts.0
          ∙ elim (are_taken entries options) as (λ b. are_taken entries options ≡ b → (b && not (lacks_row (end_rows entries words) (rules entries))) ≡ is_some (cond (b && not (lacks_one entries options)) (Some options) None)) [
            | true ↦ λ taken.
                ap (λ r. not (lacks_row r (rules entries))) (defaults.are ∙ ap (λ r. r ++ map row_left defaults.names) (parts.1 taken))
                ∙ ap not (lacks_is entries options defaults.names)
                ∙ elim (lacks_one entries options) as (λ l. not l ≡ is_some (cond (not l) (Some options) None)) [ true ↦ refl | false ↦ refl ]
            | false ↦ λ _. refl
          ] refl
          ∙ ap (λ o. is_some (accepted entries o)) (sym is);
      names = defaults.names;
      rows = λ others taken.
          let same = accepted_are entries options others (ap (accepted entries) (sym is) ∙ taken) in
          matches_are entries words ∙ defaults.are ∙ ap (λ r. r ++ map row_left defaults.names) (parts.1 same.0 ∙ ap (map row_for) same.1);
    }

pub reads_words : (entries : List Entry) (words : List Text) → list_any is_stray words ≡ false → Reads entries words
reads_words entries words fine = reads_options entries words (given entries words) refl (reads entries words fine nothing_held)

not_some : {X : Type 0} (o : Option X) → is_some o ≡ false → o ≡ None
not_some None e = refl
not_some (Some x) e = absurd (true≢false e)

some_of : {X : Type 0} (o : Option X) → is_some o ≡ true → (x : X) × (o ≡ Some x)
some_of None e = absurd (true≢false (sym e))
some_of (Some x) e = (x, refl)

not_none : (kinds : Kinds) (k : ErrorKind) → IsAmong k kinds → none kinds ≡ false
not_none [] k among = absurd among
not_none (x ∷ xs) k among = refl

left_none : (names : List Text) → filter is_from_words (map row_left names) ≡ []
left_none [] = refl
left_none (name ∷ names) = left_none names

left_all : (names : List Text) → map (λ (row : Row). row.id) (filter (λ (row : Row). not (is_from_words row)) (map row_left names)) ≡ names
left_all [] = refl
left_all (name ∷ names) = ap (λ more. name ∷ more) (left_all names)

-- the options are told from the rows, and so are the flags that aren't given
options_back : (options : List Given) (names : List Text) → map (λ (row : Row). (row.id, get_or row.values 0 [])) (filter is_from_words (map row_for options ++ map row_left names)) ≡ options
options_back [] names = ap (map (λ (row : Row). (row.id, get_or row.values 0 []))) (left_none names)
options_back (one ∷ options) names = ap (λ more. one ∷ more) (options_back options names)

left_back : (options : List Given) (names : List Text) → map (λ (row : Row). row.id) (filter (λ (row : Row). not (is_from_words row)) (map row_for options ++ map row_left names)) ≡ names
left_back [] names = left_all names
left_back (one ∷ options) names = left_back options names

is_simple_also : (entries : List Entry) → is_simple (parser_for entries) ≡ true
is_simple_also entries = (both _ _ (is_simple_parser entries)).0

cond_same : (b : Bool) → cond {A = Option Given} b None None ≡ None
cond_same true = refl
cond_same false = refl

not_equal : (a b : ℕ) → (a == b) ≡ false → (b == a) ≡ false
not_equal a b e = grind (arith, nat_tests)

-- ---- words that are stray

-- a stray word begins with a dash, and has no name behind two of them
stray_dashed : (word : Text) → is_stray word ≡ true → is_dashed word ≡ true
stray_dashed [] stray = stray
stray_dashed (b ∷ rest) stray =
    elim (b == 45) as (λ v. (b == 45) ≡ v → v ≡ true) [
      | true ↦ λ _. refl
      | false ↦ λ other. absurd (true≢false (sym stray ∙ rw (other, not_equal b 45 other) refl))
    ] refl

not_empty : (b : ℕ) (text : Text) → (length (b ∷ text) == 0) ≡ false
not_empty b text = grind (arith, nat_tests)

-- a word and its value, as an option
abbrev with_value : Bool → Text → Option Text → Option Given
with_value dashed value name = cond dashed None (option_map (λ n. (n, value)) name)

abbrev nameless_option : Text → Option Given
nameless_option value = Some ([], value)

stray_bare : (word : Text) → is_stray word ≡ true → (joined word ≡ None) × ((value : Text) → (apart word value ≡ None) ⊎ (apart word value ≡ Some ([], value)))
stray_bare word stray =
    elim (undashed word) as (λ u. undashed word ≡ u → option_map_or (λ name. length name == 0) u (is_dashed word) ≡ true → (joined word ≡ None) × ((value : Text) → (apart word value ≡ None) ⊎ (apart word value ≡ Some ([], value)))) [
      | None ↦ λ e _. (ap (option_and_then around_equals) e, λ value. inl (ap (λ u. cond (is_dashed value) None (option_map (λ name. (name, value)) u)) e ∙ cond_same (is_dashed value)))
      | Some [] ↦ λ e _. (
        ap (option_and_then around_equals) e,
        λ value.
            elim (is_dashed value) as (λ b. (with_value b value (undashed word) ≡ None) ⊎ (with_value b value (undashed word) ≡ nameless_option value)) [
              | true ↦ inl refl
              | false ↦ inr (ap (with_value false value) e)
            ],
      )
      | Some (b ∷ name) ↦ λ _ bad. absurd (true≢false (sym bad ∙ not_empty b name))
    ] refl stray

-- a stray word is no flag
stray_flag : (entries : List Entry) (word : Text) → is_flag entries [] ≡ false → is_stray word ≡ true → flagged entries word ≡ None
stray_flag entries word nameless stray =
    elim (undashed word) as (λ u. undashed word ≡ u → option_map_or (λ name. length name == 0) u (is_dashed word) ≡ true → flagged entries word ≡ None) [
      | None ↦ λ e _. ap (option_and_then (as_flag entries)) e
      | Some [] ↦ λ e _. ap (option_and_then (as_flag entries)) e ∙ ap (λ b. cond b (Some ([], codes "true")) None) nameless
      | Some (b ∷ name) ↦ λ _ bad. absurd (true≢false (sym bad ∙ not_empty b name))
    ] refl stray

-- whether words give options that are known, none of them twice
abbrev may_be_taken : List Entry → Option (List Given) → Bool
may_be_taken entries None = false
may_be_taken entries (Some options) = are_taken entries options

not_taken : (entries : List Entry) (options : Option (List Given)) → may_be_taken entries options ≡ false → accepted entries options ≡ None
not_taken entries None untaken = refl
not_taken entries (Some options) untaken = rw untaken refl

onto_untaken : (entries : List Entry) (one : Option Given) (options : Option (List Given)) → may_be_taken entries options ≡ false → may_be_taken entries (onto one options) ≡ false
onto_untaken entries None options untaken = refl
onto_untaken entries (Some one) None untaken = refl
onto_untaken entries (Some one) (Some options) untaken =
    ap (λ b. is_known entries one.0 && not (is_given one.0 options) && b) untaken
    ∙ elim (is_known entries one.0) as (λ k. (k && not (is_given one.0 options) && false) ≡ false) [
      | true ↦ elim (is_given one.0 options) as (λ g. (not g && false) ≡ false) [ true ↦ refl | false ↦ refl ]
      | false ↦ refl
    ]

unknown_untaken : (entries : List Entry) (one : Option Given) (value : Text) (options : Option (List Given)) → is_known entries [] ≡ false → (one ≡ None) ⊎ (one ≡ Some ([], value)) → may_be_taken entries (onto one options) ≡ false
unknown_untaken entries one value options nameless (inl e) = ap (λ o. may_be_taken entries (onto o options)) e
unknown_untaken entries one value None nameless (inr e) = ap (λ o. may_be_taken entries (onto o None)) e
unknown_untaken entries one value (Some options) nameless (inr e) =
    ap (λ o. may_be_taken entries (onto o (Some options))) e ∙ rw nameless refl

-- words one of which is stray give no such options
module _ (entries : List Entry) (nameless : is_known entries [] ≡ false) where
  -- what a word gives, by what it is alone and as a flag
  abbrev whole_by : Option Given → Option Given → Option Given
  whole_by one flag = cond (is_some one) (option_and_then (unless_flag entries) one) flag

  untaken_next : (word : Text) (rest : List Text) → is_stray word ≡ true → may_be_taken entries (given entries (word ∷ rest)) ≡ false
  untaken_next word [] stray =
      ap₂ (λ one flag. may_be_taken entries (onto (whole_by one flag) (Some []))) (stray_bare word stray).0 (stray_flag entries word (unknown_flag entries [] nameless) stray)
  untaken_next word (value ∷ words) stray =
      let bare = stray_bare word stray in
      ap₂ (λ one flag. may_be_taken entries (cond (is_some one || is_some flag) (onto (whole_by one flag) (given entries (value ∷ words))) (onto (apart word value) (given entries words)))) bare.0 (stray_flag entries word (unknown_flag entries [] nameless) stray)
      ∙ unknown_untaken entries (apart word value) value (given entries words) nameless (bare.1 value)

  untaken : (words : List Text) → list_any is_stray words ≡ true → may_be_taken entries (given entries words) ≡ false
  untaken [] stray = absurd (true≢false (sym stray))
  untaken (word ∷ []) stray =
      elim (is_stray word) as (λ s. is_stray word ≡ s → (s || false) ≡ true → may_be_taken entries (given entries (word ∷ [])) ≡ false) [
        | true ↦ λ e _. untaken_next word [] e
        | false ↦ λ _ bad. absurd (true≢false (sym bad))
      ] refl stray
  untaken (word ∷ value ∷ words) stray =
      elim (is_stray word) as (λ s. is_stray word ≡ s → (s || list_any is_stray (value ∷ words)) ≡ true → may_be_taken entries (given entries (word ∷ value ∷ words)) ≡ false) [
        | true ↦ λ e _. untaken_next word (value ∷ words) e
        | false ↦ λ fine more.
            elim (look word fine) [
              | plain looks ↦ rw (looks.alone, looks.behind value, looks.bare) refl
              | attached name v looks ↦
                  rw looks.alone (onto_untaken entries (unless_flag entries (name, v)) (given entries (value ∷ words)) (untaken (value ∷ words) more))
              | waits name looks ↦
                  elim (is_flag entries name) as (λ f. is_flag entries name ≡ f → may_be_taken entries (given entries (word ∷ value ∷ words)) ≡ false) [
                    | true ↦ λ flag.
                        rw (looks.alone, looks.bare, flag)
                        (onto_untaken entries (Some (name, codes "true")) (given entries (value ∷ words)) (untaken (value ∷ words) more))
                    | false ↦ λ other.
                        rw (looks.alone, looks.behind value, looks.bare, other)
                        (elim (is_stray value) as (λ s. is_stray value ≡ s → (s || list_any is_stray words) ≡ true → may_be_taken entries (onto (cond (is_dashed value) None (Some (name, value))) (given entries words)) ≡ false) [
                          | true ↦ λ e _. rw (stray_dashed value e) refl
                          | false ↦ λ _ rest.
                              onto_untaken entries (cond (is_dashed value) None (Some (name, value))) (given entries words) (untaken words rest)
                        ] refl more)
                  ] refl
            ]
      ] refl stray

  pub stray_refused : (words : List Text) → list_any is_stray words ≡ true → accepted entries (given entries words) ≡ None
  stray_refused words stray = not_taken entries (given entries words) (untaken words stray)

-- ---- what the parser answers

abbrev nothing : Option (List Given)
nothing = None

is_refused : (e : WordsError) → Refuses e nothing
is_refused BadWords = refl
is_refused Memory = tt

-- at an error the words give no options, unless memory ran out
pub parser_refuses : (entries : List Entry) (words : List Text) (e : Error) → list_any is_stray words ≡ false → HasKind (fault_of (parser_for entries) words) e → Refuses (refusal_of (kind_of e)) (accepted entries (given entries words))
parser_refuses entries words e fine kinds =
    ⊎_elim (λ memory. subst (λ k. Refuses (refusal_of k) (accepted entries (given entries words))) (sym memory) tt)
    (λ among.
    let none_given : accepted entries (given entries words) ≡ None = not_some (accepted entries (given entries words)) (sym (reads_words entries words fine).fault ∙ not_none (fault_of (parser_for entries) words) (kind_of e) among) in
    subst (Refuses (refusal_of (kind_of e))) (sym none_given) (is_refused (refusal_of (kind_of e))))
    kinds

-- at the matches the words give the options that were matched
pub parser_gives : (entries : List Entry) (words : List Text) (m : ArgMatches) → list_any is_stray words ≡ false → fault_of (parser_for entries) words ≡ [] → HasMatchesOf (parser_for entries) words m → (accepted entries (given entries words) ≡ Some (options_in m)) × HasOptions m
parser_gives entries words m fine fault matches =
    let read = reads_words entries words fine in
    let there = some_of (accepted entries (given entries words)) (sym read.fault ∙ ap none fault) in
    let all : List Row = map row_for there.0 ++ map row_left read.names in
    let rows : rows_of (found_of m) ≡ all = (matches (is_simple_also entries)).0 ∙ read.rows there.0 there.1 in
    let options : options_in m ≡ there.0 = ap (λ r. map (λ (row : Row). (row.id, get_or row.values 0 [])) (filter is_from_words r)) rows ∙ options_back there.0 read.names in
    let left : left_in m ≡ read.names = ap (λ r. map (λ (row : Row). row.id) (filter (λ (row : Row). not (is_from_words row)) r)) rows ∙ left_back there.0 read.names in
    (there.1 ∙ ap Some (sym options), rows ∙ ap₂ (λ o n. map row_for o ++ map row_left n) (sym options) (sym left))

-- the value of an option that is given, as the matches have it
pub value_in : (m : ArgMatches) (name : Text) → HasOptions m → is_given name (options_in m) ≡ true → first_value (found_of m) name ≡ value_of name (options_in m)
value_in m name options given =
    first_value-rows (found_of m) name ∙ ap (first_of name) options ∙ row_value name (options_in m) (left_in m) given

source-rows : (f : Found) (id : Text) → option_and_then (λ (a : MatchedArg). a.source) (matched_of f id) ≡ option_and_then (λ (r : Row). r.source) (find (λ (r : Row). bytes_eq r.id id) (rows_of f))
source-rows f id = go (find (λ (e : Matched). bytes_eq e.0.now id) f.entries.items) ∙ ap (option_and_then (λ (r : Row). r.source)) (sym (find_row f.entries.items id))
  where
    go : (o : Option Matched) → option_and_then (λ (a : MatchedArg). a.source) (option_map (λ (e : Matched). e.1) o) ≡ option_and_then (λ (r : Row). r.source) (option_map row_of o)
    go None = refl
    go (Some e) = refl

-- whether an option is given, as the matches have it
pub given_in : (m : ArgMatches) (name : Text) → HasOptions m → is_of_words (option_and_then (λ (a : MatchedArg). a.source) (matched_of (found_of m) name)) ≡ is_given name (options_in m)
given_in m name options =
    ap is_of_words (source-rows (found_of m) name ∙ ap (λ rows. option_and_then (λ (r : Row). r.source) (find (λ (r : Row). bytes_eq r.id name) rows)) options)
    ∙ row_source name (options_in m) (left_in m)
