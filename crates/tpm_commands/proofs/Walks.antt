-- Lines one after the other are the lines of the file.
use Rattle.std.proofs.Common.{◌≡◌, ℕ, zero, suc, ◌+◌, ◌-◌, ◌<◌, ◌≤◌, Bool, true, false, cond, eqb, List, [], ◌∷◌, ◌++◌, length, take, Option, None, Some, Result, Ok, Err, refl, sym, ap, ◌∙◌, arith, append-nil, append_assoc}
use Rattle.std.specs.Prelude.{map, nat_lt, position, option_to_list}
use Rattle.std.specs.List.{filter_map, cons_option, join_with_byte, position_from}
use Rattle.std.proofs.lemmas.List.Splits.{join_with_byte-slice_split}
use Rattle.std.proofs.lemmas.Bool.{eqb-true, le-ltb, lt-ltb}
use Rattle.std.proofs.lemmas.Iterator.Adapters.{position_from-zero}
use Rattle.std.proofs.lemmas.List.{nil_from_length}
use Rattle.tpm_commands.specs.declared.error.CommandsError.{CommandsError}
use Rattle.tpm_commands.specs.declared.error.CommandsError.TheVariants.{BadLine, TooMany, Memory}
use Rattle.tpm_commands.specs.File.{Line, PassedOver, Spelled, Bad, item_in, items_by, items_of, is_bad, is_passed_over, line_of, line_limit, lines_of, without_last_empty}
use Rattle.tpm_commands.specs.Answers.{Refuses}
use Rattle.pl_text.specs.Parts.{parts_of}
use Rattle.tpm_commands.specs.Walk.{◌>>=◌, behind_line, items_from, lines_by, taken}
use Rattle.pl_text.proofs.Splits.{HasFirst, has_first}

-- the items before and those of the lines, by the place of the first bad one
abbrev pub by_place : {A : Type 0} → ℕ → List A → List (Line A) → Option ℕ → Result (List A) CommandsError
by_place more before lines (Some place) = Err (BadLine place)
by_place more before lines None = cond (nat_lt more (length lines)) (Err TooMany) (Ok (before ++ filter_map item_in lines))

-- one line more before, or behind
one_before : {A : Type 0} (before later : List A) (found : Option A) → (before ++ option_to_list found) ++ later ≡ before ++ cons_option found later
one_before before later None = ap (λ front. front ++ later) (append-nil before)
one_before before later (Some item) = append_assoc before (item ∷ []) later

next_place : {A : Type 0} (more : ℕ) (before : List A) (line : Line A) (lines : List (Line A)) (place : Option ℕ)
    → by_place more (before ++ option_to_list (item_in line)) lines place ≡ by_place (suc more) before (line ∷ lines) place
next_place more before line lines (Some place) = refl
next_place more before line lines None =
    let same : nat_lt more (length lines) ≡ nat_lt (suc more) (length (line ∷ lines)) = grind arith in
    ap (λ all. cond (nat_lt more (length lines)) (Err TooMany) (Ok all)) (one_before before (filter_map item_in lines) (item_in line))
    ∙ ap (λ test. cond test (Err TooMany) (Ok (before ++ filter_map item_in (line ∷ lines)))) same

step_is : {A : Type 0} (place more : ℕ) (before : List A) (line : Line A) (lines : List (Line A)) (later : Option ℕ)
    → ((next : List A) → items_from (place + 1) more next lines ≡ by_place more next lines later)
    → (taken place before line >>= λ next. items_from (place + 1) more next lines) ≡ by_place (suc more) before (line ∷ lines) (cond (is_bad line) (Some place) later)
step_is place more before Bad lines later rest = refl
step_is place more before PassedOver lines later rest =
    rest before ∙ ap (λ b. by_place more b lines later) (sym (append-nil before)) ∙ next_place more before PassedOver lines later
step_is place more before (Spelled item) lines later rest = rest (before ++ item ∷ []) ∙ next_place more before (Spelled item) lines later

some_left : {A : Type 0} (lines : List (Line A)) (line : Line A) → nat_lt 0 (length (line ∷ lines)) ≡ true
some_left lines line = lt-ltb 0 (length (line ∷ lines)) (omega arith)

none_left : {A : Type 0} (more : ℕ) (before : List A) → Ok before ≡ by_place more before [] None
none_left more before = ap Ok (sym (append-nil before)) ∙ sym (ap (λ test. cond test (Err TooMany) (Ok (before ++ []))) (le-ltb more 0 (omega arith)))

pub walk_is : {A : Type 0} (place more : ℕ) (before : List A) (lines : List (Line A))
    → items_from place more before lines ≡ by_place more before lines (position_from is_bad place (take more lines))
unfolding items_from
walk_is place zero before [] = none_left zero before
walk_is place (suc more) before [] = none_left (suc more) before
walk_is place zero before (line ∷ lines) =
    sym (ap (λ test. cond test (Err TooMany) (Ok (before ++ filter_map item_in (line ∷ lines)))) (some_left lines line))
walk_is place (suc more) before (line ∷ lines) =
    step_is place more before line lines (position_from is_bad (place + 1) (take more lines)) (λ next. walk_is (place + 1) more next lines)

same_answer : {A : Type 0} (lines : List (Line A)) (place : Option ℕ) → by_place line_limit [] lines place ≡ items_by lines place
same_answer lines None = refl
same_answer lines (Some place) = refl

-- from the first line on they are the file's
pub walk_whole : {A : Type 0} (lines : List (Line A)) → items_from 0 65536 [] lines ≡ items_of lines
walk_whole lines =
    walk_is 0 line_limit [] lines
    ∙ ap (by_place line_limit [] lines) (sym (position_from-zero is_bad (take line_limit lines)))
    ∙ same_answer lines (position is_bad (take line_limit lines))

-- ---- a step

too_many_of : {A : Type 0} (place : ℕ) (before : List A) (lines : List (Line A)) (line : Line A) (rest : List (Line A)) → lines ≡ line ∷ rest → items_from place zero before lines ≡ Err TooMany
unfolding items_from
too_many_of place before lines line rest is = rw is refl

-- a line behind the last that there may be
pub walk_too_many : {A : Type 0} (place limit : ℕ) (before : List A) (lines : List (Line A)) (line : Line A) (rest : List (Line A)) (total : Result (List A) CommandsError) → limit ≤ place → lines ≡ line ∷ rest
    → items_from place (limit - place) before lines ≡ total → total ≡ Err TooMany
walk_too_many place limit before lines line rest total le is so_far =
    let k : limit - place ≡ 0 = omega arith in
    sym so_far ∙ rw k (too_many_of place before lines line rest is)

step_of : {A : Type 0} (place more : ℕ) (before : List A) (lines : List (Line A)) (line : Line A) (rest : List (Line A)) → lines ≡ line ∷ rest
    → items_from place (suc more) before lines ≡ (taken place before line >>= λ next. items_from (place + 1) more next rest)
unfolding items_from
step_of place more before lines line rest is = rw is refl

walk_step : {A : Type 0} (place limit : ℕ) (before : List A) (lines : List (Line A)) (line : Line A) (rest : List (Line A)) → place < limit → lines ≡ line ∷ rest
    → items_from place (limit - place) before lines ≡ (taken place before line >>= λ next. items_from (place + 1) (limit - (place + 1)) next rest)
walk_step place limit before lines line rest lt is =
    let k : limit - place ≡ suc (limit - (place + 1)) = omega arith in
    rw k (step_of place (limit - (place + 1)) before lines line rest is)

-- a good line
pub walk_on : {A : Type 0} (place limit : ℕ) (before next : List A) (lines : List (Line A)) (line : Line A) (rest : List (Line A)) (total : Result (List A) CommandsError) → place < limit → lines ≡ line ∷ rest
    → items_from place (limit - place) before lines ≡ total → taken place before line ≡ Ok next → items_from (place + 1) (limit - (place + 1)) next rest ≡ total
walk_on place limit before next lines line rest total lt is so_far read =
    sym (walk_step place limit before lines line rest lt is ∙ ap (λ r. r >>= λ next. items_from (place + 1) (limit - (place + 1)) next rest) read) ∙ so_far

fails_same : {A B : Type 0} (e : CommandsError) (first : Result A CommandsError) (then' : A → Result B CommandsError) (total : Result B CommandsError)
    → (first >>= then') ≡ total → Refuses e first → Refuses e total
fails_same Memory first then' total same f = tt
fails_same TooMany first then' total same f = sym same ∙ ap (λ r. r >>= then') f
fails_same (BadLine place) first then' total same f = sym same ∙ ap (λ r. r >>= then') f

-- a bad one
pub walk_ends : {A : Type 0} (e : CommandsError) (place limit : ℕ) (before : List A) (lines : List (Line A)) (line : Line A) (rest : List (Line A)) (total : Result (List A) CommandsError) → place < limit → lines ≡ line ∷ rest
    → items_from place (limit - place) before lines ≡ total → Refuses e (taken place before line) → Refuses e total
walk_ends e place limit before lines line rest total lt is so_far f =
    fails_same e (taken place before line) (λ next. items_from (place + 1) (limit - (place + 1)) next rest) total (sym (walk_step place limit before lines line rest lt is) ∙ so_far) f

walk_of_nothing : {A : Type 0} (place more : ℕ) (before : List A) → items_from place more before [] ≡ Ok before
unfolding items_from
walk_of_nothing place zero before = refl
walk_of_nothing place (suc more) before = refl

-- behind the last line
pub walk_done : {A : Type 0} (place more : ℕ) (before : List A) (lines : List (Line A)) (total : Result (List A) CommandsError) → lines ≡ []
    → items_from place more before lines ≡ total → total ≡ Ok before
walk_done place more before lines total none so_far = sym so_far ∙ ap (items_from place more before) none ∙ walk_of_nothing place more before

-- ---- the lines of a text

-- the empty text has no line
lines_of_nothing : lines_of [] ≡ []
unfolding lines_of
lines_of_nothing = refl

-- the first line is the first part, and the others those of the rest
first_line : (part : List ℕ) (parts : List (List ℕ)) (first : List ℕ) (rest : List (List ℕ)) → parts ≡ first ∷ rest → without_last_empty (part ∷ parts) ≡ part ∷ without_last_empty parts
first_line [] parts first rest is = ap (λ p. without_last_empty ([] ∷ p)) is ∙ ap (λ p. [] ∷ without_last_empty p) (sym is)
first_line (x ∷ part) parts first rest is = refl

pub lines_with : (part text rest : List ℕ) → parts_of 10 text ≡ part ∷ parts_of 10 rest → lines_of text ≡ part ∷ lines_of rest
unfolding lines_of
lines_with part text rest is =
    let h = has_first 10 rest in
    ap without_last_empty is ∙ first_line part (parts_of 10 rest) h.first h.rest h.is

alone_by : (part text : List ℕ) → 0 < length text → parts_of 10 text ≡ part ∷ [] → part ≡ text → lines_of text ≡ part ∷ lines_of []
unfolding lines_of
alone_by [] text some is same = absurd (omega (arith, some, ap length same))
alone_by (x ∷ part) text some is same = ap without_last_empty is

-- the last line lacks its line feed
pub line_alone : (part text : List ℕ) → 0 < length text → parts_of 10 text ≡ part ∷ [] → lines_of text ≡ part ∷ lines_of []
line_alone part text some is = alone_by part text some is (sym (ap (join_with_byte 10) is) ∙ join_with_byte-slice_split 10 text)

-- a text that isn't empty has a line
some_by : (text : List ℕ) (part : List ℕ) (parts : List (List ℕ)) → parts_of 10 text ≡ part ∷ parts → eqb (length text) 0 ≡ false → HasFirst (lines_of text)
unfolding lines_of
some_by text (x ∷ part) parts is some = record { first = x ∷ part; rest = without_last_empty parts; is = ap without_last_empty is }
some_by text [] (next ∷ parts) is some = record { first = []; rest = without_last_empty (next ∷ parts); is = ap without_last_empty is }
some_by text [] [] is some =
    let nothing : [] ≡ text = sym (ap (join_with_byte 10) is) ∙ join_with_byte-slice_split 10 text in
    absurd (cc (ap (λ t. eqb (length t) 0) nothing ∙ some))

pub some_line : (text : List ℕ) → eqb (length text) 0 ≡ false → HasFirst (lines_of text)
some_line text some = let h = has_first 10 text in some_by text h.first h.rest h.is some

-- ---- the lines by a grammar

module _ {G A : Type 0} (spells : G → List ℕ → Option A) (behind : G → List ℕ → G) where
  -- the first line is that of the grammar, and the others those of the grammar behind it
  pub first_by : (grammar : G) (texts : List (List ℕ)) (text : List ℕ) (rest : List (List ℕ)) → texts ≡ text ∷ rest
      → lines_by spells behind grammar texts ≡ line_of (spells grammar) text ∷ lines_by spells behind (behind_line behind grammar text) rest
  unfolding lines_by
  first_by grammar texts text rest is = ap (lines_by spells behind grammar) is

  -- the end of the text is the end of the lines
  pub none_by : (grammar : G) (text : List ℕ) → eqb (length text) 0 ≡ true → lines_by spells behind grammar (lines_of text) ≡ []
  unfolding lines_by
  none_by grammar text empty =
      let nothing : text ≡ [] = nil_from_length text (eqb-true _ _ empty) in
      ap (λ t. lines_by spells behind grammar (lines_of t)) nothing ∙ ap (lines_by spells behind grammar) lines_of_nothing

-- a grammar that stays the same
pub lines_same : {G A : Type 0} (spells : G → List ℕ → Option A) (grammar : G) (texts : List (List ℕ)) → lines_by spells (λ g _. g) grammar texts ≡ map (line_of (spells grammar)) texts
unfolding lines_by
lines_same spells grammar [] = refl
lines_same spells grammar (text ∷ texts) = elim (is_passed_over text) as (λ b. line_of (spells grammar) text ∷ lines_by spells (λ g _. g) (cond b grammar grammar) texts ≡ line_of (spells grammar) text ∷ map (line_of (spells grammar)) texts) [
  | true ↦ ap (λ lines. line_of (spells grammar) text ∷ lines) (lines_same spells grammar texts)
  | false ↦ ap (λ lines. line_of (spells grammar) text ∷ lines) (lines_same spells grammar texts)
]
