-- How far a run came that stopped, line by line.
use Rattle.std.proofs.Common.{◌≡◌, ℕ, ◌≤◌, Bool, true, false, cond, List, [], ◌∷◌, ◌++◌, inl, inr, refl, sym, ap, ◌∙◌, subst, append_assoc}
use Rattle.std.specs.Prelude.{slice_get, Option, None, Some, IfSome, Result, Ok, Err}
use Rattle.std.proofs.lemmas.List.{append-nil}
use Rattle.pl_base.specs.FileMap.{FileMap}
use Rattle.tpm_device.specs.Stored.{Stored}
use Rattle.pcrlock_answer.specs.declared.answer.Answer.{Answer}
use Rattle.pcrlock_answer.specs.declared.answer.Answer.TheVariants as answers
use Rattle.pcrlock_answer.specs.Texts.{status_text}
use Rattle.pcrlock_words.specs.declared.request.Request.{Request}
use Rattle.pcrlock_words.specs.Requests.{request_of}
use Rattle.pcrlock_words.specs.Lines.{words_of}
use Rattle.pcrlock_words.specs.ProperRequest.{IsProperRequest}
use Rattle.pcrlock_words.proofs.Proper.{spelled_proper}
use Rattle.pcrlock_line.specs.Machine.{Machine, Tells}
use Rattle.pcrlock_line.specs.Outcome.{Ending, Outcome, is_stop, refused_line}
use Rattle.pcrlock_line.specs.Stopped.{StandsAt, StandsAmong}
use Rattle.pcrlock_line.proofs.Devices.{stands}
use Rattle.pcrlock_run.specs.declared.status.Status.{Status}
use Rattle.pcrlock_run.specs.Fronts.{CommandHalts, Halted, IsFront, IsShowing, IsWriting, LineHalts}
use Rattle.pcrlock_run.specs.Halts.{IsBehind, LinesHalt, RequestHalts, RunHalts, SpelledHalts}
use Rattle.pcrlock_run.specs.Leaves.{Leaves, Safe}
use Rattle.pcrlock_run.specs.Lines.{is_passed_over, lines_among, lines_of}
use Rattle.pcrlock_run.specs.Says.{Says}
use Rattle.pcrlock_run.specs.ScriptText.{script_text}
use Rattle.pcrlock_run.specs.Setting.{Setting, outside}
use Rattle.pcrlock_run.specs.Script.{Whole, command_line, line, line_before, marked_before, script, script_from, stopped_at}
use Rattle.pcrlock_run.specs.Status.{status_of, out_of, err_of, number_of}
use Rattle.pcrlock_run.specs.Whole.{Scripted, run_as, run_line, run_spelled, script_in, script_read, script_setting}
use Rattle.pcrlock_run.specs.Worlds.{lines_read}
use Rattle.pcrlock_run.proofs.Acts.{command_first}
use Rattle.pcrlock_run.proofs.Firsts.{answered_first}
use Rattle.pcrlock_run.proofs.Folds.{Goes, IsBoth, IsSplit, number_goes, safe_right, script_split, split_goes, split_safe, status_stops}
use Rattle.pcrlock_run.proofs.Fronts.{front_behind, front_empty, front_left, halted_as, halted_silent, refusal_halts, still}
use Rattle.pcrlock_run.proofs.Said.{says_nothing, says_then}
use Rattle.pcrlock_run.proofs.Texts.{among_one}

-- ---- lines

-- before its first line a script stands where it begins
line_stands : (held : Option FileMap) (stored : Option Stored) (setting : Setting) (words : List (List ℕ)) (m : Machine) → StandsAt held stored m → StandsAmong held stored (line setting words m).stops
unfolding line
line_stands held stored setting words m at = answered_first held stored setting (request_of words setting.policy) m (spelled_proper words setting.policy) at

pub lines_begin : (held : Option FileMap) (stored : Option Stored) (a b : ℕ) (setting : Setting) (lines : List (List ℕ)) (m : Machine) → StandsAt held stored m → LinesHalt held stored a b setting lines m [] []
lines_begin held stored a b setting [] m at = record { stands = at; silent = refl; quiet = refl }
lines_begin held stored a b setting (text ∷ texts) m at = inl (inl (record { stands = line_stands held stored setting (words_of text) m at; silent = refl; quiet = refl }))

-- a stop in the first lines is one of all
pub lines_within : (held : Option FileMap) (stored : Option Stored) (a b : ℕ) (setting : Setting) (first rest : List (List ℕ)) (m : Machine) (printed spoken : List ℕ)
    → LinesHalt held stored a b setting first m printed spoken → LinesHalt held stored a b setting (first ++ rest) m printed spoken
lines_within held stored a b setting [] rest m printed spoken h =
    subst (λ (t : List ℕ). LinesHalt held stored a b setting rest m t spoken) (sym h.silent)
    (subst (λ (t : List ℕ). LinesHalt held stored a b setting rest m [] t) (sym h.quiet) (lines_begin held stored a b setting rest m h.stands))
lines_within held stored a b setting (text ∷ first) rest m printed spoken (inl here) = inl here
lines_within held stored a b setting (text ∷ first) rest m printed spoken (inr behind) = inr (record {
  goes = behind.goes;
  more = behind.more;
  later = behind.later;
  text = behind.text;
  errors = behind.errors;
  so = lines_within held stored a b setting first rest (line setting (words_of text) m).after behind.more behind.later behind.so;
})

-- a stop behind a line that is done
line_behind : (m : Machine) (o : Outcome) (inner : Whole) (printed spoken : List ℕ) (Rest : List ℕ → List ℕ → Type 0) (K : Machine → Type 0) (test : Bool) → is_stop o.ending ≡ test
    → Goes (cond test (stopped_at m o) (marked_before m o inner)).status → K (cond test (stopped_at m o) (marked_before m o inner)).after
    → (Goes inner.status → K inner.after → Rest (inner.out ++ printed) (inner.err ++ spoken))
    → IsBehind Rest o.ending ((cond test (stopped_at m o) (marked_before m o inner)).out ++ printed) ((cond test (stopped_at m o) (marked_before m o inner)).err ++ spoken)
line_behind m o inner printed spoken Rest K true is goes k next = absurd (status_stops o.ending is goes)
line_behind m o inner printed spoken Rest K false is goes k next = record {
  goes = is;
  more = inner.out ++ printed;
  later = inner.err ++ spoken;
  text = append_assoc (out_of o.ending ++ status_text (status_of o.ending)) inner.out printed;
  errors = append_assoc (err_of o.ending) inner.err spoken;
  so = next goes k;
}

-- a stop behind the first lines, which are done
pub lines_behind : (held : Option FileMap) (stored : Option Stored) (a b : ℕ) (setting : Setting) (first rest : List (List ℕ)) (number : ℕ) (m : Machine) (printed spoken : List ℕ)
    → Goes (script_from setting first number m).status
    → LinesHalt held stored a b setting rest (script_from setting first number m).after printed spoken
    → LinesHalt held stored a b setting (first ++ rest) m ((script_from setting first number m).out ++ printed) ((script_from setting first number m).err ++ spoken)
lines_behind held stored a b setting [] rest number m printed spoken goes h = h
lines_behind held stored a b setting (text ∷ first) rest number m printed spoken goes h =
    let o : Outcome = line setting (words_of text) m in
    inr (line_behind m o (script_from setting first (status_of o.ending) o.after) printed spoken
    (λ more later. LinesHalt held stored a b setting (first ++ rest) o.after more later)
    (λ (n : Machine). LinesHalt held stored a b setting rest n printed spoken)
    (is_stop o.ending) refl goes h
    (λ g k. lines_behind held stored a b setting first rest (status_of o.ending) o.after printed spoken g k))

-- a count that is taken earlier
writing_since : (a b c : ℕ) (ending : Ending) (printed spoken : List ℕ) → a ≤ b → IsWriting b c ending printed spoken → IsWriting a c ending printed spoken
writing_since a b c ending printed spoken le h = record { front = h.front; exact = λ none. h.exact (still a b c le none); quiet = h.quiet }

showing_since : (a b c : ℕ) (ending : Ending) (printed spoken : List ℕ) → a ≤ b → IsShowing b c ending printed spoken → IsShowing a c ending printed spoken
showing_since a b c ending printed spoken le (inl h) = inl (writing_since a b c ending printed spoken le h)
showing_since a b c ending printed spoken le (inr h) = inr (record { mark = h.mark; text = h.text; front = h.front; exact = λ none. h.exact (still a b c le none); answer = h.answer })

line_since : (held : Option FileMap) (stored : Option Stored) (a b c : ℕ) (o : Outcome) (printed spoken : List ℕ) → a ≤ b → LineHalts held stored b c o printed spoken → LineHalts held stored a c o printed spoken
line_since held stored a b c o printed spoken le (inl h) = inl h
line_since held stored a b c o printed spoken le (inr h) = inr (h.0, showing_since a b c o.ending printed spoken le h.1)

pub lines_since : (held : Option FileMap) (stored : Option Stored) (a b c : ℕ) (setting : Setting) (lines : List (List ℕ)) (m : Machine) (printed spoken : List ℕ) → a ≤ b
    → LinesHalt held stored b c setting lines m printed spoken → LinesHalt held stored a c setting lines m printed spoken
lines_since held stored a b c setting [] m printed spoken le h = h
lines_since held stored a b c setting (text ∷ texts) m printed spoken le (inl here) = inl (line_since held stored a b c (line setting (words_of text) m) printed spoken le here)
lines_since held stored a b c setting (text ∷ texts) m printed spoken le (inr behind) = inr (record {
  goes = behind.goes;
  more = behind.more;
  later = behind.later;
  text = behind.text;
  errors = behind.errors;
  so = lines_since held stored a b c setting texts (line setting (words_of text) m).after behind.more behind.later le behind.so;
})

-- ---- a front of the whole

pub command_front : (held : Option FileMap) (stored : Option Stored) (a b : ℕ) (o : Outcome) (printed spoken : List ℕ) → CommandHalts held stored a b o printed spoken → IsFront printed (out_of o.ending)
command_front held stored a b o printed spoken (inl h) = front_empty printed (out_of o.ending) h.silent
command_front held stored a b o printed spoken (inr h) = h.1.front

showing_front : (a b : ℕ) (ending : Ending) (printed spoken behind : List ℕ) → IsShowing a b ending printed spoken → IsFront printed ((out_of ending ++ status_text (status_of ending)) ++ behind)
showing_front a b ending printed spoken behind (inl h) =
    front_left printed (out_of ending ++ status_text (status_of ending)) behind (front_left printed (out_of ending) (status_text (status_of ending)) h.front)
showing_front a b ending printed spoken behind (inr h) =
    front_left printed (out_of ending ++ status_text (status_of ending)) behind
    (subst (λ (t : List ℕ). IsFront t (out_of ending ++ status_text (status_of ending))) (sym h.text) (front_behind (out_of ending) h.mark (status_text (status_of ending)) h.front))

-- a line that doesn't stop stands before those behind it
goes_before : (m : Machine) (o : Outcome) (rest : Whole) → is_stop o.ending ≡ false → (marked_before m o rest).out ≡ (line_before m o rest).out
goes_before m o rest goes = ap (λ (v : Bool). (cond v (stopped_at m o) (marked_before m o rest)).out) (sym goes)

line_front : (held : Option FileMap) (stored : Option Stored) (a b : ℕ) (m : Machine) (o : Outcome) (rest : Whole) (printed spoken : List ℕ) → LineHalts held stored a b o printed spoken
    → IsFront printed (line_before m o rest).out
line_front held stored a b m o rest printed spoken (inl h) = front_empty printed (line_before m o rest).out h.silent
line_front held stored a b m o rest printed spoken (inr h) = subst (IsFront printed) (goes_before m o rest h.0.goes) (showing_front a b o.ending printed spoken rest.out h.1)

pub lines_front : (held : Option FileMap) (stored : Option Stored) (a b : ℕ) (setting : Setting) (lines : List (List ℕ)) (number : ℕ) (m : Machine) (printed spoken : List ℕ)
    → LinesHalt held stored a b setting lines m printed spoken → IsFront printed (script_from setting lines number m).out
lines_front held stored a b setting [] number m printed spoken h = front_empty printed [] h.silent
lines_front held stored a b setting (text ∷ texts) number m printed spoken (inl here) =
    let o : Outcome = line setting (words_of text) m in
    line_front held stored a b m o (script_from setting texts (status_of o.ending) o.after) printed spoken here
lines_front held stored a b setting (text ∷ texts) number m printed spoken (inr behind) =
    let o : Outcome = line setting (words_of text) m in
    let rest : Whole = script_from setting texts (status_of o.ending) o.after in
    subst (IsFront printed) (goes_before m o rest behind.goes)
    (subst (λ (t : List ℕ). IsFront t ((out_of o.ending ++ status_text (status_of o.ending)) ++ rest.out)) (sym behind.text)
    (front_behind (out_of o.ending ++ status_text (status_of o.ending)) behind.more rest.out
    (lines_front held stored a b setting texts (status_of o.ending) o.after behind.more behind.later behind.so)))

read_front : (held : Option FileMap) (stored : Option Stored) (a b : ℕ) (setting : Setting) (read : Result (List ℕ) Answer) (m : Machine) (printed spoken : List ℕ)
    → LinesHalt held stored a b setting (lines_read read) m printed spoken → IsFront printed (script_read setting read m).out
read_front held stored a b setting (Err answer) m printed spoken h = front_empty printed [] h.silent
read_front held stored a b setting (Ok text) m printed spoken h = lines_front held stored a b setting (lines_of text) 0 m printed spoken h

as_front : (held : Option FileMap) (stored : Option Stored) (a b : ℕ) (setting : Setting) (o : Option Scripted) (request : Request) (m : Machine) (printed spoken : List ℕ)
    → RequestHalts held stored a b setting o request m printed spoken → IsFront printed (run_as setting o request m).out
as_front held stored a b setting None request m printed spoken h = command_front held stored a b (command_line setting request m) printed spoken h
as_front held stored a b setting (Some script) request m printed spoken h =
    read_front held stored a b (script_setting setting script) (script_text m.files script.file) m printed spoken h

spelled_front : (held : Option FileMap) (stored : Option Stored) (a b : ℕ) (setting : Setting) (o : Option Request) (m : Machine) (printed spoken : List ℕ)
    → SpelledHalts held stored a b setting o m printed spoken → IsFront printed (run_spelled setting o m).out
spelled_front held stored a b setting None m printed spoken h = command_front held stored a b (refused_line answers.BadWords m) printed spoken h
spelled_front held stored a b setting (Some request) m printed spoken h = as_front held stored a b setting (script_in request) request m printed spoken h

pub run_front : (held : Option FileMap) (stored : Option Stored) (a b : ℕ) (words : List (List ℕ)) (m : Machine) (printed spoken : List ℕ)
    → RunHalts held stored a b words m printed spoken → IsFront printed (run_line words m).out
unfolding RunHalts run_line
run_front held stored a b [] m printed spoken h = command_front held stored a b (refused_line answers.BadWords m) printed spoken h
run_front held stored a b (state ∷ words) m printed spoken h = spelled_front held stored a b (outside state) (request_of (state ∷ words) None) m printed spoken h

-- ---- a script under way

-- what was printed and said, and the machine that is told now, from which a stop of the lines that are left is one of all
pub record Onward (held : Option FileMap) (stored : Option Stored) (draws : Option (List (List ℕ))) (u v : Option (List ℕ)) (f : ℕ) (x : Option (List ℕ)) (g : ℕ) (y : Option (List ℕ)) (setting : Setting) (lines : List (List ℕ)) (number : ℕ) (all : List (List ℕ)) (start : Machine) : Type 0 where
  pub middle : Machine
  pub printed : List ℕ
  pub spoken : List ℕ
  pub tells : Tells held stored draws middle
  pub out : (before : List ℕ) → u ≡ Some before → v ≡ Some (before ++ printed)
  pub said : Says f x g y spoken
  pub safe : Safe (script_from setting lines number middle).hashed
  pub behind : (h : Option FileMap) (k : Option Stored) (a b : ℕ) (p s : List ℕ) → LinesHalt h k a b setting lines middle p s → LinesHalt h k a b setting all start (printed ++ p) (spoken ++ s)

pub sets_out : (held : Option FileMap) (stored : Option Stored) (draws : Option (List (List ℕ))) (u : Option (List ℕ)) (f : ℕ) (x : Option (List ℕ)) (setting : Setting) (lines : List (List ℕ)) (number : ℕ) (m : Machine)
    → Tells held stored draws m → Safe (script_from setting lines number m).hashed → Onward held stored draws u u f x f x setting lines number lines m
sets_out held stored draws u f x setting lines number m tells safe = record {
  middle = m;
  printed = [];
  spoken = [];
  tells = tells;
  out = λ before e. e ∙ ap Some (sym (append-nil before));
  said = says_nothing f x;
  safe = safe;
  behind = λ h k a b p s halts. halts;
}

-- a part of the lines is done
moves_on : (held held2 : Option FileMap) (stored stored2 : Option Stored) (draws draws2 : Option (List (List ℕ))) (u v v2 : Option (List ℕ)) (f : ℕ) (x : Option (List ℕ)) (g : ℕ) (y : Option (List ℕ)) (g2 : ℕ) (y2 : Option (List ℕ)) (setting : Setting) (first rest : List (List ℕ)) (number number2 : ℕ) (all : List (List ℕ)) (start : Machine)
    → (w : Onward held stored draws u v f x g y setting (first ++ rest) number all start)
    → IsBoth (script_from setting (first ++ rest) number w.middle) (script_from setting first number w.middle)
    (script_from setting rest (script_from setting first number w.middle).status (script_from setting first number w.middle).after)
    → Goes (script_from setting first number w.middle).status
    → Leaves held2 stored2 draws2 v v2 g y g2 y2 number2 (script_from setting first number w.middle)
    → Onward held2 stored2 draws2 u v2 f x g2 y2 setting rest number2 all start
moves_on held held2 stored stored2 draws draws2 u v v2 f x g y g2 y2 setting first rest number number2 all start w both goes leaves =
    let part : Whole = script_from setting first number w.middle in
    subst (λ (n : ℕ). Onward held2 stored2 draws2 u v2 f x g2 y2 setting rest n all start) (sym leaves.status) (record {
      middle = part.after;
      printed = w.printed ++ part.out;
      spoken = w.spoken ++ part.err;
      tells = leaves.tells;
      out = λ before e. leaves.out (before ++ w.printed) (w.out before e) ∙ ap Some (append_assoc before w.printed part.out);
      said = says_then f x g y g2 y2 w.spoken part.err w.said leaves.err;
      safe = safe_right part.hashed (script_from setting rest part.status part.after).hashed (subst Safe both.hashed w.safe);
      behind = λ h k a b p s halts.
          subst (λ (t : List ℕ). LinesHalt h k a b setting all start t ((w.spoken ++ part.err) ++ s)) (sym (append_assoc w.printed part.out p))
          (subst (λ (t : List ℕ). LinesHalt h k a b setting all start (w.printed ++ (part.out ++ p)) t) (sym (append_assoc w.spoken part.err s))
          (w.behind h k a b (part.out ++ p) (part.err ++ s) (lines_behind h k a b setting first rest number w.middle p s goes halts)));
    })

pub keeps_on : (held held2 : Option FileMap) (stored stored2 : Option Stored) (draws draws2 : Option (List (List ℕ))) (u v v2 : Option (List ℕ)) (f : ℕ) (x : Option (List ℕ)) (g : ℕ) (y : Option (List ℕ)) (g2 : ℕ) (y2 : Option (List ℕ)) (setting : Setting) (lines first rest : List (List ℕ)) (number : ℕ) (next : Status) (all : List (List ℕ)) (start : Machine)
    → lines ≡ first ++ rest
    → Onward held stored draws u v f x g y setting lines number all start
    → ((m : Machine) → Tells held stored draws m → Safe (script_from setting first number m).hashed → Leaves held2 stored2 draws2 v v2 g y g2 y2 (number_of next) (script_from setting first number m))
    → Onward held2 stored2 draws2 u v2 f x g2 y2 setting rest (number_of next) all start
keeps_on held held2 stored stored2 draws draws2 u v v2 f x g y g2 y2 setting lines first rest number next all start split begun does =
    let w : Onward held stored draws u v f x g y setting (first ++ rest) number all start = subst (λ (l : List (List ℕ)). Onward held stored draws u v f x g y setting l number all start) split begun in
    let whole : Whole = script_from setting (first ++ rest) number w.middle in
    let part : Whole = script_from setting first number w.middle in
    let behind : Whole → Whole = λ x. script_from setting rest x.status x.after in
    let parts : IsSplit whole part behind = script_split setting first rest number w.middle in
    let leaves : Leaves held2 stored2 draws2 v v2 g y g2 y2 (number_of next) part = does w.middle w.tells (split_safe whole part behind parts w.safe) in
    let goes : Goes part.status = subst Goes leaves.status (number_goes next) in
    moves_on held held2 stored stored2 draws draws2 u v v2 f x g y g2 y2 setting first rest number (number_of next) all start w (split_goes whole part behind parts goes) goes leaves

-- a stop in a part of the lines is one of all
pub breaks_off : (held held2 : Option FileMap) (stored stored2 : Option Stored) (draws : Option (List (List ℕ))) (a b c : ℕ) (u v v2 : Option (List ℕ)) (f : ℕ) (x : Option (List ℕ)) (g : ℕ) (y : Option (List ℕ)) (g2 : ℕ) (y2 : Option (List ℕ)) (setting : Setting) (lines first rest : List (List ℕ)) (number : ℕ) (all : List (List ℕ)) (start : Machine)
    → lines ≡ first ++ rest → a ≤ b
    → Onward held stored draws u v f x g y setting lines number all start
    → ((m : Machine) → Tells held stored draws m → Safe (script_from setting first number m).hashed → Halted (LinesHalt held2 stored2 b c setting first m) v v2 g y g2 y2)
    → Halted (LinesHalt held2 stored2 a c setting all start) u v2 f x g2 y2
breaks_off held held2 stored stored2 draws a b c u v v2 f x g y g2 y2 setting lines first rest number all start split le begun does =
    let w : Onward held stored draws u v f x g y setting (first ++ rest) number all start = subst (λ (l : List (List ℕ)). Onward held stored draws u v f x g y setting l number all start) split begun in
    let whole : Whole = script_from setting (first ++ rest) number w.middle in
    let part : Whole = script_from setting first number w.middle in
    let behind : Whole → Whole = λ x. script_from setting rest x.status x.after in
    let parts : IsSplit whole part behind = script_split setting first rest number w.middle in
    let h : Halted (LinesHalt held2 stored2 b c setting first w.middle) v v2 g y g2 y2 = does w.middle w.tells (split_safe whole part behind parts w.safe) in
    record {
      printed = w.printed ++ h.printed;
      spoken = w.spoken ++ h.spoken;
      so = w.behind held2 stored2 a c h.printed h.spoken
          (lines_since held2 stored2 a b c setting (first ++ rest) w.middle h.printed h.spoken le (lines_within held2 stored2 b c setting first rest w.middle h.printed h.spoken h.so));
      out = λ before e. h.out (before ++ w.printed) (w.out before e) ∙ ap Some (append_assoc before w.printed h.printed);
      err = says_then f x g y g2 y2 w.spoken h.spoken w.said h.err;
    }

-- ---- by the text and the words

-- a line of a script that isn't passed over
pub one_halts : (held : Option FileMap) (stored : Option Stored) (a b : ℕ) (u v : Option (List ℕ)) (f : ℕ) (x : Option (List ℕ)) (g : ℕ) (y : Option (List ℕ)) (setting : Setting) (text : List ℕ) (words : List (List ℕ)) (m : Machine) → words ≡ words_of text → is_passed_over words ≡ false
    → Halted (LineHalts held stored a b (line setting words m)) u v f x g y → Halted (LinesHalt held stored a b setting (lines_among (text ∷ [])) m) u v f x g y
one_halts held stored a b u v f x g y setting text words m same runs h =
    let k : Halted (LineHalts held stored a b (line setting (words_of text) m)) u v f x g y =
    subst (λ (w : List (List ℕ)). Halted (LineHalts held stored a b (line setting w m)) u v f x g y) same h in
    subst (λ (lines : List (List ℕ)). Halted (LinesHalt held stored a b setting lines m) u v f x g y) (sym (among_one text (ap is_passed_over (sym same) ∙ runs)))
    (halted_as (LineHalts held stored a b (line setting (words_of text) m)) (LinesHalt held stored a b setting (text ∷ []) m) u v f x g y (λ printed spoken here. inl here) k)

-- a stop before a line's words are known
pub unread_halts : (held : Option FileMap) (stored : Option Stored) (draws : Option (List (List ℕ))) (count : ℕ) (u : Option (List ℕ)) (f : ℕ) (x : Option (List ℕ)) (setting : Setting) (lines : List (List ℕ)) (m : Machine) → Tells held stored draws m
    → Halted (LinesHalt held stored count count setting lines m) u u f x f x
unread_halts held stored draws count u f x setting lines m tells =
    halted_silent (LinesHalt held stored count count setting lines m) u f x (lines_begin held stored count count setting lines m (stands held stored draws m tells))

-- a script whose text was read
pub read_halts : (held : Option FileMap) (stored : Option Stored) (a b : ℕ) (u v : Option (List ℕ)) (f : ℕ) (x : Option (List ℕ)) (g : ℕ) (y : Option (List ℕ)) (setting : Setting) (file text : List ℕ) (m : Machine) (read : Result (List ℕ) Answer)
    → read ≡ script_text m.files file → read ≡ Ok text
    → Halted (LinesHalt held stored a b setting (lines_of text) m) u v f x g y → Halted (LinesHalt held stored a b setting (lines_read (script_text m.files file)) m) u v f x g y
read_halts held stored a b u v f x g y setting file text m read is be h =
    subst (λ (r : Result (List ℕ) Answer). Halted (LinesHalt held stored a b setting (lines_read r) m) u v f x g y) (sym be ∙ is) h

-- a script whose text wasn't read, or is refused
pub unspoken_halts : (held : Option FileMap) (stored : Option Stored) (draws : Option (List (List ℕ))) (count : ℕ) (u : Option (List ℕ)) (f : ℕ) (x : Option (List ℕ)) (g : ℕ) (y : Option (List ℕ)) (setting : Setting) (lines : List (List ℕ)) (m : Machine) → Tells held stored draws m
    → Says f x g y [] → Halted (LinesHalt held stored count count setting lines m) u u f x g y
unspoken_halts held stored draws count u f x g y setting lines m tells said = record {
  printed = [];
  spoken = [];
  so = lines_begin held stored count count setting lines m (stands held stored draws m tells);
  out = λ written e. e ∙ ap Some (sym (append-nil written));
  err = said;
}

-- words that spell no request, or whose request isn't known
request_begins : (held : Option FileMap) (stored : Option Stored) (a b : ℕ) (setting : Setting) (o : Option Scripted) (request : Request) (m : Machine) → IsProperRequest request → StandsAt held stored m
    → RequestHalts held stored a b setting o request m [] []
request_begins held stored a b setting None request m proper at = inl (record { stands = command_first held stored setting request m proper at; silent = refl; quiet = refl })
request_begins held stored a b setting (Some script) request m proper at = lines_begin held stored a b (script_setting setting script) (lines_read (script_text m.files script.file)) m at

spelled_begins : (held : Option FileMap) (stored : Option Stored) (a b : ℕ) (setting : Setting) (o : Option Request) (m : Machine) → IfSome o IsProperRequest → StandsAt held stored m
    → SpelledHalts held stored a b setting o m [] []
spelled_begins held stored a b setting None m proper at = inl (record { stands = inl at; silent = refl; quiet = refl })
spelled_begins held stored a b setting (Some request) m proper at = request_begins held stored a b setting (script_in request) request m proper at

pub unspelled_halts : (held : Option FileMap) (stored : Option Stored) (draws : Option (List (List ℕ))) (count : ℕ) (u : Option (List ℕ)) (f : ℕ) (x : Option (List ℕ)) (g : ℕ) (y : Option (List ℕ)) (setting : Setting) (words : List (List ℕ)) (m : Machine) → Tells held stored draws m
    → Says f x g y [] → Halted (SpelledHalts held stored count count setting (request_of words None) m) u u f x g y
unspelled_halts held stored draws count u f x g y setting words m tells said = record {
  printed = [];
  spoken = [];
  so = spelled_begins held stored count count setting (request_of words None) m (spelled_proper words None) (stands held stored draws m tells);
  out = λ written e. e ∙ ap Some (sym (append-nil written));
  err = said;
}

-- a request that runs no script, one that runs a script, and words that spell a request
pub alone_halts : (held : Option FileMap) (stored : Option Stored) (a b : ℕ) (u v : Option (List ℕ)) (f : ℕ) (x : Option (List ℕ)) (g : ℕ) (y : Option (List ℕ)) (setting : Setting) (request : Request) (o : Option Scripted) (m : Machine) → None ≡ o
    → Halted (CommandHalts held stored a b (command_line setting request m)) u v f x g y → Halted (RequestHalts held stored a b setting o request m) u v f x g y
alone_halts held stored a b u v f x g y setting request o m none h =
    subst (λ (s : Option Scripted). Halted (RequestHalts held stored a b setting s request m) u v f x g y) none
    (halted_as (CommandHalts held stored a b (command_line setting request m)) (RequestHalts held stored a b setting None request m) u v f x g y (λ printed spoken k. k) h)

pub scripted_halts : (held : Option FileMap) (stored : Option Stored) (a b : ℕ) (u v : Option (List ℕ)) (f : ℕ) (x : Option (List ℕ)) (g : ℕ) (y : Option (List ℕ)) (setting : Setting) (request : Request) (script : Scripted) (o : Option Scripted) (m : Machine) → Some script ≡ o
    → Halted (LinesHalt held stored a b (script_setting setting script) (lines_read (script_text m.files script.file)) m) u v f x g y → Halted (RequestHalts held stored a b setting o request m) u v f x g y
scripted_halts held stored a b u v f x g y setting request script o m some h =
    subst (λ (s : Option Scripted). Halted (RequestHalts held stored a b setting s request m) u v f x g y) some
    (halted_as (LinesHalt held stored a b (script_setting setting script) (lines_read (script_text m.files script.file)) m) (RequestHalts held stored a b setting (Some script) request m) u v f x g y (λ printed spoken k. k) h)

pub spelled_halts : (held : Option FileMap) (stored : Option Stored) (a b : ℕ) (u v : Option (List ℕ)) (f : ℕ) (x : Option (List ℕ)) (g : ℕ) (y : Option (List ℕ)) (setting : Setting) (request : Request) (o : Option Request) (m : Machine) → o ≡ Some request
    → Halted (RequestHalts held stored a b setting (script_in request) request m) u v f x g y → Halted (SpelledHalts held stored a b setting o m) u v f x g y
spelled_halts held stored a b u v f x g y setting request o m is h =
    subst (λ (s : Option Request). Halted (SpelledHalts held stored a b setting s m) u v f x g y) (sym is)
    (halted_as (RequestHalts held stored a b setting (script_in request) request m) (SpelledHalts held stored a b setting (Some request) m) u v f x g y (λ printed spoken k. k) h)

-- words behind the path of a state, and none
pub words_halt : (held : Option FileMap) (stored : Option Stored) (a b : ℕ) (u v : Option (List ℕ)) (f : ℕ) (x : Option (List ℕ)) (g : ℕ) (y : Option (List ℕ)) (words : List (List ℕ)) (state : List ℕ) (m : Machine) → slice_get words 0 ≡ Some state
    → Halted (SpelledHalts held stored a b (outside state) (request_of words None) m) u v f x g y → Halted (RunHalts held stored a b words m) u v f x g y
unfolding RunHalts
words_halt held stored a b u v f x g y [] state m e h = absurd (cc e)
words_halt held stored a b u v f x g y (first ∷ words) state m e h =
    let same : first ≡ state = cc in
    subst (λ (s : List ℕ). Halted (SpelledHalts held stored a b (outside s) (request_of (first ∷ words) None) m) u v f x g y) (sym same) h

pub wordless_halts : (held : Option FileMap) (stored : Option Stored) (draws : Option (List (List ℕ))) (count : ℕ) (u : Option (List ℕ)) (f : ℕ) (x : Option (List ℕ)) (g : ℕ) (y : Option (List ℕ)) (words : List (List ℕ)) (m : Machine) → slice_get words 0 ≡ None → Tells held stored draws m
    → Says f x g y [] → Halted (RunHalts held stored count count words m) u u f x g y
unfolding RunHalts
wordless_halts held stored draws count u f x g y (first ∷ words) m e tells said = absurd (cc e)
wordless_halts held stored draws count u f x g y [] m e tells said = refusal_halts held stored count u f x g y (refused_line answers.BadWords m) (inl (stands held stored draws m tells)) said
