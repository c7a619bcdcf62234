-- The text of a script, and what is run by it.
use Rattle.std.proofs.Common.{◌≡◌, ◌⊎◌, ℕ, suc, zero, ◌<◌, ◌≤◌, Bool, true, false, cond, List, [], ◌∷◌, length, take, inl, inr, refl, sym, ap, ◌∙◌, subst, arith}
use Rattle.std.specs.Prelude.{nat_lt, if◌then◌else◌, not, slice_get, String, Option, None, Some, Result, Ok, Err, IfOk, IfErr}
use Rattle.std.specs.Str.{IsUtf8, is_utf8}
use Rattle.std.specs.String.{string_bytes}
use Rattle.std.specs.Str.Lossy.{utf8_valid_len, valid_len_up_to}
use Rattle.std.proofs.lemmas.Bool.{le-ltb, lt-ltb}
use Rattle.std.proofs.lemmas.List.{append-nil}
use Rattle.std.proofs.Math.Seq.{take-length}
use Rattle.std.proofs.Math.Nat.{eq-or-lt_of_le}
use Rattle.std.proofs.lemmas.Str.{IsUtf8-nil, IsUtf8-from_is_utf8, IsUtf8-string_bytes, utf8_valid_len_le, utf8_valid_len-IsUtf8}
use Rattle.pl_base.specs.FileMap.{FileMap}
use Rattle.tpm_device.specs.Stored.{Stored}
use Rattle.pcrlock_answer.specs.declared.answer.Answer.{Answer}
use Rattle.pcrlock_answer.specs.declared.answer.Answer.TheVariants as answers
use Rattle.pcrlock_answer.specs.declared.place.Place.TheVariants.{At}
use Rattle.pcrlock_answer.specs.Texts.{answer_text}
use Rattle.pcrlock_words.specs.declared.request.Request.{Request}
use Rattle.pcrlock_words.specs.Requests.{request_of}
use Rattle.pcrlock_words.specs.Lines.{words_of}
use Rattle.pcrlock_line.specs.Machine.{Machine, Tells}
use Rattle.pcrlock_line.specs.Stopped.{StandsAmong}
use Rattle.pcrlock_line.proofs.Devices.{stands}
use Rattle.pcrlock_line.specs.Outcome.{refused_line}
use Rattle.pcrlock_line.specs.declared.stop.Stop.{Stop}
use Rattle.pcrlock_run.specs.declared.status.Status.{Status}
use Rattle.pcrlock_run.specs.Status.{number_of, refusal_status}
use Rattle.pcrlock_run.specs.Says.{Says}
use Rattle.pcrlock_run.specs.Setting.{Setting, outside}
use Rattle.pcrlock_run.specs.ScriptText.{few_lines, text_from, text_read, script_text}
use Rattle.pcrlock_run.specs.Lines.{is_passed_over, lines_among, lines_of}
use Rattle.pcrlock_run.specs.Script.{Whole, answered, line, marked, script, script_from, command_line}
use Rattle.pcrlock_run.specs.Whole.{alone, script_read, Scripted, script_in, script_setting, run_as, run_script, run_request, run_spelled, run_line}
use Rattle.pcrlock_run.specs.Leaves.{Safe, Leaves, IsNoScript}

-- where the longest front that is UTF-8 is the whole, the whole is
front_le : (bytes : List ℕ) (n : ℕ) → valid_len_up_to bytes n ≤ n
front_le bytes zero = omega arith
front_le bytes (suc n) = by (is_utf8 (take (suc n) bytes)) (front_le bytes n)
  where
    by : (test : Bool) → valid_len_up_to bytes n ≤ n → cond test (suc n) (valid_len_up_to bytes n) ≤ suc n
    by true h = omega arith
    by false h = omega (arith, h)

front_whole : (bytes : List ℕ) (n : ℕ) → valid_len_up_to bytes n ≡ n → IsUtf8 (take n bytes)
front_whole bytes zero e = IsUtf8-nil
front_whole bytes (suc n) e = by (is_utf8 (take (suc n) bytes)) refl e
  where
    by : (test : Bool) → is_utf8 (take (suc n) bytes) ≡ test → cond test (suc n) (valid_len_up_to bytes n) ≡ suc n → IsUtf8 (take (suc n) bytes)
    by true is same = IsUtf8-from_is_utf8 (take (suc n) bytes) is
    by false is same = absurd (omega (arith, front_le bytes n, same))

front_of_all : (bytes : List ℕ) → utf8_valid_len bytes ≡ length bytes → IsUtf8 bytes
unfolding utf8_valid_len
front_of_all bytes e = subst IsUtf8 (take-length bytes) (front_whole bytes (length bytes) e)

pub front_shorter : (bytes : List ℕ) → ¬ IsUtf8 bytes → utf8_valid_len bytes < length bytes
front_shorter bytes none = by (eq-or-lt_of_le (utf8_valid_len_le bytes))
  where
    by : (utf8_valid_len bytes ≡ length bytes) ⊎ (utf8_valid_len bytes < length bytes) → utf8_valid_len bytes < length bytes
    by (inl same) = absurd (none (front_of_all bytes same))
    by (inr less) = less

-- bytes that are UTF-8
pub utf8_text : (file bytes text : List ℕ) → IsUtf8 bytes → text ≡ bytes → text_from file bytes ≡ few_lines text
utf8_text file bytes text utf8 same =
    let e : nat_lt (utf8_valid_len bytes) (length bytes) ≡ false = le-ltb (utf8_valid_len bytes) (length bytes) (omega (arith, utf8_valid_len-IsUtf8 bytes utf8)) in
    ap (λ (v : Bool). if v then Err (answers.Malformed file (At (utf8_valid_len bytes))) else few_lines bytes) e
    ∙ ap few_lines (sym same)

-- bytes that aren't
pub refused_text : (file bytes : List ℕ) (place : ℕ) → place < length bytes → place ≡ utf8_valid_len bytes → text_from file bytes ≡ Err (answers.Malformed file (At place))
refused_text file bytes place short is =
    let e : nat_lt (utf8_valid_len bytes) (length bytes) ≡ true = lt-ltb (utf8_valid_len bytes) (length bytes) (omega (arith, short, is)) in
    ap (λ (v : Bool). if v then Err (answers.Malformed file (At (utf8_valid_len bytes))) else few_lines bytes) e
    ∙ ap (λ (n : ℕ). Err (answers.Malformed file (At n))) (sym is)

-- what was read of bytes that are UTF-8
pub read_utf8 : {Z E : Type 0} (file bytes : List ℕ) (text : String Z) (result : Result (Result (String Z) Answer) E) → string_bytes text ≡ bytes
    → IfOk result (λ read. text_read read ≡ few_lines (string_bytes text)) → IfOk result (λ read. text_read read ≡ text_from file bytes)
read_utf8 file bytes text (Err e) same h = tt
read_utf8 file bytes text (Ok read) same h = h ∙ sym (utf8_text file bytes (string_bytes text) (subst IsUtf8 same (IsUtf8-string_bytes text)) same)

-- and of bytes that aren't
pub read_refused : (file bytes path : List ℕ) (place : ℕ) (answer : Answer) → path ≡ file → place ≡ utf8_valid_len bytes → ¬ IsUtf8 bytes → answer ≡ answers.Malformed path (At place)
    → Err answer ≡ text_from file bytes
read_refused file bytes path place answer same is none given =
    ap Err (given ∙ ap (λ (p : List ℕ). answers.Malformed p (At place)) same) ∙ sym (refused_text file bytes place (omega (arith, front_shorter bytes none, is)) is)

-- what holds of a whole holds of one that equals it
pub by_equal : (a b : Whole) (L : Whole → Type 0) → a ≡ b → (Safe b.hashed → L b) → Safe a.hashed → L a
by_equal a b L e f = subst (λ (w : Whole). Safe w.hashed → L w) (sym e) f

-- the whole of a script whose text was read
pub script_as : (setting : Setting) (file text : List ℕ) (m : Machine) (read : Result (List ℕ) Answer) → read ≡ script_text m.files file → read ≡ Ok text
    → run_script setting file m ≡ script setting (lines_of text) m
script_as setting file text m read is be = ap (λ (r : Result (List ℕ) Answer). script_read setting r m) (sym is ∙ be)

-- the whole of a line that isn't passed over
pub among_one : (text : List ℕ) → is_passed_over (words_of text) ≡ false → lines_among (text ∷ []) ≡ text ∷ []
among_one text e = ap (λ (v : Bool). cond (not v) (text ∷ []) []) e

pub one_line : (setting : Setting) (text : List ℕ) (words : List (List ℕ)) (number : ℕ) (m : Machine) → words ≡ words_of text → is_passed_over words ≡ false
    → script_from setting (lines_among (text ∷ [])) number m ≡ marked m (line setting words m)
one_line setting text words number m same runs =
    ap (λ (lines : List (List ℕ)). script_from setting lines number m) (among_one text (ap is_passed_over (sym same) ∙ runs))
    ∙ ap (λ (w : List (List ℕ)). marked m (line setting w m)) (sym same)

-- a refusal that was told
pub refused_leaves : (held : Option FileMap) (stored : Option Stored) (draws : Option (List (List ℕ))) (u : Option (List ℕ)) (f : ℕ) (x : Option (List ℕ)) (g : ℕ) (y : Option (List ℕ)) (answer given : Answer) (m : Machine) (whole : Whole) (result : Result Status Stop)
    → whole ≡ alone (refused_line answer m) → given ≡ answer → Tells held stored draws m
    → IfOk result (λ status. number_of status ≡ refusal_status given)
    → IfOk result (λ _. Says f x g y (answer_text given))
    → IfOk result (λ status. Leaves held stored draws u u f x g y (number_of status) whole)
refused_leaves held stored draws u f x g y answer given m whole (Err stop) is same tells status said = tt
refused_leaves held stored draws u f x g y answer given m whole (Ok done) is same tells status said =
    subst (λ (w : Whole). Leaves held stored draws u u f x g y (number_of done) w) (sym is) (record {
      status = status ∙ ap refusal_status same;
      out = λ before e. e ∙ ap Some (sym (append-nil before));
      err = subst (λ (a : Answer). Says f x g y (answer_text a)) same said;
      tells = tells;
    })

-- a stop as it is told
pub refused_stops : (held : Option FileMap) (stored : Option Stored) (draws : Option (List (List ℕ))) (answer : Answer) (m : Machine) (whole : Whole) (result : Result Status Stop)
    → whole ≡ alone (refused_line answer m) → Tells held stored draws m → IfErr result (λ _. StandsAmong held stored whole.stops)
refused_stops held stored draws answer m whole (Ok done) is tells = tt
refused_stops held stored draws answer m whole (Err stop) is tells = subst (λ (w : Whole). StandsAmong held stored w.stops) (sym is) (inl (stands held stored draws m tells))

-- the whole of a request that is no script's
pub alone_request : (setting : Setting) (request : Request) (m : Machine) → IsNoScript (Some request) → run_request setting request m ≡ alone (command_line setting request m)
alone_request setting request m none = ap (λ (o : Option Scripted). run_as setting o request m) none

-- the whole of a request that runs a script
pub scripted_request : (setting : Setting) (request : Request) (script : Scripted) (m : Machine) → Some script ≡ script_in request
    → run_request setting request m ≡ run_script (script_setting setting script) script.file m
scripted_request setting request script m is = ap (λ (o : Option Scripted). run_as setting o request m) (sym is)

-- a line, and words outside a script, that spell a request
pub line_as : (setting : Setting) (words : List (List ℕ)) (request : Request) (m : Machine) → request_of words setting.policy ≡ Some request → line setting words m ≡ command_line setting request m
unfolding line
line_as setting words request m is = ap (λ (o : Option Request). answered setting o m) is

pub spelled_as : (setting : Setting) (words : List (List ℕ)) (request : Request) (m : Machine) → request_of words None ≡ Some request → run_spelled setting (request_of words None) m ≡ run_request setting request m
spelled_as setting words request m is = ap (λ (o : Option Request). run_spelled setting o m) is

-- words behind the path of a state
pub spelled_words : (words : List (List ℕ)) (state : List ℕ) (m : Machine) → slice_get words 0 ≡ Some state → run_line words m ≡ run_spelled (outside state) (request_of words None) m
unfolding run_line
spelled_words [] state m e = absurd (cc e)
spelled_words (first ∷ words) state m e = let same : first ≡ state = cc in ap (λ (s : List ℕ). run_spelled (outside s) (request_of (first ∷ words) None) m) same
