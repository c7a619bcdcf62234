-- Each command of a file is of one of the clients.
use Rattle.std.proofs.Common.{◌≡◌, ℕ, Bool, true, false, cond, List, [], ◌∷◌, map, refl, sym, ap, ◌∙◌, subst}
use Rattle.std.specs.Prelude.{◌<◌, nat_lt, if◌then◌else◌, Option, None, Some, Result, Ok, Err, position, take, length}
use Rattle.std.specs.List.{All, cons_option, filter_map}
use Rattle.std.proofs.lemmas.Bool.{ltb-true}
use Rattle.std.proofs.lemmas.List.Elements.{All-cons, All-nil}
use Rattle.std.specs.Str.{is_utf8}
use Rattle.pl_base.specs.FileMap.{FileMap}
use Rattle.tpm_model.specs.declared.command.Command.{Command}
use Rattle.tpm_commands.specs.declared.error.CommandsError.{CommandsError}
use Rattle.tpm_commands.specs.declared.error.CommandsError.TheVariants as errors
use Rattle.tpm_commands.specs.Clients.{client_command_of, client_command_of_words, client_commands_in, client_of}
use Rattle.tpm_commands.specs.CommandLine.{command_of_words}
use Rattle.tpm_commands.specs.File.{Line, Bad, PassedOver, Spelled, is_bad, is_passed_over, item_in, items_by, items_of, line_limit, line_of, lines_of, spelled}
use Rattle.pl_text.specs.Parts.{parts_of}
use Rattle.pl_text.specs.Words.{◌>>=◌, number_up_to}
use Rattle.pcrlock_answer.specs.declared.answer.Answer.{Answer}
use Rattle.pcrlock_line.specs.Content as content
use Rattle.pcrlock_line.specs.Content.{Content, content_of}
use Rattle.pcrlock_exec.specs.Input.{commands_in, commands_limit, read_from}
use Rattle.pcrlock_broker.specs.Input.{asked_at}

-- the number is below that of the clients
abbrev IsBelow : ℕ → ℕ × Command → Type 0
IsBelow clients one = one.0 < clients

client_below : (clients : ℕ) (word : List ℕ) (client : ℕ) → client_of clients word ≡ Some client → client < clients
client_below clients word client e = by_number (number_up_to 0xFFFFFFFF word) e
  where
    by_test : (n : ℕ) (b : Bool) → nat_lt n clients ≡ b → cond b (Some n) None ≡ Some client → client < clients
    by_test n true lt is = let same : n ≡ client = cc in subst (λ k. k < clients) same (ltb-true n clients lt)
    by_test n false lt is = absurd (cc is)

    by_number : (o : Option ℕ) → o >>= (λ n. if nat_lt n clients then Some n else None) ≡ Some client → client < clients
    by_number None is = absurd (cc is)
    by_number (Some n) is = by_test n (nat_lt n clients) refl is

words_below : (clients : ℕ) (words : List (List ℕ)) (one : ℕ × Command) → client_command_of_words clients words ≡ Some one → IsBelow clients one
words_below clients [] one e = absurd (cc e)
words_below clients (first ∷ words) one e = by_client (client_of clients first) refl e
  where
    by_command : (client : ℕ) (o : Option Command) → client < clients → o >>= (λ c. Some (client, c)) ≡ Some one → IsBelow clients one
    by_command client None below is = absurd (cc is)
    by_command client (Some c) below is = let same : (client, c) ≡ one = cc in subst (IsBelow clients) same below

    by_client : (o : Option ℕ) → client_of clients first ≡ o → o >>= (λ client. command_of_words words >>= (λ c. Some (client, c))) ≡ Some one → IsBelow clients one
    by_client None said is = absurd (cc is)
    by_client (Some client) said is = by_command client (command_of_words words) (client_below clients first client said) is

-- ---- the lines

abbrev AreBelow : ℕ → Option (ℕ × Command) → Type 0
AreBelow clients None = Unit {0}
AreBelow clients (Some one) = IsBelow clients one

line_below : (clients : ℕ) (text : List ℕ) → AreBelow clients (item_in (line_of (client_command_of clients) text))
unfolding line_of client_command_of
line_below clients text = by (is_passed_over text)
  where
    by_words : (o : Option (ℕ × Command)) → client_command_of_words clients (parts_of 32 text) ≡ o → AreBelow clients (item_in (spelled o))
    by_words None e = tt
    by_words (Some one) e = words_below clients (parts_of 32 text) one e

    by_utf8 : (b : Bool) → AreBelow clients (item_in (cond {A = Line (ℕ × Command)} b PassedOver Bad))
    by_utf8 true = tt
    by_utf8 false = tt

    by : (b : Bool) → AreBelow clients (item_in (cond b (cond (is_utf8 text) PassedOver Bad) (spelled (client_command_of_words clients (parts_of 32 text)))))
    by true = by_utf8 (is_utf8 text)
    by false = by_words (client_command_of_words clients (parts_of 32 text)) refl

put_below : (clients : ℕ) (o : Option (ℕ × Command)) (rest : List (ℕ × Command)) → AreBelow clients o → All (IsBelow clients) rest → All (IsBelow clients) (cons_option o rest)
put_below clients None rest one all = all
put_below clients (Some one) rest below all = All-cons (IsBelow clients) one rest below all

lines_below : (clients : ℕ) (texts : List (List ℕ)) → All (IsBelow clients) (filter_map item_in (map (line_of (client_command_of clients)) texts))
lines_below clients [] = All-nil (IsBelow clients)
lines_below clients (text ∷ texts) =
    put_below clients (item_in (line_of (client_command_of clients) text)) (filter_map item_in (map (line_of (client_command_of clients)) texts)) (line_below clients text) (lines_below clients texts)

items_below : (clients : ℕ) (lines : List (Line (ℕ × Command))) (list : List (ℕ × Command)) → All (IsBelow clients) (filter_map item_in lines) → items_of lines ≡ Ok list → All (IsBelow clients) list
items_below clients lines list all e = by_place (position is_bad (take line_limit lines)) e
  where
    by_count : (b : Bool) → cond {A = Result (List (ℕ × Command)) CommandsError} b (Err errors.TooMany) (Ok (filter_map item_in lines)) ≡ Ok list → All (IsBelow clients) list
    by_count true is = absurd (cc is)
    by_count false is = let same : filter_map item_in lines ≡ list = cc in subst (All (IsBelow clients)) same all

    by_place : (o : Option ℕ) → items_by lines o ≡ Ok list → All (IsBelow clients) list
    by_place (Some place) is = absurd (cc is)
    by_place None is = by_count (nat_lt line_limit (length lines)) is

pub file_below : (clients : ℕ) (bytes : List ℕ) (list : List (ℕ × Command)) → client_commands_in clients bytes ≡ Ok list → All (IsBelow clients) list
unfolding client_commands_in
file_below clients bytes list e = items_below clients (map (line_of (client_command_of clients)) (lines_of bytes)) list (lines_below clients (lines_of bytes)) e

-- ---- the file

-- what was found is what the bytes spell
pub read_back : (path : List ℕ) (read : Result (List (ℕ × Command)) CommandsError) (list : List (ℕ × Command)) → read_from path read ≡ Ok list → read ≡ Ok list
read_back path (Ok given) list e = let same : given ≡ list = cc in ap Ok same
read_back path (Err (errors.BadLine line)) list e = absurd (cc e)
read_back path (Err errors.TooMany) list e = absurd (cc e)
read_back path (Err errors.Memory) list e = absurd (cc e)

pub asked_below : (files : FileMap) (path : List ℕ) (clients : ℕ) (list : List (ℕ × Command)) → asked_at files path clients ≡ Ok list → All (λ (one : ℕ × Command). one.0 < clients) list
unfolding asked_at
asked_below files path clients list e = by (content_of files path commands_limit) e
  where
    by : (c : Content) → commands_in (client_commands_in clients) path c ≡ Ok list → All (IsBelow clients) list
    by content.Missing is = absurd (cc is)
    by (content.TooLarge size) is = absurd (cc is)
    by (content.Bytes bytes) is = file_below clients bytes list (read_back path (client_commands_in clients bytes) list is)
