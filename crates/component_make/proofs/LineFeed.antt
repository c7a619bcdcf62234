-- The text of a JSON value reads as that value with a line feed behind it, too.
use Rattle.std.proofs.Common.{◌≡◌, ℕ, Bool, true, false, cond, ◌&&◌, List, [], ◌∷◌, ◌++◌, Option, Some, option_and_then, sym, ap, ap₂, refl, ◌∙◌, append_assoc, append-nil}
use Rattle.json.specs.Token.{Token, begin_object, end_object, begin_array, end_array, key, string, number, boolean, null, bad}
use Rattle.json.specs.Word.{ends_word, word}
use Rattle.json.specs.Lex.{Lexeme, token, comma, colon, string_token, lex, between, fresh, punctuate, tokens}
use Rattle.json.specs.Print.{escape, quoted, token_text, begins, ends, separator, print_from, print, IsPrintable, ArePrintable}
use Rattle.json.specs.Json as json
use Rattle.json.specs.Tree.{json_tokens}
use Rattle.json.proofs.Printed.Strings.{content-escape, lex-escape}
use Rattle.json.proofs.Printed.Numbers.{lex-number, in_word-ended}
use Rattle.json.proofs.Printed.Tokens.{tokens-print}
use Rattle.json.proofs.Printed.Trees.{value-json_tokens, ArePrintable-json_tokens}
use Rattle.serde_json.specs.Data.{Data}
use Rattle.serde_json.specs.Read.{of_json, read, max_depth}
use Rattle.serde_json.specs.Written.{outline, compact_text}
use Rattle.serde_json.proofs.Texts.{print-outline}
use Rattle.cel_record.proofs.JsonRoundTrip.{IsReadable}

-- what a token's text is cut into
abbrev lexemes : Token → List Lexeme
lexemes begin_object = token begin_object ∷ []
lexemes end_object = token end_object ∷ []
lexemes begin_array = token begin_array ∷ []
lexemes end_array = token end_array ∷ []
lexemes (key s) = token (string s) ∷ colon ∷ []
lexemes (string s) = token (string s) ∷ []
lexemes (number s) = token (number s) ∷ []
lexemes (boolean b) = token (boolean b) ∷ []
lexemes null = token null ∷ []
lexemes bad = []

of_quoted : (s r : List ℕ) → lex between (quoted s ++ r) ≡ token (string s) ∷ lex between r
unfolding lex
of_quoted s r =
    ap (λ l. lex between (34 ∷ l)) (append_assoc (escape s) (34 ∷ []) r)
    ∙ ap₂ (λ o l. token (string_token o) ∷ l) (content-escape s r) (lex-escape s r)

of_token : (t : Token) (r : List ℕ) → IsPrintable t → (ends t ≡ true → ends_word r ≡ true) → lex between (token_text t ++ r) ≡ lexemes t ++ lex between r
unfolding lex word
of_token begin_object r h ended = refl
of_token end_object r h ended = refl
of_token begin_array r h ended = refl
of_token end_array r h ended = refl
of_token (key s) r h ended = ap (lex between) (append_assoc (quoted s) (58 ∷ []) r) ∙ of_quoted s (58 ∷ r)
of_token (string s) r h ended = of_quoted s r
of_token (number s) r h ended = lex-number s r h (ended refl)
of_token (boolean true) r h ended = ap₂ (λ b l. token (cond b (boolean true) bad) ∷ l) (ended refl) (in_word-ended r (ended refl))
of_token (boolean false) r h ended = ap₂ (λ b l. token (cond b (boolean false) bad) ∷ l) (ended refl) (in_word-ended r (ended refl))
of_token null r h ended = ap₂ (λ b l. token (cond b null bad) ∷ l) (ended refl) (in_word-ended r (ended refl))
of_token bad r h ended = absurd h

of_separator : (b : Bool) (r : List ℕ) → lex between (cond b (44 ∷ []) [] ++ r) ≡ cond b (comma ∷ []) [] ++ lex between r
unfolding lex
of_separator true r = refl
of_separator false r = refl

-- behind a value stands a comma, a closing bracket, the line feed or nothing
ended : (ts : List Token) → ends_word (print_from true ts) ≡ true
unfolding print_from
ended [] = refl
ended (begin_object ∷ ts) = refl
ended (end_object ∷ ts) = refl
ended (begin_array ∷ ts) = refl
ended (end_array ∷ ts) = refl
ended (key s ∷ ts) = refl
ended (string s ∷ ts) = refl
ended (number s ∷ ts) = refl
ended (boolean b ∷ ts) = refl
ended (null ∷ ts) = refl
ended (bad ∷ ts) = refl

ended_by_line : (ts : List Token) → ends_word (print_from true ts ++ 10 ∷ []) ≡ true
unfolding print_from
ended_by_line [] = refl
ended_by_line (begin_object ∷ ts) = refl
ended_by_line (end_object ∷ ts) = refl
ended_by_line (begin_array ∷ ts) = refl
ended_by_line (end_array ∷ ts) = refl
ended_by_line (key s ∷ ts) = refl
ended_by_line (string s ∷ ts) = refl
ended_by_line (number s ∷ ts) = refl
ended_by_line (boolean b ∷ ts) = refl
ended_by_line (null ∷ ts) = refl
ended_by_line (bad ∷ ts) = refl

-- a token and its comma before any text
of_next : (c : Bool) (t : Token) (r : List ℕ) → IsPrintable t → (ends t ≡ true → ends_word r ≡ true)
    → lex between (separator c t ++ (token_text t ++ r)) ≡ cond (c && begins t) (comma ∷ []) [] ++ (lexemes t ++ lex between r)
of_next c t r h e = of_separator (c && begins t) (token_text t ++ r) ∙ ap (λ l. cond (c && begins t) (comma ∷ []) [] ++ l) (of_token t r h e)

regrouped : (s t r l : List ℕ) → (s ++ (t ++ r)) ++ l ≡ s ++ (t ++ (r ++ l))
regrouped s t r l = simp append_assoc

same_lexemes : (c : Bool) (ts : List Token) → ArePrintable ts → lex between (print_from c ts ++ 10 ∷ []) ≡ lex between (print_from c ts)
unfolding lex print_from ArePrintable
same_lexemes c [] h = refl
same_lexemes c (t ∷ ts) h =
    let rest = print_from (ends t) ts in
    ap (lex between) (regrouped (separator c t) (token_text t) rest (10 ∷ []))
    ∙ of_next c t (rest ++ 10 ∷ []) h.0 (λ e. ap (λ b. ends_word (print_from b ts ++ 10 ∷ [])) e ∙ ended_by_line ts)
    ∙ ap (λ l. cond (c && begins t) (comma ∷ []) [] ++ (lexemes t ++ l)) (same_lexemes (ends t) ts h.1)
    ∙ sym (of_next c t rest h.0 (λ e. ap (λ b. ends_word (print_from b ts)) e ∙ ended ts))

same_tokens : (ts : List Token) → ArePrintable ts → tokens (print ts ++ 10 ∷ []) ≡ ts
same_tokens ts h = ap (punctuate fresh) (same_lexemes false ts h) ∙ tokens-print ts h

-- the whole of what the grammar reads, as data
abbrev whole : Option (json.Json × List Token) → Option Data
whole o = option_and_then of_json (option_and_then (λ p. json.if_last p.0 p.1) o)

pub read-line : (d : Data) → IsReadable d → read (compact_text d ++ 10 ∷ []) ≡ Some d
read-line d h =
    let j = outline d in
    let lexed : tokens (compact_text d ++ 10 ∷ []) ≡ json_tokens j = ap (λ s. tokens (s ++ 10 ∷ [])) (sym (print-outline d)) ∙ same_tokens (json_tokens j) (ArePrintable-json_tokens j h.numbers) in
    ap whole (ap (json.value max_depth) (lexed ∙ sym (append-nil (json_tokens j))) ∙ value-json_tokens j max_depth [] h.shallow) ∙ h.same
