-- A made component file as a JSON value: its text, and the records that it spells.
use Rattle.std.proofs.Common.{◌≡◌, ◌≤◌, ◌<◌, ◌+◌, ◌^◌, ℕ, Bool, true, false, cond, List, [], ◌∷◌, ◌++◌, codes, length, Some, None, option_map, option_and_then, Ok, refl, sym, ap, ◌∙◌, append_assoc, arith, IsUtf8, ne_eqb}
use Rattle.std.specs.Prelude.{All}
use Rattle.std.specs.Option.{ok_or}
use Rattle.std.specs.Str.{is_utf8}
use Rattle.std.proofs.lemmas.Str.{IsUtf8-append, IsUtf8-from_ascii, IsUtf8-from_is_utf8}
use Rattle.std.proofs.lemmas.Str.Ascii.{IsAscii-nil, IsAscii-cons}
use Rattle.std.proofs.lemmas.List.Elements.{All-head, All-tail}
use Rattle.json.specs.Print.{escape_byte}
use Rattle.json.specs.Json as json
use Rattle.json.specs.Tree as tree
use Rattle.json.specs.Tree.{ItemsHaveNumbers}
use Rattle.serde_json.specs.Data.{Data, array, object, Items, no_items, item, no_members, member}
use Rattle.serde_json.specs.Read.{of_items, of_members, read}
use Rattle.serde_json.specs.Written.{items_outline, compact_text, items_text}
use Rattle.cel_record.specs.Commas.{comma_if, comma_texts}
use Rattle.cel_record.specs.ComponentText.{component_of, numbered, record_limit, records_from, values_of}
use Rattle.cel_record.specs.declared.error.RecordsError.TheVariants.{NotJson}
use Rattle.cel_record.proofs.PlainTexts.{IsUtf8-is_plain}
use Rattle.cel_record.specs.JsonValue.{json_of}
use Rattle.cel_record.specs.Proper.{IsProper}
use Rattle.cel_record.specs.Spelled.{Spelled}
use Rattle.cel_record.specs.Step.{◌>>=◌}
use Rattle.cel_record.specs.Written.{record_front, numbered_text, numbered_texts, component_text}
use Rattle.cel_record.proofs.Commas.{comma_texts-join}
use Rattle.cel_record.proofs.JsonRoundTrip.{IsReadable}
use Rattle.cel_record.proofs.JsonTexts.{json_of-some}
use Rattle.cel_record.proofs.RecordData.{record_data, recnum, compact_text-record_data, members_text-recnum, numbered_data-numbers, numbered_data-depth, of_json-numbered_data, record_of-record_data}
use Rattle.component_make.specs.FileText.{file_text}
use Rattle.component_make.proofs.LineFeed.{read-line}

-- ---- the array

abbrev AreProper : List Spelled → Type 0
AreProper [] = Unit {0}
AreProper (r ∷ rs) = IsProper r × AreProper rs

each_proper : (rs : List Spelled) → All IsProper rs → AreProper rs
each_proper [] h = tt
each_proper (r ∷ rs) h = (All-head IsProper r rs h, each_proper rs (All-tail IsProper r rs h))

abbrev numbered_items : ℕ → List Spelled → Items
numbered_items n [] = no_items
numbered_items n (r ∷ rs) = item (record_data (recnum n) r) (numbered_items (n + 1) rs)

text_of_one : (n : ℕ) (r : Spelled) → IsProper r → compact_text (record_data (recnum n) r) ≡ numbered_text n r
text_of_one n r h = compact_text-record_data (recnum n) r h.digests ∙ ap (λ s. record_front r ++ s) (members_text-recnum n)

text_of_items : (n : ℕ) (rs : List Spelled) (later : Bool) → AreProper rs → items_text later (numbered_items n rs) ≡ comma_texts later (numbered_texts n rs) ++ 93 ∷ []
text_of_items n [] later h = refl
text_of_items n (r ∷ rs) later h =
    let more = numbered_texts (n + 1) rs in
    ap (λ s. comma_if later ++ (s ++ items_text true (numbered_items (n + 1) rs))) (text_of_one n r h.0)
    ∙ ap (λ s. comma_if later ++ (numbered_text n r ++ s)) (text_of_items (n + 1) rs true h.1)
    ∙ ap (λ s. comma_if later ++ s) (sym (append_assoc (numbered_text n r) (comma_texts true more) (93 ∷ [])))
    ∙ sym (append_assoc (comma_if later) (numbered_text n r ++ comma_texts true more) (93 ∷ []))

text_of_array : (rs : List Spelled) → AreProper rs → component_text rs ≡ compact_text (array (numbered_items 0 rs))
unfolding component_text
text_of_array rs h =
    ap (λ s. 91 ∷ s) (ap (λ s. s ++ 93 ∷ []) (comma_texts-join (numbered_texts 0 rs)) ∙ sym (text_of_items 0 rs false h))

numbers : (n : ℕ) (rs : List Spelled) → n + length rs < 2 ^ 64 → AreProper rs → ItemsHaveNumbers (items_outline (numbered_items n rs))
numbers n [] small h = tt
numbers n (r ∷ rs) small h = (numbered_data-numbers n r (omega arith) h.0, numbers (n + 1) rs (omega arith) h.1)

shallow : (n : ℕ) (rs : List Spelled) → tree.items_depth (items_outline (numbered_items n rs)) ≤ 3
shallow n [] = omega arith
shallow n (r ∷ rs) = omega (arith, numbered_data-depth n r, shallow (n + 1) rs)

items_read : (n : ℕ) (rs : List Spelled) → n + length rs < 2 ^ 64 → AreProper rs → of_items (items_outline (numbered_items n rs)) ≡ Some (numbered_items n rs)
items_read n [] small h = refl
items_read n (r ∷ rs) small h =
    ap (λ o. option_and_then (λ d. option_map (item d) (of_items (items_outline (numbered_items (n + 1) rs)))) o) (of_json-numbered_data n r (omega arith) h.0)
    ∙ ap (option_map (item (record_data (recnum n) r))) (items_read (n + 1) rs (omega arith) h.1)

records_read : (n : ℕ) (rs : List Spelled) → n + length rs ≤ record_limit → AreProper rs → records_from n (numbered_items n rs) ≡ Ok rs
records_read n [] small h = refl
records_read n (r ∷ rs) small h =
    rw (ne_eqb n 256 (λ e. omega arith))
    (ap (λ o. numbered n o >>= λ x. records_from (n + 1) (numbered_items (n + 1) rs) >>= λ xs. Ok (x ∷ xs)) (record_of-record_data (recnum n) r h.0)
    ∙ ap (λ o. o >>= λ xs. Ok (r ∷ xs)) (records_read (n + 1) rs (omega arith) h.1))

-- ---- the object around it

abbrev file_data : List Spelled → Data
file_data rs = object (member (codes "records") (array (numbered_items 0 rs)) no_members)

text_of_file : (rs : List Spelled) → AreProper rs → file_text rs ≡ compact_text (file_data rs) ++ 10 ∷ []
unfolding escape_byte
text_of_file rs h =
    ap (λ s. codes "{\"records\":" ++ (s ++ 125 ∷ 10 ∷ [])) (text_of_array rs h)
    ∙ ap (λ s. codes "{\"records\":" ++ s) (sym (append_assoc (compact_text (array (numbered_items 0 rs))) (125 ∷ []) (10 ∷ [])))

readable : (rs : List Spelled) → length rs ≤ record_limit → AreProper rs → IsReadable (file_data rs)
readable rs few h = record {
  numbers = (numbers 0 rs (omega arith) h, tt);
  shallow = omega (arith, shallow 0 rs);
  same = ap (λ o. option_map object (option_and_then (λ d. of_members json.no_members (member (codes "records") d no_members)) (option_map array o))) (items_read 0 rs (omega arith) h);
}

-- a component file is UTF-8
utf8_of : (bytes : List ℕ) (rs : List Spelled) → component_of bytes ≡ Ok rs → IsUtf8 bytes
unfolding json_of
utf8_of bytes rs e = IsUtf8-from_is_utf8 bytes (go (is_utf8 bytes) e)
  where
    go : (b : Bool) → (ok_or (cond b (read bytes) None) NotJson >>= λ value. values_of value >>= λ values. records_from 0 values) ≡ Ok rs → b ≡ true
    go true e = refl
    go false e = absurd cc

ending : IsUtf8 (125 ∷ 10 ∷ [])
ending = IsUtf8-from_ascii (125 ∷ 10 ∷ []) (IsAscii-cons 125 (10 ∷ []) (omega arith) (IsAscii-cons 10 [] (omega arith) IsAscii-nil))

-- a made file of at most 256 records is a component file of them, where the array in it is one
pub component_of-file_text : (rs : List Spelled) → length rs ≤ record_limit → All IsProper rs → component_of (component_text rs) ≡ Ok rs → component_of (file_text rs) ≡ Ok rs
component_of-file_text rs few all inner =
    let h = each_proper rs all in
    let front : List ℕ = codes "{\"records\":" in
    let utf8 : IsUtf8 (file_text rs) =
    IsUtf8-append front (component_text rs ++ 125 ∷ 10 ∷ []) (IsUtf8-is_plain front refl) (IsUtf8-append (component_text rs) (125 ∷ 10 ∷ []) (utf8_of (component_text rs) rs inner) ending) in
    let value : json_of (file_text rs) ≡ Some (file_data rs) =
    json_of-some (file_text rs) (file_data rs) utf8 (ap read (text_of_file rs h) ∙ read-line (file_data rs) (readable rs few h)) in
    rw value (records_read 0 rs (omega arith) h)
