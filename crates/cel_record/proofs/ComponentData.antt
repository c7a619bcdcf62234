-- A component file as a JSON value: its text, and the records that it spells.
use Rattle.std.proofs.Common.{◌≡◌, ◌≤◌, ◌<◌, ◌+◌, ◌^◌, ℕ, Bool, true, false, List, [], ◌∷◌, ◌++◌, length, Some, option_map, option_and_then, Ok, refl, sym, ap, ◌∙◌, append_assoc, arith, IsUtf8, ne_eqb}
use Rattle.std.specs.Prelude.{All}
use Rattle.std.proofs.lemmas.List.Elements.{All-head, All-tail}
use Rattle.json.specs.Tree as tree
use Rattle.json.specs.Tree.{HasNumbers, ItemsHaveNumbers}
use Rattle.serde_json.specs.Data.{array, Items, no_items, item}
use Rattle.serde_json.specs.Read.{of_items}
use Rattle.serde_json.specs.Written.{items_outline, compact_text, items_text}
use Rattle.cel_record.specs.Commas.{comma_if, comma_texts}
use Rattle.cel_record.specs.ComponentText.{component_of, numbered, record_limit, records_from}
use Rattle.cel_record.specs.JsonValue.{json_of}
use Rattle.cel_record.specs.Proper.{IsProper}
use Rattle.cel_record.specs.Spelled.{Spelled}
use Rattle.cel_record.specs.Step.{◌>>=◌}
use Rattle.cel_record.specs.Written.{record_front, numbered_text, numbered_texts, component_text}
use Rattle.cel_record.proofs.Commas.{comma_texts-join}
use Rattle.cel_record.proofs.JsonRoundTrip.{IsReadable, read-compact_text}
use Rattle.cel_record.proofs.JsonTexts.{json_of-some}
use Rattle.cel_record.proofs.RecordData.{record_data, recnum, compact_text-record_data, members_text-recnum, numbered_data-numbers, numbered_data-depth, of_json-numbered_data, record_of-record_data}

-- the records are as the program holds them
abbrev AreProper : List Spelled → Type 0
AreProper [] = Unit {0}
AreProper (r ∷ rs) = IsProper r × AreProper rs

AreProper-all : (rs : List Spelled) → All IsProper rs → AreProper rs
AreProper-all [] h = tt
AreProper-all (r ∷ rs) h = (All-head IsProper r rs h, AreProper-all rs (All-tail IsProper r rs h))

abbrev numbered_items : ℕ → List Spelled → Items
numbered_items n [] = no_items
numbered_items n (r ∷ rs) = item (record_data (recnum n) r) (numbered_items (n + 1) rs)

compact_text-numbered_data : (n : ℕ) (r : Spelled) → IsProper r → compact_text (record_data (recnum n) r) ≡ numbered_text n r
compact_text-numbered_data n r h = compact_text-record_data (recnum n) r h.digests ∙ ap (λ s. record_front r ++ s) (members_text-recnum n)

items_text-numbered_items : (n : ℕ) (rs : List Spelled) (later : Bool) → AreProper rs
    → items_text later (numbered_items n rs) ≡ comma_texts later (numbered_texts n rs) ++ 93 ∷ []
items_text-numbered_items n [] later h = refl
items_text-numbered_items n (r ∷ rs) later h =
    let more = numbered_texts (n + 1) rs in
    ap (λ s. comma_if later ++ (s ++ items_text true (numbered_items (n + 1) rs))) (compact_text-numbered_data n r h.0)
    ∙ ap (λ s. comma_if later ++ (numbered_text n r ++ s)) (items_text-numbered_items (n + 1) rs true h.1)
    ∙ ap (λ s. comma_if later ++ s) (sym (append_assoc (numbered_text n r) (comma_texts true more) (93 ∷ [])))
    ∙ sym (append_assoc (comma_if later) (numbered_text n r ++ comma_texts true more) (93 ∷ []))

compact_text-component : (rs : List Spelled) → AreProper rs → component_text rs ≡ compact_text (array (numbered_items 0 rs))
unfolding component_text
compact_text-component rs h =
    ap (λ s. 91 ∷ s) (ap (λ s. s ++ 93 ∷ []) (comma_texts-join (numbered_texts 0 rs)) ∙ sym (items_text-numbered_items 0 rs false h))

numbers : (n : ℕ) (rs : List Spelled) → n + length rs < 2 ^ 64 → AreProper rs → ItemsHaveNumbers (items_outline (numbered_items n rs))
numbers n [] small h = tt
numbers n (r ∷ rs) small h = (numbered_data-numbers n r (omega arith) h.0, numbers (n + 1) rs (omega arith) h.1)

shallow : (n : ℕ) (rs : List Spelled) → tree.items_depth (items_outline (numbered_items n rs)) ≤ 3
shallow n [] = omega arith
shallow n (r ∷ rs) = omega (arith, numbered_data-depth n r, shallow (n + 1) rs)

of_items-numbered_items : (n : ℕ) (rs : List Spelled) → n + length rs < 2 ^ 64 → AreProper rs → of_items (items_outline (numbered_items n rs)) ≡ Some (numbered_items n rs)
of_items-numbered_items n [] small h = refl
of_items-numbered_items n (r ∷ rs) small h =
    ap (λ o. option_and_then (λ d. option_map (item d) (of_items (items_outline (numbered_items (n + 1) rs)))) o) (of_json-numbered_data n r (omega arith) h.0)
    ∙ ap (option_map (item (record_data (recnum n) r))) (of_items-numbered_items (n + 1) rs (omega arith) h.1)

records_from-numbered_items : (n : ℕ) (rs : List Spelled) → n + length rs ≤ record_limit → AreProper rs → records_from n (numbered_items n rs) ≡ Ok rs
records_from-numbered_items n [] small h = refl
records_from-numbered_items n (r ∷ rs) small h =
    rw (ne_eqb n 256 (λ e. omega arith))
    (ap (λ o. numbered n o >>= λ x. records_from (n + 1) (numbered_items (n + 1) rs) >>= λ xs. Ok (x ∷ xs)) (record_of-record_data (recnum n) r h.0)
    ∙ ap (λ o. o >>= λ xs. Ok (r ∷ xs)) (records_from-numbered_items (n + 1) rs (omega arith) h.1))

-- the text of at most 256 records is a component file of them
pub component_of-component_text : (rs : List Spelled) → length rs ≤ record_limit → All IsProper rs → IsUtf8 (component_text rs) → component_of (component_text rs) ≡ Ok rs
component_of-component_text rs few all utf8 =
    let h = AreProper-all rs all in
    let items = numbered_items 0 rs in
    let readable : IsReadable (array items) = record {
      numbers = numbers 0 rs (omega arith) h;
      shallow = omega (arith, shallow 0 rs);
      same = ap (option_map array) (of_items-numbered_items 0 rs (omega arith) h);
    } in
    let value : json_of (component_text rs) ≡ Some (array items) =
    json_of-some (component_text rs) (array items) utf8 (rw (compact_text-component rs h) (read-compact_text (array items) readable)) in
    rw value (records_from-numbered_items 0 rs (omega arith) h)
