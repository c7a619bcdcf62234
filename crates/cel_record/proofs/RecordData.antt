-- A record as a JSON value: its text, and what the value is as a record.
use Rattle.std.proofs.Common.{◌≡◌, ◌≤◌, ◌<◌, ◌^◌, ℕ, Bool, true, false, List, [], ◌∷◌, ◌++◌, codes, decimal, flat_map, Option, Some, None, option_map, Ok, refl, sym, ap, ◌∙◌, append_assoc, arith, le-leb}
use Rattle.json.specs.Print.{escape_byte}
use Rattle.json.specs.Tree as tree
use Rattle.json.specs.Tree.{HasNumbers, ItemsHaveNumbers}
use Rattle.json.proofs.Printed.Decimals.{IsNumber-decimal}
use Rattle.serde_json.specs.Data.{Data, number, array, object, unsigned, Items, no_items, item, Members, no_members, member}
use Rattle.serde_json.specs.Read.{of_json, of_items}
use Rattle.serde_json.specs.Written.{outline, items_outline, compact_text, items_text, members_text}
use Rattle.serde_json.proofs.Numbers.{number_of-decimal}
use Rattle.hash_bank.specs.declared.bank.Bank.{Bank}
use Rattle.hash_bank.specs.declared.bank.Bank.TheVariants.{Sha1, Sha256, Sha384, Sha512}
use Rattle.cel_record.specs.Commas.{comma_if, comma_texts}
use Rattle.cel_record.specs.Listed.{Listed, listed_in, none_listed}
use Rattle.cel_record.specs.Proper.{IsDigestOf, AreDigests, IsProper}
use Rattle.cel_record.specs.RecordText.{digests_after, record_of, with_member}
use Rattle.cel_record.specs.Spelled.{Spelled}
use Rattle.cel_record.specs.Step.{◌>>=◌}
use Rattle.cel_record.specs.Written.{digest_text, text_of_digest, digest_texts, digest_texts_in, with_commas, record_opening, pcr_text, record_front, number_text}
use Rattle.cel_record.proofs.Commas.{comma_texts-join}
use Rattle.cel_record.proofs.DigestData.{digest_data, compact_text-digest_data, member_of-digest_data}

abbrev banks : List Bank
banks = Sha1 ∷ Sha256 ∷ Sha384 ∷ Sha512 ∷ []

-- a digest, if there is one, before other members
abbrev item_if : Bank → Option (List ℕ) → Items → Items
item_if b None ds = ds
item_if b (Some x) ds = item (digest_data b x) ds

abbrev pub digest_items : Listed → List Bank → Items
digest_items l [] = no_items
digest_items l (b ∷ bs) = item_if b (listed_in b l) (digest_items l bs)

-- ---- their text

text_item : (b : Bank) (o : Option (List ℕ)) (ds : Items) (ts : List (List ℕ)) (later : Bool) → IsDigestOf b o
    → ((l : Bool) → items_text l ds ≡ comma_texts l ts ++ 93 ∷ []) → items_text later (item_if b o ds) ≡ comma_texts later (text_of_digest b o ++ ts) ++ 93 ∷ []
text_item b None ds ts later h rest = rest later
text_item b (Some x) ds ts later h rest =
    ap (λ s. comma_if later ++ (s ++ items_text true ds)) (compact_text-digest_data b x h.1)
    ∙ ap (λ s. comma_if later ++ (digest_text b x ++ s)) (rest true)
    ∙ ap (λ s. comma_if later ++ s) (sym (append_assoc (digest_text b x) (comma_texts true ts) (93 ∷ [])))
    ∙ sym (append_assoc (comma_if later) (digest_text b x ++ comma_texts true ts) (93 ∷ []))

items_text-digest_items : (l : Listed) (bs : List Bank) (later : Bool) → AreDigests l
    → items_text later (digest_items l bs) ≡ comma_texts later (flat_map (digest_texts_in l) bs) ++ 93 ∷ []
items_text-digest_items l [] later h = refl
items_text-digest_items l (b ∷ bs) later h = text_item b (listed_in b l) (digest_items l bs) (flat_map (digest_texts_in l) bs) later (h b) (λ now. items_text-digest_items l bs now h)

-- ---- what they read as

of_items-item : (b : Bank) (o : Option (List ℕ)) (ds : Items) → of_items (items_outline ds) ≡ Some ds → of_items (items_outline (item_if b o ds)) ≡ Some (item_if b o ds)
of_items-item b None ds h = h
of_items-item b (Some x) ds h = ap (option_map (item (digest_data b x))) h

of_items-digest_items : (l : Listed) (bs : List Bank) → of_items (items_outline (digest_items l bs)) ≡ Some (digest_items l bs)
of_items-digest_items l [] = refl
of_items-digest_items l (b ∷ bs) = of_items-item b (listed_in b l) (digest_items l bs) (of_items-digest_items l bs)

numbers_item : (b : Bank) (o : Option (List ℕ)) (ds : Items) → ItemsHaveNumbers (items_outline ds) → ItemsHaveNumbers (items_outline (item_if b o ds))
numbers_item b None ds h = h
numbers_item b (Some x) ds h = ((tt, (tt, tt)), h)

digest_items-numbers : (l : Listed) (bs : List Bank) → ItemsHaveNumbers (items_outline (digest_items l bs))
digest_items-numbers l [] = tt
digest_items-numbers l (b ∷ bs) = numbers_item b (listed_in b l) (digest_items l bs) (digest_items-numbers l bs)

depth_item : (b : Bank) (o : Option (List ℕ)) (ds : Items) → tree.items_depth (items_outline ds) ≤ 1 → tree.items_depth (items_outline (item_if b o ds)) ≤ 1
depth_item b None ds h = h
depth_item b (Some x) ds h = omega arith

digest_items-depth : (l : Listed) (bs : List Bank) → tree.items_depth (items_outline (digest_items l bs)) ≤ 1
digest_items-depth l [] = omega arith
digest_items-depth l (b ∷ bs) = depth_item b (listed_in b l) (digest_items l bs) (digest_items-depth l bs)

-- ---- the digests that they list

-- with what is given for a bank
abbrev given : Bank → Option (List ℕ) → Listed → Listed
given Sha1 o l = record l { sha1 = o }
given Sha256 o l = record l { sha256 = o }
given Sha384 o l = record l { sha384 = o }
given Sha512 o l = record l { sha512 = o }

given_none : (b : Bank) (m : Listed) → listed_in b m ≡ None → m ≡ given b None m
given_none Sha1 m e = ap (λ o. given Sha1 o m) e
given_none Sha256 m e = ap (λ o. given Sha256 o m) e
given_none Sha384 m e = ap (λ o. given Sha384 o m) e
given_none Sha512 m e = ap (λ o. given Sha512 o m) e

given_some : (b : Bank) (x : List ℕ) (m : Listed) → listed_in b m ≡ None → with_member m (Some (b, x)) ≡ Ok (given b (Some x) m)
given_some Sha1 x m e = rw e refl
given_some Sha256 x m e = rw e refl
given_some Sha384 x m e = rw e refl
given_some Sha512 x m e = rw e refl

after_item : (b : Bank) (o : Option (List ℕ)) (m : Listed) (ds : Items) → IsDigestOf b o → listed_in b m ≡ None
    → digests_after m (item_if b o ds) ≡ digests_after (given b o m) ds
after_item b None m ds h e = ap (λ l. digests_after l ds) (given_none b m e)
after_item b (Some x) m ds h e =
    ap (λ r. (r >>= with_member m) >>= λ more. digests_after more ds) (member_of-digest_data b x h.0 h.1)
    ∙ ap (λ r. r >>= λ more. digests_after more ds) (given_some b x m e)

digests_after-digest_items : (l : Listed) → AreDigests l → digests_after none_listed (digest_items l banks) ≡ Ok l
digests_after-digest_items l h =
    after_item Sha1 l.sha1 none_listed (digest_items l (Sha256 ∷ Sha384 ∷ Sha512 ∷ [])) (h Sha1) refl
    ∙ after_item Sha256 l.sha256 (given Sha1 l.sha1 none_listed) (digest_items l (Sha384 ∷ Sha512 ∷ [])) (h Sha256) refl
    ∙ after_item Sha384 l.sha384 (given Sha256 l.sha256 (given Sha1 l.sha1 none_listed)) (digest_items l (Sha512 ∷ [])) (h Sha384) refl
    ∙ after_item Sha512 l.sha512 (given Sha384 l.sha384 (given Sha256 l.sha256 (given Sha1 l.sha1 none_listed))) no_items (h Sha512) refl

-- ---- the record

-- the value that is written for a record, with further members at its end
abbrev pub record_data : Members → Spelled → Data
record_data more r = object (member (codes "digests") (array (digest_items r.digests banks)) (member (codes "pcr") (number (unsigned r.pcr)) more))

-- a record's number in its file
abbrev pub recnum : ℕ → Members
recnum n = member (codes "recnum") (number (unsigned n)) no_members

joined : (D P rest : List ℕ) → (D ++ 93 ∷ []) ++ (codes ",\"pcr\":" ++ (P ++ rest)) ≡ (D ++ (codes "],\"pcr\":" ++ P)) ++ rest
joined D P rest = simp append_assoc

pub compact_text-record_data : (more : Members) (r : Spelled) → AreDigests r.digests → compact_text (record_data more r) ≡ record_front r ++ members_text true more
unfolding record_opening pcr_text escape_byte
compact_text-record_data more r h =
    let list : items_text false (digest_items r.digests banks) ≡ with_commas (digest_texts r.digests) ++ 93 ∷ [] =
    items_text-digest_items r.digests banks false h ∙ ap (λ s. s ++ 93 ∷ []) (sym (comma_texts-join (digest_texts r.digests))) in
    ap (λ s. codes "{\"digests\":[" ++ (s ++ (codes ",\"pcr\":" ++ (decimal r.pcr ++ members_text true more)))) list
    ∙ ap (λ s. codes "{\"digests\":[" ++ s) (joined (with_commas (digest_texts r.digests)) (decimal r.pcr) (members_text true more))

pub members_text-recnum : (n : ℕ) → members_text true (recnum n) ≡ number_text n
unfolding number_text escape_byte
members_text-recnum n = refl

below_64 : (r : Spelled) → IsProper r → r.pcr < 2 ^ 64
below_64 r h = omega (arith, h.pcr)

pub record_data-numbers : (r : Spelled) → IsProper r → HasNumbers (outline (record_data no_members r))
record_data-numbers r h = (digest_items-numbers r.digests banks, (IsNumber-decimal r.pcr (below_64 r h), tt))

pub numbered_data-numbers : (n : ℕ) (r : Spelled) → n < 2 ^ 64 → IsProper r → HasNumbers (outline (record_data (recnum n) r))
numbered_data-numbers n r small h = (digest_items-numbers r.digests banks, (IsNumber-decimal r.pcr (below_64 r h), (IsNumber-decimal n small, tt)))

pub record_data-depth : (r : Spelled) → tree.depth (outline (record_data no_members r)) ≤ 3
record_data-depth r = omega (arith, digest_items-depth r.digests banks)

pub numbered_data-depth : (n : ℕ) (r : Spelled) → tree.depth (outline (record_data (recnum n) r)) ≤ 3
numbered_data-depth n r = omega (arith, digest_items-depth r.digests banks)

pub of_json-record_data : (r : Spelled) → IsProper r → of_json (outline (record_data no_members r)) ≡ Some (record_data no_members r)
of_json-record_data r h = rw (of_items-digest_items r.digests banks) (rw (number_of-decimal r.pcr (below_64 r h)) refl)

pub of_json-numbered_data : (n : ℕ) (r : Spelled) → n < 2 ^ 64 → IsProper r → of_json (outline (record_data (recnum n) r)) ≡ Some (record_data (recnum n) r)
of_json-numbered_data n r small h = rw (of_items-digest_items r.digests banks) (rw (number_of-decimal r.pcr (below_64 r h)) (rw (number_of-decimal n small) refl))

-- the value is the record
pub record_of-record_data : (more : Members) (r : Spelled) → IsProper r → record_of (record_data more r) ≡ Ok r
record_of-record_data more r h = rw (le-leb r.pcr 23 h.pcr) (rw (digests_after-digest_items r.digests h.digests) refl)
