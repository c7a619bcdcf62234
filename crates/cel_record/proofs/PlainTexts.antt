-- Written records have printable ASCII alone: they are UTF-8, and hold no separator of a text sequence.
use Rattle.std.proofs.Common.{◌≡◌, ◌≤◌, ◌<◌, ◌/◌, ◌%◌, ◌&&◌, ℕ, zero, suc, Bool, true, nat_le, nat_lt, List, [], ◌∷◌, ◌++◌, codes, decimal, flat_map, Option, Some, None, refl, sym, ap, ◌∙◌, inl, inr, arith, ltb-true}
use Rattle.std.specs.Prelude.{slice_index}
use Rattle.std.specs.Str.{IsAscii, IsUtf8}
use Rattle.std.specs.Fmt.{digits}
use Rattle.std.specs.List.{join_with_byte}
use Rattle.std.proofs.lemmas.Bool.{and_parts, cases_lt}
use Rattle.std.proofs.lemmas.Str.{IsUtf8-from_ascii}
use Rattle.std.proofs.lemmas.Str.Ascii.{IsAscii-nil, IsAscii-cons}
use Rattle.hex.specs.Hex.{IsBytes, encode_lower, encode_with, lower_digits}
use Rattle.serde_json.specs.Data.{no_members}
use Rattle.serde_json.specs.Read.{read}
use Rattle.hash_bank.specs.declared.bank.Bank.{Bank}
use Rattle.hash_bank.specs.declared.bank.Bank.TheVariants.{Sha1, Sha256, Sha384, Sha512}
use Rattle.hash_bank.specs.Hash.{name_in}
use Rattle.cel_record.specs.JsonValue.{json_of}
use Rattle.cel_record.specs.Listed.{Listed, listed_in}
use Rattle.cel_record.specs.Proper.{IsDigestOf, AreDigests, IsProper}
use Rattle.cel_record.specs.Spelled.{Spelled}
use Rattle.cel_record.specs.Written.{digest_text, text_of_digest, digest_texts, digest_texts_in, with_commas, record_opening, pcr_text, record_front, record_text}
use Rattle.cel_record.proofs.JsonRoundTrip.{IsReadable, read-compact_text}
use Rattle.cel_record.proofs.JsonTexts.{json_of-some}
use Rattle.cel_record.proofs.RecordData.{record_data, compact_text-record_data, record_data-numbers, record_data-depth, of_json-record_data}

abbrev pub is_plain : List ℕ → Bool
is_plain [] = true
is_plain (x ∷ xs) = (nat_le 32 x && nat_lt x 128) && is_plain xs

pub is_plain-append : (xs ys : List ℕ) → is_plain xs ≡ true → is_plain ys ≡ true → is_plain (xs ++ ys) ≡ true
is_plain-append [] ys h k = k
is_plain-append (x ∷ xs) ys h k =
    let parts = and_parts (nat_le 32 x && nat_lt x 128) (is_plain xs) h in
    rw (parts.0, is_plain-append xs ys parts.1 k) refl

pub IsUtf8-is_plain : (xs : List ℕ) → is_plain xs ≡ true → IsUtf8 xs
IsUtf8-is_plain xs h = IsUtf8-from_ascii xs (ascii xs h)
  where
    ascii : (ys : List ℕ) → is_plain ys ≡ true → IsAscii ys
    ascii [] e = IsAscii-nil
    ascii (y ∷ ys) e =
        let parts = and_parts (nat_le 32 y && nat_lt y 128) (is_plain ys) e in
        let byte = and_parts (nat_le 32 y) (nat_lt y 128) parts.0 in
        IsAscii-cons y ys (ltb-true y 128 byte.1) (ascii ys parts.1)

-- ---- the parts

-- the first n digits
abbrev plain_below : ℕ → Bool
plain_below zero = true
plain_below (suc n) = is_plain (slice_index lower_digits n ∷ []) && plain_below n

plain_digit : (n d : ℕ) → plain_below n ≡ true → d < n → is_plain (slice_index lower_digits d ∷ []) ≡ true
plain_digit zero d h lt = absurd (omega arith)
plain_digit (suc n) d h lt =
    let parts = and_parts (is_plain (slice_index lower_digits n ∷ [])) (plain_below n) h in
    elim (cases_lt d n) [
      | inl below ↦ plain_digit n d parts.1 below
      | inr top ↦
          let e : d ≡ n = omega arith in
          rw e parts.0
    ]

is_plain-encode_lower : (bytes : List ℕ) → IsBytes bytes → is_plain (encode_lower bytes) ≡ true
unfolding encode_with
is_plain-encode_lower [] h = refl
is_plain-encode_lower (b ∷ rest) h =
    let small : b < 256 = h 0 in
    is_plain-append (slice_index lower_digits (b / 16) ∷ []) (slice_index lower_digits (b % 16) ∷ encode_lower rest) (plain_digit 16 (b / 16) refl (omega arith))
    (is_plain-append (slice_index lower_digits (b % 16) ∷ []) (encode_lower rest) (plain_digit 16 (b % 16) refl (omega arith)) (is_plain-encode_lower rest (λ i. h (suc i))))

is_plain-name_in : (b : Bank) → is_plain (name_in b) ≡ true
is_plain-name_in Sha1 = refl
is_plain-name_in Sha256 = refl
is_plain-name_in Sha384 = refl
is_plain-name_in Sha512 = refl

is_plain-digest_text : (b : Bank) (x : List ℕ) → IsBytes x → is_plain (digest_text b x) ≡ true
unfolding digest_text
is_plain-digest_text b x h =
    is_plain-append (((codes "{\"digest\":\"" ++ encode_lower x) ++ codes "\",\"hashAlg\":\"") ++ name_in b) (codes "\"}")
    (is_plain-append ((codes "{\"digest\":\"" ++ encode_lower x) ++ codes "\",\"hashAlg\":\"") (name_in b)
    (is_plain-append (codes "{\"digest\":\"" ++ encode_lower x) (codes "\",\"hashAlg\":\"") (is_plain-append (codes "{\"digest\":\"") (encode_lower x) refl (is_plain-encode_lower x h)) refl)
    (is_plain-name_in b)) refl

-- each text
abbrev AllPlain : List (List ℕ) → Type 0
AllPlain [] = Unit {0}
AllPlain (t ∷ ts) = (is_plain t ≡ true) × AllPlain ts

is_plain-join : (ts : List (List ℕ)) → AllPlain ts → is_plain (join_with_byte 44 ts) ≡ true
is_plain-join [] h = refl
is_plain-join (t ∷ []) h = h.0
is_plain-join (t ∷ u ∷ us) h = is_plain-append t (44 ∷ join_with_byte 44 (u ∷ us)) h.0 (is_plain-join (u ∷ us) h.1)

AllPlain-append : (ts us : List (List ℕ)) → AllPlain ts → AllPlain us → AllPlain (ts ++ us)
AllPlain-append [] us h k = k
AllPlain-append (t ∷ ts) us h k = (h.0, AllPlain-append ts us h.1 k)

AllPlain-digest : (b : Bank) (o : Option (List ℕ)) → IsDigestOf b o → AllPlain (text_of_digest b o)
AllPlain-digest b None h = tt
AllPlain-digest b (Some x) h = (is_plain-digest_text b x h.1, tt)

AllPlain-digests : (l : Listed) (bs : List Bank) → AreDigests l → AllPlain (flat_map (digest_texts_in l) bs)
AllPlain-digests l [] h = tt
AllPlain-digests l (b ∷ bs) h = AllPlain-append (digest_texts_in l b) (flat_map (digest_texts_in l) bs) (AllPlain-digest b (listed_in b l) (h b)) (AllPlain-digests l bs h)

-- the numbers of the first n PCRs
abbrev plain_pcrs : ℕ → Bool
plain_pcrs zero = true
plain_pcrs (suc n) = is_plain (decimal n) && plain_pcrs n

plain_pcr : (n pcr : ℕ) → plain_pcrs n ≡ true → pcr < n → is_plain (decimal pcr) ≡ true
plain_pcr zero pcr h lt = absurd (omega arith)
plain_pcr (suc n) pcr h lt =
    let parts = and_parts (is_plain (decimal n)) (plain_pcrs n) h in
    elim (cases_lt pcr n) [
      | inl below ↦ plain_pcr n pcr parts.1 below
      | inr top ↦
          let e : pcr ≡ n = omega arith in
          rw e parts.0
    ]

all_pcrs : plain_pcrs 24 ≡ true
unfolding digits
all_pcrs = refl

is_plain-pcr_text : (pcr : ℕ) → pcr ≤ 23 → is_plain (pcr_text pcr) ≡ true
unfolding pcr_text
is_plain-pcr_text pcr h = is_plain-append (codes "],\"pcr\":") (decimal pcr) refl (plain_pcr 24 pcr all_pcrs (omega arith))

is_plain-opening : is_plain record_opening ≡ true
unfolding record_opening
is_plain-opening = refl

-- ---- the record

pub is_plain-record_text : (r : Spelled) → IsProper r → is_plain (record_text r) ≡ true
is_plain-record_text r h =
    is_plain-append (record_front r) (125 ∷ [])
    (is_plain-append (record_opening ++ with_commas (digest_texts r.digests)) (pcr_text r.pcr)
    (is_plain-append record_opening (with_commas (digest_texts r.digests)) is_plain-opening
    (is_plain-join (digest_texts r.digests) (AllPlain-digests r.digests (Sha1 ∷ Sha256 ∷ Sha384 ∷ Sha512 ∷ []) h.digests)))
    (is_plain-pcr_text r.pcr h.pcr)) refl

-- a record's text reads as the value that was written for it
pub json_of-record_text : (r : Spelled) → IsProper r → json_of (record_text r) ≡ Some (record_data no_members r)
json_of-record_text r h =
    let readable : IsReadable (record_data no_members r) = record {
      numbers = record_data-numbers r h;
      shallow = omega (arith, record_data-depth r);
      same = of_json-record_data r h;
    } in
    json_of-some (record_text r) (record_data no_members r) (IsUtf8-is_plain (record_text r) (is_plain-record_text r h))
    (ap read (sym (compact_text-record_data no_members r h.digests)) ∙ read-compact_text (record_data no_members r) readable)
