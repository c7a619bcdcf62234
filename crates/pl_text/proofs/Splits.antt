-- Parts of a text, taken off from the front.
use Rattle.std.proofs.Common.{◌≡◌, ℕ, ◌+◌, ◌<◌, Bool, true, false, cond, ltb, inl, inr, List, [], ◌∷◌, ◌++◌, length, get_or, take, drop, Option, None, Some, refl, sym, ap, ◌∙◌, arith, add-one}
use Rattle.std.specs.Prelude.{◌==◌, position}
use Rattle.std.specs.List.{position_or_len, All, onto_first, position_from}
use Rattle.std.proofs.lemmas.Iterator.Adapters.{position_from-zero}
use Rattle.std.proofs.Math.Seq.{drop-cons}
use Rattle.std.proofs.lemmas.List.{take-append-drop, get_or-take, get_or_default, length-take}
use Rattle.std.proofs.lemmas.Bool.{cases_Bool, le-ltb, lt-ltb}
use Rattle.std.proofs.lemmas.List.Sums.{position_or_len_is}
use Rattle.memchr.specs.Find.{IsFirstByte, Nowhere, Passes, is_byte}
use Rattle.std.proofs.lemmas.List.Quantifiers.{position-Some}
use Rattle.std.proofs.lemmas.List.Splits.{slice_split_at}
use Rattle.pl_text.specs.Parts.{parts_of, one_of}

-- there is always a first part
pub record HasFirst (parts : List (List ℕ)) : Type 0 where
  pub first : List ℕ
  pub rest : List (List ℕ)
  pub is : parts ≡ first ∷ rest

first_onto : (x : ℕ) (parts : List (List ℕ)) → HasFirst (onto_first x parts)
first_onto x [] = record { first = x ∷ []; rest = []; is = refl }
first_onto x (part ∷ parts) = record { first = x ∷ part; rest = parts; is = refl }

first_by : (test : Bool) (x : ℕ) (parts : List (List ℕ)) → HasFirst (cond test ([] ∷ parts) (onto_first x parts))
first_by true x parts = record { first = []; rest = parts; is = refl }
first_by false x parts = first_onto x parts

pub has_first : (byte : ℕ) (text : List ℕ) → HasFirst (parts_of byte text)
has_first byte [] = record { first = []; rest = []; is = refl }
has_first byte (x ∷ text) = first_by (x == byte) x (parts_of byte text)

-- so a part behind which another stands isn't the one part
pub one_of-more : (byte : ℕ) (part text : List ℕ) → one_of (part ∷ parts_of byte text) ≡ None
one_of-more byte part text = let h = has_first byte text in ap (λ parts. one_of (part ∷ parts)) h.is

-- up to the first place of a byte
pub parts_at : (byte end : ℕ) (text : List ℕ) → position (λ b. b == byte) text ≡ Some end
    → parts_of byte text ≡ take end text ∷ parts_of byte (drop (end + 1) text)
parts_at byte end text found =
    let at = position-Some (λ b. b == byte) text end 0 found in
    let rest : drop end text ≡ get_or text end 0 ∷ drop (end + 1) text = rw add-one (drop-cons text end 0 at.0) in
    let whole : text ≡ take end text ++ (get_or text end 0 ∷ drop (end + 1) text) =
    sym (take-append-drop end text) ∙ ap (λ tail. take end text ++ tail) rest in
    let none : All (λ b. (b == byte) ≡ false) (take end text) = λ k d inside.
    let below : k < end = omega (arith, inside, length-take end text) in
    let same : get_or (take end text) k d ≡ get_or text k 0 = get_or-take end text k d below ∙ get_or_default text k d 0 (omega (arith, below, at.0)) in
    ap (λ b. b == byte) same ∙ at.2 k below in
    ap (parts_of byte) whole ∙ slice_split_at (λ b. b == byte) (take end text) (get_or text end 0) (drop (end + 1) text) none at.1

not_found : (test : Bool) (i : ℕ) (later : Option ℕ) → cond test (Some i) later ≡ None → (test ≡ false) × (later ≡ None)
not_found true i later e = absurd (cc e)
not_found false i later e = (refl, e)

none_from : (byte i : ℕ) (text : List ℕ) → position_from (λ b. b == byte) i text ≡ None → parts_of byte text ≡ text ∷ []
none_from byte i [] e = refl
none_from byte i (x ∷ text) e =
    let both = not_found (x == byte) i (position_from (λ b. b == byte) (i + 1) text) e in
    ap (λ test. cond test ([] ∷ parts_of byte text) (onto_first x (parts_of byte text))) both.0
    ∙ ap (onto_first x) (none_from byte (i + 1) text both.1)

-- where the byte isn't there, the text is the one part
pub parts_alone : (byte : ℕ) (text : List ℕ) → position (λ b. b == byte) text ≡ None → parts_of byte text ≡ text ∷ []
parts_alone byte text e = none_from byte 0 text (sym (position_from-zero (λ b. b == byte) text) ∙ e)

-- ---- the first place

not_there : (byte b : ℕ) → ((b == byte) ≡ true → ⊥) → (b == byte) ≡ false
not_there byte b other =
    elim (cases_Bool (b == byte)) [
      | inl same ↦ absurd (other same)
      | inr differs ↦ differs
    ]

none_up_to : (byte : ℕ) (text : List ℕ) (end : ℕ) → Nowhere (Passes (is_byte byte) text) 0 end → (k : ℕ) → k < end → (get_or text k 0 == byte) ≡ false
none_up_to byte text end nowhere k below = not_there byte (get_or text k 0) (nowhere k (omega arith) below)

-- the first byte that a search finds is at the first place
pub first_place : (byte : ℕ) (text : List ℕ) (found : Option ℕ) → IsFirstByte (is_byte byte) text found → found ≡ position (λ b. b == byte) text
first_place byte text (Some k) h =
    let at : position_or_len (λ b. b == byte) text ≡ k = position_or_len_is (λ b. b == byte) text k 0 (omega (arith, h.0.high)) (none_up_to byte text k h.0.before) (λ below. h.1) in
    let within : ltb k (length text) ≡ true = lt-ltb k (length text) h.0.high in
    sym (rw (at, within) refl)
first_place byte text None h =
    let at : position_or_len (λ b. b == byte) text ≡ length text = position_or_len_is (λ b. b == byte) text (length text) 0 (omega arith) (none_up_to byte text (length text) h) (λ below. absurd (omega (arith, below))) in
    let past : ltb (length text) (length text) ≡ false = le-ltb (length text) (length text) (omega arith) in
    sym (rw (at, past) refl)
