-- Numbers and digests in words, and back.
use Rattle.std.proofs.Common.{◌≡◌, ℕ, ◌^◌, ◌<◌, ◌≤◌, Bool, true, false, cond, ◌&&◌, leb, List, [], ◌∷◌, ◌++◌, length, map, Option, Some, None, Result, Ok, Err, refl, sym, ap, ◌∙◌, subst, inl, inr, append-nil, append_assoc, arith}
use Rattle.std.specs.Prelude.{codes}
use Rattle.std.specs.List.{All, join_with_byte}
use Rattle.std.specs.Option.{unwrap_or}
use Rattle.std.specs.Result.{result_ok}
use Rattle.std.specs.Str.{bytes_eq}
use Rattle.std.specs.Str.Parse.{digits_value}
use Rattle.std.specs.Fmt.{decimal}
use Rattle.std.proofs.lemmas.Bool.{cases_Bool, and_parts, and_from, leb-true, le-leb}
use Rattle.std.proofs.lemmas.Fmt.{decimal_is_IsNumeral}
use Rattle.std.proofs.lemmas.List.Elements.{All-nil, All-cons, All-head, All-tail}
use Rattle.std.proofs.lemmas.List.Splits.{join_with_byte-slice_split}
use Rattle.hex.specs.Hex.{IsBytes, encode_lower, decode_sized}
use Rattle.hex.specs.declared.error.FromHexError.{FromHexError}
use Rattle.hex.proofs.HexLemmas.{decode_sized-encode_lower, decode_sized-ok, decode_sized-twice, decode_of-ok}
use Rattle.hash_bank.specs.declared.bank.Bank.{Bank}
use Rattle.hash_bank.specs.Hash.{size_in}
use Rattle.pl_text.specs.Parts.{parts_of}
use Rattle.pl_text.specs.Words.{◌>>=◌, number_up_to, bytes_of}
use Rattle.pl_text.proofs.Splits.{has_first}
use Rattle.predictor.proofs.Repeats.{bytes_tell}
use Rattle.predict_proof.specs.ProofText.{numbers_text, choice_text}
use Rattle.predict_proof.specs.Words.{numbers_from, choice_of, digest_of, values_from}
use Rattle.predict_proof.proofs.Bytes.{From, decimal_from, hex_from, texts_from, parts_joined}

-- ---- one after the other

-- the first of two steps gave something, and the second something of it
pub both_gave : {A B : Type 0} (o : Option A) (f : A → Option B) (y : B) → (o >>= f) ≡ Some y → (x : A) × (o ≡ Some x) × (f x ≡ Some y)
both_gave None f y h = absurd cc
both_gave (Some x) f y h = (x, refl, h)

pub then_gives : {A B : Type 0} (o : Option A) (f : A → Option B) (x : A) (y : Option B) → o ≡ Some x → f x ≡ y → (o >>= f) ≡ y
then_gives o f x y is gives = ap (λ o. o >>= f) is ∙ gives

-- a test that passed
pub gave_if : {A : Type 0} (b : Bool) (x y : A) → cond b (Some x) None ≡ Some y → (b ≡ true) × (x ≡ y)
gave_if true x y h = (refl, ap (λ o. unwrap_or o x) h)
gave_if false x y h = absurd cc

pub gives_if : {A : Type 0} (b : Bool) (o p : Option A) → b ≡ true → cond b o p ≡ o
gives_if b o p h = ap (λ t. cond t o p) h

-- ---- a number

pub number_back : (limit n : ℕ) → n ≤ limit → limit < 2 ^ 32 → number_up_to limit (decimal n) ≡ Some n
number_back limit n within small =
    let value : digits_value 10 (decimal n) ≡ n = (decimal_is_IsNumeral n (omega arith)).1 in
    ap (λ k. cond (leb k limit && bytes_eq (decimal n) (decimal k)) (Some k) None) value
    ∙ gives_if (leb n limit && bytes_eq (decimal n) (decimal n)) (Some n) None (and_from (leb n limit) (bytes_eq (decimal n) (decimal n)) (le-leb n limit within) (bytes_tell.itself (decimal n)))

pub number_read : (limit : ℕ) (word : List ℕ) (n : ℕ) → number_up_to limit word ≡ Some n → (n ≤ limit) × (word ≡ decimal n)
number_read limit word n h =
    let k = digits_value 10 word in
    let given = gave_if (leb k limit && bytes_eq word (decimal k)) k n h in
    let parts = and_parts (leb k limit) (bytes_eq word (decimal k)) given.0 in
    (subst (λ m. m ≤ limit) given.1 (leb-true k limit parts.0), bytes_tell.equal word (decimal k) parts.1 ∙ ap decimal given.1)

pub number_from : (limit n : ℕ) → n ≤ limit → limit < 2 ^ 32 → From 48 (decimal n)
number_from limit n within small = decimal_from n (omega arith)

-- ---- several

pub numbers_back : (limit : ℕ) → limit < 2 ^ 32 → (before more : List ℕ) → All (λ v. v ≤ limit) more → numbers_from limit before (map decimal more) ≡ Some (before ++ more)
numbers_back limit small before [] h = ap Some (sym (append-nil before))
numbers_back limit small before (v ∷ more) h =
    then_gives (number_up_to limit (decimal v)) (λ n. numbers_from limit (before ++ n ∷ []) (map decimal more)) v (Some (before ++ v ∷ more)) (number_back limit v (All-head (λ v. v ≤ limit) v more h) small)
    (numbers_back limit small (before ++ v ∷ []) more (All-tail (λ v. v ≤ limit) v more h) ∙ ap Some (append_assoc before (v ∷ []) more))

pub record NumbersRead (limit : ℕ) (before : List ℕ) (words : List (List ℕ)) (all : List ℕ) : Type 0 where
  pub more : List ℕ
  pub all_are : all ≡ before ++ more
  pub words_are : words ≡ map decimal more
  pub within : All (λ v. v ≤ limit) more

pub numbers_read : (limit : ℕ) (before : List ℕ) (words : List (List ℕ)) (all : List ℕ) → numbers_from limit before words ≡ Some all → NumbersRead limit before words all
numbers_read limit before [] all h = record {
  more = [];
  all_are = sym (append-nil before ∙ ap (λ o. unwrap_or o before) h);
  words_are = refl;
  within = All-nil (λ v. v ≤ limit);
}
numbers_read limit before (word ∷ words) all h =
    let given = both_gave (number_up_to limit word) (λ n. numbers_from limit (before ++ n ∷ []) words) all h in
    let first = number_read limit word given.0 given.1 in
    let later = numbers_read limit (before ++ given.0 ∷ []) words all given.2 in
    record {
      more = given.0 ∷ later.more;
      all_are = later.all_are ∙ append_assoc before (given.0 ∷ []) later.more;
      words_are = ap (λ (w : List ℕ). w ∷ words) first.1 ∙ ap (λ (ws : List (List ℕ)). decimal given.0 ∷ ws) later.words_are;
      within = All-cons (λ v. v ≤ limit) given.0 later.more first.0 later.within;
    }

pub numbers_text_from : (limit : ℕ) → limit < 2 ^ 32 → (ns : List ℕ) → All (λ v. v ≤ limit) ns → All (From 48) (map decimal ns)
numbers_text_from limit small ns h = texts_from 48 decimal (λ v. v ≤ limit) (λ n within. number_from limit n within small) ns h

-- ---- a choice

not_dash : (limit v : ℕ) → v ≤ limit → limit < 2 ^ 32 → decimal v ≡ codes "-" → ⊥
not_dash limit v within small same =
    let first : 48 ≤ 45 = All-head (λ b. 48 ≤ b) 45 [] (subst (From 48) same (number_from limit v within small)) in
    omega arith

pub choice_back : (choice : List ℕ) → All (λ v. v ≤ 63) choice → choice_of (choice_text choice) ≡ Some choice
choice_back [] h = refl
choice_back (v ∷ choice) h =
    let parts : parts_of 44 (numbers_text (v ∷ choice)) ≡ map decimal (v ∷ choice) = parts_joined 48 44 (omega arith) (decimal v) (map decimal choice) (numbers_text_from 63 (omega arith) (v ∷ choice) h) in
    elim (cases_Bool (bytes_eq (numbers_text (v ∷ choice)) (codes "-"))) [
      | inl same ↦
          let dash : codes "-" ∷ [] ≡ map decimal (v ∷ choice) = ap (parts_of 44) (sym (bytes_tell.equal (numbers_text (v ∷ choice)) (codes "-") same)) ∙ parts in
          let first : codes "-" ≡ decimal v = first_same (codes "-") [] (decimal v) (map decimal choice) dash in
          absurd (not_dash 63 v (All-head (λ v. v ≤ 63) v choice h) (omega arith) (sym first))
      | inr other ↦
          ap (λ b. cond b (Some []) (numbers_from 63 [] (parts_of 44 (numbers_text (v ∷ choice))))) other
          ∙ ap (numbers_from 63 []) parts ∙ numbers_back 63 (omega arith) [] (v ∷ choice) h
    ]
  where
    first_same : (x : List ℕ) (xs : List (List ℕ)) (y : List ℕ) (ys : List (List ℕ)) → x ∷ xs ≡ y ∷ ys → x ≡ y
    first_same x xs y ys h = cc

some_choice : (choice : List ℕ) (word : List ℕ) → map decimal choice ≡ parts_of 44 word → word ≡ choice_text choice
some_choice [] word h = let first = has_first 44 word in let e : [] ≡ first.first ∷ first.rest = h ∙ first.is in absurd cc
some_choice (v ∷ choice) word h = sym (join_with_byte-slice_split 44 word) ∙ ap (join_with_byte 44) (sym h)

pub choice_read : (word choice : List ℕ) → choice_of word ≡ Some choice → All (λ v. v ≤ 63) choice × (word ≡ choice_text choice)
choice_read word choice h =
    elim (cases_Bool (bytes_eq word (codes "-"))) [
      | inl same ↦
          let e : Some [] ≡ Some choice = sym (ap (λ b. cond b (Some []) (numbers_from 63 [] (parts_of 44 word))) same) ∙ h in
          let none : [] ≡ choice = ap (λ o. unwrap_or o []) e in
          (subst (All (λ v. v ≤ 63)) none (All-nil (λ v. v ≤ 63)), bytes_tell.equal word (codes "-") same ∙ ap choice_text none)
      | inr other ↦
          let read = numbers_read 63 [] (parts_of 44 word) choice (sym (ap (λ b. cond b (Some []) (numbers_from 63 [] (parts_of 44 word))) other) ∙ h) in
          (subst (All (λ v. v ≤ 63)) (sym read.all_are) read.within, some_choice choice word (ap (map decimal) read.all_are ∙ sym read.words_are))
    ]

-- ---- a digest

pub record IsDigest (bank : Bank) (d : List ℕ) : Type 0 where
  pub size : length d ≡ size_in bank
  pub bytes : IsBytes d

pub digest_back : (bank : Bank) (d : List ℕ) → IsDigest bank d → digest_of bank (encode_lower d) ≡ Some d
digest_back bank d is =
    then_gives (bytes_of (size_in bank) (encode_lower d)) (λ x. cond (bytes_eq (encode_lower x) (encode_lower d)) (Some x) None) d (Some d) (ap result_ok (decode_sized-encode_lower d (size_in bank) is.size is.bytes))
    (gives_if (bytes_eq (encode_lower d) (encode_lower d)) (Some d) None (bytes_tell.itself (encode_lower d)))

ok_of : (r : Result (List ℕ) FromHexError) (d : List ℕ) → result_ok r ≡ Some d → r ≡ Ok d
ok_of (Ok x) d h = ap (λ o. Ok (unwrap_or o x)) h
ok_of (Err e) d h = absurd cc

pub digest_read : (bank : Bank) (word d : List ℕ) → digest_of bank word ≡ Some d → IsDigest bank d × (word ≡ encode_lower d)
digest_read bank word d h =
    let given = both_gave (bytes_of (size_in bank) word) (λ x. cond (bytes_eq (encode_lower x) word) (Some x) None) d h in
    let test = gave_if (bytes_eq (encode_lower given.0) word) given.0 d given.2 in
    let same : given.0 ≡ d = test.1 in
    let decoded : decode_sized word (size_in bank) ≡ Ok given.0 = ok_of (decode_sized word (size_in bank)) given.0 given.1 in
    let twice = decode_sized-ok word (size_in bank) given.0 decoded in
    let plain = decode_of-ok word given.0 (sym (decode_sized-twice word (size_in bank) twice) ∙ decoded) in
    let long : length given.0 ≡ size_in bank = omega (arith, twice, plain.2) in
    let is : IsDigest bank given.0 = record { size = long; bytes = plain.3 } in
    (subst (IsDigest bank) same is, sym (bytes_tell.equal (encode_lower given.0) word test.0) ∙ ap encode_lower same)

-- ---- several

pub values_back : (bank : Bank) (before more : List (List ℕ)) → All (IsDigest bank) more → values_from bank before (map encode_lower more) ≡ Some (before ++ more)
values_back bank before [] h = ap Some (sym (append-nil before))
values_back bank before (d ∷ more) h =
    then_gives (digest_of bank (encode_lower d)) (λ x. values_from bank (before ++ x ∷ []) (map encode_lower more)) d (Some (before ++ d ∷ more)) (digest_back bank d (All-head (IsDigest bank) d more h))
    (values_back bank (before ++ d ∷ []) more (All-tail (IsDigest bank) d more h) ∙ ap Some (append_assoc before (d ∷ []) more))

pub record ValuesRead (bank : Bank) (before : List (List ℕ)) (words : List (List ℕ)) (all : List (List ℕ)) : Type 0 where
  pub more : List (List ℕ)
  pub all_are : all ≡ before ++ more
  pub words_are : words ≡ map encode_lower more
  pub digests : All (IsDigest bank) more

pub values_read : (bank : Bank) (before words all : List (List ℕ)) → values_from bank before words ≡ Some all → ValuesRead bank before words all
values_read bank before [] all h = record {
  more = [];
  all_are = sym (append-nil before ∙ ap (λ o. unwrap_or o before) h);
  words_are = refl;
  digests = All-nil (IsDigest bank);
}
values_read bank before (word ∷ words) all h =
    let given = both_gave (digest_of bank word) (λ x. values_from bank (before ++ x ∷ []) words) all h in
    let first = digest_read bank word given.0 given.1 in
    let later = values_read bank (before ++ given.0 ∷ []) words all given.2 in
    record {
      more = given.0 ∷ later.more;
      all_are = later.all_are ∙ append_assoc before (given.0 ∷ []) later.more;
      words_are = ap (λ (w : List ℕ). w ∷ words) first.1 ∙ ap (λ (ws : List (List ℕ)). encode_lower given.0 ∷ ws) later.words_are;
      digests = All-cons (IsDigest bank) given.0 later.more first.0 later.digests;
    }

pub values_text_from : (bank : Bank) (ds : List (List ℕ)) → All (IsDigest bank) ds → All (From 48) (map encode_lower ds)
values_text_from bank ds h = texts_from 48 encode_lower (IsDigest bank) (λ d is. hex_from d is.bytes) ds h
