-- Lines of proofs and the first line, read and written.
use Rattle.std.proofs.Common.{◌≡◌, ℕ, ◌<◌, ◌≤◌, Bool, true, false, cond, ◌&&◌, ◌||◌, leb, ltb, eqb, List, [], ◌∷◌, ◌++◌, length, map, Option, Some, None, refl, sym, ap, ◌∙◌, subst, inl, inr, arith}
use Rattle.std.specs.Prelude.{codes, find}
use Rattle.std.specs.List.{All, join_with_byte}
use Rattle.std.specs.Option.{unwrap_or}
use Rattle.std.specs.Str.{bytes_eq}
use Rattle.std.specs.Fmt.{decimal}
use Rattle.std.proofs.lemmas.Bool.{cases_Bool, and_parts, and_from, or_cases, eqb-true, eq-eqb, leb-true, ltb-true, lt-ltb}
use Rattle.std.proofs.lemmas.List.{length-map}
use Rattle.std.proofs.lemmas.List.Elements.{All-nil, All-cons, All-weaker}
use Rattle.std.proofs.lemmas.List.Splits.{join_with_byte-slice_split}
use Rattle.hex.specs.Hex.{encode_lower}
use Rattle.hash_bank.specs.declared.bank.Bank.{Bank}
use Rattle.hash_bank.specs.declared.bank.Bank.TheVariants.{Sha1, Sha256, Sha384, Sha512}
use Rattle.hash_bank.specs.Hash.{name_in}
use Rattle.policy_digest.specs.Mask.{pcrs_of}
use Rattle.pl_text.specs.Parts.{parts_of, four_of}
use Rattle.pl_text.specs.Words.{◌>>=◌, number_up_to, bank_of}
use Rattle.policy_digest.proofs.MaskLists.{some_listed}
use Rattle.predictor.proofs.Repeats.{bytes_tell}
use Rattle.predict_proof.specs.declared.proof.Proof.{Proof}
use Rattle.predict_proof.specs.ProofText.{numbers_text, choice_text, values_text, proof_text, head_text}
use Rattle.predict_proof.specs.ReadsAs.{IsLine}
use Rattle.predict_proof.specs.Words.{is_locality, mask_from, choice_of, values_from, proof_by, proof_of, head_of}
use Rattle.predict_proof.proofs.Bytes.{From, from_lower, joined_from, parts_joined}
use Rattle.predict_proof.proofs.NumberTexts.{both_gave, then_gives, gave_if, gives_if, number_back, number_read, number_from, numbers_text_from, choice_back, choice_read, IsDigest, values_back, values_read, values_text_from}
use Rattle.predict_proof.proofs.MaskTexts.{mask_back, mask_read, no_pcrs, pcrs_within, some_mask}

-- ---- four words

four_are : (words : List (List ℕ)) (w : List ℕ × List ℕ × List ℕ × List ℕ) → four_of words ≡ Some w → words ≡ w.0 ∷ w.1 ∷ w.2 ∷ w.3 ∷ []
four_are [] w h = absurd cc
four_are (a ∷ []) w h = absurd cc
four_are (a ∷ b ∷ []) w h = absurd cc
four_are (a ∷ b ∷ c ∷ []) w h = absurd cc
four_are (a ∷ b ∷ c ∷ d ∷ []) w h = ap (λ o. let v = unwrap_or o w in v.0 ∷ v.1 ∷ v.2 ∷ v.3 ∷ []) h
four_are (a ∷ b ∷ c ∷ d ∷ e ∷ words) w h = absurd cc

-- the text of four words
spaced : (text : List ℕ) (w : List ℕ × List ℕ × List ℕ × List ℕ) → four_of (parts_of 32 text) ≡ Some w → text ≡ join_with_byte 32 (w.0 ∷ w.1 ∷ w.2 ∷ w.3 ∷ [])
spaced text w h = sym (join_with_byte-slice_split 32 text) ∙ ap (join_with_byte 32) (four_are (parts_of 32 text) w h)

all_four : (a b c d : List ℕ) → From 44 a → From 44 b → From 44 c → From 44 d → All (From 44) (a ∷ b ∷ c ∷ d ∷ [])
all_four a b c d ha hb hc hd = All-cons (From 44) a (b ∷ c ∷ d ∷ []) ha (All-cons (From 44) b (c ∷ d ∷ []) hb (All-cons (From 44) c (d ∷ []) hc (All-cons (From 44) d [] hd (All-nil (From 44)))))

four_joined : (a b c d : List ℕ) → From 44 a → From 44 b → From 44 c → From 44 d → four_of (parts_of 32 (join_with_byte 32 (a ∷ b ∷ c ∷ d ∷ []))) ≡ Some (a, b, c, d)
four_joined a b c d ha hb hc hd = ap four_of (parts_joined 44 32 (omega arith) a (b ∷ c ∷ d ∷ []) (all_four a b c d ha hb hc hd))

spaced_from : (a b c d : List ℕ) → From 44 a → From 44 b → From 44 c → From 44 d → From 32 (join_with_byte 32 (a ∷ b ∷ c ∷ d ∷ []))
spaced_from a b c d ha hb hc hd =
    joined_from 32 32 (omega arith) (a ∷ b ∷ c ∷ d ∷ []) (All-weaker (From 44) (From 32) (λ text h. from_lower 32 44 text (omega arith) h) (a ∷ b ∷ c ∷ d ∷ []) (all_four a b c d ha hb hc hd))

-- ---- lists

commas_from : (texts : List (List ℕ)) → All (From 48) texts → From 44 (join_with_byte 44 texts)
commas_from texts h = joined_from 44 44 (omega arith) texts (All-weaker (From 48) (From 44) (λ text h. from_lower 44 48 text (omega arith) h) texts h)

commas_parted : (texts : List (List ℕ)) → 1 ≤ length texts → All (From 48) texts → parts_of 44 (join_with_byte 44 texts) ≡ texts
commas_parted [] some h = absurd (omega arith)
commas_parted (x ∷ texts) some h = parts_joined 48 44 (omega arith) x texts h

choice_from : (choice : List ℕ) → All (λ v. v ≤ 63) choice → From 44 (choice_text choice)
choice_from [] h = All-cons (λ b. 44 ≤ b) 45 [] (omega arith) (All-nil (λ b. 44 ≤ b))
choice_from (v ∷ choice) h = commas_from (map decimal (v ∷ choice)) (numbers_text_from 63 (omega arith) (v ∷ choice) h)

-- ---- a line of a proof

module _ (bank : Bank) (q : Proof) (h : IsLine bank q) where
  digests : All (IsDigest bank) q.values
  digests = λ k d lt. record { size = h.shape.values.sized k d lt; bytes = h.bytes k d lt }

  some_pcrs : 1 ≤ length (pcrs_of q.pcrs)
  some_pcrs = some_listed q.pcrs h.shape.some h.shape.in_range

  some_values : 1 ≤ length q.values
  some_values = omega (arith, some_pcrs, h.shape.values.long)

  pcr_texts : All (From 48) (map decimal (pcrs_of q.pcrs))
  pcr_texts = numbers_text_from 23 (omega arith) (pcrs_of q.pcrs) (pcrs_within q.pcrs)

  value_texts : All (From 48) (map encode_lower q.values)
  value_texts = values_text_from bank q.values digests

  cut_from : From 44 (decimal q.cut)
  cut_from = from_lower 44 48 (decimal q.cut) (omega arith) (number_from 256 q.cut h.cut (omega arith))

  pub line_from : From 32 (proof_text q)
  unfolding proof_text
  line_from = spaced_from (numbers_text (pcrs_of q.pcrs)) (decimal q.cut) (choice_text q.choice) (values_text q.values) (commas_from (map decimal (pcrs_of q.pcrs)) pcr_texts) cut_from (choice_from q.choice h.choice) (commas_from (map encode_lower q.values) value_texts)

  four_words : four_of (parts_of 32 (join_with_byte 32 (numbers_text (pcrs_of q.pcrs) ∷ decimal q.cut ∷ choice_text q.choice ∷ values_text q.values ∷ []))) ≡ Some (numbers_text (pcrs_of q.pcrs), decimal q.cut, choice_text q.choice, values_text q.values)
  four_words = four_joined (numbers_text (pcrs_of q.pcrs)) (decimal q.cut) (choice_text q.choice) (values_text q.values) (commas_from (map decimal (pcrs_of q.pcrs)) pcr_texts) cut_from (choice_from q.choice h.choice) (commas_from (map encode_lower q.values) value_texts)

  pcrs_word : mask_from 0 (parts_of 44 (numbers_text (pcrs_of q.pcrs))) ≡ Some q.pcrs
  pcrs_word = ap (mask_from 0) (commas_parted (map decimal (pcrs_of q.pcrs)) (omega (arith, length-map (pcrs_of q.pcrs) decimal, some_pcrs)) pcr_texts) ∙ mask_back q.pcrs h.shape.in_range

  values_word : values_from bank [] (parts_of 44 (values_text q.values)) ≡ Some q.values
  values_word = ap (values_from bank []) (commas_parted (map encode_lower q.values) (omega (arith, length-map q.values encode_lower, some_values)) value_texts) ∙ values_back bank [] q.values digests

  proof_made : proof_by q.pcrs q.cut q.choice q.values ≡ Some q
  proof_made = gives_if (ltb 0 (length q.values) && eqb (length q.values) (length (pcrs_of q.pcrs))) (Some q) None
      (and_from (ltb 0 (length q.values)) (eqb (length q.values) (length (pcrs_of q.pcrs))) (lt-ltb 0 (length q.values) some_values) (eq-eqb (length q.values) (length (pcrs_of q.pcrs)) h.shape.values.long))

  -- what is written is read
  pub proof_back : proof_of bank (proof_text q) ≡ Some q
  unfolding proof_of proof_text
  proof_back =
      let words : List ℕ × List ℕ × List ℕ × List ℕ = (numbers_text (pcrs_of q.pcrs), decimal q.cut, choice_text q.choice, values_text q.values) in
      then_gives (four_of (parts_of 32 (join_with_byte 32 (words.0 ∷ words.1 ∷ words.2 ∷ words.3 ∷ []))))
      (λ w. mask_from 0 (parts_of 44 w.0) >>= λ pcrs. number_up_to 256 w.1 >>= λ cut. choice_of w.2 >>= λ choice. values_from bank [] (parts_of 44 w.3) >>= λ values. proof_by pcrs cut choice values)
      words (Some q) four_words
      (then_gives (mask_from 0 (parts_of 44 words.0)) (λ pcrs. number_up_to 256 words.1 >>= λ cut. choice_of words.2 >>= λ choice. values_from bank [] (parts_of 44 words.3) >>= λ values. proof_by pcrs cut choice values) q.pcrs (Some q) pcrs_word
      (then_gives (number_up_to 256 words.1) (λ cut. choice_of words.2 >>= λ choice. values_from bank [] (parts_of 44 words.3) >>= λ values. proof_by q.pcrs cut choice values) q.cut (Some q) (number_back 256 q.cut h.cut (omega arith))
      (then_gives (choice_of words.2) (λ choice. values_from bank [] (parts_of 44 words.3) >>= λ values. proof_by q.pcrs q.cut choice values) q.choice (Some q) (choice_back q.choice h.choice)
      (then_gives (values_from bank [] (parts_of 44 words.3)) (λ values. proof_by q.pcrs q.cut q.choice values) q.values (Some q) values_word proof_made))))

-- what is read was written
pub proof_read : (bank : Bank) (text : List ℕ) (q : Proof) → proof_of bank text ≡ Some q → IsLine bank q × (text ≡ proof_text q)
unfolding proof_of proof_text
proof_read bank text q h =
    let g0 = both_gave (four_of (parts_of 32 text)) (λ w. mask_from 0 (parts_of 44 w.0) >>= λ pcrs. number_up_to 256 w.1 >>= λ cut. choice_of w.2 >>= λ choice. values_from bank [] (parts_of 44 w.3) >>= λ values. proof_by pcrs cut choice values) q h in
    let w = g0.0 in
    let g1 = both_gave (mask_from 0 (parts_of 44 w.0)) (λ pcrs. number_up_to 256 w.1 >>= λ cut. choice_of w.2 >>= λ choice. values_from bank [] (parts_of 44 w.3) >>= λ values. proof_by pcrs cut choice values) q g0.2 in
    let g2 = both_gave (number_up_to 256 w.1) (λ cut. choice_of w.2 >>= λ choice. values_from bank [] (parts_of 44 w.3) >>= λ values. proof_by g1.0 cut choice values) q g1.2 in
    let g3 = both_gave (choice_of w.2) (λ choice. values_from bank [] (parts_of 44 w.3) >>= λ values. proof_by g1.0 g2.0 choice values) q g2.2 in
    let g4 = both_gave (values_from bank [] (parts_of 44 w.3)) (λ values. proof_by g1.0 g2.0 g3.0 values) q g3.2 in
    let made : Proof = record { pcrs = g1.0; cut = g2.0; choice = g3.0; values = g4.0 } in
    let test = gave_if (ltb 0 (length g4.0) && eqb (length g4.0) (length (pcrs_of g1.0))) made q g4.2 in
    let counts = and_parts (ltb 0 (length g4.0)) (eqb (length g4.0) (length (pcrs_of g1.0))) test.0 in
    let mask = mask_read 0 (parts_of 44 w.0) g1.0 (omega arith) g1.1 in
    let cut = number_read 256 w.1 g2.0 g2.1 in
    let choice = choice_read w.2 g3.0 g3.1 in
    let values = values_read bank [] (parts_of 44 w.3) g4.0 g4.1 in
    let long : length g4.0 ≡ length (pcrs_of g1.0) = eqb-true (length g4.0) (length (pcrs_of g1.0)) counts.1 in
    let digests : All (IsDigest bank) g4.0 = subst (All (IsDigest bank)) (sym values.all_are) values.digests in
    let pcrs_are : pcrs_of g1.0 ≡ mask.more = mask.pcrs_are ∙ ap (λ (ps : List ℕ). ps ++ mask.more) no_pcrs in
    let some : 0 < g1.0 = some_mask g1.0 (omega (arith, ltb-true 0 (length g4.0) counts.0, long)) in
    let line : IsLine bank made = record {
      shape = record { some = some; in_range = mask.small; values = record { long = long; sized = λ k d lt. (digests k d lt).size } };
      bytes = λ k d lt. (digests k d lt).bytes;
      cut = cut.0;
      choice = choice.0;
    } in
    let a : w.0 ≡ numbers_text (pcrs_of g1.0) = sym (join_with_byte-slice_split 44 w.0) ∙ ap (join_with_byte 44) (mask.words_are ∙ ap (map decimal) (sym pcrs_are)) in
    let d : w.3 ≡ values_text g4.0 = sym (join_with_byte-slice_split 44 w.3) ∙ ap (join_with_byte 44) (values.words_are ∙ ap (map encode_lower) (sym values.all_are)) in
    let words : text ≡ join_with_byte 32 (numbers_text (pcrs_of g1.0) ∷ decimal g2.0 ∷ choice_text g3.0 ∷ values_text g4.0 ∷ []) =
    spaced text w g0.1 ∙ ap (λ x. join_with_byte 32 (x ∷ w.1 ∷ w.2 ∷ w.3 ∷ [])) a ∙ ap (λ x. join_with_byte 32 (numbers_text (pcrs_of g1.0) ∷ x ∷ w.2 ∷ w.3 ∷ [])) cut.1
    ∙ ap (λ x. join_with_byte 32 (numbers_text (pcrs_of g1.0) ∷ decimal g2.0 ∷ x ∷ w.3 ∷ [])) choice.1 ∙ ap (λ x. join_with_byte 32 (numbers_text (pcrs_of g1.0) ∷ decimal g2.0 ∷ choice_text g3.0 ∷ x ∷ [])) d in
    subst (λ p. IsLine bank p × (text ≡ proof_text p)) test.1 (line, words)

-- ---- the first line

bank_back : (bank : Bank) → bank_of (name_in bank) ≡ Some bank
bank_back Sha1 = refl
bank_back Sha256 = refl
bank_back Sha384 = refl
bank_back Sha512 = refl

found_passes : {A : Type 0} (p : A → Bool) (xs : List A) (x : A) → find p xs ≡ Some x → p x ≡ true
found_passes p [] x h = absurd cc
found_passes p (y ∷ xs) x h =
    elim (cases_Bool (p y)) [
      | inl passes ↦ let e : Some y ≡ Some x = sym (ap (λ b. cond b (Some y) (find p xs)) passes) ∙ h in ap p (sym (ap (λ o. unwrap_or o y) e)) ∙ passes
      | inr fails ↦ found_passes p xs x (sym (ap (λ b. cond b (Some y) (find p xs)) fails) ∙ h)
    ]

bank_read : (word : List ℕ) (bank : Bank) → bank_of word ≡ Some bank → word ≡ name_in bank
bank_read word bank h = sym (bytes_tell.equal (name_in bank) word (found_passes (λ b. bytes_eq (name_in b) word) (Sha1 ∷ Sha256 ∷ Sha384 ∷ Sha512 ∷ []) bank h))

pub locality_within : (locality : ℕ) → is_locality locality ≡ true → locality ≤ 4
locality_within locality h =
    elim (or_cases (eqb locality 0 || eqb locality 3) (eqb locality 4) h) [
      | inr four ↦ omega (arith, eqb-true locality 4 four)
      | inl low ↦
          elim (or_cases (eqb locality 0) (eqb locality 3) low) [
            | inl zero ↦ omega (arith, eqb-true locality 0 zero)
            | inr three ↦ omega (arith, eqb-true locality 3 three)
          ]
    ]

-- each byte of a text is high enough: a test that computes
abbrev all_from : List ℕ → Bool
all_from [] = true
all_from (b ∷ text) = leb 44 b && all_from text

from_test : (text : List ℕ) → all_from text ≡ true → From 44 text
from_test [] h = All-nil (λ b. 44 ≤ b)
from_test (b ∷ text) h = let parts = and_parts (leb 44 b) (all_from text) h in All-cons (λ b. 44 ≤ b) b text (leb-true 44 b parts.0) (from_test text parts.1)

name_from : (bank : Bank) → From 44 (name_in bank)
name_from Sha1 = from_test (codes "sha1") refl
name_from Sha256 = from_test (codes "sha256") refl
name_from Sha384 = from_test (codes "sha384") refl
name_from Sha512 = from_test (codes "sha512") refl

module _ (bank : Bank) (locality : ℕ) (h : is_locality locality ≡ true) where
  locality_from : From 44 (decimal locality)
  locality_from = from_lower 44 48 (decimal locality) (omega arith) (number_from 4 locality (locality_within locality h) (omega arith))

  pub head_from : From 32 (head_text bank locality)
  unfolding head_text
  head_from = spaced_from (codes "pcrlock-proof") (codes "1") (name_in bank) (decimal locality) (from_test (codes "pcrlock-proof") refl) (from_test (codes "1") refl) (name_from bank) locality_from

  pub head_back : head_of (head_text bank locality) ≡ Some (bank, locality)
  unfolding head_of head_text
  head_back =
      let words : List ℕ × List ℕ × List ℕ × List ℕ = (codes "pcrlock-proof", codes "1", name_in bank, decimal locality) in
      then_gives (four_of (parts_of 32 (join_with_byte 32 (words.0 ∷ words.1 ∷ words.2 ∷ words.3 ∷ []))))
      (λ w. cond (bytes_eq w.0 (codes "pcrlock-proof") && bytes_eq w.1 (codes "1")) (bank_of w.2 >>= λ b. number_up_to 4 w.3 >>= λ l. cond (is_locality l) (Some (b, l)) None) None)
      words (Some (bank, locality))
      (four_joined (codes "pcrlock-proof") (codes "1") (name_in bank) (decimal locality) (from_test (codes "pcrlock-proof") refl) (from_test (codes "1") refl) (name_from bank) locality_from)
      (then_gives (bank_of (name_in bank)) (λ b. number_up_to 4 (decimal locality) >>= λ l. cond (is_locality l) (Some (b, l)) None) bank (Some (bank, locality)) (bank_back bank)
      (then_gives (number_up_to 4 (decimal locality)) (λ l. cond (is_locality l) (Some (bank, l)) None) locality (Some (bank, locality)) (number_back 4 locality (locality_within locality h) (omega arith))
      (gives_if (is_locality locality) (Some (bank, locality)) None h)))

some_if : {A : Type 0} (b : Bool) (o : Option A) (x : A) → cond b o None ≡ Some x → (b ≡ true) × (o ≡ Some x)
some_if true o x h = (refl, h)
some_if false o x h = absurd cc

pub head_read : (text : List ℕ) (at : Bank × ℕ) → head_of text ≡ Some at → (is_locality at.1 ≡ true) × (text ≡ head_text at.0 at.1)
unfolding head_of head_text
head_read text at h =
    let g0 = both_gave (four_of (parts_of 32 text)) (λ w. cond (bytes_eq w.0 (codes "pcrlock-proof") && bytes_eq w.1 (codes "1")) (bank_of w.2 >>= λ b. number_up_to 4 w.3 >>= λ l. cond (is_locality l) (Some (b, l)) None) None) at h in
    let w = g0.0 in
    let test = some_if (bytes_eq w.0 (codes "pcrlock-proof") && bytes_eq w.1 (codes "1")) (bank_of w.2 >>= λ b. number_up_to 4 w.3 >>= λ l. cond (is_locality l) (Some (b, l)) None) at g0.2 in
    let names = and_parts (bytes_eq w.0 (codes "pcrlock-proof")) (bytes_eq w.1 (codes "1")) test.0 in
    let g1 = both_gave (bank_of w.2) (λ b. number_up_to 4 w.3 >>= λ l. cond (is_locality l) (Some (b, l)) None) at test.1 in
    let g2 = both_gave (number_up_to 4 w.3) (λ l. cond (is_locality l) (Some (g1.0, l)) None) at g1.2 in
    let last = gave_if (is_locality g2.0) (g1.0, g2.0) at g2.2 in
    let number = number_read 4 w.3 g2.0 g2.1 in
    let words : text ≡ join_with_byte 32 (codes "pcrlock-proof" ∷ codes "1" ∷ name_in g1.0 ∷ decimal g2.0 ∷ []) =
    spaced text w g0.1 ∙ ap (λ x. join_with_byte 32 (x ∷ w.1 ∷ w.2 ∷ w.3 ∷ [])) (bytes_tell.equal w.0 (codes "pcrlock-proof") names.0)
    ∙ ap (λ x. join_with_byte 32 (codes "pcrlock-proof" ∷ x ∷ w.2 ∷ w.3 ∷ [])) (bytes_tell.equal w.1 (codes "1") names.1)
    ∙ ap (λ x. join_with_byte 32 (codes "pcrlock-proof" ∷ codes "1" ∷ x ∷ w.3 ∷ [])) (bank_read w.2 g1.0 g1.1)
    ∙ ap (λ x. join_with_byte 32 (codes "pcrlock-proof" ∷ codes "1" ∷ name_in g1.0 ∷ x ∷ [])) number.1 in
    subst (λ (a : Bank × ℕ). (is_locality a.1 ≡ true) × (text ≡ head_text a.0 a.1)) last.1 (last.0, words)
