-- A text is read line after line, as its parts spell it.
use Rattle.std.proofs.Common.{◌≡◌, ℕ, ◌+◌, ◌<◌, ◌≤◌, true, false, cond, eqb, List, [], ◌∷◌, ◌++◌, length, Option, Some, None, Result, Ok, Err, refl, sym, ap, ◌∙◌, append-nil, append_assoc, arith}
use Rattle.std.specs.List.{All, join_with_byte}
use Rattle.std.proofs.lemmas.Bool.{eq-eqb, ne_eqb, eqb-true}
use Rattle.std.proofs.lemmas.List.Elements.{All-head, All-tail}
use Rattle.std.proofs.lemmas.List.Splits.{join_with_byte-slice_split}
use Rattle.hash_bank.specs.declared.bank.Bank.{Bank}
use Rattle.pl_text.specs.Parts.{parts_of}
use Rattle.pl_text.proofs.Splits.{has_first}
use Rattle.predict_proof.specs.declared.proof.Proof.{Proof}
use Rattle.predict_proof.specs.declared.file.ProofFile.{ProofFile}
use Rattle.predict_proof.specs.declared.error.ProofError.{ProofError}
use Rattle.predict_proof.specs.declared.error.ProofError.TheVariants as errors
use Rattle.predict_proof.specs.ProofText.{proof_text, head_text, proofs_text, file_text}
use Rattle.predict_proof.specs.ProofsIn.{with_proof, ended, line_then, proofs_from, file_with, file_by, file_from, proofs_in, AnswersText}
use Rattle.predict_proof.specs.ReadsAs.{IsLine, IsFile}
use Rattle.predict_proof.specs.Words.{proof_of, head_of}
use Rattle.predict_proof.proofs.FileLemmas.{line_parted}
use Rattle.predict_proof.proofs.LineTexts.{line_from, proof_back, head_from, head_back}

-- proofs that were read, in front of what is left
abbrev pub prefixed : List Proof → Result (List Proof) ProofError → Result (List Proof) ProofError
prefixed proofs (Ok more) = Ok (proofs ++ more)
prefixed proofs (Err e) = Err e

prefixed_one : (n : ℕ) (proofs : List Proof) (q : Proof) (behind : Result (List Proof) ProofError) → prefixed proofs (with_proof n (Some q) behind) ≡ prefixed (proofs ++ q ∷ []) behind
prefixed_one n proofs q (Ok more) = ap Ok (sym (append_assoc proofs (q ∷ []) more))
prefixed_one n proofs q (Err e) = refl

pub prefixed_none : (r : Result (List Proof) ProofError) → prefixed [] r ≡ r
prefixed_none (Ok more) = refl
prefixed_none (Err e) = refl

-- ---- one line

-- a line with its line feed
line_behind : (bank : Bank) (n : ℕ) (word behind : List ℕ) → n < 12288 → proofs_from bank n (word ∷ parts_of 10 behind) ≡ with_proof n (proof_of bank word) (proofs_from bank (n + 1) (parts_of 10 behind))
line_behind bank n word behind lt =
    let parts = has_first 10 behind in
    let rest = proofs_from bank (n + 1) (parts_of 10 behind) in
    ap (λ (ps : List (List ℕ)). line_then bank n word ps rest) parts.is
    ∙ ap (λ b. cond b (Err errors.TooMany) (with_proof n (proof_of bank word) rest)) (ne_eqb n 12288 (λ e. omega arith))

-- a part that is alone is the whole text
alone_is : (text part : List ℕ) → parts_of 10 text ≡ part ∷ [] → text ≡ part
alone_is text part h = sym (join_with_byte-slice_split 10 text) ∙ ap (join_with_byte 10) h

-- a line without its line feed
ended_at : (n : ℕ) (text part : List ℕ) → eqb (length text) 0 ≡ false → text ≡ part → ended n part ≡ cond (eqb n 12288) (Err errors.TooMany) (Err (errors.BadLine (n + 1)))
ended_at n text part some is = ap (λ (t : List ℕ). ended n t) (sym is) ∙ ap (λ b. cond b (Ok []) (cond (eqb n 12288) (Err errors.TooMany) (Err (errors.BadLine (n + 1))))) some

one_part : (bank : Bank) (n : ℕ) (text first : List ℕ) (rest : List (List ℕ)) → eqb (length text) 0 ≡ false → parts_of 10 text ≡ first ∷ rest → length (parts_of 10 text) ≡ 1
    → proofs_from bank n (parts_of 10 text) ≡ cond (eqb n 12288) (Err errors.TooMany) (Err (errors.BadLine (n + 1)))
one_part bank n text first [] some is one = ap (proofs_from bank n) is ∙ ended_at n text first some (alone_is text first is)
one_part bank n text first (p ∷ rest) some is one = absurd (omega (arith, ap length is, one))

module _ (bank : Bank) (whole : Result (List Proof) ProofError) where
  pub read_more : (n : ℕ) (proofs : List Proof) (q : Proof) (rest word behind : List ℕ) → n < 12288 → parts_of 10 rest ≡ word ∷ parts_of 10 behind → proof_of bank word ≡ Some q
      → prefixed proofs (proofs_from bank n (parts_of 10 rest)) ≡ whole → prefixed (proofs ++ q ∷ []) (proofs_from bank (n + 1) (parts_of 10 behind)) ≡ whole
  read_more n proofs q rest word behind lt parts some so_far =
      sym (prefixed_one n proofs q (proofs_from bank (n + 1) (parts_of 10 behind)))
      ∙ sym (ap (prefixed proofs) (ap (proofs_from bank n) parts ∙ line_behind bank n word behind lt ∙ ap (λ (o : Option Proof). with_proof n o (proofs_from bank (n + 1) (parts_of 10 behind))) some)) ∙ so_far

  pub read_unread : (n : ℕ) (proofs : List Proof) (rest word behind : List ℕ) → n < 12288 → parts_of 10 rest ≡ word ∷ parts_of 10 behind → proof_of bank word ≡ None
      → prefixed proofs (proofs_from bank n (parts_of 10 rest)) ≡ whole → whole ≡ Err (errors.BadLine (n + 1))
  read_unread n proofs rest word behind lt parts none so_far =
      sym so_far ∙ ap (prefixed proofs) (ap (proofs_from bank n) parts ∙ line_behind bank n word behind lt ∙ ap (λ (o : Option Proof). with_proof n o (proofs_from bank (n + 1) (parts_of 10 behind))) none)

  pub read_unended : (n : ℕ) (proofs : List Proof) (rest : List ℕ) → n < 12288 → eqb (length rest) 0 ≡ false → length (parts_of 10 rest) ≡ 1
      → prefixed proofs (proofs_from bank n (parts_of 10 rest)) ≡ whole → whole ≡ Err (errors.BadLine (n + 1))
  read_unended n proofs rest lt some one so_far =
      let parts = has_first 10 rest in
      sym so_far ∙ ap (prefixed proofs) (one_part bank n rest parts.first parts.rest some parts.is one ∙ ap (λ b. cond b (Err errors.TooMany) (Err (errors.BadLine (n + 1)))) (ne_eqb n 12288 (λ e. omega arith)))

  pub read_done : (n : ℕ) (proofs : List Proof) (rest : List ℕ) → eqb (length rest) 0 ≡ true → prefixed proofs (proofs_from bank n (parts_of 10 rest)) ≡ whole → whole ≡ Ok proofs
  read_done n proofs [] none so_far = sym so_far ∙ ap Ok (append-nil proofs)
  read_done n proofs (b ∷ rest) none so_far = absurd (let e = eqb-true (length (b ∷ rest)) 0 none in omega arith)

  pub read_full : (n : ℕ) (proofs : List Proof) (rest : List ℕ) → n ≡ 12288 → eqb (length rest) 0 ≡ false → prefixed proofs (proofs_from bank n (parts_of 10 rest)) ≡ whole → whole ≡ Err errors.TooMany
  read_full n proofs rest full some so_far =
      let parts = has_first 10 rest in
      sym so_far ∙ ap (prefixed proofs) (many parts.first parts.rest parts.is)
    where
      many : (first : List ℕ) (more : List (List ℕ)) → parts_of 10 rest ≡ first ∷ more → proofs_from bank n (parts_of 10 rest) ≡ Err errors.TooMany
      many first [] is =
          ap (proofs_from bank n) is ∙ ended_at n rest first some (alone_is rest first is) ∙ ap (λ b. cond b (Err errors.TooMany) (Err (errors.BadLine (n + 1)))) (eq-eqb n 12288 full)
      many first (p ∷ more) is =
          ap (proofs_from bank n) is ∙ ap (λ b. cond b (Err errors.TooMany) (with_proof n (proof_of bank first) (proofs_from bank (n + 1) (p ∷ more)))) (eq-eqb n 12288 full)

-- ---- the first line

pub head_alone : (text : List ℕ) → length (parts_of 10 text) ≡ 1 → proofs_in text ≡ Err (errors.BadLine 0)
head_alone text one = let parts = has_first 10 text in ap file_from parts.is ∙ by_rest parts.first parts.rest parts.is
  where
    by_rest : (first : List ℕ) (rest : List (List ℕ)) → parts_of 10 text ≡ first ∷ rest → file_from (first ∷ rest) ≡ Err (errors.BadLine 0)
    by_rest first [] is = refl
    by_rest first (p ∷ rest) is = absurd (omega (arith, ap length is, one))

headed : (text word behind : List ℕ) → parts_of 10 text ≡ word ∷ parts_of 10 behind → proofs_in text ≡ file_by (head_of word) (parts_of 10 behind)
headed text word behind parts =
    let p = has_first 10 behind in
    ap file_from parts ∙ ap (λ (ps : List (List ℕ)). file_from (word ∷ ps)) p.is ∙ sym (ap (file_by (head_of word)) p.is)

pub head_unread : (text word behind : List ℕ) → parts_of 10 text ≡ word ∷ parts_of 10 behind → head_of word ≡ None → proofs_in text ≡ Err (errors.BadLine 0)
head_unread text word behind parts none = headed text word behind parts ∙ ap (λ (o : Option (Bank × ℕ)). file_by o (parts_of 10 behind)) none

file_is : (text word behind : List ℕ) (head : Bank × ℕ) → parts_of 10 text ≡ word ∷ parts_of 10 behind → head_of word ≡ Some head → proofs_in text ≡ file_with head (proofs_from head.0 0 (parts_of 10 behind))
file_is text word behind head parts some = headed text word behind parts ∙ ap (λ (o : Option (Bank × ℕ)). file_by o (parts_of 10 behind)) some

pub file_told : (text word behind : List ℕ) (bank : Bank) (locality : ℕ) (proofs : List Proof) → parts_of 10 text ≡ word ∷ parts_of 10 behind → head_of word ≡ Some (bank, locality)
    → proofs_from bank 0 (parts_of 10 behind) ≡ Ok proofs → proofs_in text ≡ Ok (record { bank = bank; locality = locality; proofs = proofs })
file_told text word behind bank locality proofs parts some h = file_is text word behind (bank, locality) parts some ∙ ap (file_with (bank, locality)) h

pub file_untold : (text word behind : List ℕ) (bank : Bank) (locality : ℕ) (e : ProofError) → parts_of 10 text ≡ word ∷ parts_of 10 behind → head_of word ≡ Some (bank, locality)
    → AnswersText {A = List Proof} (Err e) (proofs_from bank 0 (parts_of 10 behind)) → AnswersText {A = ProofFile} (Err e) (proofs_in text)
file_untold text word behind bank locality (errors.BadLine n) parts some h = file_is text word behind (bank, locality) parts some ∙ ap (file_with (bank, locality)) h
file_untold text word behind bank locality errors.TooMany parts some h = file_is text word behind (bank, locality) parts some ∙ ap (file_with (bank, locality)) h
file_untold text word behind bank locality errors.Memory parts some h = tt

-- ---- what is written reads back

proofs_back : (bank : Bank) (proofs : List Proof) (n : ℕ) → All (IsLine bank) proofs → n + length proofs ≤ 12288 → proofs_from bank n (parts_of 10 (proofs_text proofs)) ≡ Ok proofs
proofs_back bank [] n lines few = refl
proofs_back bank (q ∷ proofs) n lines few =
    let here = All-head (IsLine bank) q proofs lines in
    let more : proofs_from bank (n + 1) (parts_of 10 (proofs_text proofs)) ≡ Ok proofs = proofs_back bank proofs (n + 1) (All-tail (IsLine bank) q proofs lines) (omega arith) in
    ap (proofs_from bank n) (line_parted (proof_text q) (proofs_text proofs) (line_from bank q here))
    ∙ line_behind bank n (proof_text q) (proofs_text proofs) (omega arith)
    ∙ ap (λ (o : Option Proof). with_proof n o (proofs_from bank (n + 1) (parts_of 10 (proofs_text proofs)))) (proof_back bank q here)
    ∙ ap (with_proof n (Some q)) more

pub file_back : (file : ProofFile) → IsFile file → proofs_in (file_text file) ≡ Ok file
file_back file is =
    file_told (file_text file) (head_text file.bank file.locality) (proofs_text file.proofs) file.bank file.locality file.proofs
    (line_parted (head_text file.bank file.locality) (proofs_text file.proofs) (head_from file.bank file.locality is.locality))
    (head_back file.bank file.locality is.locality) (proofs_back file.bank file.proofs 0 is.lines (omega (arith, is.few)))
