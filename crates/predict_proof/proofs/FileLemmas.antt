-- Files, line after line.
use Rattle.std.proofs.Common.{◌≡◌, ◌≢◌, ℕ, ◌+◌, ◌<◌, ◌≤◌, true, eqb, List, [], ◌∷◌, ◌++◌, length, Some, None, Result, Ok, Err, refl, sym, ap, ◌∙◌, subst, inl, inr, append-nil, append_assoc, arith}
use Rattle.std.specs.Prelude.{◌⊎◌}
use Rattle.std.specs.List.{All, join_with_byte}
use Rattle.std.specs.Option.{unwrap_or}
use Rattle.std.proofs.lemmas.Bool.{eq-eqb}
use Rattle.std.proofs.lemmas.List.{length-append, length_push}
use Rattle.std.proofs.lemmas.List.Concat.{flat_map-append}
use Rattle.std.proofs.lemmas.List.Elements.{All-head, All-tail, All-push}
use Rattle.std.proofs.lemmas.List.Splits.{join_with_byte-slice_split, slice_split_at}
use Rattle.hash_bank.specs.declared.bank.Bank.{Bank}
use Rattle.pl_text.specs.Parts.{parts_of}
use Rattle.pl_text.proofs.Splits.{has_first}
use Rattle.predict_proof.specs.declared.proof.Proof.{Proof}
use Rattle.predict_proof.specs.declared.file.ProofFile.{ProofFile}
use Rattle.predict_proof.specs.declared.error.ProofError.{ProofError}
use Rattle.predict_proof.specs.declared.error.ProofError.TheVariants as errors
use Rattle.predict_proof.specs.ProofText.{proof_text, head_text, line, proofs_text, file_text}
use Rattle.predict_proof.specs.ReadsAs.{IsLine, IsFile, BeginsWithHead, BeginsWithProof, GoesOn, IsFirstBad, HasMore, ReadsAs, LinesBefore, BadLines, ReadsLines}
use Rattle.predict_proof.specs.Words.{is_locality, proof_of, head_of}
use Rattle.predict_proof.proofs.Bytes.{From, none_there}
use Rattle.predict_proof.proofs.LineTexts.{line_from, proof_back, proof_read, head_from, head_back, head_read}

-- ---- a line and what stands behind it

line_rest : (text more : List ℕ) → line text ++ more ≡ text ++ (10 ∷ more)
line_rest text more = append_assoc text (10 ∷ []) more

-- a line without a line feed of its own is parted there
pub line_parted : (text more : List ℕ) → From 32 text → parts_of 10 (line text ++ more) ≡ text ∷ parts_of 10 more
line_parted text more from = ap (parts_of 10) (line_rest text more) ∙ slice_split_at (λ b. eqb b 10) text 10 more (none_there 32 10 (omega arith) text from) (eq-eqb 10 10 refl)

-- and what is parted so was such a line
pub parted_line : (whole text more : List ℕ) → parts_of 10 whole ≡ text ∷ parts_of 10 more → whole ≡ line text ++ more
parted_line whole text more h =
    let parts = has_first 10 more in
    let rest : join_with_byte 10 (parts.first ∷ parts.rest) ≡ more = ap (join_with_byte 10) (sym parts.is) ∙ join_with_byte-slice_split 10 more in
    sym (join_with_byte-slice_split 10 whole) ∙ ap (join_with_byte 10) (h ∙ ap (λ (ps : List (List ℕ)). text ∷ ps) parts.is)
    ∙ ap (λ (t : List ℕ). text ++ (10 ∷ t)) rest ∙ sym (line_rest text more)

first_same : (x : List ℕ) (xs : List (List ℕ)) (y : List ℕ) (ys : List (List ℕ)) → x ∷ xs ≡ y ∷ ys → (x ≡ y) × (xs ≡ ys)
first_same x xs y ys h = (cc, cc)

-- parted in one way
pub one_way : (a b c d : List ℕ) → a ∷ parts_of 10 b ≡ c ∷ parts_of 10 d → (a ≡ c) × (b ≡ d)
one_way a b c d h =
    let same = first_same a (parts_of 10 b) c (parts_of 10 d) h in
    (same.0, sym (join_with_byte-slice_split 10 b) ∙ ap (join_with_byte 10) same.1 ∙ join_with_byte-slice_split 10 d)

pub alone_not : (a b : List ℕ) → length (a ∷ parts_of 10 b) ≡ 1 → ⊥
alone_not a b h = let parts = has_first 10 b in omega (arith, h, ap length parts.is)

-- ---- a line that is no line of a proof

pub unended : (bank : Bank) (text : List ℕ) → length (parts_of 10 text) ≡ 1 → BeginsWithProof bank text → ⊥
unended bank text one b = alone_not (proof_text b.0) b.1 (ap length (sym (line_parted (proof_text b.0) b.1 (line_from bank b.0 b.2)) ∙ ap (parts_of 10) (sym b.3)) ∙ one)

pub unread : (bank : Bank) (text word behind : List ℕ) → parts_of 10 text ≡ word ∷ parts_of 10 behind → proof_of bank word ≡ None → BeginsWithProof bank text → ⊥
unread bank text word behind parts none b =
    let same = one_way (proof_text b.0) b.1 word behind (sym (line_parted (proof_text b.0) b.1 (line_from bank b.0 b.2)) ∙ ap (parts_of 10) (sym b.3) ∙ parts) in
    let e : Some b.0 ≡ None = sym (proof_back bank b.0 b.2) ∙ ap (proof_of bank) same.0 ∙ none in
    absurd cc

pub unended_head : (text : List ℕ) → length (parts_of 10 text) ≡ 1 → BeginsWithHead text → ⊥
unended_head text one b = alone_not (head_text b.0 b.1) b.2 (ap length (sym (line_parted (head_text b.0 b.1) b.2 (head_from b.0 b.1 b.3)) ∙ ap (parts_of 10) (sym b.4)) ∙ one)

pub unread_head : (text word behind : List ℕ) → parts_of 10 text ≡ word ∷ parts_of 10 behind → head_of word ≡ None → BeginsWithHead text → ⊥
unread_head text word behind parts none b =
    let same = one_way (head_text b.0 b.1) b.2 word behind (sym (line_parted (head_text b.0 b.1) b.2 (head_from b.0 b.1 b.3)) ∙ ap (parts_of 10) (sym b.4) ∙ parts) in
    let at : Bank × ℕ = (b.0, b.1) in
    let e : Some at ≡ None = sym (head_back b.0 b.1 b.3) ∙ ap head_of same.0 ∙ none in
    absurd cc

-- ---- lines before

pub one_before : (bank : Bank) (text rest word behind : List ℕ) (proofs : List Proof) (q : Proof) → LinesBefore bank text proofs rest → parts_of 10 rest ≡ word ∷ parts_of 10 behind → proof_of bank word ≡ Some q → LinesBefore bank text (proofs ++ q ∷ []) behind
one_before bank text rest word behind proofs q b parts some =
    let read = proof_read bank word q some in
    let first : rest ≡ line (proof_text q) ++ behind = parted_line rest word behind parts ∙ ap (λ w. line w ++ behind) read.1 in
    record {
      lines = All-push (IsLine bank) proofs q b.lines read.0;
      text_is = b.text_is ∙ ap (λ r. proofs_text proofs ++ r) first ∙ sym (append_assoc (proofs_text proofs) (line (proof_text q)) behind)
          ∙ ap (λ (t : List ℕ). t ++ behind) (ap (λ (t : List ℕ). proofs_text proofs ++ t) (sym (append-nil (line (proof_text q)))) ∙ sym (flat_map-append (λ p. line (proof_text p)) proofs (q ∷ [])));
    }

pub bad_unended : (bank : Bank) (text rest : List ℕ) (proofs : List Proof) (n : ℕ) → LinesBefore bank text proofs rest → length proofs < 12288 → n ≡ length proofs + 1 → rest ≢ [] → length (parts_of 10 rest) ≡ 1 → BadLines bank text n
bad_unended bank text rest proofs n b few is some one = record { before = proofs; rest = rest; good = b; few = few; number_is = is; some = some; bad = unended bank rest one }

pub bad_unread : (bank : Bank) (text rest word behind : List ℕ) (proofs : List Proof) (n : ℕ) → LinesBefore bank text proofs rest → length proofs < 12288 → n ≡ length proofs + 1 → rest ≢ [] → parts_of 10 rest ≡ word ∷ parts_of 10 behind → proof_of bank word ≡ None → BadLines bank text n
bad_unread bank text rest word behind proofs n b few is some parts none = record { before = proofs; rest = rest; good = b; few = few; number_is = is; some = some; bad = unread bank rest word behind parts none }

-- ---- the whole file

module _ (whole word text : List ℕ) (bank : Bank) (locality : ℕ) (parts : parts_of 10 whole ≡ word ∷ parts_of 10 text) (head : head_of word ≡ Some (bank, locality)) where
  abbrev file_with : List Proof → ProofFile
  file_with proofs = record { bank = bank; locality = locality; proofs = proofs }

  good_locality : is_locality locality ≡ true
  good_locality = (head_read word (bank, locality) head).0

  whole_is : whole ≡ line (head_text bank locality) ++ text
  whole_is = parted_line whole word text parts ∙ ap (λ w. line w ++ text) (head_read word (bank, locality) head).1

  pub file_read : (proofs : List Proof) → ReadsLines bank text (Ok proofs) → IsFile (file_with proofs) × (whole ≡ file_text (file_with proofs))
  file_read proofs h = (
    record { locality = good_locality; few = h.1; lines = h.0.lines },
    whole_is ∙ ap (λ (t : List ℕ). line (head_text bank locality) ++ t) (h.0.text_is ∙ append-nil (proofs_text proofs)),
  )

  goes_on : (proofs : List Proof) (rest : List ℕ) → LinesBefore bank text proofs rest → length proofs ≤ 12288 → rest ≢ [] → GoesOn whole (file_with proofs) rest
  goes_on proofs rest b few some = record {
    is_file = record { locality = good_locality; few = few; lines = b.lines };
    text_is = whole_is ∙ ap (λ (t : List ℕ). line (head_text bank locality) ++ t) b.text_is ∙ sym (append_assoc (line (head_text bank locality)) (proofs_text proofs) rest);
    some = some;
  }

  pub file_refused : (e : ProofError) → ReadsLines bank text (Err e) → ReadsAs whole (Err e)
  file_refused (errors.BadLine n) h =
      inr (record { good = file_with h.before; rest = h.rest; goes_on = goes_on h.before h.rest h.good (omega (arith, h.few)) h.some; few = h.few; number_is = h.number_is; bad = h.bad })
  file_refused errors.TooMany h =
      record { good = file_with h.before; rest = h.rest; goes_on = goes_on h.before h.rest h.good (omega (arith, h.full)) h.some; full = h.full }
  file_refused errors.Memory h = tt

-- ---- each file has one text

nothing_more : (more : List Proof) → [] ≡ proofs_text more → more ≡ []
nothing_more [] h = refl
nothing_more (q ∷ more) h = absurd (omega (arith, ap length h, length-append (line (proof_text q)) (proofs_text more), length_push (proof_text q) 10))

pub record Continues (bank : Bank) (ps qs : List Proof) (rest : List ℕ) : Type 0 where
  pub more : List Proof
  pub all_are : qs ≡ ps ++ more
  pub rest_is : rest ≡ proofs_text more
  pub lines : All (IsLine bank) more

continues : (bank : Bank) (ps qs : List Proof) (rest : List ℕ) → All (IsLine bank) ps → All (IsLine bank) qs → proofs_text ps ++ rest ≡ proofs_text qs → Continues bank ps qs rest
continues bank [] qs rest hp hq h = record { more = qs; all_are = refl; rest_is = h; lines = hq }
continues bank (p ∷ ps) [] rest hp hq h =
    let first : (line (proof_text p) ++ proofs_text ps) ++ rest ≡ line (proof_text p) ++ (proofs_text ps ++ rest) = append_assoc (line (proof_text p)) (proofs_text ps) rest in
    absurd (alone_not (proof_text p) (proofs_text ps ++ rest) (ap length (sym (line_parted (proof_text p) (proofs_text ps ++ rest) (line_from bank p (All-head (IsLine bank) p ps hp))) ∙ ap (parts_of 10) (sym first ∙ h))))
continues bank (p ∷ ps) (q ∷ qs) rest hp hq h =
    let is_p = All-head (IsLine bank) p ps hp in
    let is_q = All-head (IsLine bank) q qs hq in
    let first : (line (proof_text p) ++ proofs_text ps) ++ rest ≡ line (proof_text p) ++ (proofs_text ps ++ rest) = append_assoc (line (proof_text p)) (proofs_text ps) rest in
    let same = one_way (proof_text p) (proofs_text ps ++ rest) (proof_text q) (proofs_text qs)
    (sym (line_parted (proof_text p) (proofs_text ps ++ rest) (line_from bank p is_p)) ∙ ap (parts_of 10) (sym first ∙ h) ∙ line_parted (proof_text q) (proofs_text qs) (line_from bank q is_q)) in
    let e : Some p ≡ Some q = sym (proof_back bank p is_p) ∙ ap (proof_of bank) same.0 ∙ proof_back bank q is_q in
    let one : p ≡ q = ap (λ o. unwrap_or o p) e in
    let later = continues bank ps qs rest (All-tail (IsLine bank) p ps hp) (All-tail (IsLine bank) q qs hq) same.1 in
    record {
      more = later.more;
      all_are = ap (λ (l : List Proof). q ∷ l) later.all_are ∙ ap (λ x. x ∷ (ps ++ later.more)) (sym one);
      rest_is = later.rest_is;
      lines = later.lines;
    }

pub record FileContinues (f g : ProofFile) (rest : List ℕ) : Type 0 where
  pub more : List Proof
  pub file_is : g ≡ record { bank = f.bank; locality = f.locality; proofs = f.proofs ++ more }
  pub rest_is : rest ≡ proofs_text more
  pub lines : All (IsLine f.bank) more

same_head : (b : Bank) (l : ℕ) (c : Bank) (m : ℕ) (x y : List ℕ) → is_locality l ≡ true → is_locality m ≡ true → line (head_text b l) ++ x ≡ line (head_text c m) ++ y → (b ≡ c) × (l ≡ m) × (x ≡ y)
same_head b l c m x y hl hm h =
    let same = one_way (head_text b l) x (head_text c m) y (sym (line_parted (head_text b l) x (head_from b l hl)) ∙ ap (parts_of 10) h ∙ line_parted (head_text c m) y (head_from c m hm)) in
    let first : Bank × ℕ = (b, l) in
    let second : Bank × ℕ = (c, m) in
    let e : Some first ≡ Some second = sym (head_back b l hl) ∙ ap head_of same.0 ∙ head_back c m hm in
    (ap (λ o. (unwrap_or o first).0) e, ap (λ o. (unwrap_or o first).1) e, same.1)

file_continues : (f g : ProofFile) (rest : List ℕ) → IsFile f → IsFile g → file_text f ++ rest ≡ file_text g → FileContinues f g rest
file_continues f g rest hf hg h =
    let first : (line (head_text f.bank f.locality) ++ proofs_text f.proofs) ++ rest ≡ line (head_text f.bank f.locality) ++ (proofs_text f.proofs ++ rest) = append_assoc (line (head_text f.bank f.locality)) (proofs_text f.proofs) rest in
    let heads = same_head f.bank f.locality g.bank g.locality (proofs_text f.proofs ++ rest) (proofs_text g.proofs) hf.locality hg.locality (sym first ∙ h) in
    let bank : f.bank ≡ g.bank = heads.0 in
    let locality : f.locality ≡ g.locality = heads.1 in
    let lines : All (IsLine f.bank) g.proofs = subst (λ b. All (IsLine b) g.proofs) (sym bank) hg.lines in
    let c = continues f.bank f.proofs g.proofs rest hf.lines lines heads.2 in
    record {
      more = c.more;
      file_is = ap (λ b. record { bank = b; locality = g.locality; proofs = g.proofs }) (sym bank) ∙ ap (λ l. record { bank = f.bank; locality = l; proofs = g.proofs }) (sym locality)
          ∙ ap (λ ps. record { bank = f.bank; locality = f.locality; proofs = ps }) c.all_are;
      rest_is = c.rest_is;
      lines = c.lines;
    }

pub same_file : (f g : ProofFile) → IsFile f → IsFile g → file_text f ≡ file_text g → f ≡ g
same_file f g hf hg h =
    let c = file_continues f g [] hf hg (append-nil (file_text f) ∙ h) in
    let none : c.more ≡ [] = nothing_more c.more c.rest_is in
    sym (c.file_is ∙ ap (λ (m : List Proof). record { bank = f.bank; locality = f.locality; proofs = f.proofs ++ m }) none ∙ ap (λ (ps : List Proof). record { bank = f.bank; locality = f.locality; proofs = ps }) (append-nil f.proofs))

bad_rest : (bank : Bank) (rest : List ℕ) (more : List Proof) → rest ≢ [] → rest ≡ proofs_text more → All (IsLine bank) more → BeginsWithProof bank rest
bad_rest bank rest [] some is lines = absurd (some is)
bad_rest bank rest (q ∷ more) some is lines = (q, proofs_text more, All-head (IsLine bank) q more lines, is)

not_bad : (whole : List ℕ) (n : ℕ) (g : ProofFile) → IsFirstBad whole n → IsFile g → whole ≡ file_text g → ⊥
not_bad whole n g (inl first) hg h = first.1 (g.bank, g.locality, proofs_text g.proofs, hg.locality, h)
not_bad whole n g (inr b) hg h =
    let c = file_continues b.good g b.rest b.goes_on.is_file hg (sym b.goes_on.text_is ∙ h) in
    b.bad (bad_rest b.good.bank b.rest c.more b.goes_on.some c.rest_is c.lines)

not_more : (whole : List ℕ) (g : ProofFile) → HasMore whole → IsFile g → whole ≡ file_text g → ⊥
not_more whole g b hg h =
    let c = file_continues b.good g b.rest b.goes_on.is_file hg (sym b.goes_on.text_is ∙ h) in
    let count : length g.proofs ≡ length b.good.proofs + length c.more = ap (λ f. length f.proofs) c.file_is ∙ length-append b.good.proofs c.more in
    no_room c.more (omega (arith, count, b.full, hg.few)) c.rest_is
  where
    no_room : (more : List Proof) → length more ≡ 0 → b.rest ≡ proofs_text more → ⊥
    no_room [] none is = b.goes_on.some is
    no_room (q ∷ more) none is = absurd (omega arith)

-- what is read is the file that was spelled, or memory ran out
pub spelled_so : (whole : List ℕ) (r : Result ProofFile ProofError) → ReadsAs whole r → (g : ProofFile) → IsFile g → whole ≡ file_text g → (r ≡ Ok g) ⊎ (r ≡ Err errors.Memory)
spelled_so whole (Ok f) h g hg is = inl (ap Ok (same_file f g h.0 hg (sym h.1 ∙ is)))
spelled_so whole (Err (errors.BadLine n)) h g hg is = absurd (not_bad whole n g h hg is)
spelled_so whole (Err errors.TooMany) h g hg is = absurd (not_more whole g h hg is)
spelled_so whole (Err errors.Memory) h g hg is = inr refl

pub first_bad : (whole : List ℕ) → (BeginsWithHead whole → ⊥) → IsFirstBad whole 0
first_bad whole bad = inl (refl, bad)
