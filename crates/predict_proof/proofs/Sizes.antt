-- How long the text of a proof file is.
use Rattle.std.proofs.Common.{◌≡◌, ◌<◌, ℕ, true, ◌+◌, ◌*◌, ◌≤◌, List, [], ◌∷◌, ◌++◌, length, map, take, refl, ap, arith, length-append}
use Rattle.std.proofs.Math.Nat.{suc-mul}
use Rattle.std.specs.Prelude.{codes}
use Rattle.std.specs.List.{All, join_with_byte}
use Rattle.std.specs.Fmt.{decimal}
use Rattle.std.proofs.lemmas.Fmt.{length-decimal-le}
use Rattle.std.proofs.lemmas.List.{length-map, length-take}
use Rattle.std.proofs.lemmas.List.Elements.{All-contains, All-head, All-map, All-tail, All-weaker}
use Rattle.hex.specs.Hex.{encode_lower, encode_with}
use Rattle.hash_bank.specs.declared.bank.Bank.{Bank}
use Rattle.hash_bank.specs.declared.bank.Bank.TheVariants.{Sha1, Sha256, Sha384, Sha512}
use Rattle.hash_bank.specs.Hash.{name_in, size_in}
use Rattle.component_tree.specs.PlainTree.{PlainComponent}
use Rattle.policy_digest.specs.Mask.{pcrs_of}
use Rattle.record_match.specs.Choices.{choices}
use Rattle.record_match.specs.Extends.{variants_of}
use Rattle.predictor.specs.declared.window.Window.{Window}
use Rattle.predictor.specs.Cuts.{inside_of}
use Rattle.predict_proof.specs.declared.proof.Proof.{Proof}
use Rattle.predict_proof.specs.Proved.{Proved}
use Rattle.predict_proof.specs.ProofText.{choice_text, head_text, line, numbers_text, proof_text, proofs_text, values_text}
use Rattle.predict_proof.specs.ReadsAs.{IsLine}
use Rattle.predict_proof.specs.Words.{is_locality}
use Rattle.predictor.proofs.Growth.{long_choices}
use Rattle.predict_proof.proofs.LineTexts.{locality_within}
use Rattle.predict_proof.proofs.MaskTexts.{pcrs_within}

-- texts with a byte between each two
joined_short : (byte step : ℕ) (texts : List (List ℕ)) → All (λ t. length t + 1 ≤ step) texts → length (join_with_byte byte texts) ≤ length texts * step
joined_short byte step [] h = omega arith
joined_short byte step (x ∷ []) h =
    let here : length x + 1 ≤ step = All-head (λ (t : List ℕ). length t + 1 ≤ step) x [] h in
    omega (arith, here, suc-mul 0 step)
joined_short byte step (x ∷ y ∷ texts) h =
    let here : length x + 1 ≤ step = All-head (λ (t : List ℕ). length t + 1 ≤ step) x (y ∷ texts) h in
    let more = joined_short byte step (y ∷ texts) (All-tail (λ (t : List ℕ). length t + 1 ≤ step) x (y ∷ texts) h) in
    omega (arith, here, more, length-append x (byte ∷ join_with_byte byte (y ∷ texts)), suc-mul (length (y ∷ texts)) step)

numbers_short : (limit : ℕ) (numbers : List ℕ) → limit < 100 → All (λ n. n ≤ limit) numbers → length (numbers_text numbers) ≤ length numbers * 3
numbers_short limit numbers two h =
    let short = joined_short 44 3 (map decimal numbers) (All-map (λ (t : List ℕ). length t + 1 ≤ 3) decimal numbers
    (All-weaker (λ n. n ≤ limit) (λ n. length (decimal n) + 1 ≤ 3) (λ n le. omega (arith, length-decimal-le 2 n (omega arith) (omega arith) (omega arith))) numbers h)) in
    omega (arith, short, length-map numbers decimal)

choice_short : (choice : List ℕ) → All (λ v. v ≤ 63) choice → length (choice_text choice) ≤ length choice * 3 + 1
choice_short [] h = omega arith
choice_short (v ∷ choice) h = omega (arith, numbers_short 63 (v ∷ choice) (omega arith) h)

hex_long : (bytes : List ℕ) → length (encode_lower bytes) ≡ length bytes * 2
unfolding encode_with
hex_long [] = refl
hex_long (b ∷ bytes) = omega (arith, hex_long bytes)

size_short : (bank : Bank) → size_in bank ≤ 64
size_short Sha1 = omega arith
size_short Sha256 = omega arith
size_short Sha384 = omega arith
size_short Sha512 = omega arith

values_short : (bank : Bank) (values : List (List ℕ)) → All (λ d. length d ≡ size_in bank) values → length (values_text values) ≤ length values * 129
values_short bank values h =
    let short = joined_short 44 129 (map encode_lower values) (All-map (λ (t : List ℕ). length t + 1 ≤ 129) encode_lower values
    (All-weaker (λ (d : List ℕ). length d ≡ size_in bank) (λ (d : List ℕ). length (encode_lower d) + 1 ≤ 129) (λ d is. omega (arith, is, hex_long d, size_short bank)) values h)) in
    omega (arith, short, length-map values encode_lower)

four_long : (a b c d : List ℕ) → length (join_with_byte 32 (a ∷ b ∷ c ∷ d ∷ [])) ≡ length a + length b + length c + length d + 3
four_long a b c d =
    let is : join_with_byte 32 (a ∷ b ∷ c ∷ d ∷ []) ≡ a ++ 32 ∷ (b ++ 32 ∷ (c ++ 32 ∷ d)) = refl in
    omega (arith, ap length is, length-append a (32 ∷ (b ++ 32 ∷ (c ++ 32 ∷ d))), length-append b (32 ∷ (c ++ 32 ∷ d)), length-append c (32 ∷ d))

-- a line of so many PCRs
pub line_short : (bank : Bank) (q : Proof) → IsLine bank q → length q.choice ≤ 256 → length (line (proof_text q)) ≤ length (pcrs_of q.pcrs) * 132 + 777
unfolding proof_text
line_short bank q h few =
    let pcrs = numbers_short 23 (pcrs_of q.pcrs) (omega arith) (pcrs_within q.pcrs) in
    let cut : length (decimal q.cut) ≤ 3 = length-decimal-le 3 q.cut (omega arith) (omega (arith, h.cut)) (omega (arith, h.cut)) in
    let choice = choice_short q.choice h.choice in
    let values = values_short bank q.values h.shape.values.sized in
    let words = four_long (numbers_text (pcrs_of q.pcrs)) (decimal q.cut) (choice_text q.choice) (values_text q.values) in
    omega (arith, pcrs, cut, choice, values, words, few, h.shape.values.long, length-append (proof_text q) (10 ∷ []))

name_short : (bank : Bank) → length (name_in bank) ≤ 6
name_short Sha1 = omega arith
name_short Sha256 = omega arith
name_short Sha384 = omega arith
name_short Sha512 = omega arith

-- the first line
pub head_short : (bank : Bank) (locality : ℕ) → is_locality locality ≡ true → length (line (head_text bank locality)) ≤ 25
unfolding head_text
head_short bank locality h =
    let digit : length (decimal locality) ≤ 1 = length-decimal-le 1 locality (omega arith) (omega (arith, locality_within locality h)) (omega (arith, locality_within locality h)) in
    let words = four_long (codes "pcrlock-proof") (codes "1") (name_in bank) (decimal locality) in
    omega (arith, digit, words, name_short bank, length-append (join_with_byte 32 (codes "pcrlock-proof" ∷ codes "1" ∷ name_in bank ∷ decimal locality ∷ [])) (10 ∷ []))

-- so many lines
pub lines_short : (size : ℕ) (proofs : List Proof) → All (λ q. length (line (proof_text q)) ≤ size) proofs → length (proofs_text proofs) ≤ length proofs * size
lines_short size [] h = omega arith
lines_short size (q ∷ proofs) h =
    let here : length (line (proof_text q)) ≤ size = All-head (λ (p : Proof). length (line (proof_text p)) ≤ size) q proofs h in
    let more = lines_short size proofs (All-tail (λ (p : Proof). length (line (proof_text p)) ≤ size) q proofs h) in
    omega (arith, here, more, length-append (line (proof_text q)) (proofs_text proofs), suc-mul (length proofs) size)

-- a choice has no more numbers than the cut says
pub few_choices : (bank : Bank) (locality : ℕ) (window : Window) (tree : List PlainComponent) (q : Proof) → Proved bank locality window tree q → length q.choice ≤ q.cut
few_choices bank locality window tree q p =
    let before = take q.cut (inside_of window.end tree) in
    let long : length q.choice ≡ length (variants_of before) =
    All-contains (λ (c : List ℕ). length c ≡ length (variants_of before)) (choices (variants_of before)) q.choice (long_choices (variants_of before)) p.choice in
    omega (arith, long, length-map before (λ (c : PlainComponent). c.variants), length-take q.cut (inside_of window.end tree))
