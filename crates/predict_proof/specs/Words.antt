-- What the words of a line spell.
use Rattle.std.specs.Prelude.{ℕ, ◌^◌, Bool, ◌==◌, ◌&&◌, ◌||◌, nat_lt, bit_or, if◌then◌else◌, List, [], ◌∷◌, ◌++◌, length, codes, Option, Some, None}
use Rattle.std.specs.Str.{bytes_eq}
use Rattle.hex.specs.Hex.{encode_lower}
use Rattle.hash_bank.specs.declared.bank.Bank.{Bank}
use Rattle.hash_bank.specs.Hash.{size_in}
use Rattle.policy_digest.specs.Mask.{pcrs_of}
use Rattle.pl_text.specs.Parts.{parts_of, four_of}
use Rattle.pl_text.specs.Words.{◌>>=◌, number_up_to, bank_of, bytes_of}
use Rattle.predict_proof.specs.declared.proof.Proof.{Proof}

-- the localities that a platform starts at
abbrev pub is_locality : ℕ → Bool
is_locality number = (number == 0) || (number == 3) || (number == 4)

-- ---- for private clauses

-- the mask with a further PCR, where that is above all of its own
abbrev pub mask_with : ℕ → ℕ → Option ℕ
mask_with mask pcr = if nat_lt mask (2 ^ pcr) then Some (bit_or mask (2 ^ pcr)) else None

abbrev pub mask_from : ℕ → List (List ℕ) → Option ℕ
mask_from mask [] = Some mask
mask_from mask (word ∷ words) = do
  pcr ← number_up_to 23 word
  next ← mask_with mask pcr
  mask_from next words

-- the numbers before, and further ones up to a limit
abbrev pub numbers_from : ℕ → List ℕ → List (List ℕ) → Option (List ℕ)
numbers_from limit before [] = Some before
numbers_from limit before (word ∷ words) = do
  number ← number_up_to limit word
  numbers_from limit (before ++ number ∷ []) words

abbrev pub choice_of : List ℕ → Option (List ℕ)
choice_of word = if bytes_eq word (codes "-") then Some [] else numbers_from 63 [] (parts_of 44 word)

-- digits of lower case alone
abbrev pub digest_of : Bank → List ℕ → Option (List ℕ)
digest_of bank word = do
  digest ← bytes_of (size_in bank) word
  if bytes_eq (encode_lower digest) word then Some digest else None

abbrev pub values_from : Bank → List (List ℕ) → List (List ℕ) → Option (List (List ℕ))
values_from bank before [] = Some before
values_from bank before (word ∷ words) = do
  digest ← digest_of bank word
  values_from bank (before ++ digest ∷ []) words

abbrev pub proof_by : ℕ → ℕ → List ℕ → List (List ℕ) → Option Proof
proof_by pcrs cut choice values = if nat_lt 0 (length values) && (length values == length (pcrs_of pcrs)) then Some (record { pcrs = pcrs; cut = cut; choice = choice; values = values }) else None

unfoldable pub proof_of : Bank → List ℕ → Option Proof
proof_of bank text = do
  words ← four_of (parts_of 32 text)
  pcrs ← mask_from 0 (parts_of 44 words.0)
  cut ← number_up_to 256 words.1
  choice ← choice_of words.2
  values ← values_from bank [] (parts_of 44 words.3)
  proof_by pcrs cut choice values

unfoldable pub head_of : List ℕ → Option (Bank × ℕ)
head_of text = do
  words ← four_of (parts_of 32 text)
  if bytes_eq words.0 (codes "pcrlock-proof") && bytes_eq words.1 (codes "1") then (do
    bank ← bank_of words.2
    locality ← number_up_to 4 words.3
    if is_locality locality then Some (bank, locality) else None) else None
