-- Which files there are, and what a text is read as.
use Rattle.std.specs.Prelude.{◌≡◌, ◌≢◌, ◌⊎◌, ℕ, ◌+◌, ◌<◌, ◌≤◌, true, List, [], ◌++◌, length, Result, Ok, Err}
use Rattle.std.specs.List.{All}
use Rattle.hex.specs.Hex.{IsBytes}
use Rattle.hash_bank.specs.declared.bank.Bank.{Bank}
use Rattle.predict_proof.specs.declared.proof.Proof.{Proof}
use Rattle.predict_proof.specs.declared.file.ProofFile.{ProofFile}
use Rattle.predict_proof.specs.declared.error.ProofError.{ProofError}
use Rattle.predict_proof.specs.declared.error.ProofError.TheVariants as errors
use Rattle.predict_proof.specs.Proved.{HasShape}
use Rattle.predict_proof.specs.ProofText.{proof_text, head_text, line, proofs_text, file_text}
use Rattle.predict_proof.specs.Words.{is_locality}

-- what a line can hold
pub record IsLine (bank : Bank) (q : Proof) : Type 0 where
  pub shape : HasShape bank q
  pub bytes : All IsBytes q.values
  pub cut : q.cut ≤ 256
  pub choice : All (λ v. v ≤ 63) q.choice

pub record IsFile (file : ProofFile) : Type 0 where
  pub locality : is_locality file.locality ≡ true
  pub few : length file.proofs ≤ 12288
  pub lines : All (IsLine file.bank) file.proofs

-- ---- what stands at the beginning of a text

abbrev pub BeginsWithHead : List ℕ → Type 0
BeginsWithHead text = (bank : Bank) × (locality : ℕ) × (rest : List ℕ) × (is_locality locality ≡ true) × (text ≡ line (head_text bank locality) ++ rest)

abbrev pub BeginsWithProof : Bank → List ℕ → Type 0
BeginsWithProof bank text = (q : Proof) × (rest : List ℕ) × IsLine bank q × (text ≡ line (proof_text q) ++ rest)

-- a text begins with a file's, and goes on
pub record GoesOn (text : List ℕ) (file : ProofFile) (rest : List ℕ) : Type 0 where
  pub is_file : IsFile file
  pub text_is : text ≡ file_text file ++ rest
  pub some : rest ≢ []

-- the line behind a file of fewer lines than there may be is the first that is no line of a proof
pub record BadBehind (text : List ℕ) (number : ℕ) : Type 0 where
  pub good : ProofFile
  pub rest : List ℕ
  pub goes_on : GoesOn text good rest
  pub few : length good.proofs < 12288
  pub number_is : number ≡ length good.proofs + 1
  pub bad : ¬ (BeginsWithProof good.bank rest)

-- the first line is bad, or that one
abbrev pub IsFirstBad : List ℕ → ℕ → Type 0
IsFirstBad text number = ((number ≡ 0) × ¬ (BeginsWithHead text)) ⊎ BadBehind text number

-- behind a file of as many lines as there may be another begins
pub record HasMore (text : List ℕ) : Type 0 where
  pub good : ProofFile
  pub rest : List ℕ
  pub goes_on : GoesOn text good rest
  pub full : length good.proofs ≡ 12288

abbrev pub ReadsAs : List ℕ → Result ProofFile ProofError → Type 0
ReadsAs text (Ok file) = IsFile file × (text ≡ file_text file)
ReadsAs text (Err (errors.BadLine number)) = IsFirstBad text number
ReadsAs text (Err errors.TooMany) = HasMore text
ReadsAs text (Err errors.Memory) = Unit {0}

-- ---- for private clauses: the lines behind the first

pub record LinesBefore (bank : Bank) (text : List ℕ) (proofs : List Proof) (rest : List ℕ) : Type 0 where
  pub lines : All (IsLine bank) proofs
  pub text_is : text ≡ proofs_text proofs ++ rest

pub record BadLines (bank : Bank) (text : List ℕ) (number : ℕ) : Type 0 where
  pub before : List Proof
  pub rest : List ℕ
  pub good : LinesBefore bank text before rest
  pub few : length before < 12288
  pub number_is : number ≡ length before + 1
  pub some : rest ≢ []
  pub bad : ¬ (BeginsWithProof bank rest)

pub record MoreLines (bank : Bank) (text : List ℕ) : Type 0 where
  pub before : List Proof
  pub rest : List ℕ
  pub good : LinesBefore bank text before rest
  pub full : length before ≡ 12288
  pub some : rest ≢ []

abbrev pub ReadsLines : Bank → List ℕ → Result (List Proof) ProofError → Type 0
ReadsLines bank text (Ok proofs) = LinesBefore bank text proofs [] × (length proofs ≤ 12288)
ReadsLines bank text (Err (errors.BadLine number)) = BadLines bank text number
ReadsLines bank text (Err errors.TooMany) = MoreLines bank text
ReadsLines bank text (Err errors.Memory) = Unit {0}
