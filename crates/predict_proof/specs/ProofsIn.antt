-- The file that a text spells, or the first line that is bad.
use Rattle.std.specs.Prelude.{◌≡◌, ℕ, ◌+◌, ◌==◌, List, [], ◌∷◌, length, Option, Some, None, Result, Ok, Err, if◌then◌else◌}
use Rattle.hash_bank.specs.declared.bank.Bank.{Bank}
use Rattle.pl_text.specs.Parts.{parts_of}
use Rattle.predict_proof.specs.declared.proof.Proof.{Proof}
use Rattle.predict_proof.specs.declared.file.ProofFile.{ProofFile}
use Rattle.predict_proof.specs.declared.error.ProofError.{ProofError}
use Rattle.predict_proof.specs.declared.error.ProofError.TheVariants as errors
use Rattle.predict_proof.specs.Words.{head_of, proof_of}

-- the most proofs of a file
abbrev pub proof_limit : ℕ
proof_limit = 12288

-- the proof of a line in front of those behind it; so many lines of proofs stand before
abbrev pub with_proof : ℕ → Option Proof → Result (List Proof) ProofError → Result (List Proof) ProofError
with_proof n None behind = Err (errors.BadLine (n + 1))
with_proof n (Some q) (Ok proofs) = Ok (q ∷ proofs)
with_proof n (Some q) (Err e) = Err e

-- what stands behind the last line feed is nothing
abbrev pub ended : ℕ → List ℕ → Result (List Proof) ProofError
ended n part = if length part == 0 then Ok [] else if n == proof_limit then Err errors.TooMany else Err (errors.BadLine (n + 1))

-- a line, given what the parts behind it spell
abbrev pub line_then : Bank → ℕ → List ℕ → List (List ℕ) → Result (List Proof) ProofError → Result (List Proof) ProofError
line_then bank n part [] behind = ended n part
line_then bank n part (p ∷ parts) behind = if n == proof_limit then Err errors.TooMany else with_proof n (proof_of bank part) behind

-- the proofs that the parts of a text spell, of which line feeds end all but the last
abbrev pub proofs_from : Bank → ℕ → List (List ℕ) → Result (List Proof) ProofError
proofs_from bank n [] = Ok []
proofs_from bank n (part ∷ parts) = line_then bank n part parts (proofs_from bank (n + 1) parts)

abbrev pub file_with : Bank × ℕ → Result (List Proof) ProofError → Result ProofFile ProofError
file_with head (Ok proofs) = Ok (record { bank = head.0; locality = head.1; proofs = proofs })
file_with head (Err e) = Err e

abbrev pub file_by : Option (Bank × ℕ) → List (List ℕ) → Result ProofFile ProofError
file_by None parts = Err (errors.BadLine 0)
file_by (Some head) parts = file_with head (proofs_from head.0 0 parts)

abbrev pub file_from : List (List ℕ) → Result ProofFile ProofError
file_from [] = Err (errors.BadLine 0)
file_from (first ∷ []) = Err (errors.BadLine 0)
file_from (first ∷ second ∷ parts) = file_by (head_of first) (second ∷ parts)

-- the first line tells bank and locality, and each line behind it is one of a proof
abbrev pub proofs_in : List ℕ → Result ProofFile ProofError
proofs_in text = file_from (parts_of 10 text)

-- the answer is that of the definition, unless memory ran out
abbrev pub AnswersText : {A : Type 0} → Result A ProofError → Result A ProofError → Type 0
AnswersText (Ok x) given = given ≡ Ok x
AnswersText (Err (errors.BadLine n)) given = given ≡ Err (errors.BadLine n)
AnswersText (Err errors.TooMany) given = given ≡ Err errors.TooMany
AnswersText (Err errors.Memory) given = Unit {0}
