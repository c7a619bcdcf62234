-- The text of a proof file.
use Rattle.std.specs.Prelude.{ℕ, List, [], ◌∷◌, ◌++◌, map, flat_map, codes}
use Rattle.std.specs.List.{join_with_byte}
use Rattle.std.specs.Fmt.{decimal}
use Rattle.hex.specs.Hex.{encode_lower}
use Rattle.hash_bank.specs.declared.bank.Bank.{Bank}
use Rattle.hash_bank.specs.Hash.{name_in}
use Rattle.policy_digest.specs.Mask.{pcrs_of}
use Rattle.predict_proof.specs.declared.proof.Proof.{Proof}
use Rattle.predict_proof.specs.declared.file.ProofFile.{ProofFile}

-- commas part a list
abbrev pub numbers_text : List ℕ → List ℕ
numbers_text numbers = join_with_byte 44 (map decimal numbers)

-- the numbers of the chosen variants; `-` for none
abbrev pub choice_text : List ℕ → List ℕ
choice_text [] = codes "-"
choice_text (v ∷ choice) = numbers_text (v ∷ choice)

abbrev pub values_text : List (List ℕ) → List ℕ
values_text values = join_with_byte 44 (map encode_lower values)

-- spaces part the words of a line
unfoldable pub proof_text : Proof → List ℕ
proof_text q = join_with_byte 32 (numbers_text (pcrs_of q.pcrs) ∷ decimal q.cut ∷ choice_text q.choice ∷ values_text q.values ∷ [])

unfoldable pub head_text : Bank → ℕ → List ℕ
head_text bank locality = join_with_byte 32 (codes "pcrlock-proof" ∷ codes "1" ∷ name_in bank ∷ decimal locality ∷ [])

-- a line feed ends each line
abbrev pub line : List ℕ → List ℕ
line text = text ++ 10 ∷ []

abbrev pub proofs_text : List Proof → List ℕ
proofs_text proofs = flat_map (λ q. line (proof_text q)) proofs

abbrev pub file_text : ProofFile → List ℕ
file_text file = line (head_text file.bank file.locality) ++ proofs_text file.proofs
