-- What `check-proof` does: it tries each proof of a file over the components.
use Rattle.std.specs.Prelude.{ℕ, ◌+◌, List, codes, length, Option, None, Some, Result, Ok, Err}
use Rattle.pl_base.specs.FileMap.{FileMap}
use Rattle.predictor.specs.declared.window.Window.{Window}
use Rattle.predict_proof.specs.declared.error.CheckError.{CheckError}
use Rattle.predict_proof.specs.declared.error.ProofError.{ProofError}
use Rattle.predict_proof.specs.declared.error.ProofError.TheVariants as errors
use Rattle.predict_proof.specs.declared.file.ProofFile.{ProofFile}
use Rattle.predict_proof.specs.Fault.{first_fault}
use Rattle.predict_proof.specs.Proved.{number_of}
use Rattle.predict_proof.specs.ProofsIn.{proofs_in}
use Rattle.pcrlock_answer.specs.declared.answer.Answer.{Answer}
use Rattle.pcrlock_answer.specs.declared.answer.Answer.TheVariants as said
use Rattle.pcrlock_answer.specs.declared.place.Place.TheVariants as place
use Rattle.pcrlock_answer.specs.Texts.{checked_text}
use Rattle.pcrlock_line.specs.Content.{Content, Missing, TooLarge, Bytes, content_of}
use Rattle.pcrlock_line.specs.Machine.{Machine}
use Rattle.pcrlock_line.specs.Outcome.{Outcome}
use Rattle.pcrlock_line.specs.Printing.{printed_line}
use Rattle.pcrlock_input.specs.Answering.{◌>>=◌}
use Rattle.pcrlock_input.specs.Components.{components_of}

-- the most bytes of a proof file
abbrev pub proof_byte_limit : ℕ
proof_byte_limit = 16777216

-- why a text is no proof file: a line is bad, or there are too many. No reading ends for want of memory
abbrev pub text_answer : List ℕ → ProofError → Answer
text_answer path (errors.BadLine line) = said.Malformed path (place.At line)
text_answer path errors.TooMany = said.Limit (codes "proof-lines") 12289
text_answer path errors.Memory = said.Memory

abbrev pub text_read : List ℕ → Result ProofFile ProofError → Result ProofFile Answer
text_read path (Ok file) = Ok file
text_read path (Err error) = Err (text_answer path error)

-- the proof file, by what stands at its path
abbrev pub file_by : List ℕ → Content → Result ProofFile Answer
file_by path Missing = Err (said.NoSuchFile path)
file_by path (TooLarge size) = Err (said.Limit (codes "proof-bytes") size)
file_by path (Bytes bytes) = text_read path (proofs_in bytes)

abbrev pub file_of : FileMap → List ℕ → Result ProofFile Answer
file_of files path = file_by path (content_of files path proof_byte_limit)

-- the number of the proofs, or the line of the first that isn't proved; the lines before the proofs are one
abbrev pub verdict_by : ℕ → Option CheckError → Result (List ℕ) Answer
verdict_by count None = Ok (checked_text count)
verdict_by count (Some error) = Err (said.NotProved (number_of error + 1))

-- the text, or the answer for which there is none
abbrev pub checked_of : FileMap → List ℕ → List (List ℕ) → Window → Result (List ℕ) Answer
checked_of files path folders window =
    file_of files path >>= λ file. components_of files folders >>= λ components.
    verdict_by (length file.proofs) (first_fault file.bank file.locality window components file.proofs)

-- `check-proof`, of the file at the path over the components in the folders
abbrev pub check_proof_line : List ℕ → List (List ℕ) → Window → Machine → Outcome
check_proof_line path folders window m = printed_line (checked_of m.files path folders window) m
