-- What `log` prints.
use Rattle.std.specs.Prelude.{ℕ, List, Option, Result, Ok}
use Rattle.hash_bank.specs.declared.bank.Bank.{Bank}
use Rattle.tpm_device.specs.Stored.{Stored}
use Rattle.pcrlock_answer.specs.declared.answer.Answer.{Answer}
use Rattle.pcrlock_words.specs.LogText.{log_text}
use Rattle.pcrlock_line.specs.Machine.{Machine}
use Rattle.pcrlock_line.specs.Outcome.{Outcome}
use Rattle.pcrlock_input.specs.Answering.{◌>>=◌}
use Rattle.pcrlock_input.specs.Logs.{locality_in, rows_of}
use Rattle.pcrlock_predict.specs.Inputs.{PlainInputs, inputs_of}
use Rattle.pcrlock_predict.specs.Present.{values_at}
use Rattle.pcrlock_line.specs.Printing.{printed_line}

-- the mask of all 24 PCRs
abbrev pub all_pcrs : ℕ
all_pcrs = 0xFFFFFF

-- the combined log, with the first of all components that lists each record; each PCR's replay since a
-- restart at the locality that the firmware announced, and its value now; and how many texts of
-- userspace were skipped
abbrev pub logged : Bank → PlainInputs → List (List ℕ) → List ℕ
logged bank inputs now =
    log_text (rows_of inputs.logs) inputs.components bank (locality_in inputs.logs.firmware) now inputs.logs.user.skipped

-- by what is stored at the path
abbrev pub logged_at : List ℕ → Bank → PlainInputs → Stored → Result (List ℕ) Answer
logged_at path bank inputs stored = values_at path bank all_pcrs stored >>= λ now. Ok (logged bank inputs now)

-- the text, or the answer for which there is none
abbrev pub log_of : List ℕ → Option (List ℕ) → Option (List ℕ) → List (List ℕ) → Bank → Machine → Result (List ℕ) Answer
log_of path firmware user folders bank m = inputs_of m.files firmware user folders >>= λ inputs. logged_at path bank inputs m.device

-- `log` over what is stored at the path, of the logs at the paths that are named, or at the usual ones,
-- and the components in the folders
abbrev pub log_line : List ℕ → Option (List ℕ) → Option (List ℕ) → List (List ℕ) → Bank → Machine → Outcome
log_line path firmware user folders bank m = printed_line (log_of path firmware user folders bank m) m
