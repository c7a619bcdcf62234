-- What `cel` prints.
use Rattle.std.specs.Prelude.{ℕ, List, ◌++◌, map, Option, Result, Ok}
use Rattle.pl_base.specs.FileMap.{FileMap}
use Rattle.cel_record.specs.Spelled.{Spelled}
use Rattle.cel_record.specs.Written.{component_text}
use Rattle.pcr_replay.specs.Row.{Row}
use Rattle.pcrlock_answer.specs.declared.answer.Answer.{Answer}
use Rattle.pcrlock_answer.specs.Texts.{line_end}
use Rattle.pcrlock_line.specs.Machine.{Machine}
use Rattle.pcrlock_line.specs.Outcome.{Outcome}
use Rattle.pcrlock_input.specs.Answering.{◌>>=◌}
use Rattle.pcrlock_input.specs.Logs.{PlainLogs, logs_of, rows_of}
use Rattle.pcrlock_line.specs.Printing.{printed_line}

-- a record of the combined log, without who measured it
abbrev pub measured : Row → Spelled
measured r = record { pcr = r.pcr; digests = r.digests }

-- the records of both logs, numbered from 0 (TCG Canonical Event Log, in JSON)
abbrev pub cel_text : PlainLogs → List ℕ
cel_text logs = component_text (map measured (rows_of logs)) ++ line_end

abbrev pub cel_of : FileMap → Option (List ℕ) → Option (List ℕ) → Result (List ℕ) Answer
cel_of files firmware user = logs_of files firmware user >>= λ logs. Ok (cel_text logs)

-- `cel`, of the logs at the paths that are named, or at the usual ones
abbrev pub cel_line : Option (List ℕ) → Option (List ℕ) → Machine → Outcome
cel_line firmware user m = printed_line (cel_of m.files firmware user) m
