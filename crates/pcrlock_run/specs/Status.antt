-- The status of a command.
use Rattle.std.specs.Prelude.{ℕ, List, []}
use Rattle.pcrlock_answer.specs.declared.answer.Answer.{Answer}
use Rattle.pcrlock_answer.specs.declared.answer.Answer.TheVariants as answers
use Rattle.pcrlock_answer.specs.Texts.{answer_text}
use Rattle.pcrlock_line.specs.declared.stop.Stop.{Stop}
use Rattle.pcrlock_line.specs.declared.stop.Stop.TheVariants as stops
use Rattle.pcrlock_line.specs.Outcome.{Ending, Fine, Refused, Stops}
use Rattle.pcrlock_run.specs.declared.status.Status.{Status}
use Rattle.pcrlock_run.specs.declared.status.Status.TheVariants as statuses

-- The status of an answer. A fault or want of memory stops a command and is no answer of one: then
-- the status is 5 or 6, which no answer has
abbrev pub refusal_status : Answer → ℕ
refusal_status (answers.NotForeseen pcrs now) = 1
refusal_status (answers.NotLiteral pcr now sealed) = 1
refusal_status (answers.NotProved line) = 1
refusal_status answers.BadWords = 2
refusal_status (answers.Malformed path place) = 3
refusal_status (answers.NoSuchFile path) = 3
refusal_status (answers.Limit kind number) = 4
refusal_status (answers.CounterEnd writes) = 4
refusal_status _ = 7

-- the number of a status
abbrev pub number_of : Status → ℕ
number_of statuses.Fine = 0
number_of statuses.Unmet = 1
number_of statuses.BadWords = 2
number_of statuses.BadFile = 3
number_of statuses.Limit = 4
number_of statuses.Other = 7

-- the number of a stop
abbrev pub stop_number : Stop → ℕ
stop_number stops.Memory = 6
stop_number _ = 5

-- the answer that tells a stop
abbrev pub stop_answer : Stop → Answer
stop_answer stops.ReadFault = answers.ReadFault
stop_answer stops.WriteFault = answers.WriteFault
stop_answer stops.EntropyFault = answers.EntropyFault
stop_answer stops.TpmFault = answers.TpmFault
stop_answer stops.Memory = answers.Memory

-- the status of a command's end
abbrev pub status_of : Ending → ℕ
status_of (Fine text) = 0
status_of (Refused answer) = refusal_status answer
status_of (Stops stop) = stop_number stop

-- what a command's end puts on standard output, and on standard error
abbrev pub out_of : Ending → List ℕ
out_of (Fine text) = text
out_of (Refused answer) = []
out_of (Stops stop) = []

abbrev pub err_of : Ending → List ℕ
err_of (Fine text) = []
err_of (Refused answer) = answer_text answer
err_of (Stops stop) = answer_text (stop_answer stop)
