-- The combined log of two logs.
use Rattle.std.proofs.Common.{◌≡◌, ◌≤◌, ◌+◌, ℕ, suc, List, [], ◌∷◌, ◌++◌, length, map, refl, sym, ap, ◌∙◌, subst, arith}
use Rattle.std.specs.Prelude.{Option, None, Some, Result, Ok, Err, IfOk, IfSome}
use Rattle.std.specs.List.{cons_option}
use Rattle.std.proofs.lemmas.List.{length-append, length-map}
use Rattle.cel_record.specs.declared.record.CelRecord.{CelRecord}
use Rattle.cel_record.specs.Spelled.{spelled}
use Rattle.tcg_log.specs.Allowed.{IsWritable}
use Rattle.tcg_log.specs.declared.log.FirmwareLog.{FirmwareLog}
use Rattle.tcg_log.specs.declared.record.FirmwareRecord.{FirmwareRecord}
use Rattle.pl_base.specs.declared.memory.Memory.{Memory}
use Rattle.pcr_replay.specs.declared.record.LogRecord.{LogRecord}
use Rattle.pcr_replay.specs.Combined.{combined_of, extended_row, firmware_rows, user_row as row_of_user}
use Rattle.pcr_replay.specs.Row.{Row, row, rows}
use Rattle.pcrlock_input.specs.declared.logs.Logs.{Logs}
use Rattle.pcrlock_input.specs.Logs.{AreRead, firmware_part, plain_logs, rows_of, user_row}

user_rows : (us : List CelRecord) → map row_of_user us ≡ map user_row (map spelled us)
user_rows [] = refl
user_rows (u ∷ us) = ap (λ (t : List Row). row_of_user u ∷ t) (user_rows us)

rows_by : (log : Option FirmwareLog) (us : List CelRecord) → combined_of log us ≡ firmware_part log ++ map user_row (map spelled us)
rows_by None us = user_rows us
rows_by (Some log) us = ap (λ (t : List Row). firmware_rows log.records ++ t) (user_rows us)

-- the rows are those of the logs
pub told : (logs : Logs) (firmware : Option FirmwareLog) (us : List CelRecord) (result : Result (List LogRecord) Memory) → firmware ≡ logs.firmware → us ≡ logs.user.records
    → IfOk result (λ list. rows list ≡ combined_of firmware us) → IfOk result (λ list. rows list ≡ rows_of (plain_logs logs))
told logs firmware us (Ok list) same users h = h ∙ ap (λ (f : Option FirmwareLog). combined_of f us) same ∙ ap (combined_of logs.firmware) users ∙ rows_by logs.firmware logs.user.records
told logs firmware us (Err e) same users h = tt

cons_at_most : (given : Option Row) (rest : List Row) (n : ℕ) → length rest ≤ n → length (cons_option given rest) ≤ suc n
cons_at_most None rest n h = omega (arith, h)
cons_at_most (Some x) rest n h = omega (arith, h)

-- no more is extended than there are records
fewer_rows : (records : List FirmwareRecord) → length (firmware_rows records) ≤ length records
fewer_rows [] = omega arith
fewer_rows (r ∷ records) = cons_at_most (extended_row r) (firmware_rows records) (length records) (fewer_rows records)

few_firmware : (log : Option FirmwareLog) → IfSome log IsWritable → length (firmware_part log) ≤ 16384
few_firmware None h = omega arith
few_firmware (Some log) h = omega (arith, fewer_rows log.records, h.records)

few_rows : (logs : Logs) → AreRead logs → length (rows_of (plain_logs logs)) ≤ 20480
few_rows logs h =
    rw (length-append (firmware_part logs.firmware) (map user_row (map spelled logs.user.records)), length-map, length-map)
    (omega (arith, few_firmware logs.firmware h.writable, h.few))

pub few : (logs : Logs) (result : Result (List LogRecord) Memory) → AreRead logs → IfOk result (λ list. rows list ≡ rows_of (plain_logs logs)) → IfOk result (λ list. length list ≤ 20480)
few logs (Ok list) h is = let counted : length (rows list) ≤ 20480 = subst (λ (r : List Row). length r ≤ 20480) (sym is) (few_rows logs h) in rw length-map at counted
few logs (Err e) h is = tt
