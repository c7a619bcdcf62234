-- What `tpm-boot` does.
use Rattle.std.specs.Prelude.{ℕ, ◌+◌, ◌≤◌, List, [], ◌∷◌, length, map, take, fold, unwrap_or, Option, Result, Ok, Err}
use Rattle.hash_bank.specs.declared.banks.Banks.{Banks}
use Rattle.pcr_replay.specs.Row.{Row}
use Rattle.tpm_model.specs.declared.parts.Parts.{Parts}
use Rattle.tpm_model.specs.Pcrs.{after_digests}
use Rattle.tpm_model.specs.StartValues.{start_values}
use Rattle.tpm_model.specs.World.{World, extended_world}
use Rattle.tpm_device.specs.Stored.{Stored}
use Rattle.pcrlock_answer.specs.declared.answer.Answer.{Answer}
use Rattle.pcrlock_answer.specs.Texts.{records_text}
use Rattle.pcrlock_line.specs.Begun.{by_device}
use Rattle.pcrlock_line.specs.Machine.{Machine, Live, machine}
use Rattle.pcrlock_line.specs.Outcome.{Outcome, Fine, refused_line}
use Rattle.pcrlock_input.specs.Logs.{PlainLogs, locality_in, logs_of, rows_of}
use Rattle.pcrlock_line.specs.Running.{Keeps}

-- a restart of the machine at the locality: exactly these banks are present, their PCRs have their
-- start values, no session is open, and no update is counted (TPM 2.0 Library Part 3, TPM2_Startup)
abbrev pub restarted : ℕ → Banks → Parts → Parts
restarted locality banks s = record s { banks = banks; pcrs = start_values banks locality; update_counter = 0; sessions = [] }

-- an extend by a record's digests in each present bank (TPM 2.0 Library Part 3, TPM2_PCR_Extend)
abbrev pub measured_row : Parts → Row → Parts
measured_row s r = record s {
  pcrs = after_digests s.banks r.pcr r.digests.sha1 r.digests.sha256 r.digests.sha384 r.digests.sha512 s.pcrs;
  update_counter = s.update_counter + 1;
}

-- one record after the other
abbrev pub measured : List Row → Parts → Parts
measured rows s = fold measured_row s rows

-- the state before the first of them, and after each
abbrev pub measured_states : List Row → Parts → List Parts
measured_states [] s = s ∷ []
measured_states (r ∷ rows) s = s ∷ measured_states rows (measured_row s r)

-- a restart, and then what was logged
abbrev pub booted : ℕ → Banks → List Row → Parts → Parts
booted locality banks rows s = measured rows (restarted locality banks s)

-- the locality that is given, else the one that the firmware announced
abbrev pub boot_locality : Option ℕ → PlainLogs → ℕ
boot_locality given logs = unwrap_or given (locality_in logs.firmware)

-- the state after a boot with the logs
abbrev pub boot_state : Option ℕ → Banks → PlainLogs → Parts → Parts
boot_state given banks logs s = booted (boot_locality given logs) banks (rows_of logs) s

-- the machine with another state
abbrev pub at_state : Live → Parts → Machine
at_state m s = machine (record m { state = s })

-- nothing is refused: after the restart no update is counted, and there are fewer records than updates
abbrev pub booted_line : Option ℕ → Banks → PlainLogs → Live → Outcome
booted_line given banks logs m = record {
  ending = Fine (records_text (length (rows_of logs)));
  after = at_state m (boot_state given banks logs m.state);
  hashed = [];
  stops = machine m ∷ map (at_state m) (measured_states (rows_of logs) (restarted (boot_locality given logs) banks m.state));
}

-- by what reading the logs gave
abbrev pub boot_outcome : List ℕ → Option ℕ → Banks → Result PlainLogs Answer → Machine → Outcome
boot_outcome path given banks (Err answer) m = refused_line answer m
boot_outcome path given banks (Ok logs) m = by_device m.device path m (booted_line given banks logs)

-- `tpm-boot` over what is stored at the path, of the logs at the paths that are named, or at the usual
-- ones
abbrev pub tpm_boot_line : List ℕ → Option (List ℕ) → Option (List ℕ) → Option ℕ → Banks → Machine → Outcome
tpm_boot_line path firmware user given banks m = boot_outcome path given banks (logs_of m.files firmware user) m

-- the state after some of the extends, the first ones, is stored
pub record IsPartWay (stored : Option Stored) (rows : List Row) (s : Parts) : Type 0 where
  pub extends : ℕ
  pub few : extends ≤ length rows
  pub keeps : Keeps stored (measured (take extends rows) s)

-- the world after a boot with the logs: it follows the state
abbrev pub boot_world : Option ℕ → Banks → PlainLogs → Parts → World → World
boot_world given banks logs s w = extended_world (boot_state given banks logs s) w
