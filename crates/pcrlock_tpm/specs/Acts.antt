-- `tpm-extend` and `tpm-boot` as acts.
use Rattle.std.specs.Prelude.{◌≡◌, ℕ, false, List, [], ◌∷◌, length, Option, Some, Result, Ok, Err, unwrap_or}
use Rattle.std.specs.Option.{ForSome}
use Rattle.std.proofs.Common.{sym, ap, ◌∙◌}
use Rattle.hash_bank.specs.declared.bank.Bank.{Bank}
use Rattle.hash_bank.specs.declared.bank.Bank.TheVariants.{Sha1, Sha256, Sha384, Sha512}
use Rattle.hash_bank.specs.declared.banks.Banks.{Banks}
use Rattle.hash_bank.specs.declared.digests.Digests.{Digests}
use Rattle.hash_bank.specs.Hash.{digest_in, size_in}
use Rattle.hash_bank.proofs.Sizes.{length-digest_in}
use Rattle.pcr_replay.specs.Row.{Row}
use Rattle.tpm_model.specs.declared.command.Command.TheVariants as command
use Rattle.tpm_model.specs.declared.response.Response.{Response}
use Rattle.tpm_model.specs.declared.response.Response.TheVariants as answer
use Rattle.tpm_model.specs.declared.parts.Parts.{Parts}
use Rattle.tpm_model.specs.Events.{Other}
use Rattle.tpm_model.specs.World.{World}
use Rattle.pcrlock_answer.specs.declared.answer.Answer.{Answer}
use Rattle.pcrlock_answer.specs.declared.answer.Answer.TheVariants as said
use Rattle.pcrlock_answer.specs.Texts.{records_text}
use Rattle.pcrlock_line.specs.Machine.{Machine}
use Rattle.pcrlock_line.specs.Outcome.{Ending, Fine, Refused}
use Rattle.pcrlock_input.specs.Logs.{PlainLogs, logs_of, rows_of}
use Rattle.pcrlock_deeds.specs.Acts.{Act, says, works}
use Rattle.pcrlock_deeds.specs.Deed.{Deed, ends, sends, sees, boots}
use Rattle.pcrlock_tpm.specs.Boot.{boot_locality, measured_row, restarted}

-- a bank's hash has the bank's length
abbrev pub is_sized : (bank : Bank) (bytes : List ℕ) → ForSome (Some (digest_in bank bytes)) (λ digest. length digest ≡ size_in bank)
is_sized bank bytes = λ digest e. ap (λ found. length (unwrap_or found [])) (sym e) ∙ length-digest_in bank bytes

-- the hash of the bytes for each bank
abbrev pub hashes_of : List ℕ → Digests
hashes_of bytes = record {
  sha1 = Some (digest_in Sha1 bytes);
  sha256 = Some (digest_in Sha256 bytes);
  sha384 = Some (digest_in Sha384 bytes);
  sha512 = Some (digest_in Sha512 bytes);
  sha1_size = is_sized Sha1 bytes;
  sha256_size = is_sized Sha256 bytes;
  sha384_size = is_sized Sha384 bytes;
  sha512_size = is_sized Sha512 bytes;
}

-- nothing is printed for an extend that was accepted; else the counter is at its end
abbrev pub extend_ending : Response → Ending
extend_ending answer.Done = Fine []
extend_ending _ = Refused (said.CounterEnd false)

-- one extend by the hashes of the bytes
abbrev pub extend_deed : ℕ → List ℕ → Deed
extend_deed pcr bytes = sends (Other (command.PcrExtend pcr (hashes_of bytes))) (λ response. ends (extend_ending response))

-- `tpm-extend`
unfoldable pub extend_act : ℕ → List ℕ → Machine → World → Act
extend_act pcr bytes m w = works (extend_deed pcr bytes)

-- what was logged is measured again, record by record, from this state on
abbrev pub measuring : List Row → Parts → Ending → Deed
measuring [] s last = ends last
measuring (r ∷ rows) s last = boots (measured_row s r) (measuring rows (measured_row s r) last)

-- a restart, and then what was logged
abbrev pub boot_deed : Option ℕ → Banks → PlainLogs → Deed
boot_deed given banks logs = sees (λ live.
    let start = restarted (boot_locality given logs) banks live.state in
    boots start (measuring (rows_of logs) start (Fine (records_text (length (rows_of logs))))))

-- by what reading the logs gave
abbrev pub booting : Option ℕ → Banks → Result PlainLogs Answer → Act
booting given banks (Err why) = says (Refused why)
booting given banks (Ok logs) = works (boot_deed given banks logs)

-- `tpm-boot`
unfoldable pub boot_act : Option (List ℕ) → Option (List ℕ) → Option ℕ → Banks → Machine → World → Act
boot_act firmware user given banks m w = booting given banks (logs_of m.files firmware user)
