-- What a command does by its request, and what a script does line by line.
use Rattle.std.specs.Prelude.{ℕ, if◌then◌else◌, List, [], ◌∷◌, ◌++◌, Option, None, Some}
use Rattle.hash_bank.specs.HashedString.{HashedString}
use Rattle.pcrlock_answer.specs.declared.answer.Answer.TheVariants as answers
use Rattle.pcrlock_words.specs.declared.request.Request.{Request}
use Rattle.pcrlock_words.specs.declared.request.Request.TheVariants as requests
use Rattle.pcrlock_words.specs.Requests.{request_of}
use Rattle.pcrlock_words.specs.Lines.{words_of}
use Rattle.pcrlock_answer.specs.Texts.{status_text}
use Rattle.pcrlock_line.specs.Machine.{Machine}
use Rattle.pcrlock_line.specs.Outcome.{Outcome, is_stop, refused_line}
use Rattle.hash_bank.specs.declared.bank.Bank.{Bank}
use Rattle.pcrlock_read.specs.Cel.{cel_line}
use Rattle.pcrlock_read.specs.ComponentLines.{list_components_line}
use Rattle.pcrlock_predict.specs.Log.{log_line}
use Rattle.pcrlock_predict.specs.Predict.{predict_line}
use Rattle.pcrlock_exec.specs.Exec.{tpm_exec_line}
use Rattle.pcrlock_broker.specs.Broker.{broker_line}
use Rattle.pcrlock_tpm.specs.Boot.{tpm_boot_line}
use Rattle.pcrlock_tpm.specs.Extend.{tpm_extend_line}
use Rattle.pcrlock_seal.specs.Enroll.{enroll_bound_line, enroll_line}
use Rattle.pcrlock_open.specs.Unseal.{unseal_line}
use Rattle.component_make.specs.declared.kind.FirmwareKind.TheVariants.{Code, Config}
use Rattle.pcrlock_lock.specs.LockFirmware.{lock_firmware_line}
use Rattle.pcrlock_lock.specs.UnlockFirmware.{unlock_firmware_line}
use Rattle.pcrlock_lock.specs.LockRaw.{lock_raw_line}
use Rattle.pcrlock_proofs.specs.CheckProof.{check_proof_line}
use Rattle.pcrlock_proofs.specs.Prove.{prove_line}
use Rattle.pcrlock_update.specs.RemovePolicy.{remove_policy_line}
use Rattle.pcrlock_policy.specs.MakePolicy.{make_policy_line}
use Rattle.pcrlock_run.specs.Setting.{Setting, target_in}
use Rattle.pcrlock_run.specs.Status.{status_of, out_of, err_of}

-- `enroll` under the present value of a PCR, or else under the policy
unfoldable pub enroll_outcome : List ℕ → List ℕ → List ℕ → Option (List ℕ) → Option ℕ → Bank → Machine → Outcome
enroll_outcome state token policy key (Some pcr) bank m = enroll_line state token pcr bank key m
enroll_outcome state token policy key None bank m = enroll_bound_line state token policy key m

-- `unseal` of a token
unfoldable pub unseal_outcome : List ℕ → List ℕ → List ℕ → Machine → Outcome
unseal_outcome state token policy m = unseal_line state token policy m

-- what a command does, by cases, under what is in force. A script inside a script is no command, and neither
-- is yet what stands in no case
unfoldable pub command_line : Setting → Request → Machine → Outcome
command_line setting (requests.TpmExtend pcr bytes) m = tpm_extend_line setting.state pcr bytes m
command_line setting (requests.Enroll token policy key literal bank) m = enroll_outcome setting.state token policy key literal bank m
command_line setting (requests.Unseal token policy) m = unseal_outcome setting.state token policy m
command_line setting (requests.Cel firmware user) m = cel_line firmware user m
command_line setting (requests.ListComponents folders) m = list_components_line folders m
command_line setting (requests.TpmBoot firmware user locality banks) m = tpm_boot_line setting.state firmware user locality banks m
command_line setting (requests.Log firmware user folders bank) m = log_line setting.state firmware user folders bank m
command_line setting (requests.Predict firmware user folders location pcr bank joint) m = predict_line setting.state firmware user folders location pcr bank joint m
command_line setting (requests.TpmExec commands) m = tpm_exec_line setting.state commands m
command_line setting (requests.Broker commands clients) m = broker_line setting.state commands clients m
command_line setting (requests.LockFirmwareCode log folder variant) m = lock_firmware_line Code log folder variant m
command_line setting (requests.LockFirmwareConfig log folder variant) m = lock_firmware_line Config log folder variant m
command_line setting (requests.UnlockFirmwareCode folder variant) m = unlock_firmware_line Code folder variant m
command_line setting (requests.UnlockFirmwareConfig folder variant) m = unlock_firmware_line Config folder variant m
command_line setting (requests.LockRaw file pcr output) m = lock_raw_line file pcr output m
command_line setting (requests.Prove output folders location pcr bank locality joint) m =
    prove_line output folders location (record { pcrs = pcr; bank = bank; locality = locality; joint = joint }) m
command_line setting (requests.CheckProof proof folders location) m = check_proof_line proof folders location m
command_line setting (requests.MakePolicy firmware user folders location pcr bank policy index pin force joint) m =
    make_policy_line setting.state (record { firmware = firmware; user = user; folders = folders; window = location; pcrs = pcr; bank = bank; joint = joint })
    (target_in setting policy index pin force) m
command_line setting (requests.RemovePolicy policy) m = remove_policy_line setting.state policy m
command_line setting _ m = refused_line answers.BadWords m

-- what words do that spell a request, or none
abbrev pub answered : Setting → Option Request → Machine → Outcome
answered setting None m = refused_line answers.BadWords m
answered setting (Some request) m = command_line setting request m

-- what a line of a script does
unfoldable pub line : Setting → List (List ℕ) → Machine → Outcome
line setting words m = answered setting (request_of words setting.policy) m

-- what the whole run puts on standard output and standard error, its status, the machine afterwards,
-- the strings that were hashed, and the machine after each number of its changes
pub record Whole : Type 0 where
  pub out : List ℕ
  pub err : List ℕ
  pub status : ℕ
  pub after : Machine
  pub hashed : List HashedString
  pub stops : List Machine

-- a line of a script that begins at this machine and ends: its text and its mark, or its answer, before
-- those of the lines behind it
abbrev pub marked_before : Machine → Outcome → Whole → Whole
marked_before m first rest = record {
  out = out_of first.ending ++ status_text (status_of first.ending) ++ rest.out;
  err = err_of first.ending ++ rest.err;
  status = rest.status;
  after = rest.after;
  hashed = first.hashed ++ rest.hashed;
  stops = m ∷ (first.stops ++ rest.stops);
}

-- a line that stops: neither its mark nor a line stands behind it
abbrev pub stopped_at : Machine → Outcome → Whole
stopped_at m last = record {
  out = out_of last.ending;
  err = err_of last.ending;
  status = status_of last.ending;
  after = last.after;
  hashed = last.hashed;
  stops = m ∷ last.stops;
}

-- a line before those behind it, which run unless it stops
abbrev pub line_before : Machine → Outcome → Whole → Whole
line_before m first rest = if is_stop first.ending then stopped_at m first else marked_before m first rest

-- nothing more, behind a line of this status
abbrev pub at_rest : ℕ → Machine → Whole
at_rest status m = record { out = []; err = []; status = status; after = m; hashed = []; stops = m ∷ [] }

-- a single line of a script
abbrev pub marked : Machine → Outcome → Whole
marked m first = line_before m first (at_rest (status_of first.ending) first.after)

-- the lines of a script, one after the other, behind a line of this status
abbrev pub script_from : Setting → List (List ℕ) → ℕ → Machine → Whole
script_from setting [] status m = at_rest status m
script_from setting (text ∷ texts) status m =
    line_before m (line setting (words_of text) m)
    (script_from setting texts (status_of (line setting (words_of text) m).ending) (line setting (words_of text) m).after)

-- the script: the status is the last line's, or 0 where there is none
abbrev pub script : Setting → List (List ℕ) → Machine → Whole
script setting lines m = script_from setting lines 0 m
