-- How the unseals among the TPM commands of a run open, whoever sent them.
use Rattle.tpm_model.specs.World.{World}
use Rattle.pcrlock_words.specs.declared.request.Request.{Request}
use Rattle.pcrlock_words.specs.declared.request.Request.TheVariants as requests
use Rattle.pcrlock_line.specs.Machine.{Machine}
use Rattle.pcrlock_exec.specs.Unseals.{ExecOpens}
use Rattle.pcrlock_run.specs.Setting.{Setting}

-- each Unseal of an object of the program, among the TPM commands that a request's file has, opens by what the
-- object is bound to
abbrev pub UnsealsOpen : Setting → Request → Machine → World → Type 0
UnsealsOpen setting (requests.TpmExec commands) m w = ExecOpens commands m w
UnsealsOpen setting _ m w = Unit {0}
