-- The client's result of an unseal, as the end of the command.
use Rattle.std.specs.Prelude.{◌≡◌, ◌⊎◌, ℕ, List, Option, Some, Result, Err}
use Rattle.policy_file.specs.declared.token.Literal.{Literal}
use Rattle.policy_session.specs.declared.error.UnsealError.{UnsealError}
use Rattle.policy_session.specs.declared.error.UnsealError.TheVariants as error
use Rattle.pcrlock_line.specs.Outcome.{Ending, ending_of}
use Rattle.pcrlock_line.specs.declared.reply.Reply.{Reply}
use Rattle.pcrlock_line.specs.declared.stop.Stop.{Stop}
use Rattle.pcrlock_line.specs.declared.stop.Stop.TheVariants.{TpmFault as Fault, Memory as OutOfMemory}
use Rattle.tpm_model.specs.declared.parts.Parts.{Parts}
use Rattle.tpm_model.specs.Rules.{HasRules}
use Rattle.tpm_device.specs.Stored.{Stored, Holds}
use Rattle.policy_session.specs.LiteralUnseal.{opened, after_unseal}
use Rattle.pcrlock_open.specs.Bound.{secret_ending}
use Rattle.pcrlock_open.specs.UnsealAnswers.{result_answer}

-- the end of a command that opens a literal's object
abbrev pub result_ending : Literal → Result (List ℕ) UnsealError → Ending
result_ending literal opened = secret_ending (result_answer (Some literal) opened)

-- a stop is for want of memory, or for a fault of the TPM
abbrev pub IsStopFor : UnsealError → Stop → Type 0
IsStopFor why stop = (stop ≡ OutOfMemory) ⊎ ((stop ≡ Fault) × (why ≡ error.Failed))

-- the same for a result
abbrev pub IsStopAfter : Result (List ℕ) UnsealError → Stop → Type 0
IsStopAfter result stop = (stop ≡ OutOfMemory) ⊎ ((stop ≡ Fault) × (result ≡ Err error.Failed))

-- the reply tells the client's result, and the state afterwards is stored and has its rules
pub record IsOpened (literal : Literal) (handle : ℕ) (s : Parts) (reply : Reply) (kept : Option Stored) : Type 0 where
  pub ending : ending_of reply ≡ result_ending literal (opened literal handle s)
  pub stored : kept ≡ Some (Holds (after_unseal s))
  pub rules : HasRules (after_unseal s)
