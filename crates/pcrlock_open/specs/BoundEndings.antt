-- The client's result of an unseal of a bound object, as the end of the command.
use Rattle.std.specs.Prelude.{◌≡◌, ℕ, Bool, true, List, drop, Option, None, Some, Result, Ok, Err}
use Rattle.or_tree.specs.Plan.{plan_of}
use Rattle.policy_digest.specs.declared.table.Table.{Table}
use Rattle.policy_digest.specs.Plain.{plain_table}
use Rattle.policy_digest.specs.PlainTable.{root_of}
use Rattle.policy_digest.specs.Table.{valid_table}
use Rattle.policy_file.specs.declared.policy.Policy.{Policy}
use Rattle.policy_walk.specs.declared.prepared.PrepareError.{PrepareError}
use Rattle.policy_walk.specs.declared.prepared.PrepareError.TheVariants as prepare
use Rattle.policy_walk.specs.Choosing.{chosen_of, content_of, newest_root}
use Rattle.policy_walk.specs.Places.{Ready}
use Rattle.tpm_device.specs.Stored.{Stored, Holds}
use Rattle.tpm_model.specs.declared.parts.Parts.{Parts}
use Rattle.tpm_model.specs.Rules.{HasRules}
use Rattle.pcrlock_answer.specs.declared.answer.Answer.{Answer}
use Rattle.pcrlock_answer.specs.declared.answer.Answer.TheVariants as said
use Rattle.pcrlock_line.specs.declared.reply.Reply.{Reply}
use Rattle.pcrlock_line.specs.Outcome.{Ending, ending_of}
use Rattle.pcrlock_open.specs.Bound.{plain_tables}

-- by which of the policy's tables a walk is
pub record IsBy (policy : Policy) (content : List ℕ) (ready : Ready) : Type 0 where
  pub table : Table
  pub valid : valid_table table ≡ true
  pub chosen : chosen_of content (plain_tables policy) ≡ Some (plain_table table)
  pub plan : ready.plan ≡ plan_of (plain_table table)
  pub index : ready.index ≡ policy.handle
  pub content_is : content ≡ content_of (root_of (plain_table table))

-- this is the secret or the answer, and the device is ready with this state, which it stores and which has its rules
pub record IsOpenedSo (opened : Result (List ℕ) Answer) (after : Parts) (result : Result (List ℕ) Answer) (ready : Bool) (live : Option Parts) (kept : Option Stored) : Type 0 where
  pub is : result ≡ opened
  pub readiness : ready ≡ true
  pub now : live ≡ Some after
  pub stored : kept ≡ Some (Holds after)
  pub rules : HasRules after

-- the reply is this end, and this state is stored, and has its rules
pub record IsEnded (ending : Ending) (after : Parts) (reply : Reply) (kept : Option Stored) : Type 0 where
  pub is : ending_of reply ≡ ending
  pub stored : kept ≡ Some (Holds after)
  pub rules : HasRules after

-- the walk that was chosen by what the index holds, or the answer where it holds the root of no table
abbrev pub IsChoice : Policy → List ℕ → Result Ready Answer → Type 0
IsChoice policy content (Ok ready) = IsBy policy content ready
IsChoice policy content (Err answer) =
    (chosen_of content (plain_tables policy) ≡ None) × (answer ≡ said.Outdated (drop 2 content) (newest_root (plain_tables policy)))

-- the answer where the content is that of no table
abbrev pub IsOutdated : PrepareError → Answer → Type 0
IsOutdated (prepare.Outdated content newest) answer = answer ≡ said.Outdated (drop 2 content) newest
IsOutdated prepare.Memory answer = ⊥
