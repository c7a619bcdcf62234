-- The lines between the first and the last of the script put no table in force.
use Rattle.std.proofs.Common.{ℕ, Bool, true, false, List, [], ◌∷◌, ◌++◌}
use Rattle.std.specs.Prelude.{Option, None, Some, Result, Ok, Err}
use Rattle.std.specs.Str.{bytes_eq}
use Rattle.hash_bank.specs.declared.banks.Banks.{Banks}
use Rattle.policy_file.specs.declared.policy.Policy.{Policy}
use Rattle.pcr_replay.specs.Row.{Row}
use Rattle.tpm_model.specs.declared.command.Command.{Command}
use Rattle.tpm_model.specs.declared.parts.Parts.{Parts}
use Rattle.tpm_model.specs.declared.response.Response.{Response}
use Rattle.tpm_model.specs.Binding.{index_policy}
use Rattle.tpm_model.specs.Events.{Event}
use Rattle.tpm_model.specs.World.{FiledPolicy, World}
use Rattle.pcrlock_answer.specs.declared.answer.Answer.{Answer}
use Rattle.pcrlock_line.specs.Machine.{Machine}
use Rattle.pcrlock_line.specs.Outcome.{Ending, Fine}
use Rattle.pcrlock_deeds.specs.PolicyAt.{policy_needed}
use Rattle.pcrlock_input.specs.Logs.{PlainLogs, logs_of, rows_of}
use Rattle.pcrlock_tpm.specs.Acts.{boot_act, booting, measuring}
use Rattle.pcrlock_tpm.specs.Boot.{measured_row}
use Rattle.pcrlock_exec.specs.Acts.{exec_act, exec_by, sending}
use Rattle.pcrlock_exec.specs.Exec.{exec_text}
use Rattle.pcrlock_exec.specs.Input.{commands_at}
use Rattle.pcrlock_seal.specs.Acts.{author_by, author_where, enroll_bound_act, key_deed, policy_act, seal_deed, token_deed}
use Rattle.pcrlock_seal.specs.Condition.{condition_policy, index_condition}
use Rattle.pcrlock_seal.specs.Enroll.{sealed_handle}
use Rattle.pcrlock_headline.specs.Calm.{IsCalm, IsCalmAct, WritesNone}

author_calm : (filed : Option FiledPolicy) (policy key : List ℕ) → WritesNone (author_by filed policy key)
author_calm None policy key = tt
author_calm (Some filed) policy key = by (bytes_eq (index_policy filed.handle filed.pin) policy)
  where
    by : (known : Bool) → WritesNone (author_where known filed policy key)
    by true = tt
    by false = tt

token_calm : (path : List ℕ) (condition : _) (response : Response) (handle : Option ℕ) → IsCalm (token_deed path condition response handle)
token_calm path condition response (Some handle) = (tt, tt)
token_calm path condition response None = tt

seal_calm : (path : List ℕ) (condition : _) (event : Event) → WritesNone event → IsCalm (seal_deed path condition event)
seal_calm path condition event none = (none, λ response. token_calm path condition response (sealed_handle response))

key_calm : (path : List ℕ) (condition : _) (author : List ℕ → Event) (key : Option (List ℕ)) → ((k : List ℕ) → WritesNone (author k)) → IsCalm (key_deed path condition author key)
key_calm path condition author (Some key) none = seal_calm path condition (author key) (none key)
key_calm path condition author None none = (λ word. seal_calm path condition (author word) (none word), tt)

pub enroll_calm : (path policy : List ℕ) (key : Option (List ℕ)) (m : Machine) (w : World) → IsCalmAct (enroll_bound_act path policy key m w)
unfolding enroll_bound_act
enroll_calm path policy key m w = by (policy_needed m.files policy)
  where
    by : (needed : Result Policy Answer) → IsCalmAct (policy_act path key w.filed needed)
    by (Ok found) =
        let condition = index_condition found in
        key_calm path condition (author_by w.filed (condition_policy condition)) key (λ k. author_calm w.filed (condition_policy condition) k)
    by (Err answer) = tt

sending_calm : (commands : List Command) (last : Ending) → IsCalm (sending commands last)
sending_calm [] last = tt
sending_calm (command ∷ commands) last = (tt, λ response. sending_calm commands last)

pub exec_calm : (commands : List ℕ) (m : Machine) (w : World) → IsCalmAct (exec_act commands m w)
unfolding exec_act
exec_calm commands m w = by (commands_at m.files commands)
  where
    by : (read : Result (List Command) Answer) → IsCalmAct (exec_by read)
    by (Ok list) = λ live. sending_calm list (Fine (exec_text list live.state))
    by (Err why) = tt

measuring_calm : (rows : List Row) (s : Parts) (last : Ending) → IsCalm (measuring rows s last)
measuring_calm [] s last = tt
measuring_calm (r ∷ rows) s last = measuring_calm rows (measured_row s r) last

pub boot_calm : (firmware user : Option (List ℕ)) (given : Option ℕ) (banks : Banks) (m : Machine) (w : World) → IsCalmAct (boot_act firmware user given banks m w)
unfolding boot_act
boot_calm firmware user given banks m w = by (logs_of m.files firmware user)
  where
    by : (read : Result PlainLogs Answer) → IsCalmAct (booting given banks read)
    by (Ok logs) = λ live. measuring_calm (rows_of logs) _ _
    by (Err why) = tt
