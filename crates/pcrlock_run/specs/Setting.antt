-- What is in force where a command runs.
use Rattle.std.specs.Prelude.{ℕ, Bool, List, Option, None, Some, option_copied}
use Rattle.std.specs.Option.{unwrap_or}
use Rattle.pcrlock_policy.specs.Asked.{Target}
use Rattle.pcrlock_run.specs.declared.setting.Setting.{Setting as Lent}

-- the path of the TPM's state; the policy path that a script gives its lines; and the NV index for a command
-- whose words name none
pub record Setting : Type 0 where
  pub state : List ℕ
  pub policy : Option (List ℕ)
  pub index : ℕ

-- what was lent
abbrev pub setting_of : Lent → Setting
setting_of lent = record { state = lent.state.now; policy = option_copied lent.policy; index = lent.index }

-- outside a script: the words give the policy path, and the index is the default of `--index`
abbrev pub outside : List ℕ → Setting
outside state = record { state = state; policy = None; index = 0x01800100 }

-- for the lines of a script with this policy path and index
abbrev pub inside : List ℕ → List ℕ → ℕ → Setting
inside state policy index = record { state = state; policy = Some policy; index = index }

-- where a policy is put in force: under the index that the words name, else under the one for words that name none
abbrev pub target_in : Setting → List ℕ → Option ℕ → Option (List ℕ) → Bool → Target
target_in setting policy index pin force = record { path = policy; index = unwrap_or index setting.index; pin = pin; force = force }
