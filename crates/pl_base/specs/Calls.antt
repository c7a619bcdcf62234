-- The calls of an object in memory: how many were made, which are to fail, and what a call does to that.
use Rattle.std.specs.Prelude.{◌≡◌, refl, Bool, ℕ, ◌+◌, ◌-◌, ◌^◌, min, ◌==◌, find, List, [], Option, None, IsSome}
use Rattle.std.specs.Coded.{Coded, code_by, coded×, coded_list, coded_ℕ, coded_bool}
use Rattle.pl_base.specs.declared.fail.Fail.{Fail}

-- the calls that are to fail, how many calls were made, and how many of them failed
pub record Calls : Type 0 where
  pub fails : List Fail
  pub made : ℕ
  pub faults : ℕ

-- a failure is stored as the pair of its fields
abbrev pub fail_code : Coded Fail
fail_code = code_by (ℕ × Bool) (coded× coded_ℕ coded_bool) (λ fail. (fail.call, fail.done)) (λ pair. record { call = pair.0; done = pair.1 }) (λ _. refl)

-- the calls are stored as the tuple of their fields
abbrev pub calls_code : Coded Calls
calls_code =
    code_by (List Fail × (ℕ × ℕ)) (coded× (coded_list fail_code) (coded× coded_ℕ coded_ℕ)) (λ calls. (calls.fails, (calls.made, calls.faults)))
    (λ fields. record { fails = fields.0; made = fields.1.0; faults = fields.1.1 })
    (λ _. refl)

-- the failure that is planned for the next call: the first that names its number, counted from 0
abbrev pub planned : Calls → Option Fail
planned calls = find (λ fail. fail.call == calls.made) calls.fails

-- a call was counted, failed only where that was planned, and ended well only where it was not
pub record FollowsPlan (before now : Calls) (failed done : Type 0) : Type 0 where
  pub same : now.fails ≡ before.fails
  pub counted : now.made ≡ min (before.made + 1) (2 ^ 64 - 1)
  pub only : failed → IsSome (planned before)
  pub each : done → planned before ≡ None
  pub never : before.fails ≡ [] → ¬ failed
