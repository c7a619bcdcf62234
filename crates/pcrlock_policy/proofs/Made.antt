-- The machine before all changes is the first of the stops of `make-policy`.
use Rattle.std.proofs.Common.{◌≡◌, ℕ, List, inl, refl, sym, subst}
use Rattle.std.specs.Prelude.{Option, Result, Ok, Err}
use Rattle.pl_base.specs.FileMap.{FileMap}
use Rattle.policy_file.specs.declared.policy.Policy.{Policy}
use Rattle.tpm_device.specs.Stored.{Stored}
use Rattle.pcrlock_answer.specs.declared.answer.Answer.{Answer}
use Rattle.pcrlock_line.specs.Machine.{Machine}
use Rattle.pcrlock_line.specs.Outcome.{Outcome}
use Rattle.pcrlock_line.specs.Stopped.{StandsAt, StandsAmong}
use Rattle.pcrlock_line.proofs.Devices.{stands_live, stops_first}
use Rattle.pcrlock_deeds.specs.PolicyAt.{policy_of}
use Rattle.pcrlock_predict.specs.Inputs.{PlainInputs, inputs_of}
use Rattle.pcrlock_policy.specs.Asked.{Asked, Target}
use Rattle.pcrlock_policy.specs.Foreseen.{foreseen_on}
use Rattle.pcrlock_policy.specs.MakePolicy.{found_line, inputs_line, make_policy_line, policy_on}
use Rattle.pcrlock_policy.proofs.Forced.{force_first}

pub inputs_first : (held : Option FileMap) (kept : Option Stored) (state : List ℕ) (asked : Asked) (target : Target) (found : Option Policy) (inputs : Result PlainInputs Answer) (m : Machine)
    → StandsAt held kept m → StandsAmong held kept (inputs_line state asked target found inputs m).stops
inputs_first held kept state asked target found (Ok inputs) m at =
    stops_first held kept state m (policy_on asked target found inputs) at
    (λ s e. force_first held kept target found (foreseen_on asked inputs s) (record { files = m.files; state = s; draws = m.draws }) (stands_live held kept m s e at))
inputs_first held kept state asked target found (Err answer) m at = inl at

pub found_first : (held : Option FileMap) (kept : Option Stored) (state : List ℕ) (asked : Asked) (target : Target) (found : Result (Option Policy) Answer) (m : Machine)
    → StandsAt held kept m → StandsAmong held kept (found_line state asked target found m).stops
found_first held kept state asked target (Ok found) m at =
    inputs_first held kept state asked target found (inputs_of m.files asked.firmware asked.user asked.folders) m at
found_first held kept state asked target (Err answer) m at = inl at

-- the command goes by the policy file first
pub by_policy : (state : List ℕ) (asked : Asked) (target : Target) (m : Machine) → make_policy_line state asked target m ≡ found_line state asked target (policy_of m.files target.path) m
unfolding make_policy_line
by_policy state asked target m = refl

pub make_first : (held : Option FileMap) (kept : Option Stored) (state : List ℕ) (asked : Asked) (target : Target) (m : Machine)
    → StandsAt held kept m → StandsAmong held kept (make_policy_line state asked target m).stops
make_first held kept state asked target m at =
    subst (λ (o : Outcome). StandsAmong held kept o.stops) (sym (by_policy state asked target m)) (found_first held kept state asked target (policy_of m.files target.path) m at)
