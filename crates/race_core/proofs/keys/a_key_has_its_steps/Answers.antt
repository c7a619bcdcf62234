use Rattle.race_core.proofs.Histories.{key_steps}
use Rattle.race_core.proofs.keys.a_key_has_its_steps.Goals as goal

pub returns : goal.returns
returns c = record { steps = λ events p client secret new e. key_steps events p client secret new e }
