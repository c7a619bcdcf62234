use Rattle.pcrlock_update.proofs.Unchanged.{unchanged_makes}
use Rattle.pcrlock_update.proofs.laws.unchanged_is_in_force.Goals as goal

pub returns : goal.returns
returns c = λ path policy force index written table m w kept clean safe read valid found was unchanged.
    unchanged_makes path policy table index written m w force kept clean safe read valid found was unchanged
