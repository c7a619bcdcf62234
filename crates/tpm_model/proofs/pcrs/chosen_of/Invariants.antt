use Rattle.std.proofs.Common.{◌≡◌, ◌≤◌, ◌++◌, take, drop}
use Rattle.tpm_model.specs.Pcrs.{chosen}
use Rattle.tpm_model.proofs.pcrs.chosen_of.Given as goal

-- what was taken and what the rest of the mask chooses of the rest of the values make the whole
abbrev pub invariant-loop-value : goal.invariant-loop-value
invariant-loop-value l = record {
  below : l.count ≤ l.value-index;
  told : take l.count l.room ++ chosen l.rest (drop l.value-index l.values) ≡ chosen l.fn.pcrs l.values;
}
