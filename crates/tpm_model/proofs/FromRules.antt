-- What a state keeps by itself is a part of its rules.
use Rattle.tpm_model.specs.declared.parts.Parts.{Parts}
use Rattle.tpm_model.specs.Orderly.{Orderly}
use Rattle.tpm_model.specs.Rules.{HasRules}
use Rattle.tpm_model.proofs.KeepsIndices.{indices_kept, table_kept}

pub orderly_from : (s : Parts) → HasRules s → Orderly s
orderly_from s h = record { values = h.shape.values; objects = h.object_order; table = table_kept s h; counted = (indices_kept s h).counted }
