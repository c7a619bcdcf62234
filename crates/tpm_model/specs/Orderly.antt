-- What a state keeps by itself, whatever a command is given.
use Rattle.std.specs.Prelude.{◌≡◌, true}
use Rattle.std.specs.List.{list_all}
use Rattle.nv_index.specs.Table.{IsTable, is_counted}
use Rattle.tpm_model.specs.declared.parts.Parts.{Parts}
use Rattle.tpm_model.specs.ObjectRules.{keeps_object_order}
use Rattle.tpm_model.specs.Pcrs.{HasValues}

-- 24 values of its size for each present bank, objects by rising handles below the next, a table of
-- indices, and numbers of writes that are among the writes so far
pub record Orderly (s : Parts) : Type 0 where
  pub values : HasValues s.banks s.pcrs
  pub objects : keeps_object_order s ≡ true
  pub table : IsTable s.indices
  pub counted : list_all (is_counted s.write_counter) s.indices ≡ true
