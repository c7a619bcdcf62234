-- The rules on indices.
use Rattle.std.specs.Prelude.{Bool, ◌&&◌, map}
use Rattle.std.specs.List.{list_all}
use Rattle.nv_index.specs.Handles.{are_handles}
use Rattle.nv_index.specs.Table.{are_apart, has_attributes, is_counted}
use Rattle.nv_index.specs.declared.index.Index.{Index}
use Rattle.tpm_model.specs.declared.parts.Parts.{Parts}

-- the indices' handles ascend within their range; the numbers of their last writes are from 1 to the
-- write counter, and differ
abbrev pub keeps_index_order : Parts → Bool
keeps_index_order s =
    are_handles 0x01000000 0x02000000 (map (λ (index : Index). index.public.handle) s.indices)
    && (list_all (is_counted s.write_counter) s.indices && are_apart s.indices)

-- each index has the attributes and the size that are allowed
abbrev pub keeps_index_attributes : Parts → Bool
keeps_index_attributes s = list_all has_attributes s.indices
