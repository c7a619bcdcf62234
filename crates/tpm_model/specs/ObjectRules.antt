-- The rules on sealed objects.
use Rattle.std.specs.Prelude.{◌+◌, nat_le, Bool, ◌&&◌, map, length}
use Rattle.std.specs.List.{list_all}
use Rattle.tpm_model.specs.declared.object.Object.{Object}
use Rattle.tpm_model.specs.declared.parts.Parts.{Parts}
use Rattle.nv_index.specs.Handles.{are_handles}

-- the objects' handles ascend, from that of number 0 to below the next
abbrev pub keeps_object_order : Parts → Bool
keeps_object_order s = are_handles 0x81000000 (0x81000000 + s.next_object) (map (λ (object : Object). object.handle) s.objects)

-- whether a secret has 1 to 128 bytes
abbrev pub is_secret : Object → Bool
is_secret object = nat_le 1 (length object.secret) && nat_le (length object.secret) 128

-- each secret has 1 to 128 bytes
abbrev pub keeps_secret : Parts → Bool
keeps_secret s = list_all is_secret s.objects
