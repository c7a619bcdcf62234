-- Handles, as those of indices.
use Rattle.std.specs.Prelude.{ℕ, ◌+◌, nat_lt, nat_le, Bool, true, ◌&&◌, List, [], ◌∷◌}

-- whether handles strictly ascend, from the first one allowed to below the end
abbrev pub are_handles : ℕ → ℕ → List ℕ → Bool
are_handles first end [] = true
are_handles first end (handle ∷ handles) = (nat_le first handle && nat_lt handle end) && are_handles (handle + 1) end handles

-- whether a handle is in the range of indices (TPM 2.0 Library Part 2, TPM_HT_NV_INDEX)
abbrev pub is_index_handle : ℕ → Bool
is_index_handle handle = nat_le 0x01000000 handle && nat_le handle 0x01FFFFFF
