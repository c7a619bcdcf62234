-- The Name of an index (TPM 2.0 Library Part 1, "Names"; Part 2, TPMS_NV_PUBLIC).
use Rattle.std.specs.Prelude.{ℕ, List, [], ◌∷◌}
use Rattle.std.specs.List.{concat}
use Rattle.std.specs.Int.{w16, w32, to_be_bytes}
use Rattle.hash_bank.specs.Hash.{sha256_of}
use Rattle.nv_index.specs.Attributes.{content_size, written_attributes}
use Rattle.nv_index.specs.declared.index.NvPublic.{NvPublic}

-- an index's public area: the handle, the Name's algorithm, the attributes, the policy behind its
-- size, and the size of the content
unfoldable pub index_string : NvPublic → List ℕ
index_string public = concat (
    to_be_bytes w32 public.handle
    ∷ (0x00 ∷ 0x0B ∷ [])
    ∷ to_be_bytes w32 public.attributes
    ∷ (0x00 ∷ 0x20 ∷ [])
    ∷ public.policy
    ∷ to_be_bytes w16 public.size
    ∷ [])

-- the digest in the index's Name, which stands there behind its algorithm, 0x000B
abbrev pub index_name_of : NvPublic → List ℕ
index_name_of public = sha256_of (index_string public)

-- the public area of a written index with this handle and policy
abbrev pub written_public : ℕ → List ℕ → NvPublic
written_public handle policy =
    record { handle = handle; attributes = written_attributes; policy = policy; size = content_size }
