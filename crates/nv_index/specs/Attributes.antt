-- The attributes and the size of an index.
use Rattle.std.specs.Prelude.{ℕ}

-- the attributes of a new index: POLICYWRITE, OWNERREAD, AUTHREAD and NO_DA (TPM 2.0 Library Part 2,
-- TPMA_NV)
abbrev pub defined_attributes : ℕ
defined_attributes = 0x02060008

-- the attributes of a written index: WRITTEN besides
abbrev pub written_attributes : ℕ
written_attributes = 0x22060008

-- the size of an index's content in bytes
abbrev pub content_size : ℕ
content_size = 34
