-- How much there may be.
use Rattle.std.specs.Prelude.{ℕ}

-- of one folder
abbrev pub entry_limit : ℕ
entry_limit = 4096

-- of one component file
abbrev pub byte_limit : ℕ
byte_limit = 1048576

-- of one variant
abbrev pub record_limit : ℕ
record_limit = 256

-- of one component
abbrev pub variant_limit : ℕ
variant_limit = 64

-- of a tree
abbrev pub component_limit : ℕ
component_limit = 256

-- records of a tree in all
abbrev pub total_limit : ℕ
total_limit = 65536
