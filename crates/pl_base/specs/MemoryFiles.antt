-- Files in memory, as contracts see them.
use Rattle.std.specs.Prelude.{refl, ℕ, List, map, string_bytes}
use Rattle.std.specs.Coded.{Coded, code_by, coded×, coded_list, coded_ℕ}
use Rattle.std.specs.FinMap.{from_entries, code}
use Rattle.std.specs.declared.alloc.Global.{Global}
use Rattle.std.specs.declared.string.String.{String}
use Rattle.std.specs.declared.vec.Vec.{Vec}
use Rattle.pl_base.specs.Calls.{Calls, calls_code}
use Rattle.pl_base.specs.FileMap.{FileMap}

-- the bytes of each path, the calls, and how many of them failed that read and that change
pub record MemoryFiles : Type 0 where
  pub held : FileMap
  pub calls : Calls
  pub readings : ℕ
  pub changes : ℕ

-- files in memory are stored as the tuple of their fields
abbrev pub memory_files_code : Coded MemoryFiles
memory_files_code =
    code_by (FileMap × (Calls × (ℕ × ℕ))) (coded× (code (coded_list coded_ℕ) (coded_list coded_ℕ)) (coded× calls_code (coded× coded_ℕ coded_ℕ)))
    (λ files. (files.held, (files.calls, (files.readings, files.changes))))
    (λ fields. record { held = fields.0; calls = fields.1.0; readings = fields.1.1.0; changes = fields.1.1.1 })
    (λ _. refl)

-- the map of these files, by the bytes of their paths
abbrev pub files_of : List (String Global × Vec ℕ Global) → FileMap
files_of entries = from_entries (map (λ e. (string_bytes e.0, e.1.items)) entries)
