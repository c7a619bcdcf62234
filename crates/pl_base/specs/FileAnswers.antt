-- What the calls on files answer, and what they leave, where the files tell their map.
use Rattle.std.specs.Prelude.{◌≡◌, ◌⊎◌, ◌<◌, ◌≤◌, ℕ, true, List as Sequence, [], length, map, Contains, Option, None, Some, Result, Ok, Err}
use Rattle.std.specs.FinMap.{get, remove}
use Rattle.std.specs.Ordering.{nat_cmp}
use Rattle.std.specs.Cmp.Lexicographic.{slice_cmp}
use Rattle.std.specs.List.Sorted.{IsStrictlySortedBy}
use Rattle.std.specs.declared.vec.Vec.{Vec}
use Rattle.std.specs.declared.alloc.Global.{Global}
use Rattle.pl_base.specs.FileMap.{FileMap, path_below, is_folder, is_below}
use Rattle.pl_base.specs.declared.files.ReadError.{ReadError}
use Rattle.pl_base.specs.declared.files.ReadError.TheVariants as read
use Rattle.pl_base.specs.declared.files.ListError.{ListError}
use Rattle.pl_base.specs.declared.files.ListError.TheVariants as list
use Rattle.pl_base.specs.declared.files.ReplaceError.{ReplaceError}
use Rattle.pl_base.specs.declared.files.ReplaceError.TheVariants as replace
use Rattle.pl_base.specs.declared.files.RemoveError.{RemoveError}
use Rattle.pl_base.specs.declared.files.RemoveError.TheVariants as gone
use Rattle.pl_base.specs.declared.files.Entry.{Entry}

-- what a read answers, the file found at the path given
abbrev pub ReadGives : Option (Sequence ℕ) → ℕ → Result (Vec ℕ Global) ReadError → Type 0
ReadGives found limit (Ok bytes) = (found ≡ Some bytes.items) × (length bytes.items ≤ limit)
ReadGives found limit (Err read.Missing) = found ≡ None
ReadGives found limit (Err (read.TooLarge size)) = (bytes : Sequence ℕ) × (found ≡ Some bytes) × (size ≡ length bytes) × (limit < size)
ReadGives found limit (Err read.Failed) = Unit {0}
ReadGives found limit (Err read.Memory) = Unit {0}

-- what a read answers, whether or not the files tell their map
abbrev pub IsBounded : ℕ → Result (Vec ℕ Global) ReadError → Type 0
IsBounded limit (Ok bytes) = length bytes.items ≤ limit
IsBounded limit (Err read.Missing) = Unit {0}
IsBounded limit (Err (read.TooLarge size)) = limit < size
IsBounded limit (Err read.Failed) = Unit {0}
IsBounded limit (Err read.Memory) = Unit {0}

-- these entries, each once and in the order of their names, are what stands directly below the path
pub record IsListing (files : FileMap) (path : Sequence ℕ) (entries : Sequence Entry) : Type 0 where
  pub sorted : IsStrictlySortedBy (slice_cmp nat_cmp) (map (λ entry. entry.name) entries)
  pub each : (entry : Entry) → Contains entries entry → (is_below files path entry.name ≡ true) × (entry.folder ≡ is_folder files (path_below path entry.name))
  pub all : (name : Sequence ℕ) → is_below files path name ≡ true → Contains (map (λ entry. entry.name) entries) name

-- what a listing answers
abbrev pub ListGives : FileMap → Sequence ℕ → ℕ → Result (Sequence Entry) ListError → Type 0
ListGives files path limit (Ok entries) = IsListing files path entries × (length entries ≤ limit) × (0 < length entries)
ListGives files path limit (Err list.Missing) = IsListing files path []
ListGives files path limit (Err list.TooMany) = (entries : Sequence Entry) × IsListing files path entries × (limit < length entries)
ListGives files path limit (Err list.Failed) = Unit {0}
ListGives files path limit (Err list.Memory) = Unit {0}

-- what a listing answers, whether or not the files tell their map
abbrev pub IsShort : ℕ → Result (Sequence Entry) ListError → Type 0
IsShort limit (Ok entries) = length entries ≤ limit
IsShort limit (Err _) = Unit {0}

-- what a replacement leaves, given the files with the path set
abbrev pub ReplaceLeaves : FileMap → FileMap → Result Unit ReplaceError → Option FileMap → Type 0
ReplaceLeaves files set (Ok _) now = now ≡ Some set
ReplaceLeaves files set (Err replace.Failed) now = (now ≡ Some files) ⊎ (now ≡ Some set)
ReplaceLeaves files set (Err replace.Memory) now = now ≡ Some files

-- what a removal answers and leaves
abbrev pub RemoveLeaves : FileMap → Sequence ℕ → Result Unit RemoveError → Option FileMap → Type 0
RemoveLeaves files path (Ok _) now = (bytes : Sequence ℕ) × (get files path ≡ Some bytes) × (now ≡ Some (remove files path))
RemoveLeaves files path (Err gone.Missing) now = (get files path ≡ None) × (now ≡ Some files)
RemoveLeaves files path (Err gone.Failed) now = (now ≡ Some files) ⊎ (now ≡ Some (remove files path))
RemoveLeaves files path (Err gone.Memory) now = now ≡ Some files
