-- The tree of a map of files and a list of folders.
use Rattle.std.specs.Prelude.{◌≡◌, ℕ, List, [], Ok}
use Rattle.pl_base.specs.FileMap.{FileMap}
use Rattle.component_tree.specs.PlainTree.{PlainComponent}
use Rattle.component_tree.specs.Reading.{loaded}
use Rattle.component_tree.specs.Selection.{IsSelection}
use Rattle.component_tree.specs.Taken.{Taken}

-- the components of the files that the folders have, in the order of their places
abbrev pub IsTreeOf : FileMap → List (List ℕ) → List PlainComponent → Type 0
IsTreeOf files folders components = (taken : Taken) × IsSelection files folders taken × (loaded files [] taken ≡ Ok components)
