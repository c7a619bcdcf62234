-- Files that are told between changes.
use Rattle.std.specs.Prelude.{◌≡◌, ◌⊎◌, List, [], ◌∷◌, Option, Some}
use Rattle.pl_base.specs.FileMap.{FileMap}

-- the files that are told are one of these
abbrev pub HoldsOneOf : Option FileMap → List FileMap → Type 0
HoldsOneOf held [] = ⊥
HoldsOneOf held (files ∷ more) = (held ≡ Some files) ⊎ HoldsOneOf held more
