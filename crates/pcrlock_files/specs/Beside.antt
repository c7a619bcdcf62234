-- Which names of files a replacement of another reaches.
use Rattle.std.specs.Prelude.{◌≡◌, ◌⊎◌, ℕ, List, ◌++◌, codes}

-- the name of the file that is written before it is renamed to a name
abbrev pub new_of : List ℕ → List ℕ
new_of name = name ++ codes ".new"

-- a call on the one name reaches a file of the other
abbrev pub AreBeside : List ℕ → List ℕ → Type 0
AreBeside name other = (name ≡ other) ⊎ (name ≡ new_of other) ⊎ (other ≡ new_of name)
