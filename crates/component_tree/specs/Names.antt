-- Names of components and variants, and of their files (systemd.pcrlock(5)).
use Rattle.std.specs.Prelude.{ℕ, ◌-◌, Bool, ◌&&◌, List, length, take, codes, nat_eq, nat_le, ◌==◌, not, Option, Some, None, if◌then◌else◌}
use Rattle.std.specs.List.{ends_with, list_all}

-- the ending of a component file's name, and of a variant's
abbrev pub file_ending : List ℕ
file_ending = codes ".pcrlock"

-- the ending of the name of a folder of variants
abbrev pub folder_ending : List ℕ
folder_ending = codes ".pcrlock.d"

-- what stands before the ending, where the name has it
abbrev pub stem_of : List ℕ → List ℕ → Option (List ℕ)
stem_of ending name = if ends_with nat_eq name ending then Some (take (length name - length ending) name) else None

-- whether a component or a variant may have the name: 1 to 200 bytes, each a visible one of ASCII
abbrev pub is_good : List ℕ → Bool
is_good name = not (length name == 0) && nat_le (length name) 200 && list_all (λ b. nat_le 33 b && nat_le b 126) name
