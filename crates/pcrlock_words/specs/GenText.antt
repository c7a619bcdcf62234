-- The lines of `gen`: what the made machine's policy has, and how its key was opened after each start.
use Rattle.std.specs.Prelude.{ℕ, List, ◌++◌, codes, slice_index_or, Option, Some, None}
use Rattle.std.specs.Fmt.{decimal}
use Rattle.hex.specs.Hex.{encode_lower}
use Rattle.pcrlock_answer.specs.Texts.{line_end}

-- how the key was opened after a start: it was, or this PCR refused it
abbrev pub end_text : List ℕ → Option ℕ → List ℕ
end_text name None = name ++ codes " key" ++ line_end
end_text name (Some pcr) = name ++ codes " refused " ++ decimal pcr ++ line_end

-- the same of the start at this place
abbrev pub end_at : List (Option ℕ) → ℕ → List ℕ → List ℕ
end_at ends place name = end_text name (slice_index_or ends place None)

-- how many values PCR 4 and PCR 11 have, and the root of the table
unfoldable pub made_text : ℕ → ℕ → List ℕ → List ℕ
made_text four eleven root =
    codes "values 4 " ++ decimal four ++ line_end ++ codes "values 11 " ++ decimal eleven ++ line_end
    ++ codes "root " ++ encode_lower root ++ line_end

-- these lines, and then each of the three starts
unfoldable pub gen_text : ℕ → ℕ → List ℕ → List (Option ℕ) → List ℕ
gen_text four eleven root ends =
    made_text four eleven root ++ end_at ends 0 (codes "first") ++ end_at ends 1 (codes "last")
    ++ end_at ends 2 (codes "other")
