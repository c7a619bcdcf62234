-- For private clauses: how much of a list is still to be read.
use Rattle.std.specs.Prelude.{ℕ, suc, List, length, Option, None, Some}
use Rattle.std.specs.Borrow.{Bor}

-- a measure of the parts that are left
abbrev pub left_in : Option (Bor (List ℕ)) → ℕ
left_in None = 0
left_in (Some text) = suc (length text.now)
