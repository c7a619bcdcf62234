-- Which tables are a policy.
use Rattle.std.specs.Prelude.{ℕ, ◌^◌, Bool, true, ◌==◌, ◌&&◌, not, nat_lt, nat_le, bit_and, List, [], ◌∷◌, length}
use Rattle.std.specs.Int.{w32, trailing_zeros}
use Rattle.std.specs.List.{list_all}
use Rattle.std.specs.Str.{bytes_eq}
use Rattle.std.specs.Cmp.Lexicographic.{pointwise}
use Rattle.hash_bank.specs.declared.bank.Bank.{Bank}
use Rattle.hash_bank.specs.Hash.{size_in}
use Rattle.policy_digest.specs.declared.table.Row.{Row}
use Rattle.policy_digest.specs.declared.table.Table.{Table}
use Rattle.policy_digest.specs.Mask.{pcrs_of}

abbrev pub values_eq : List (List ℕ) → List (List ℕ) → Bool
values_eq = pointwise bytes_eq

-- the test holds of each member and each later one
abbrev pub each_pair : {A : Type 0} → (A → A → Bool) → List A → Bool
each_pair test [] = true
each_pair test (x ∷ xs) = list_all (test x) xs && each_pair test xs

-- one digest of the bank's length for each of so many PCRs
abbrev pub fits : Bank → ℕ → List (List ℕ) → Bool
fits bank count values = (length values == count) && list_all (λ d. length d == size_in bank) values

abbrev pub differ : List (List ℕ) → List (List ℕ) → Bool
differ a b = not (values_eq a b)

-- a mask of some of the 24 PCRs, and 1 to 512 distinct lists, each with one digest a PCR
abbrev pub valid_row : Bank → Row → Bool
valid_row bank row =
    nat_lt 0 row.pcrs && nat_lt row.pcrs (2 ^ 24)
    && nat_le 1 (length row.choices) && nat_le (length row.choices) 512
    && list_all (fits bank (length (pcrs_of row.pcrs))) row.choices
    && each_pair differ row.choices

-- the masks share no bit, and the first has the lower lowest bit
abbrev pub precedes : Row → Row → Bool
precedes a b = (bit_and a.pcrs b.pcrs == 0) && nat_lt (trailing_zeros w32 a.pcrs) (trailing_zeros w32 b.pcrs)

-- 1 to 24 rows, in the order of their lowest bits, of which no two share a PCR
abbrev pub valid_table : Table → Bool
valid_table table =
    nat_le 1 (length table.rows) && nat_le (length table.rows) 24
    && list_all (valid_row table.bank) table.rows
    && each_pair precedes table.rows
