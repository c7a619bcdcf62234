-- Masks of PCRs, of which bit i stands for PCR i.
use Rattle.std.specs.Prelude.{ℕ, ◌^◌, Bool, ◌==◌, List, filter, fold, bit_or}
use Rattle.std.specs.Int.{bit_at}
use Rattle.std.specs.List.{range_with_len}

abbrev pub has_pcr : ℕ → ℕ → Bool
has_pcr mask pcr = bit_at mask pcr == 1

-- the PCRs of a mask, ascending; there are 24 PCRs
unfoldable pub pcrs_of : ℕ → List ℕ
pcrs_of mask = filter (has_pcr mask) (range_with_len 0 24)

-- the mask with these PCRs' bits
abbrev pub mask_of : List ℕ → ℕ
mask_of pcrs = fold (λ mask p. bit_or mask (2 ^ p)) 0 pcrs
