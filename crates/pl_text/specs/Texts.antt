-- Texts of handles and of lists.
use Rattle.std.specs.Prelude.{ℕ, List, [], ◌∷◌, ◌++◌, map, codes}
use Rattle.std.specs.Fmt.{decimal}
use Rattle.std.specs.Int.{to_be_bytes, w32}
use Rattle.hex.specs.Hex.{encode_lower}
use Rattle.policy_digest.specs.Mask.{pcrs_of}

-- a handle, or attributes, as eight hexadecimal digits of lower case
abbrev pub handle_text : ℕ → List ℕ
handle_text handle = encode_lower (to_be_bytes w32 handle)

-- texts with another one between
abbrev pub with_between : List ℕ → List (List ℕ) → List ℕ
with_between between [] = []
with_between between (text ∷ []) = text
with_between between (text ∷ next ∷ texts) = text ++ between ++ with_between between (next ∷ texts)

-- texts with commas between
abbrev pub with_commas : List (List ℕ) → List ℕ
with_commas texts = with_between (codes ",") texts

-- the PCRs of a mask, ascending
abbrev pub mask_text : ℕ → List ℕ
mask_text mask = with_commas (map decimal (pcrs_of mask))
