-- What a word of a command's line spells. Hexadecimal digits are of either case.
use Rattle.std.specs.Prelude.{ℕ, ◌==◌, ◌&&◌, nat_le, if◌then◌else◌, List, [], ◌∷◌, length, codes, Option, Some, None}
use Rattle.std.specs.Result.{result_ok}
use Rattle.std.specs.Str.{bytes_eq}
use Rattle.hex.specs.Hex.{decode_of}
use Rattle.pl_text.specs.Parts.{parts_of}
use Rattle.pl_text.specs.Words.{pcr_mask_of}
pub use Rattle.pl_text.specs.Words.{◌>>=◌, bank_of, bytes_of, number_up_to}

-- the digest of a policy has 32 or 48 bytes (SHA-256 or SHA-384)
abbrev pub policy_of : List ℕ → Option (List ℕ)
policy_of word = if length word == 96 then bytes_of 48 word else bytes_of 32 word

-- the 1 to 128 bytes of a content or a secret
abbrev pub small_of : List ℕ → Option (List ℕ)
small_of word = if nat_le 2 (length word) && nat_le (length word) 256 then result_ok (decode_of word) else None

-- the mask of a list of PCRs, none of them twice; `-` is the list of none
abbrev pub pcrs_of : List ℕ → Option ℕ
pcrs_of word = if bytes_eq word (codes "-") then Some 0 else pcr_mask_of word

-- the digests of policies, one for each of the texts
abbrev pub policies_of : List (List ℕ) → Option (List (List ℕ))
policies_of [] = Some []
policies_of (text ∷ texts) = do
  policy ← policy_of text
  policies ← policies_of texts
  Some (policy ∷ policies)

-- a list of at most 8 digests of policies (TPM 2.0 Library Part 2, TPML_DIGEST)
abbrev pub group_of : List ℕ → Option (List (List ℕ))
group_of word = let texts = parts_of 44 word in if nat_le (length texts) 8 then policies_of texts else None
