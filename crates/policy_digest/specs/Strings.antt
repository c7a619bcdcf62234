-- The strings whose hash is a policy's digest (TPM 2.0 Library Part 3, the commands named). All
-- numbers are big-endian.
use Rattle.std.specs.Prelude.{ℕ, ◌/◌, ◌%◌, List, [], ◌∷◌}
use Rattle.std.specs.Int.{w16, w32, to_be_bytes}
use Rattle.std.specs.List.{concat}
use Rattle.hash_bank.specs.declared.bank.Bank.{Bank}
use Rattle.hash_bank.specs.declared.bank.Bank.TheVariants.{Sha256}
use Rattle.hash_bank.specs.Hash.{algorithm_in, zeros_in}

-- command codes (Part 2, TPM_CC)
abbrev pub policy_signed_code : ℕ
policy_signed_code = 0x160

abbrev pub policy_or_code : ℕ
policy_or_code = 0x171

abbrev pub policy_pcr_code : ℕ
policy_pcr_code = 0x17F

abbrev pub policy_authorize_nv_code : ℕ
policy_authorize_nv_code = 0x192

-- one bank's PCRs, bit i of the mask selecting PCR i: one selection, of three bytes (Part 2,
-- TPML_PCR_SELECTION). The mask is below 2 ^ 24
abbrev pub selection_of : Bank → ℕ → List ℕ
selection_of bank pcrs = concat (
    to_be_bytes w32 1
    ∷ to_be_bytes w16 (algorithm_in bank)
    ∷ (3 ∷ pcrs % 256 ∷ pcrs / 256 % 256 ∷ pcrs / 65536 ∷ [])
    ∷ [])

-- the values of the selected PCRs, in ascending order of the PCRs
abbrev pub values_string : List (List ℕ) → List ℕ
values_string values = concat values

-- PolicyPCR: the digest before, the code, the selection, and the digest of the values
unfoldable pub pcr_string_in : Bank → List ℕ → Bank → ℕ → List ℕ → List ℕ
pcr_string_in _ old bank pcrs values =
    concat (old ∷ to_be_bytes w32 policy_pcr_code ∷ selection_of bank pcrs ∷ values ∷ [])

-- PolicyOR: the hash's zeros, the code, and the digests in order
unfoldable pub or_string_in : Bank → List (List ℕ) → List ℕ
or_string_in hash list = concat (zeros_in hash ∷ to_be_bytes w32 policy_or_code ∷ list)

-- PolicyAuthorizeNV: the hash's zeros, the code, and the index's Name, whose hash is SHA-256
unfoldable pub nv_string_in : Bank → List ℕ → List ℕ
nv_string_in hash name = concat (
    zeros_in hash
    ∷ to_be_bytes w32 policy_authorize_nv_code
    ∷ to_be_bytes w16 (algorithm_in Sha256)
    ∷ name
    ∷ [])
