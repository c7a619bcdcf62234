-- What an extend makes of a PCR, and what a PCR holds after a restart.
use Rattle.std.specs.Prelude.{ℕ, ◌-◌, ◌==◌, ◌&&◌, nat_le, if◌then◌else◌, List, [], ◌∷◌, ◌++◌, replicate}
use Rattle.hash_bank.specs.declared.bank.Bank.{Bank}
use Rattle.hash_bank.specs.Hash.{digest_in, size_in, zeros_in, ones_in}

-- the bank's PCR that held v, after an extend by d: the hash of v and then d (TPM 2.0 Library
-- Part 1, "PCR Operations")
abbrev pub extended : Bank → List ℕ → List ℕ → List ℕ
extended b v d = digest_in b (v ++ d)

-- what a PCR holds after a restart: zeros; but in PCR 0 the last byte is the locality that the
-- platform started at, and PCR 17 to 22, which only a dynamic launch resets, hold bytes 0xFF (TCG PC
-- Client Platform Firmware Profile)
unfoldable pub start_of : Bank → ℕ → ℕ → List ℕ
start_of b pcr locality =
    if pcr == 0 then replicate (size_in b - 1) 0 ++ locality ∷ []
    else if nat_le 17 pcr && nat_le pcr 22 then ones_in b
    else zeros_in b
