-- What every record that the program holds keeps, in the words of its plain form.
use Rattle.std.specs.Prelude.{◌≡◌, ◌≤◌, ℕ, List, length, Option, Some, None, ⊤}
use Rattle.hex.specs.Hex.{IsBytes}
use Rattle.hash_bank.specs.declared.bank.Bank.{Bank}
use Rattle.hash_bank.specs.Hash.{size_in}
use Rattle.cel_record.specs.Listed.{Listed, listed_in}
use Rattle.cel_record.specs.Spelled.{Spelled}

-- a digest, if there is one, has its bank's length, in bytes
abbrev pub IsDigestOf : Bank → Option (List ℕ) → Type 0
IsDigestOf b None = ⊤
IsDigestOf b (Some x) = (length x ≡ size_in b) × IsBytes x

abbrev pub AreDigests : Listed → Type 0
AreDigests l = (b : Bank) → IsDigestOf b (listed_in b l)

-- a PCR that is there, and digests of their banks
pub record IsProper (r : Spelled) : Type 0 where
  pub pcr : r.pcr ≤ 23
  pub digests : AreDigests r.digests
