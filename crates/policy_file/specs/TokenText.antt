-- What a token is, and its one text.
use Rattle.std.specs.Prelude.{◌≡◌, ℕ, ◌≤◌, ◌⊎◌, List, [], ◌∷◌, ◌++◌, length}
use Rattle.std.specs.Int.{w16, w32, to_be_bytes}
use Rattle.hash_bank.specs.declared.bank.Bank.{Bank}
use Rattle.hash_bank.specs.declared.bank.Bank.TheVariants.{Sha256, Sha384}
use Rattle.hash_bank.specs.Hash.{size_in, algorithm_in}
use Rattle.policy_file.specs.declared.token.Literal.{Literal}
use Rattle.policy_file.specs.declared.token.Token.{Token}
use Rattle.policy_file.specs.declared.token.Token.TheVariants as token

-- `PLTOK`, and version 1 in three bytes
abbrev pub token_magic : List ℕ
token_magic = 80 ∷ 76 ∷ 84 ∷ 79 ∷ 75 ∷ 0 ∷ 0 ∷ 1 ∷ []

-- the persistent handles of the owner's objects, 0x81000000 to 0x817fffff (TPM 2.0 Library Part 2, TPM_HT_PERSISTENT)
abbrev pub IsObject : ℕ → Type 0
IsObject handle = (0x81000000 ≤ handle) × (handle ≤ 0x817FFFFF)

-- a literal that has a text
pub record IsLiteral (l : Literal) : Type 0 where
  pub hash : (l.hash ≡ Sha256) ⊎ (l.hash ≡ Sha384)
  pub pcr : l.pcr ≤ 23
  pub value : length l.value ≡ size_in l.bank

-- a token that has a text
abbrev pub IsToken : Token → Type 0
IsToken (token.Bound object) = IsObject object
IsToken (token.Literal object literal) = IsObject object × IsLiteral literal

-- 1 for a literal under SHA-256, 2 for one under SHA-384
abbrev pub literal_kind : Bank → ℕ
literal_kind Sha384 = 2
literal_kind other = 1

-- the algorithm's number, the PCR's number and the value
abbrev pub literal_text : Literal → List ℕ
literal_text l = to_be_bytes w16 (algorithm_in l.bank) ++ l.pcr ∷ l.value

-- the magic, the object's handle, the kind, and what the kind asks for
abbrev pub token_text : Token → List ℕ
token_text (token.Bound object) = token_magic ++ (to_be_bytes w32 object ++ 0 ∷ [])
token_text (token.Literal object literal) =
    token_magic ++ (to_be_bytes w32 object ++ literal_kind literal.hash ∷ literal_text literal)
