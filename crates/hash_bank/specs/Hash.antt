-- The hash of each bank as a function on lists of bytes. Provers above see `digest_in` and
-- `zeros_in` as opaque.
use Rattle.std.specs.Prelude.{ℕ, List, replicate, codes, Option, Some, None, ◌==◌, if◌then◌else◌}
use Rattle.sha1.specs.Sha1.{sha1}
use Rattle.sha2.specs.Sha256.{sha256}
use Rattle.sha2.specs.Sha512.{sha384, sha512}
use Rattle.hash_bank.specs.declared.bank.Bank.{Bank}
use Rattle.hash_bank.specs.declared.bank.Bank.TheVariants.{Sha1, Sha256, Sha384, Sha512}

-- the bank's hash of some bytes (FIPS 180-4)
unfoldable pub digest_in : Bank → List ℕ → List ℕ
digest_in Sha1 bytes = sha1 bytes
digest_in Sha256 bytes = sha256 bytes
digest_in Sha384 bytes = sha384 bytes
digest_in Sha512 bytes = sha512 bytes

-- the length of the bank's digests, in bytes (FIPS 180-4, figure 1)
abbrev pub size_in : Bank → ℕ
size_in Sha1 = 20
size_in Sha256 = 32
size_in Sha384 = 48
size_in Sha512 = 64

-- the bank's digest of zero bytes alone
unfoldable pub zeros_in : Bank → List ℕ
zeros_in b = replicate (size_in b) 0

-- the bank's digest of bytes 0xFF alone
abbrev pub ones_in : Bank → List ℕ
ones_in b = replicate (size_in b) 255

-- SHA-256 of some bytes
abbrev pub sha256_of : List ℕ → List ℕ
sha256_of bytes = digest_in Sha256 bytes

-- the bank's algorithm identifier (TPM 2.0 Library Part 2, TPM_ALG_ID)
abbrev pub algorithm_in : Bank → ℕ
algorithm_in Sha1 = 0x0004
algorithm_in Sha256 = 0x000B
algorithm_in Sha384 = 0x000C
algorithm_in Sha512 = 0x000D

-- the bank with an algorithm identifier
abbrev pub bank_of_algorithm : ℕ → Option Bank
bank_of_algorithm n =
    if n == 0x0004 then Some Sha1
    else if n == 0x000B then Some Sha256
    else if n == 0x000C then Some Sha384
    else if n == 0x000D then Some Sha512
    else None

-- the bank's name
abbrev pub name_in : Bank → List ℕ
name_in Sha1 = codes "sha1"
name_in Sha256 = codes "sha256"
name_in Sha384 = codes "sha384"
name_in Sha512 = codes "sha512"
