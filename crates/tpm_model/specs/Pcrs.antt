-- The PCR values of the present banks as one list: for each present bank, in the order SHA-1,
-- SHA-256, SHA-384, SHA-512, its 24 values.
use Rattle.std.specs.Prelude.{◌≡◌, ℕ, ◌+◌, ◌*◌, ◌/◌, ◌%◌, ◌==◌, nat_lt, Bool, ◌&&◌, if◌then◌else◌, List, [], ◌∷◌, ◌++◌, map, length, take, drop, replicate, slice_get, slice_set, Option, None, Some}
use Rattle.hash_bank.specs.declared.bank.Bank.{Bank}
use Rattle.hash_bank.specs.declared.bank.Bank.TheVariants.{Sha1, Sha256, Sha384, Sha512}
use Rattle.hash_bank.specs.declared.banks.Banks.{Banks}
use Rattle.hash_bank.specs.declared.digests.Digests.{Digests}
use Rattle.hash_bank.specs.Banks.{has_bank}
use Rattle.hash_bank.specs.Extending.{extended}
use Rattle.policy_digest.specs.Policies.{values_digest_of}

-- one for a bank that is present
abbrev pub one_if : Bool → ℕ
one_if present = if present then 1 else 0

-- how many present banks stand before this one
abbrev pub banks_before : Banks → Bank → ℕ
banks_before banks Sha1 = 0
banks_before banks Sha256 = one_if banks.sha1
banks_before banks Sha384 = one_if banks.sha1 + one_if banks.sha256
banks_before banks Sha512 = one_if banks.sha1 + one_if banks.sha256 + one_if banks.sha384

-- how many banks are present
abbrev pub bank_count : Banks → ℕ
bank_count banks = one_if banks.sha1 + one_if banks.sha256 + one_if banks.sha384 + one_if banks.sha512

-- where a PCR's value stands
abbrev pub place_of : Banks → Bank → ℕ → ℕ
place_of banks bank pcr = 24 * banks_before banks bank + pcr

-- the value of a PCR, where its bank is present
abbrev pub pcr_of : Banks → List (List ℕ) → Bank → ℕ → Option (List ℕ)
pcr_of banks pcrs bank pcr =
    if has_bank banks bank && nat_lt pcr 24 then slice_get pcrs (place_of banks bank pcr) else None

-- the 24 values of a present bank
abbrev pub values_of : Banks → List (List ℕ) → Bank → List (List ℕ)
values_of banks pcrs bank = take 24 (drop (24 * banks_before banks bank) pcrs)

-- the values at the places of the mask's bits, in ascending order
abbrev pub chosen : {X : Type 0} → ℕ → List X → List X
chosen mask [] = []
chosen mask (value ∷ values) = if mask % 2 == 1 then value ∷ chosen (mask / 2) values else chosen (mask / 2) values

-- the digest of the mask's values in a bank, under the hash
abbrev pub present_digest_in : Bank → Bank → ℕ → Banks → List (List ℕ) → List ℕ
present_digest_in hash bank pcrs banks values = values_digest_of hash (chosen pcrs (values_of banks values bank))

-- the values with this one put in place of the PCR's, where there is a digest for it
abbrev pub put_extended : Bank → Option (List ℕ) → Option (List ℕ) → ℕ → List (List ℕ) → List (List ℕ)
put_extended bank (Some old) (Some digest) place pcrs = slice_set pcrs place (extended bank old digest)
put_extended bank (Some old) None place pcrs = pcrs
put_extended bank None _ place pcrs = pcrs

-- the values after an extend in one bank, where there is a digest for it
abbrev pub extended_in : Banks → ℕ → Option (List ℕ) → Bank → List (List ℕ) → List (List ℕ)
extended_in banks pcr digest bank pcrs =
    put_extended bank (pcr_of banks pcrs bank pcr) digest (place_of banks bank pcr) pcrs

-- the values after an extend of one PCR by the digests of SHA-1, SHA-256, SHA-384 and SHA-512
abbrev pub after_digests : Banks → ℕ → Option (List ℕ) → Option (List ℕ) → Option (List ℕ) → Option (List ℕ) → List (List ℕ) → List (List ℕ)
after_digests banks pcr sha1 sha256 sha384 sha512 pcrs =
    extended_in banks pcr sha512 Sha512 (extended_in banks pcr sha384 Sha384
    (extended_in banks pcr sha256 Sha256 (extended_in banks pcr sha1 Sha1 pcrs)))

-- the values after an extend of one PCR in each present bank with a digest
abbrev pub after_extend : Banks → ℕ → Digests → List (List ℕ) → List (List ℕ)
after_extend banks pcr digests pcrs = after_digests banks pcr digests.sha1 digests.sha256 digests.sha384 digests.sha512 pcrs

-- the sizes of the 24 values of a bank, where it is present
abbrev pub sizes_if : Bool → ℕ → List ℕ
sizes_if present size = if present then replicate 24 size else []

-- the size of each value
abbrev pub sizes_of : Banks → List ℕ
sizes_of banks = sizes_if banks.sha1 20 ++ sizes_if banks.sha256 32 ++ sizes_if banks.sha384 48 ++ sizes_if banks.sha512 64

-- 24 values of its size for each present bank
abbrev pub HasValues : Banks → List (List ℕ) → Type 0
HasValues banks pcrs = map length pcrs ≡ sizes_of banks
