-- The digests that an extend takes: one for each of some banks.
use Rattle.std.specs.Prelude.{◌≡◌, ℕ, ◌==◌, Bool, true, false, if◌then◌else◌, List, [], ◌∷◌, length, Option, Some, None, is_some, unwrap_or, refl}
use Rattle.std.specs.Option.{ForSome}
use Rattle.std.proofs.Common.{sym, ap, ◌∙◌}
use Rattle.std.proofs.lemmas.Option.{none-some}
use Rattle.std.proofs.lemmas.Bool.{eqb-true}
use Rattle.hash_bank.specs.declared.bank.Bank.{Bank}
use Rattle.hash_bank.specs.declared.bank.Bank.TheVariants.{Sha1, Sha256, Sha384, Sha512}
use Rattle.hash_bank.specs.declared.digests.Digests.{Digests}
use Rattle.hash_bank.specs.Digests.{digest_at}
use Rattle.hash_bank.specs.Hash.{size_in}
use Rattle.pl_text.specs.Parts.{parts_of, two_of}
use Rattle.pl_text.specs.Words.{◌>>=◌, bank_of, bytes_of}

-- bytes of this length
abbrev pub Sized : ℕ → Type 0
Sized n = (bytes : List ℕ) × (length bytes ≡ n)

-- the bytes, where the test of their length says that they have it
abbrev pub sized_by : (n : ℕ) (bytes : List ℕ) (test : Bool) → (length bytes == n) ≡ test → Option (Sized n)
sized_by n bytes true fits = Some (bytes, eqb-true (length bytes) n fits)
sized_by n bytes false differs = None

abbrev pub sized : (n : ℕ) → List ℕ → Option (Sized n)
sized n bytes = sized_by n bytes (length bytes == n) refl

-- what is said of a digest is said of no digest, and of the one that is there
abbrev pub of_none : (P : List ℕ → Type 0) → ForSome None P
of_none P = λ bytes e. absurd (none-some bytes e)

abbrev pub of_some : (n : ℕ) (digest : Sized n) → ForSome (Some digest.0) (λ bytes. length bytes ≡ n)
of_some n digest = λ bytes e. ap (λ found. length (unwrap_or found [])) (sym e) ∙ digest.1

-- no digest
abbrev pub no_digests : Digests
no_digests = record {
  sha1 = None;
  sha256 = None;
  sha384 = None;
  sha512 = None;
  sha1_size = of_none (λ d. length d ≡ 20);
  sha256_size = of_none (λ d. length d ≡ 32);
  sha384_size = of_none (λ d. length d ≡ 48);
  sha512_size = of_none (λ d. length d ≡ 64);
}

-- the digests with this one for the bank
abbrev pub with_digest : (bank : Bank) → Sized (size_in bank) → Digests → Digests
with_digest Sha1 digest others = record {
  sha1 = Some digest.0;
  sha256 = others.sha256;
  sha384 = others.sha384;
  sha512 = others.sha512;
  sha1_size = of_some 20 digest;
  sha256_size = others.sha256_size;
  sha384_size = others.sha384_size;
  sha512_size = others.sha512_size;
}
with_digest Sha256 digest others = record {
  sha1 = others.sha1;
  sha256 = Some digest.0;
  sha384 = others.sha384;
  sha512 = others.sha512;
  sha1_size = others.sha1_size;
  sha256_size = of_some 32 digest;
  sha384_size = others.sha384_size;
  sha512_size = others.sha512_size;
}
with_digest Sha384 digest others = record {
  sha1 = others.sha1;
  sha256 = others.sha256;
  sha384 = Some digest.0;
  sha512 = others.sha512;
  sha1_size = others.sha1_size;
  sha256_size = others.sha256_size;
  sha384_size = of_some 48 digest;
  sha512_size = others.sha512_size;
}
with_digest Sha512 digest others = record {
  sha1 = others.sha1;
  sha256 = others.sha256;
  sha384 = others.sha384;
  sha512 = Some digest.0;
  sha1_size = others.sha1_size;
  sha256_size = others.sha256_size;
  sha384_size = others.sha384_size;
  sha512_size = of_some 64 digest;
}

-- the digests in the order of the banks
abbrev pub listed : Digests → List (Option (List ℕ))
listed digests = digests.sha1 ∷ digests.sha256 ∷ digests.sha384 ∷ digests.sha512 ∷ []

-- the place of a bank in that order
abbrev pub place_in : Bank → ℕ
place_in Sha1 = 0
place_in Sha256 = 1
place_in Sha384 = 2
place_in Sha512 = 3

-- the digests with one that is spelled `BANK:HEX`, of a bank that has none yet and of its size
abbrev pub with_spelled : Digests → List ℕ → Option Digests
with_spelled digests text = do
  parts ← two_of (parts_of 58 text)
  bank ← bank_of parts.0
  if is_some (digest_at digests bank) then None else do
    bytes ← bytes_of (size_in bank) parts.1
    digest ← sized (size_in bank) bytes
    Some (with_digest bank digest digests)

-- the digests with all of those texts
abbrev pub with_all : Digests → List (List ℕ) → Option Digests
with_all digests [] = Some digests
with_all digests (text ∷ texts) = do
  more ← with_spelled digests text
  with_all more texts

-- the digests of a list, each bank once
abbrev pub digests_of : List ℕ → Option Digests
digests_of word = with_all no_digests (parts_of 44 word)
