-- Strings that are hashed, each with the hash that it goes through, and the premise on them.
use Rattle.std.specs.Prelude.{ℕ, List, ◌≡◌, ◌≢◌}
use Rattle.hash_bank.specs.declared.bank.Bank.{Bank}
use Rattle.hash_bank.specs.Hash.{digest_in, zeros_in}

-- some bytes, and the hash that they go through
pub record HashedString : Type 0 where
  pub hash : Bank
  pub bytes : List ℕ

-- the string's digest: its hash of its bytes
abbrev pub digest_of_string : HashedString → List ℕ
digest_of_string s = digest_in s.hash s.bytes

-- the strings in S don't clash: two of one hash with equal digests are equal, and none has the
-- digest of zero bytes alone
pub record NoClash (S : HashedString → Type 0) : Type 0 where
  pub distinct : (s t : HashedString) → S s → S t → s.hash ≡ t.hash
      → digest_of_string s ≡ digest_of_string t → s ≡ t
  pub nonzero : (s : HashedString) → S s → digest_of_string s ≢ zeros_in s.hash
