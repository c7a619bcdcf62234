-- Which strings are among some.
use Rattle.std.specs.Prelude.{List, Contains}
use Rattle.hash_bank.specs.HashedString.{HashedString}

-- each of the strings is in S
abbrev pub AreHeld : (HashedString → Type 0) → List HashedString → Type 0
AreHeld S strings = (s : HashedString) → Contains strings s → S s
