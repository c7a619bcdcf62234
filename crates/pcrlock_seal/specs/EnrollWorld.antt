-- What `enroll` adds to the world: the object with its bytes and its binding.
use Rattle.std.specs.Prelude.{ℕ, List, [], ◌∷◌, Option, None, Some}
use Rattle.hash_bank.specs.declared.bank.Bank.{Bank}
use Rattle.hash_bank.specs.HashedString.{HashedString}
use Rattle.policy_digest.specs.BindingStrings.{literal_strings}
use Rattle.policy_file.specs.declared.token.Literal.{Literal}
use Rattle.tpm_model.specs.declared.parts.Parts.{Parts}
use Rattle.tpm_model.specs.Binding as binding
use Rattle.tpm_model.specs.Binding.{literal_policy}
use Rattle.tpm_model.specs.ObjectCommands.{seal}
use Rattle.tpm_model.specs.Pcrs.{pcr_of}
use Rattle.tpm_model.specs.World.{World, sealed_world, hashed_world}
use Rattle.pcrlock_line.specs.Machine.{Live}
use Rattle.pcrlock_seal.specs.Enroll.{literal_now, sealed_handle}

-- the strings of a literal
abbrev pub strings_of : Literal → List HashedString
strings_of literal = literal_strings literal.hash literal.bank literal.pcr literal.value

-- where an object was sealed, the world gains it
abbrev pub sealed_or : Option ℕ → List ℕ → Literal → World → World
sealed_or (Some handle) key literal w = sealed_world handle key (binding.Literal literal.hash literal.bank literal.pcr literal.value) w
sealed_or None key literal w = hashed_world (strings_of literal) w

-- after a key was sealed
abbrev pub key_world : Literal → List ℕ → Live → World → World
key_world literal key m w =
    sealed_or (sealed_handle (seal (literal_policy literal.hash literal.bank literal.pcr literal.value) key m.state).0) key literal w

-- after a key was given or drawn
abbrev pub with_key_world : Literal → Option (List ℕ) → List (List ℕ) → Live → World → World
with_key_world literal (Some key) draws m w = key_world literal key m w
with_key_world literal None (word ∷ rest) m w = key_world literal word m w
with_key_world literal None [] m w = hashed_world (strings_of literal) w

-- after the PCR's value was read
abbrev pub value_world : ℕ → Bank → Option (List ℕ) → Option (List ℕ) → Live → World → World
value_world pcr bank key None m w = w
value_world pcr bank key (Some value) m w = with_key_world (literal_now bank pcr value) key m.draws m w

-- the state after a key was given or drawn, and sealed
abbrev pub key_state : Literal → Option (List ℕ) → List (List ℕ) → Parts → Parts
key_state literal (Some key) draws s = (seal (literal_policy literal.hash literal.bank literal.pcr literal.value) key s).1
key_state literal None (word ∷ rest) s = (seal (literal_policy literal.hash literal.bank literal.pcr literal.value) word s).1
key_state literal None [] s = s

-- the state after the PCR's value was read
abbrev pub value_state : ℕ → Bank → Option (List ℕ) → Option (List ℕ) → Live → Parts
value_state pcr bank key None m = m.state
value_state pcr bank key (Some value) m = key_state (literal_now bank pcr value) key m.draws m.state

-- the state after `enroll`
abbrev pub enroll_state : ℕ → Bank → Option (List ℕ) → Live → Parts
enroll_state pcr bank key m = value_state pcr bank key (pcr_of m.state.banks m.state.pcrs bank pcr) m

-- the world after `enroll`
abbrev pub enroll_world : ℕ → Bank → Option (List ℕ) → Live → World → World
enroll_world pcr bank key m w = value_world pcr bank key (pcr_of m.state.banks m.state.pcrs bank pcr) m w
