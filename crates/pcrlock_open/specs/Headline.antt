-- When the key of an object that is sealed to one value comes out, told by the value of its PCR.
use Rattle.std.specs.Prelude.{◌≡◌, ◌↔◌, ℕ, ◌<◌, ◌++◌, List, length, Contains, Some}
use Rattle.std.specs.FinMap.{get}
use Rattle.hash_bank.specs.HashedString.{NoClash}
use Rattle.policy_file.specs.declared.token.Literal.{Literal}
use Rattle.policy_file.specs.declared.token.Token.TheVariants as token
use Rattle.policy_file.specs.TokenText.{IsToken, token_text}
use Rattle.tpm_model.specs.Binding as binding
use Rattle.tpm_model.specs.World.{World}
use Rattle.tpm_model.specs.Tied.{Tied}
use Rattle.pcrlock_answer.specs.Texts.{key_text}
use Rattle.pcrlock_line.specs.Machine.{Live, machine}
use Rattle.pcrlock_line.specs.Content.{content_of, Bytes}
use Rattle.pcrlock_line.specs.Outcome.{Ending, Fine}
use Rattle.pcrlock_open.specs.Unseal.{unseal_line, present_value}

-- the token at the path is that of an object of the world with this literal and these bytes, and a
-- session can be started
pub record IsEnrolled (m : Live) (w : World) (path : List ℕ) (handle : ℕ) (literal : Literal) (key : List ℕ) : Type 0 where
  pub written : content_of m.files path 256 ≡ Bytes (token_text (token.Literal handle literal))
  pub valid : IsToken (token.Literal handle literal)
  pub object : get w.objects handle ≡ Some (record { secret = key; binding = binding.Literal literal.hash literal.bank literal.pcr literal.value })
  pub slot : length m.state.sessions < 64
  pub number : m.state.next_session < 0x01000000

-- the world is tied to the state, and no strings clash among its own and those of the command
pub record IsSafe (m : Live) (w : World) (state path policy : List ℕ) : Type 0 where
  pub tied : Tied m.state w
  pub safe : NoClash (Contains (w.hashed ++ (unseal_line state path policy (machine m)).hashed))

-- the end is the key's line exactly where the PCR holds the literal's value
abbrev pub OpensExactly : Ending → List ℕ → Literal → Live → Type 0
OpensExactly ending key literal m = (ending ≡ Fine (key_text key)) ↔ (present_value literal m.state ≡ Some literal.value)
