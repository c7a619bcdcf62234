-- What holds of an `unseal` whatever stands in the token and the policy file.
use Rattle.std.specs.Prelude.{◌≡◌, ℕ, ◌<◌, List, get_or, Some, Ok}
use Rattle.std.specs.FinMap.{get}
use Rattle.pl_base.specs.FileMap.{FileMap}
use Rattle.policy_file.specs.declared.token.Token.{Token}
use Rattle.policy_file.specs.declared.token.Token.TheVariants as tokens
use Rattle.policy_file.specs.TokenReading.{token_in}
use Rattle.tpm_model.specs.Opening.{Unlocks}
use Rattle.tpm_model.specs.World.{BoundObject, World}
use Rattle.pcrlock_answer.specs.Texts.{key_text}

-- what stands at the path are bytes
abbrev pub HasBytes : FileMap → List ℕ → Type 0
HasBytes files path = (bytes : List ℕ) → get files path ≡ Some bytes → (place : ℕ) → get_or bytes place 0 < 256

-- the object that a token names, whatever it says of how to open it
abbrev pub object_of : Token → ℕ
object_of (tokens.Bound handle) = handle
object_of (tokens.Literal handle literal) = handle

-- the token at the path names this object
pub record NamesObject (files : FileMap) (path : List ℕ) (handle : ℕ) : Type 0 where
  pub bytes : List ℕ
  pub there : get files path ≡ Some bytes
  pub token : Token
  pub read : token_in bytes ≡ Ok token
  pub names : object_of token ≡ handle

-- the text is the key of the object, and what it is bound to is unlocked
pub record IsUnlockedKey (text : List ℕ) (bound : BoundObject) (w : World) : Type 0 where
  pub key : text ≡ key_text bound.secret
  pub unlocked : Unlocks w bound.binding
