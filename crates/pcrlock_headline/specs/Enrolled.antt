-- A token as `enroll` wrote it, whose object, index and a session slot remain.
use Rattle.std.specs.Prelude.{◌≡◌, ℕ, ◌<◌, List, length, Some}
use Rattle.std.specs.FinMap.{get}
use Rattle.pl_base.specs.FileMap.{FileMap}
use Rattle.policy_file.specs.declared.token.Token.TheVariants as token
use Rattle.policy_file.specs.TokenText.{IsToken, token_text}
use Rattle.tpm_model.specs.Binding.{Index}
use Rattle.tpm_model.specs.World.{FiledPolicy, LiveIndex, World}
use Rattle.pcrlock_line.specs.Content.{Bytes, content_of}
use Rattle.pcrlock_line.specs.Machine.{Live}

-- the token at the path is the one of an object that is bound to an index, as `enroll` writes it
pub record IsBoundToken (files : FileMap) (path : List ℕ) (handle : ℕ) : Type 0 where
  pub written : content_of files path 256 ≡ Bytes (token_text (token.Bound handle))
  pub valid : IsToken (token.Bound handle)

-- the token's object is one of the world, with these bytes, and bound to this index and pin; the policy file is of that
-- index and pin; the index is live with the pin; and a session can be started
pub record IsEnrolledTo (m : Live) (w : World) (path : List ℕ) (handle index : ℕ) (pin key : List ℕ) : Type 0 where
  pub token : IsBoundToken m.files path handle
  pub object : get w.objects handle ≡ Some (record { secret = key; binding = Index index pin })
  pub filed : FiledPolicy
  pub states : w.filed ≡ Some filed
  pub filed_index : filed.handle ≡ index
  pub filed_pin : filed.pin ≡ pin
  pub live : LiveIndex
  pub found : get w.live index ≡ Some live
  pub live_pin : live.pin ≡ pin
  pub slot : length m.state.sessions < 64
  pub number : m.state.next_session < 0x01000000
