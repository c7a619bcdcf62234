-- What `enroll` without a literal adds to the world: the object, bound to the index and the pin of the policy in force.
use Rattle.std.specs.Prelude.{◌≡◌, ℕ, Bool, true, false, List, [], ◌∷◌, Option, None, Some}
use Rattle.std.specs.FinMap.{get}
use Rattle.policy_file.specs.declared.token.Token.TheVariants as token
use Rattle.policy_file.specs.TokenText.{token_text}
use Rattle.tpm_model.specs.Binding as binding
use Rattle.tpm_model.specs.World.{FiledPolicy, World}
use Rattle.pcrlock_answer.specs.Texts.{enrolled_text}
use Rattle.pcrlock_line.specs.Machine.{Live, machine}
use Rattle.pcrlock_line.specs.Outcome.{Ending, Fine, Refused, Stops, Outcome}
use Rattle.pcrlock_deeds.specs.Acts.{act_world}
use Rattle.pcrlock_deeds.specs.Filed.{IsFiled}
use Rattle.pcrlock_seal.specs.Acts.{enroll_bound_act}
use Rattle.pcrlock_seal.specs.Enroll.{enroll_bound_line}

-- whether a command did its work
abbrev pub is_fine : Ending → Bool
is_fine (Fine text) = true
is_fine (Refused answer) = false
is_fine (Stops stop) = false

-- the key that is sealed: the one given, or the next random word
abbrev pub key_taken : Option (List ℕ) → List (List ℕ) → List ℕ
key_taken (Some key) draws = key
key_taken None [] = []
key_taken None (word ∷ rest) = word

-- the handle that is printed stands in the token, and the world has these bytes under it, bound to the filed index and pin
pub record IsBoundTo (o : Outcome) (path key : List ℕ) (filed : FiledPolicy) (now : World) : Type 0 where
  pub handle : ℕ
  pub printed : o.ending ≡ Fine (enrolled_text handle)
  pub written : get o.after.files path ≡ Some (token_text (token.Bound handle))
  pub object : get now.objects handle ≡ Some (record { secret = key; binding = binding.Index filed.handle filed.pin })

-- where the policy file states what is filed, a command that did its work has sealed the key so
abbrev pub SealsToFiled : List ℕ → List ℕ → List ℕ → Option (List ℕ) → Live → World → Type 0
SealsToFiled state path policy key m w =
    (filed : FiledPolicy) → w.filed ≡ Some filed → IsFiled m.files policy w filed
    → is_fine (enroll_bound_line state path policy key (machine m)).ending ≡ true
    → IsBoundTo (enroll_bound_line state path policy key (machine m)) path (key_taken key m.draws) filed (act_world (enroll_bound_act path policy key (machine m) w) (machine m) w)
