-- Lists of events: commands with their authors, the program's and those of anyone mixed in any order.
use Rattle.std.specs.Prelude.{◌≡◌, ℕ, List, [], ◌∷◌, Contains, Some}
use Rattle.std.specs.FinMap.{get}
use Rattle.hash_bank.specs.declared.bank.Bank.{Bank}
use Rattle.hash_bank.specs.HashedString.{NoClash}
use Rattle.tpm_model.specs.declared.command.Command.TheVariants as command
use Rattle.tpm_model.specs.declared.response.Response.TheVariants as answer
use Rattle.tpm_model.specs.declared.parts.Parts.{Parts}
use Rattle.tpm_model.specs.Binding.{Literal}
use Rattle.tpm_model.specs.Events.{Event, Update, Define, SealTo, SealPin, Other, command_of, world_after}
use Rattle.tpm_model.specs.Pcrs.{pcr_of}
use Rattle.tpm_model.specs.Respond.{respond}
use Rattle.tpm_model.specs.Tied.{IsSoundBinding}
use Rattle.tpm_model.specs.World.{World}

-- the strings that were hashed so far don't clash
abbrev pub Safe : World → Type 0
Safe w = NoClash (Contains w.hashed)

-- what the program's seal brings: the pin of an index binding is one that a policy was made with, and a
-- literal's hash is one of policies. Nothing is asked of a command of anyone
abbrev pub IsFair : Event → World → Type 0
IsFair (Update handle pin table) w = Unit {0}
IsFair (Define public pin) w = Unit {0}
IsFair (SealTo binding secret) w = IsSoundBinding w binding
IsFair (SealPin handle pin) w = Unit {0}
IsFair (Other command) w = Unit {0}

-- the world after a list of events on this state
abbrev pub world_after_all : List Event → Parts → World → World
world_after_all [] s w = w
world_after_all (event ∷ events) s w = world_after_all events (respond (command_of event) s).1 (world_after event s w)

-- each of the program's seals is fair as it comes
abbrev pub AreFair : List Event → Parts → World → Type 0
AreFair [] s w = Unit {0}
AreFair (event ∷ events) s w = IsFair event w × AreFair events (respond (command_of event) s).1 (world_after event s w)

-- an object's own bytes were answered while the PCR held the value
pub record IsOpened (s : Parts) (bank : Bank) (pcr : ℕ) (value secret answered : List ℕ) : Type 0 where
  pub bytes : answered ≡ secret
  pub holds : pcr_of s.banks s.pcrs bank pcr ≡ Some value

-- an Unseal of an object that the world binds to one value of one PCR answers its bytes, and only
-- where the bank is present and the PCR holds the value
abbrev pub OpensByValue : Event → Parts → World → Type 0
OpensByValue event s w =
    (session handle : ℕ) (answered secret : List ℕ) (hash bank : Bank) (pcr : ℕ) (value : List ℕ)
    → command_of event ≡ command.Unseal session handle
    → (respond (command_of event) s).0 ≡ answer.Secret answered
    → get w.objects handle ≡ Some (record { secret = secret; binding = Literal hash bank pcr value })
    → IsOpened s bank pcr value secret answered

-- so does each Unseal of a list of events, at its very step
abbrev pub EachOpensByValue : List Event → Parts → World → Type 0
EachOpensByValue [] s w = Unit {0}
EachOpensByValue (event ∷ events) s w =
    OpensByValue event s w × EachOpensByValue events (respond (command_of event) s).1 (world_after event s w)
