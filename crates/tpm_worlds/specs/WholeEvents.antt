-- What the tie of indices, writes and reads asks of events, and of the world before them.
use Rattle.std.specs.Prelude.{◌≡◌, ℕ, ◌^◌, ◌<◌, List, [], ◌∷◌, Contains, Some}
use Rattle.std.specs.FinMap.{get}
use Rattle.std.specs.List.{AllByRecursion}
use Rattle.policy_digest.specs.Pin.{pin_policy_of}
use Rattle.tpm_model.specs.declared.parts.Parts.{Parts}
use Rattle.tpm_model.specs.Binding.{Binding, Index, Literal}
use Rattle.tpm_model.specs.Events.{Event, Update, Define, SealTo, SealPin, Other, command_of, world_after}
use Rattle.tpm_model.specs.Respond.{respond}
use Rattle.tpm_model.specs.Tied.{IsSoundBinding, Tied}
use Rattle.tpm_model.specs.ValidTable.{IsValidTable}
use Rattle.tpm_model.specs.WholeTie.{IsFiledHashed, IsTiedSession, TiedIndices}
use Rattle.tpm_model.specs.World.{BoundObject, PolicyUpdate, World}

-- the handle of an index binding has 32 bits
abbrev pub IsRanged : Binding → Type 0
IsRanged (Index handle pin) = handle < 2 ^ 32
IsRanged (Literal hash bank pcr value) = Unit {0}

-- the program writes the root of a valid table, defines an index with the pin's policy, and seals to sound
-- bindings, whose handles have 32 bits; nothing is asked of a command of anyone
abbrev pub IsSoundEvent : Event → World → Type 0
IsSoundEvent (Update handle pin table) w = IsValidTable table
IsSoundEvent (Define public pin) w = public.policy ≡ pin_policy_of pin
IsSoundEvent (SealTo binding secret) w = IsSoundBinding w binding × IsRanged binding
IsSoundEvent (SealPin handle pin) w = IsRanged (Index handle pin)
IsSoundEvent (Other command) w = Unit {0}

-- so is each event of a list, as it comes
abbrev pub AreSoundEvents : List Event → Parts → World → Type 0
AreSoundEvents [] s w = Unit {0}
AreSoundEvents (event ∷ events) s w = IsSoundEvent event w × AreSoundEvents events (respond (command_of event) s).1 (world_after event s w)

-- a policy was made with the pin of each update
abbrev pub KnowsPins : World → Type 0
KnowsPins w = (update : PolicyUpdate) → Contains w.writes update → Contains w.pins update.pin

-- the handles in bindings have 32 bits
abbrev pub HasRanges : World → Type 0
HasRanges w = (handle : ℕ) (bound : BoundObject) → get w.objects handle ≡ Some bound → IsRanged bound.binding

-- the state and the world hang together in all that sessions don't touch: the objects, the indices with
-- the updates, and the strings of what the policy file states; the pin of each update is known, and the
-- handles in bindings have 32 bits
pub record OwnTie (s : Parts) (w : World) : Type 0 where
  pub base : Tied s w
  pub indices : TiedIndices s w
  pub filed : IsFiledHashed w w.filed
  pub known : KnowsPins w
  pub ranges : HasRanges w

-- and so do the sessions with what they read
pub record FullTie (s : Parts) (w : World) : Type 0 where
  pub own : OwnTie s w
  pub sessions : AllByRecursion (IsTiedSession s w) s.sessions
