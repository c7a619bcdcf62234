-- Commands with their authors, and what an accepted one does to the world.
use Rattle.std.specs.Prelude.{ℕ, List, [], ◌∷◌, ◌++◌, Contains, Option}
use Rattle.std.specs.FinMap.{insert, remove}
use Rattle.hash_bank.specs.HashedString.{HashedString}
use Rattle.nv_index.specs.declared.index.NvPublic.{NvPublic}
use Rattle.policy_digest.specs.BindingStrings.{bind_strings}
use Rattle.policy_digest.specs.Pin.{pin_strings}
use Rattle.policy_digest.specs.PlainTable.{PlainTable, root_of}
use Rattle.policy_digest.specs.TableStrings.{table_strings}
use Rattle.tpm_model.specs.declared.command.Command.{Command}
use Rattle.tpm_model.specs.declared.command.Command.TheVariants as command
use Rattle.tpm_model.specs.declared.response.Response.{Response}
use Rattle.tpm_model.specs.declared.response.Response.TheVariants as answer
use Rattle.tpm_model.specs.declared.parts.Parts.{Parts}
use Rattle.tpm_model.specs.Binding.{Binding, Index, binding_strings, policy_of}
use Rattle.tpm_model.specs.Respond.{respond}
use Rattle.tpm_model.specs.Strings.{command_strings}
use Rattle.tpm_model.specs.World.{FiledPolicy, World, extended_world, hashed_world}

-- a command with what its author knows: the program's write of a table's root with its pin, its
-- definition of an index with a pin's policy, its seal to a binding, and its seal of a pin to the index
-- that is written with it; else a command of anyone
pub data Event : Type 0 where
  Update : (handle : ℕ) → (pin : List ℕ) → (table : PlainTable) → Event
  Define : (public : NvPublic) → (pin : List ℕ) → Event
  SealTo : (binding : Binding) → (secret : List ℕ) → Event
  SealPin : (handle : ℕ) → (pin : List ℕ) → Event
  Other : (command : Command) → Event

-- the content that names a table: SHA-256's algorithm and the table's root
abbrev pub content_of_table : PlainTable → List ℕ
content_of_table table = 0x00 ∷ 0x0B ∷ root_of table

-- the command
abbrev pub command_of : Event → Command
command_of (Update handle pin table) = command.NvWrite handle pin (content_of_table table)
command_of (Define public pin) = command.NvDefine public
command_of (SealTo binding secret) = command.Seal (policy_of binding) secret
command_of (SealPin handle pin) = command.Seal (policy_of (Index handle pin)) pin
command_of (Other command) = command

-- the strings that are hashed with an event, whether or not it is accepted
abbrev pub event_strings : Event → Parts → List HashedString
event_strings (Update handle pin table) s =
    command_strings (command_of (Update handle pin table)) s ++ table_strings table ++ bind_strings handle pin
event_strings (Define public pin) s = pin_strings pin
event_strings (SealTo binding secret) s = binding_strings binding
event_strings (SealPin handle pin) s = bind_strings handle pin
event_strings (Other command) s = command_strings command s

-- a policy was made with a pin
abbrev pub pinned_world : List ℕ → World → World
pinned_world pin w = record w { pins = w.pins ++ pin ∷ [] }

-- a table's root was written with a pin, under this number
abbrev pub updated_world : ℕ → ℕ → List ℕ → PlainTable → World → World
updated_world number handle pin table w = record w {
  live = insert w.live handle (record { pin = pin; table = table });
  writes = w.writes ++ record { number = number; handle = handle; pin = pin; table = table } ∷ [];
  pins = w.pins ++ pin ∷ [];
}

-- a stranger wrote with a pin
abbrev pub strange_world : List ℕ → World → World
strange_world pin w = record w { strange = w.strange ++ pin ∷ [] }

-- an index was taken away
abbrev pub undefined_world : ℕ → World → World
undefined_world handle w = record w { live = remove w.live handle }

-- an object was taken away
abbrev pub evicted_world : ℕ → World → World
evicted_world handle w = record w { objects = remove w.objects handle }

-- bytes were sealed to a binding, under this handle
abbrev pub bound_world : ℕ → List ℕ → Binding → World → World
bound_world handle secret binding w = record w { objects = insert w.objects handle (record { secret = secret; binding = binding }) }

-- the policy file was written or removed
abbrev pub filed_world : Option FiledPolicy → World → World
filed_world filed w = record w { filed = filed }

-- what a command of anyone does, where it is accepted and leaves this state
abbrev pub other_world : Command → Parts → World → World
other_world (command.Restart locality banks) s w = extended_world s w
other_world (command.PcrExtend pcr digests) s w = extended_world s w
other_world (command.NvUndefine index) s w = undefined_world index w
other_world (command.NvWrite index pin value) s w = strange_world pin w
other_world (command.Evict handle) s w = evicted_world handle w
other_world _ s w = w

-- what an event does to the world, where this is the answer and the next state: a refusal does nothing
abbrev pub accepted_world : Event → Response → Parts → World → World
accepted_world event (answer.Refused why) s w = w
accepted_world (Update handle pin table) answer.Done s w = updated_world s.write_counter handle pin table w
accepted_world (Define public pin) answer.Done s w = pinned_world pin w
accepted_world (SealTo binding secret) (answer.Object handle) s w = bound_world handle secret binding w
accepted_world (SealPin index pin) (answer.Object handle) s w = bound_world handle pin (Index index pin) (pinned_world pin w)
accepted_world (Other command) accepted s w = other_world command s w
accepted_world _ _ s w = w

-- the world after an event on this state
abbrev pub world_after : Event → Parts → World → World
world_after event s w =
    let r = respond (command_of event) s in
    accepted_world event r.0 r.1 (hashed_world (event_strings event s) w)

-- no pin that a policy was made with was presented by a stranger
abbrev pub Clean : World → Type 0
Clean w = (pin : List ℕ) → Contains w.pins pin → Contains w.strange pin → ⊥
