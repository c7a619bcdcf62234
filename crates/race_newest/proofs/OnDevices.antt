-- A race that was played on a device.
use Rattle.std.proofs.Common.{◌≡◌, ℕ, Bool, List, length, sym, ap, ◌∙◌, Result, Ok, Err, Option, Some, IfOk}
use Rattle.std.specs.FinMap.{get}
use Rattle.std.specs.List.{AllByRecursion}
use Rattle.race_core.specs.declared.event.Event.{Event as Played}
use Rattle.race_core.specs.declared.outcome.Outcome.TheVariants as outcome
use Rattle.race_core.specs.declared.playing.PlayError.{PlayError}
use Rattle.race_core.specs.Histories.{IsNew}
use Rattle.race_core.specs.Playing.{GivesAll}
use Rattle.race_core.specs.Racing.{IsEvent, Racing, race_outcome}
use Rattle.tpm_device.specs.Running.{IsLive}
use Rattle.tpm_device.specs.Stored.{Stored}
use Rattle.tpm_model.specs.declared.parts.Parts.{Parts}
use Rattle.tpm_model.specs.Binding.{Index}
use Rattle.tpm_model.specs.Events.{Clean}
use Rattle.tpm_model.specs.Rules.{HasRules}
use Rattle.tpm_model.specs.World.{World}
use Rattle.tpm_worlds.specs.EventLists.{Safe}
use Rattle.tpm_worlds.specs.WholeEvents.{FullTie}
use Rattle.race_newest.specs.RaceEvents.{world_at}
use Rattle.race_newest.specs.Rightly.{HasKeyRightly}
use Rattle.race_newest.proofs.Rightly.{key_rightly}

pub only_if_played : (result : Result Unit PlayError) (events : List Played) (before after : Racing) (live now : Option Parts) (stored kept : Option Stored)
    → AllByRecursion (IsEvent (length before.clients)) events
    → ((s : Parts) (keeps : Bool) → IsLive keeps s live stored → GivesAll keeps events (record { race = before; state = s }) result after now kept)
    → IfOk result (λ _. (s : Parts) (keeps : Bool) (w : World) (client index : ℕ) (pin secret given : List ℕ) → IsLive keeps s live stored
    → IsNew before → HasRules s → FullTie s w → Clean (world_at events (record { race = before; state = s }) w) → Safe (world_at events (record { race = before; state = s }) w)
    → get w.objects before.object ≡ Some (record { secret = secret; binding = Index index pin })
    → race_outcome after client ≡ outcome.Key given → HasKeyRightly events (record { race = before; state = s }) w client index pin secret given)
only_if_played (Ok x) events before after live now stored kept all told = λ s keeps w client index pin secret given is new rules tie clean safe bound came.
    key_rightly events (record { race = before; state = s }) w (length before.clients) client index pin secret given new all rules tie clean safe bound
    (sym (ap (λ (r : Racing). race_outcome r client) (told s keeps is).0) ∙ came)
only_if_played (Err e) events before after live now stored kept all told = tt
