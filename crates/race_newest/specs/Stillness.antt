-- Events at which no PCR moves.
use Rattle.std.specs.Prelude.{◌≡◌, Bool, true, false, List, [], ◌∷◌, Option, None, Some}
use Rattle.race_core.specs.declared.event.Event.{Event as Played}
use Rattle.race_core.specs.Playing.{Playing, played_one}
use Rattle.race_core.specs.Racing.{race_command}
use Rattle.tpm_model.specs.declared.command.Command.{Command}
use Rattle.tpm_model.specs.declared.command.Command.TheVariants as command
use Rattle.tpm_model.specs.declared.parts.Parts.{Parts}
use Rattle.tpm_model.specs.declared.response.Refusal.{Refusal}
use Rattle.tpm_model.specs.declared.response.Response.{Response}
use Rattle.tpm_model.specs.declared.response.Response.TheVariants as answer
use Rattle.tpm_model.specs.Respond.{respond}

-- whether a command changes PCRs, once it is accepted
abbrev pub moves : Command → Bool
moves (command.Restart locality banks) = true
moves (command.PcrExtend pcr digests) = true
moves _ = false

-- such a command was refused
abbrev pub MovesNot : Command → Response → Type 0
MovesNot given response = moves given ≡ true → (why : Refusal) × (response ≡ answer.Refused why)

abbrev pub IsStill : Option Command → Parts → Type 0
IsStill None s = Unit {0}
IsStill (Some given) s = MovesNot given (respond given s).0

-- no PCR moves at any of a race's events
abbrev pub AreStill : List Played → Playing → Type 0
AreStill [] p = Unit {0}
AreStill (event ∷ events) p = IsStill (race_command p.race event) p.state × AreStill events (played_one event p)
