-- How a client of a race comes to its key: by which of its steps, each with the command that it gave and the answer.
use Rattle.std.specs.Prelude.{◌≡◌, ℕ, List, [], ◌∷◌, ◌++◌, slice_get, Some}
use Rattle.std.specs.List.{AllByRecursion}
use Rattle.hash_bank.specs.declared.bank.Bank.{Bank}
use Rattle.policy_walk.specs.Places.{Place, at_pcr}
use Rattle.tpm_model.specs.declared.command.Command.{Command}
use Rattle.tpm_model.specs.declared.command.Command.TheVariants as command
use Rattle.tpm_model.specs.declared.response.Response.{Response}
use Rattle.tpm_model.specs.declared.response.Response.TheVariants as answer
use Rattle.tpm_model.specs.Respond.{respond}
use Rattle.race_core.specs.declared.client.Client.{Client}
use Rattle.race_core.specs.declared.client.Client.TheVariants as client
use Rattle.race_core.specs.declared.event.Event.{Event}
use Rattle.race_core.specs.declared.event.Event.TheVariants as event
use Rattle.race_core.specs.Playing.{Playing, played}
use Rattle.race_core.specs.Racing.{Racing, race_command}

-- no client has taken a step
abbrev pub IsNew : Racing → Type 0
IsNew race = AllByRecursion (λ (one : Client). one ≡ client.Fresh) race.clients

-- the client's next step gives this command, and this is the answer
pub record IsAnswered (p : Playing) (number : ℕ) (given : Command) (response : Response) : Type 0 where
  pub gives : race_command p.race (event.Step number) ≡ Some given
  pub answered : (respond given p.state).0 ≡ response

-- the client has started the session, and took no step behind that: it stands before the PolicyPCR of the first row
pub record HasStarted (race : Racing) (number session : ℕ) : Type 0 where
  pub place : Place
  pub stands : slice_get race.clients number ≡ Some (client.Started place)
  pub same : place.session ≡ session
  pub row : place.row ≡ 0
  pub step : place.step ≡ at_pcr

-- among the events its first PolicyPCR was accepted: those before it, and those behind it
pub record HasLooked (events : List Event) (p : Playing) (number session : ℕ) : Type 0 where
  pub before : List Event
  pub behind : List Event
  pub order : events ≡ before ++ event.Step number ∷ behind
  pub started : HasStarted (played before p).race number session
  pub bank : Bank
  pub pcrs : ℕ
  pub first : IsAnswered (played before p) number (command.PolicyPcr session bank pcrs) answer.Done

-- and then its PolicyAuthorizeNV on that session
pub record HasAuthorised (events : List Event) (p : Playing) (number session : ℕ) : Type 0 where
  pub before : List Event
  pub behind : List Event
  pub order : events ≡ before ++ event.Step number ∷ behind
  pub looked : HasLooked before p number session
  pub index : ℕ
  pub accepted : IsAnswered (played before p) number (command.PolicyAuthorizeNv session index) answer.Done

-- and then its Unseal was answered by a secret
pub record HasUnsealed (events : List Event) (p : Playing) (number : ℕ) (secret : List ℕ) : Type 0 where
  pub before : List Event
  pub behind : List Event
  pub order : events ≡ before ++ event.Step number ∷ behind
  pub session : ℕ
  pub authorised : HasAuthorised before p number session
  pub given : IsAnswered (played before p) number (command.Unseal session p.race.object) (answer.Secret secret)
