-- What the broker answers where the TPM gets the command.
use Rattle.std.proofs.Common.{◌≡◌, ℕ, Bool, List, inl, inr, sym, ap, ◌∙◌, subst}
use Rattle.std.specs.Prelude.{Option, Some, Result, Err}
use Rattle.tpm_model.specs.declared.command.Command.{Command}
use Rattle.tpm_model.specs.declared.parts.Parts.{Parts}
use Rattle.tpm_model.specs.declared.response.Response.{Response}
use Rattle.tpm_model.specs.Respond.{respond}
use Rattle.tpm_device.specs.Stored.{ExecuteGives, ExecuteStores, Holds, Stored}
use Rattle.tpm_device.specs.declared.device.ExecError.{ExecError}
use Rattle.tpm_device.specs.declared.device.ExecError.TheVariants.{Failed, Memory}
use Rattle.tpm_broker.specs.declared.plan.Plan.{Plan}
use Rattle.tpm_broker.specs.declared.plan.Plan.TheVariants as plan
use Rattle.tpm_broker.specs.Clients.{Client, client_at}
use Rattle.tpm_broker.specs.Served.{Served, ServeGives, ServeStores, on_session, plan_of, served, served_by, settled}

pub not_served : (out : Served) (c : Command) (s : Parts) (stop : ExecError) (clients : List Client) (ready : Bool) (live : Option Parts)
    → ExecuteGives c s (Err stop) ready live → ServeGives out s (Err stop) clients live
not_served out c s Failed clients ready live h = tt
not_served out c s Memory clients ready live h = h.0

pub not_stored : (out : Served) (c : Command) (s : Parts) (stop : ExecError) (stored : Option Stored)
    → out.state ≡ (respond c s).1 → ExecuteStores c s (Err stop) stored → ServeStores out s (Err stop) stored
not_stored out c s Failed stored e (inl h) = inl h
not_stored out c s Failed stored e (inr h) = inr (h ∙ ap (λ t. Some (Holds t)) (sym e))
not_stored out c s Memory stored e h = h

pub pass_told : (k : ℕ) (c : Command) (clients now : List Client) (s : Parts) (p : Plan) (result : Result Response ExecError) (live : Option Parts)
    → p ≡ plan_of c (client_at k clients) → p ≡ plan.Pass
    → ServeGives (settled k c (respond c s) clients) s result now live → ServeGives (served k c clients s) s result now live
pass_told k c clients now s p result live planned is h =
    subst (λ q. ServeGives (served_by q k c clients s) s result now live) (sym is ∙ planned) h

pub pass_on_told : (k tpm : ℕ) (c sent : Command) (clients now : List Client) (s : Parts) (p : Plan) (result : Result Response ExecError) (live : Option Parts)
    → p ≡ plan_of c (client_at k clients) → p ≡ plan.PassOn tpm → sent ≡ on_session tpm c
    → ServeGives (settled k c (respond sent s) clients) s result now live → ServeGives (served k c clients s) s result now live
pass_on_told k tpm c sent clients now s p result live planned is e h =
    subst (λ q. ServeGives (served_by q k c clients s) s result now live) (sym is ∙ planned)
    (subst (λ x. ServeGives (settled k c (respond x s) clients) s result now live) e h)

pub pass_stored : (k : ℕ) (c : Command) (clients : List Client) (s : Parts) (p : Plan) (result : Result Response ExecError) (stored : Option Stored)
    → p ≡ plan_of c (client_at k clients) → p ≡ plan.Pass
    → ServeStores (settled k c (respond c s) clients) s result stored → ServeStores (served k c clients s) s result stored
pass_stored k c clients s p result stored planned is h = subst (λ q. ServeStores (served_by q k c clients s) s result stored) (sym is ∙ planned) h

pub pass_on_stored : (k tpm : ℕ) (c sent : Command) (clients : List Client) (s : Parts) (p : Plan) (result : Result Response ExecError) (stored : Option Stored)
    → p ≡ plan_of c (client_at k clients) → p ≡ plan.PassOn tpm → sent ≡ on_session tpm c
    → ServeStores (settled k c (respond sent s) clients) s result stored → ServeStores (served k c clients s) s result stored
pass_on_stored k tpm c sent clients s p result stored planned is e h =
    subst (λ q. ServeStores (served_by q k c clients s) s result stored) (sym is ∙ planned)
    (subst (λ x. ServeStores (settled k c (respond x s) clients) s result stored) e h)
