-- Each Unseal of a list of events opens by the value alone.
use Rattle.std.proofs.Common.{◌≡◌, ℕ, List, [], ◌∷◌, map, refl, sym, ap, ◌∙◌}
use Rattle.std.specs.Prelude.{Some}
use Rattle.std.specs.FinMap.{get}
use Rattle.hash_bank.specs.declared.bank.Bank.{Bank}
use Rattle.tpm_model.specs.declared.command.Command.{Command}
use Rattle.tpm_model.specs.declared.object.Object.{Object}
use Rattle.tpm_model.specs.declared.parts.Parts.{Parts}
use Rattle.tpm_model.specs.declared.response.Response.TheVariants as answer
use Rattle.tpm_model.specs.Binding.{Literal}
use Rattle.tpm_model.specs.Events.{Event, Other, command_of, world_after}
use Rattle.tpm_model.specs.ObjectCommands.{unseal}
use Rattle.tpm_model.specs.Respond.{respond}
use Rattle.tpm_model.specs.Rules.{HasRules}
use Rattle.tpm_model.specs.Sessions.{session_place}
use Rattle.tpm_model.specs.Tied.{IsHeld}
use Rattle.tpm_model.specs.World.{World}
use Rattle.nv_index.proofs.Lists.{all_at}
use Rattle.tpm_worlds.specs.CommandLists.{state_after}
use Rattle.tpm_worlds.specs.EventLists.{AreFair, EachOpensByValue, IsOpened, OpensByValue, Safe, world_after_all}
use Rattle.tpm_worlds.specs.SealedTie.{SealedTie}
use Rattle.tpm_worlds.proofs.Cases.{by_unseal}
use Rattle.tpm_worlds.proofs.Opened.{opened}
use Rattle.tpm_worlds.proofs.Sessions.{IsGood}
use Rattle.tpm_worlds.proofs.Steady.{Steady, grows_after, steady_after, steady_from, tie_from}
use Rattle.tpm_model.proofs.Ties.{Grows}

-- strings that are among safe ones are safe
pub safe_before : (w v : World) → Grows w v → Safe v → Safe w
safe_before w v grows safe = record {
  distinct = λ s t h k. safe.distinct s t (grows s h) (grows t k);
  nonzero = λ s h. safe.nonzero s (grows s h);
}

grows_all : (events : List Event) (s : Parts) (w : World) → Grows w (world_after_all events s w)
grows_all [] s w x h = h
grows_all (event ∷ events) s w x h = grows_all events (respond (command_of event) s).1 (world_after event s w) x (grows_after event s w x h)

-- two objects that are found under one handle are one
pub same_object : (a b : Object) → Some a ≡ Some b → a ≡ b
same_object a b e = cc

-- one Unseal
one_unseal : (s : Parts) (w : World) (session handle : ℕ) (answered secret : List ℕ) (hash bank : Bank) (pcr : ℕ) (value : List ℕ) → Steady s w → Safe w
    → (unseal session handle s).0 ≡ answer.Secret answered
    → get w.objects handle ≡ Some (record { secret = secret; binding = Literal hash bank pcr value })
    → IsOpened s bank pcr value secret answered
one_unseal s w session handle answered secret hash bank pcr value k safe told bound =
    by_unseal (λ r. r.0 ≡ answer.Secret answered → IsOpened s bank pcr value secret answered) session handle s
    (λ _ e. cc)
    (λ x object at found free policy e.
    let held : IsHeld s w handle (record { secret = secret; binding = Literal hash bank pcr value }) = k.tied.objects handle (record { secret = secret; binding = Literal hash bank pcr value }) bound in
    let same : object ≡ held.object = same_object object held.object (sym found ∙ held.found) in
    let bytes : object.secret ≡ answered = cc in
    record {
      bytes = sym bytes ∙ ap (λ (o : Object). o.secret) same ∙ held.secret;
      holds = opened s w x hash bank pcr value k.values (all_at (IsGood s w) s.sessions (session_place session s.sessions) x k.sessions at) safe held.sound held.strings
          (policy ∙ ap (λ (o : Object). o.policy) same ∙ held.policy) free;
    })
    told

-- of an event
opens : (event : Event) (s : Parts) (w : World) → Steady s w → Safe w → OpensByValue event s w
opens event s w k safe = λ session handle answered secret hash bank pcr value is told bound.
    one_unseal s w session handle answered secret hash bank pcr value k safe
    (sym (ap (λ c. (respond c s).0) is) ∙ told) bound

pub each_opens : (events : List Event) (s : Parts) (w : World) → Steady s w → AreFair events s w → Safe (world_after_all events s w) → EachOpensByValue events s w
each_opens [] s w k fair safe = tt
each_opens (event ∷ events) s w k fair safe =
    let next = world_after event s w in
    let whole : Grows next (world_after_all events (respond (command_of event) s).1 next) = grows_all events (respond (command_of event) s).1 next in
    let now : Safe w = safe_before w next (grows_after event s w) (safe_before next (world_after_all events (respond (command_of event) s).1 next) whole safe) in
    (opens event s w k now, each_opens events (respond (command_of event) s).1 next (steady_after event s w fair.0 k) fair.1 safe)

-- from every state with the rules and every world that hangs together with it
pub each_unseal : (events : List Event) (s : Parts) (w : World) → HasRules s → SealedTie s w → AreFair events s w → Safe (world_after_all events s w) → EachOpensByValue events s w
each_unseal events s w h t fair safe = each_opens events s w (steady_from s w h t) fair safe

steady_all : (events : List Event) (s : Parts) (w : World) → Steady s w → AreFair events s w → Steady (state_after (map command_of events) s) (world_after_all events s w)
steady_all [] s w k fair = k
steady_all (event ∷ events) s w k fair = steady_all events (respond (command_of event) s).1 (world_after event s w) (steady_after event s w fair.0 k) fair.1

-- the world after a list of events hangs together with the state that they leave
pub tie_after_all : (events : List Event) (s : Parts) (w : World) → HasRules s → SealedTie s w → AreFair events s w → SealedTie (state_after (map command_of events) s) (world_after_all events s w)
tie_after_all events s w h t fair = tie_from _ _ (steady_all events s w (steady_from s w h t) fair)

-- nothing is asked of commands of anyone
pub others_fair : (commands : List Command) (s : Parts) (w : World) → AreFair (map Other commands) s w
others_fair [] s w = tt
others_fair (c ∷ commands) s w = (tt, others_fair commands (respond c s).1 (world_after (Other c) s w))

-- the commands of events of anyone are these
pub others_command : (commands : List Command) → map command_of (map Other commands) ≡ commands
others_command [] = refl
others_command (c ∷ commands) = ap (λ cs. c ∷ cs) (others_command commands)
