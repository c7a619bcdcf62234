-- A device that tells its state, from command to command.
use Rattle.std.proofs.Common.{◌≡◌, ◌⊎◌, ℕ, ◌+◌, ◌<◌, List, [], ◌∷◌, ◌++◌, length, get_or, take, inl, inr, refl, sym, subst, arith}
use Rattle.std.specs.Prelude.{Bool, Option, Result, Ok, Err, IfOk, IfErr}
use Rattle.tpm_model.specs.declared.command.Command.{Command}
use Rattle.tpm_model.specs.declared.parts.Parts.{Parts}
use Rattle.tpm_model.specs.declared.response.Response.{Response}
use Rattle.tpm_model.specs.Respond.{respond}
use Rattle.tpm_model.specs.Rules.{HasRules}
use Rattle.tpm_model.specs.World.{World}
use Rattle.tpm_model.specs.Events.{Clean, Other, world_after}
use Rattle.tpm_model.specs.Orderly.{Orderly}
use Rattle.tpm_worlds.specs.CommandLists.{state_after}
use Rattle.tpm_worlds.specs.EventLists.{EachOpensByValue, Safe}
use Rattle.tpm_worlds.specs.SealedTie.{SealedTie}
use Rattle.tpm_worlds.specs.SteadySessions.{SteadySessions}
use Rattle.tpm_worlds.specs.WholeEvents.{OwnTie}
use Rattle.tpm_worlds.proofs.AfterCommand.{order_after_command, tied_after_command}
use Rattle.tpm_worlds.proofs.CommandLists.{state_next}
use Rattle.tpm_worlds.proofs.EachUnseal.{each_unseal, others_fair, tie_after_all}
use Rattle.tpm_worlds.proofs.WholeLists.{others_sound}
use Rattle.tpm_unseals.specs.ByPolicy.{EachOpens}
use Rattle.tpm_unseals.proofs.EachUnseal.{each_unseal as each_by_binding}
use Rattle.tpm_device.specs.Stored.{Stored}
use Rattle.pcrlock_line.specs.Asked.{IsAnswered, IsStopped}
use Rattle.pcrlock_line.specs.Causes.{HasCauses}
use Rattle.pcrlock_line.specs.declared.stop.Stop.{Stop}
use Rattle.pcrlock_line.specs.declared.stop.Stop.TheVariants.{Memory}
use Rattle.pcrlock_line.specs.Worlds.{IsTiedTo}
use Rattle.pcrlock_line.proofs.Composed.{memory}
use Rattle.pcrlock_exec.specs.Exec.{events_of, exec_world}
use Rattle.pcrlock_exec.specs.Sending.{IsPartWay}
use Rattle.pcrlock_line.specs.Running.{Keeps, Runs}
use Rattle.pcrlock_exec.proofs.Lists.{commands_back}

-- ---- one command

-- the device runs on with the state that the command leaves
pub runs_on : (now : Option Parts) (kept : Option Stored) (c : Command) (s : Parts) (response : Response) (readiness : Bool)
    → IsAnswered c s response readiness now kept → Runs now kept (respond c s).1
runs_on now kept c s response readiness told = record { live = told.live; stored = told.stored }

-- what is stored after a stop at the command
pub stopped_at : (kept : Option Stored) (c : Command) (s : Parts) → IsStopped c s kept → Keeps kept s ⊎ Keeps kept (respond c s).1
stopped_at kept c s (inl same) = inl (record { stored = same })
stopped_at kept c s (inr next) = inr (record { stored = next })

-- the device that answered keeps its state where the line finds no room
pub kept_next : {A : Type 0} (P Q : Type 0) (result : Result A Stop) → Q → IfErr result (λ _. P ⊎ Q)
kept_next P Q (Ok x) q = tt
kept_next P Q (Err stop) q = inr q

-- want of memory needs no cause
pub told_causes : {A : Type 0} (t u : ℕ) (first : Result Response Stop) (result : Result A Stop) → HasCauses (0, 0, t, 0) (0, 0, u, 0) first
    → IfErr result (λ stop. stop ≡ Memory) → HasCauses (0, 0, t, 0) (0, 0, u, 0) result
told_causes t u first (Ok x) h is = record { files = h.files; entropy = h.entropy; tpm = h.tpm; out = h.out; cause = λ stop e. absurd (cc e) }
told_causes {A} t u first (Err stop) h is = subst (λ (e : Stop). HasCauses {A = A} (0, 0, t, 0) (0, 0, u, 0) (Err e)) (sym is) (memory (0, 0, t, 0) (0, 0, u, 0) first h)

both_told : {A : Type 0} (P Q : Type 0) (result : Result A Stop) → P → IfOk result (λ _. Q) → IfOk result (λ _. P × Q)
both_told P Q (Ok x) p q = (p, q)
both_told P Q (Err stop) p q = tt

-- the line of the answer
pub told_line : {A : Type 0} (P : Type 0) (result : Result A Stop) (line : Response → List ℕ) (after before : List ℕ) (given answer : Response) → P → given ≡ answer
    → IfOk result (λ _. after ≡ before ++ line given) → IfOk result (λ _. P × (after ≡ before ++ line answer))
told_line P result line after before given answer p same told =
    both_told P (after ≡ before ++ line answer) result p (subst (λ (r : Response). IfOk result (λ _. after ≡ before ++ line r)) same told)

-- ---- one after the other

-- the state after one command more
pub runs_next : (now : Option Parts) (kept : Option Stored) (commands : List Command) (i : ℕ) (item : Command) (s : Parts) → i < length commands → item ≡ get_or commands i item
    → Runs now kept (respond item (state_after (take i commands) s)).1 → Runs now kept (state_after (take (i + 1) commands) s)
runs_next now kept commands i item s within is h = subst (Runs now kept) (state_next commands i item s (state_after (take i commands) s) within is refl) h

pub part_way : (kept : Option Stored) (commands : List Command) (i : ℕ) (item : Command) (s : Parts) → i < length commands → item ≡ get_or commands i item
    → Keeps kept (state_after (take i commands) s) ⊎ Keeps kept (respond item (state_after (take i commands) s)).1 → IsPartWay kept commands s
part_way kept commands i item s within is (inl h) = record { count = i; few = omega (arith, within); keeps = h }
part_way kept commands i item s within is (inr h) = record {
  count = i + 1;
  few = omega (arith, within);
  keeps = subst (Keeps kept) (state_next commands i item s (state_after (take i commands) s) within is refl) h;
}

-- ---- the world

-- a world that is tied follows the commands
pub tied_after_all : (commands : List Command) (s : Parts) (w : World) → IsTiedTo s w → IsTiedTo (state_after commands s) (exec_world commands s w)
tied_after_all [] s w t = t
tied_after_all (c ∷ commands) s w t =
    tied_after_all commands (respond c s).1 (world_after (Other c) s w) (record { tied = tied_after_command c s w t.tied; order = order_after_command c s t.order })

pub sealed_after_all : (commands : List Command) (s : Parts) (w : World) → HasRules s → SealedTie s w → SealedTie (state_after commands s) (exec_world commands s w)
sealed_after_all commands s w rules t =
    subst (λ (list : List Command). SealedTie (state_after list s) (exec_world commands s w)) (commands_back commands)
    (tie_after_all (events_of commands) s w rules t (others_fair commands s w))

pub opens_by_value : (commands : List Command) (s : Parts) (w : World) → HasRules s → SealedTie s w → Safe (exec_world commands s w) → EachOpensByValue (events_of commands) s w
opens_by_value commands s w rules t safe = each_unseal (events_of commands) s w rules t (others_fair commands s w) safe

pub each_opens : (commands : List Command) (s : Parts) (w : World) → Orderly s → OwnTie s w → SteadySessions s w → Clean (exec_world commands s w) → Safe (exec_world commands s w) → EachOpens (events_of commands) s w
each_opens commands s w orderly own sessions clean safe = each_by_binding (events_of commands) s w orderly own sessions (others_sound commands s w) clean safe
