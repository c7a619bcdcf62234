-- The handles in bindings have 32 bits, after every event.
use Rattle.std.proofs.Common.{◌≡◌, ℕ, List, Bool, true, false, cond, sym, subst, ◌∙◌}
use Rattle.std.specs.Prelude.{None, Some}
use Rattle.std.specs.FinMap.{get, get-insert, get-remove}
use Rattle.std.specs.Ordering.{nat_cmp, eq_by_cmp}
use Rattle.std.specs.Cmp.{nat_cmp_total}
use Rattle.tpm_model.specs.declared.command.Command.{Command}
use Rattle.tpm_model.specs.declared.command.Command.TheVariants as command
use Rattle.tpm_model.specs.declared.parts.Parts.{Parts}
use Rattle.tpm_model.specs.declared.response.Response.{Response}
use Rattle.tpm_model.specs.declared.response.Response.TheVariants as answer
use Rattle.tpm_model.specs.Binding.{Binding, Index}
use Rattle.tpm_model.specs.Events.{Event, Update, Define, SealTo, SealPin, Other, accepted_world, bound_world, evicted_world, other_world}
use Rattle.tpm_model.specs.World.{BoundObject, World}
use Rattle.tpm_worlds.specs.WholeEvents.{HasRanges, IsRanged, IsSoundEvent}

-- an object more
ranged_bound : (w : World) (h : ℕ) (secret : List ℕ) (b : Binding) → IsRanged b → HasRanges w → HasRanges (bound_world h secret b w)
ranged_bound w h secret b new old q bound e =
    by (eq_by_cmp nat_cmp q h) (sym (get-insert nat_cmp_total w.objects h (record { secret = secret; binding = b }) q) ∙ e)
  where
    by : (same : Bool) → cond same (Some (record { secret = secret; binding = b })) (get w.objects q) ≡ Some bound → IsRanged bound.binding
    by true f = let one : record { secret = secret; binding = b } ≡ bound = cc in subst (λ (x : BoundObject). IsRanged x.binding) one new
    by false f = old q bound f

-- an object less
ranged_evicted : (w : World) (h : ℕ) → HasRanges w → HasRanges (evicted_world h w)
ranged_evicted w h old q bound e = by (eq_by_cmp nat_cmp q h) (sym (get-remove nat_cmp_total w.objects h q) ∙ e)
  where
    by : (same : Bool) → cond same None (get w.objects q) ≡ Some bound → IsRanged bound.binding
    by true f = cc
    by false f = old q bound f

pub ranged_accepted : (event : Event) (r : Response) (t : Parts) (v w : World) → IsSoundEvent event w → HasRanges v → HasRanges (accepted_world event r t v)
ranged_accepted event (answer.Refused why) t v w sound old = old
ranged_accepted (Update handle pin table) answer.Done t v w sound old = old
ranged_accepted (Update handle pin table) r t v w sound old = old
ranged_accepted (Define public pin) answer.Done t v w sound old = old
ranged_accepted (Define public pin) r t v w sound old = old
ranged_accepted (SealTo b secret) (answer.Object handle) t v w sound old = ranged_bound v handle secret b sound.1 old
ranged_accepted (SealTo b secret) r t v w sound old = old
ranged_accepted (SealPin index pin) (answer.Object handle) t v w sound old = ranged_bound v handle pin (Index index pin) sound old
ranged_accepted (SealPin index pin) r t v w sound old = old
ranged_accepted (Other c) r t v w sound old = other c
  where
    other : (c : Command) → HasRanges (other_world c t v)
    other (command.Restart locality banks) = old
    other (command.PcrExtend pcr digests) = old
    other (command.NvUndefine index) = old
    other (command.NvWrite index pin value) = old
    other (command.Evict handle) = ranged_evicted v handle old
    other c = old
