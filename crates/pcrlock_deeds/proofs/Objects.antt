-- The objects of state and world at an event: a new one gets a handle past those of all.
use Rattle.std.proofs.Common.{◌≡◌, ℕ, ◌<◌, ◌≤◌, Bool, true, false, cond, List, refl, sym, ◌∙◌, arith}
use Rattle.std.specs.Prelude.{None, Some}
use Rattle.std.specs.Cmp.{nat_cmp_total}
use Rattle.std.specs.FinMap.{get, get-insert, get-remove}
use Rattle.std.specs.Ordering.{eq_by_cmp, nat_cmp}
use Rattle.tpm_model.specs.declared.command.Command.{Command}
use Rattle.tpm_model.specs.declared.command.Command.TheVariants as command
use Rattle.tpm_model.specs.declared.parts.Parts.{Parts}
use Rattle.tpm_model.specs.declared.response.Response.{Response}
use Rattle.tpm_model.specs.declared.response.Response.TheVariants as answer
use Rattle.tpm_model.specs.Binding.{Binding, Index, policy_of}
use Rattle.tpm_model.specs.Events.{Event, Update, Define, SealTo, SealPin, Other, accepted_world, command_of, bound_world, event_strings, other_world, pinned_world, world_after}
use Rattle.tpm_model.specs.ObjectCommands.{object_handle}
use Rattle.tpm_model.specs.Respond.{respond}
use Rattle.tpm_model.specs.World.{BoundObject, World, hashed_world}
use Rattle.tpm_model.proofs.Ties.{same_handle}
use Rattle.tpm_worlds.proofs.Cases.{by_evict, by_flush_session, by_nv_define, by_nv_read, by_nv_read_public, by_nv_undefine, by_nv_write, by_pcr_extend, by_pcr_read, by_policy_authorize_nv, by_policy_get_digest, by_policy_or, by_policy_pcr, by_restart, by_seal, by_start_session, by_unseal}

-- the number of the next object doesn't fall
abbrev Rises : Parts → Response × Parts → Type 0
Rises s r = s.next_object ≤ r.1.next_object

pub objects_rise : (c : Command) (s : Parts) → Rises s (respond c s)
objects_rise (command.Restart locality banks) s = by_restart (Rises s) locality banks s (λ _. omega arith) (omega arith)
objects_rise (command.PcrExtend pcr digests) s = by_pcr_extend (Rises s) pcr digests s (λ _. omega arith) (omega arith)
objects_rise (command.PcrRead bank pcr) s = by_pcr_read (Rises s) bank pcr s (λ _. omega arith)
objects_rise (command.StartSession hash) s = by_start_session (Rises s) hash s (λ _. omega arith) (λ _. omega arith)
objects_rise (command.PolicyPcr session bank pcrs) s = by_policy_pcr (Rises s) session bank pcrs s (λ _. omega arith) (λ _ _ _ _ _. omega arith)
objects_rise (command.PolicyOr session list) s = by_policy_or (Rises s) session list s (λ _. omega arith) (λ _ _ _. omega arith)
objects_rise (command.PolicyAuthorizeNv session index) s = by_policy_authorize_nv (Rises s) session index s (λ _. omega arith) (λ _ _ _ _ _ _ _. omega arith)
objects_rise (command.PolicyGetDigest session) s = by_policy_get_digest (Rises s) session s (λ _. omega arith)
objects_rise (command.FlushSession session) s = by_flush_session (Rises s) session s (λ _. omega arith) (omega arith)
objects_rise (command.NvDefine public) s = by_nv_define (Rises s) public s (λ _. omega arith) (λ _. omega arith)
objects_rise (command.NvUndefine index) s = by_nv_undefine (Rises s) index s (λ _. omega arith) (λ _ _. omega arith)
objects_rise (command.NvWrite index pin value) s = by_nv_write (Rises s) index pin value s (λ _. omega arith) (λ _ _ _ _. omega arith)
objects_rise (command.NvRead index) s = by_nv_read (Rises s) index s (λ _. omega arith)
objects_rise (command.NvReadPublic index) s = by_nv_read_public (Rises s) index s (λ _. omega arith)
objects_rise (command.Seal policy secret) s = by_seal (Rises s) policy secret s (λ _. omega arith) (omega arith)
objects_rise (command.Evict handle) s = by_evict (Rises s) handle s (λ _. omega arith) (omega arith)
objects_rise (command.Unseal session handle) s = by_unseal (Rises s) session handle s (λ _. omega arith) (λ _ _ _ _ _ _. omega arith)

-- an object that the world has under a handle below the next was there before the event
module _ (q : ℕ) (bound : BoundObject) where
  -- a new object has another handle
  had_new : (v : World) (handle : ℕ) (new : BoundObject) (same : Bool) → (q ≡ handle → ⊥) → eq_by_cmp nat_cmp q handle ≡ same
      → cond same (Some new) (get v.objects q) ≡ Some bound → get v.objects q ≡ Some bound
  had_new v handle new true apart c e = absurd (apart (same_handle q handle c))
  had_new v handle new false apart c e = e

  had_evicted : (v : World) (same : Bool) → cond same None (get v.objects q) ≡ Some bound → get v.objects q ≡ Some bound
  had_evicted v true e = absurd (cc e)
  had_evicted v false e = e

  had_other : (c : Command) (t : Parts) (v : World) → get (other_world c t v).objects q ≡ Some bound → get v.objects q ≡ Some bound
  had_other (command.Evict handle) t v e = had_evicted v (eq_by_cmp nat_cmp q handle) (sym (get-remove nat_cmp_total v.objects handle q) ∙ e)
  had_other (command.Restart locality banks) t v e = e
  had_other (command.PcrExtend pcr digests) t v e = e
  had_other (command.NvUndefine index) t v e = e
  had_other (command.NvWrite index pin value) t v e = e
  had_other c t v e = e

  -- a seal, by its answer
  sealed : (binding : Binding) (secret : List ℕ) (handle : ℕ) (v : World) → (q ≡ handle → ⊥)
      → get (bound_world handle secret binding v).objects q ≡ Some bound → get v.objects q ≡ Some bound
  sealed binding secret handle v apart e =
      let new : BoundObject = record { secret = secret; binding = binding } in
      had_new v handle new (eq_by_cmp nat_cmp q handle) apart refl (sym (get-insert nat_cmp_total v.objects handle new q) ∙ e)

  -- the answer to a seal names a handle past those of all
  abbrev Past : Parts → Response × Parts → Type 0
  Past s r = (handle : ℕ) → r.0 ≡ answer.Object handle → q ≡ handle → ⊥

  past_sealed : (policy secret : List ℕ) (s : Parts) → q < object_handle s.next_object → Past s (respond (command.Seal policy secret) s)
  past_sealed policy secret s below =
      by_seal (Past s) policy secret s (λ why handle e same. absurd (cc e))
      (λ handle e same. let is : object_handle s.next_object ≡ handle = cc in absurd (omega (arith, below, same, is)))

  pub objects_before : (event : Event) (s : Parts) (w : World) → q < object_handle s.next_object
      → get (world_after event s w).objects q ≡ Some bound → get w.objects q ≡ Some bound
  objects_before (Update handle pin table) s w below e =
      let r = respond (command_of (Update handle pin table)) s in
      updated r.0 e
    where
      updated : (r : Response) → get (accepted_world (Update handle pin table) r (respond (command_of (Update handle pin table)) s).1 (hashed_world (event_strings (Update handle pin table) s) w)).objects q ≡ Some bound
          → get w.objects q ≡ Some bound
      updated (answer.Refused why) h = h
      updated answer.Done h = h
      updated r h = h
  objects_before (Define public pin) s w below e = defined (respond (command.NvDefine public) s).0 e
    where
      defined : (r : Response) → get (accepted_world (Define public pin) r (respond (command.NvDefine public) s).1 (hashed_world (event_strings (Define public pin) s) w)).objects q ≡ Some bound
          → get w.objects q ≡ Some bound
      defined (answer.Refused why) h = h
      defined answer.Done h = h
      defined r h = h
  objects_before (SealTo binding secret) s w below e =
      let r = respond (command.Seal (policy_of binding) secret) s in
      by r.0 (past_sealed (policy_of binding) secret s below) e
    where
      by : (r : Response) → ((handle : ℕ) → r ≡ answer.Object handle → q ≡ handle → ⊥)
          → get (accepted_world (SealTo binding secret) r (respond (command.Seal (policy_of binding) secret) s).1 (hashed_world (event_strings (SealTo binding secret) s) w)).objects q ≡ Some bound
          → get w.objects q ≡ Some bound
      by (answer.Refused why) past h = h
      by (answer.Object handle) past h = sealed binding secret handle (hashed_world (event_strings (SealTo binding secret) s) w) (past handle refl) h
      by r past h = h
  objects_before (SealPin index pin) s w below e =
      let r = respond (command.Seal (policy_of (Index index pin)) pin) s in
      by r.0 (past_sealed (policy_of (Index index pin)) pin s below) e
    where
      by : (r : Response) → ((handle : ℕ) → r ≡ answer.Object handle → q ≡ handle → ⊥)
          → get (accepted_world (SealPin index pin) r (respond (command.Seal (policy_of (Index index pin)) pin) s).1 (hashed_world (event_strings (SealPin index pin) s) w)).objects q ≡ Some bound
          → get w.objects q ≡ Some bound
      by (answer.Refused why) past h = h
      by (answer.Object handle) past h = sealed (Index index pin) pin handle (pinned_world pin (hashed_world (event_strings (SealPin index pin) s) w)) (past handle refl) h
      by r past h = h
  objects_before (Other c) s w below e = other (respond c s).0 e
    where
      other : (r : Response) → get (accepted_world (Other c) r (respond c s).1 (hashed_world (event_strings (Other c) s) w)).objects q ≡ Some bound → get w.objects q ≡ Some bound
      other (answer.Refused why) h = h
      other r h = had_other c (respond c s).1 (hashed_world (event_strings (Other c) s) w) h
