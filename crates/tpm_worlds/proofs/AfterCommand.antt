-- A command of anyone leaves the state and the world hanging together.
use Rattle.std.proofs.Common.{◌≡◌, ℕ, ◌+◌, true, List, ◌∷◌, [], ◌++◌, map, refl, sym, subst, arith}
use Rattle.std.specs.Prelude.{Some, remove}
use Rattle.std.proofs.lemmas.List.{map-append}
use Rattle.nv_index.specs.Handles.{are_handles}
use Rattle.nv_index.specs.Table.{index_at}
use Rattle.nv_index.specs.declared.index.Index.{Index}
use Rattle.nv_index.proofs.Lists.{map-remove}
use Rattle.policy_digest.specs.Pin.{pin_strings}
use Rattle.tpm_model.specs.declared.command.Command.{Command}
use Rattle.tpm_model.specs.declared.command.Command.TheVariants as command
use Rattle.tpm_model.specs.declared.object.Object.{Object}
use Rattle.tpm_model.specs.declared.parts.Parts.{Parts}
use Rattle.tpm_model.specs.declared.response.Response.{Response}
use Rattle.tpm_model.specs.declared.response.Response.TheVariants as answer
use Rattle.tpm_model.specs.Events.{Event, Other, accepted_world, other_world, world_after}
use Rattle.tpm_model.specs.ObjectCommands.{object_handle}
use Rattle.tpm_model.specs.ObjectRules.{keeps_object_order}
use Rattle.tpm_model.specs.Respond.{respond}
use Rattle.tpm_model.specs.Sessions.{object_place}
use Rattle.tpm_model.specs.Strings.{command_strings, write_strings}
use Rattle.tpm_model.specs.Tied.{Tied}
use Rattle.tpm_model.specs.World.{World, AreHashed, hashed_world}
use Rattle.tpm_model.proofs.Handles.{handles_push, handles_remove}
use Rattle.tpm_worlds.specs.CommandLists.{state_after}
use Rattle.tpm_worlds.specs.EventLists.{world_after_all}
use Rattle.tpm_worlds.proofs.Cases.{by_evict, by_flush_session, by_nv_define, by_nv_read, by_nv_read_public, by_nv_undefine, by_nv_write, by_pcr_extend, by_pcr_read, by_policy_authorize_nv, by_policy_get_digest, by_policy_or, by_policy_pcr, by_restart, by_seal, by_start_session, by_unseal}
use Rattle.tpm_model.proofs.Ties.{all_hashed, follows, same_tied, tied_evicted, tied_hashed, tied_object, tied_strange, tied_undefined}

-- the state that is left and the world after the event go together
abbrev pub Goes : Event → World → Response × Parts → Type 0
Goes event v r = Tied r.1 (accepted_world event r.0 r.1 v)

-- a command that does nothing to the world
nothing : (c : Command) (t : Parts) (v : World) → other_world c t v ≡ v → Tied t v → (r : Response) → Tied t (accepted_world (Other c) r t v)
nothing c t v same tie (answer.Refused why) = tie
nothing c t v same tie r = subst (Tied t) (sym same) tie

-- the strings of the pin that is written with were hashed
pub written_strings : (index : ℕ) (pin : List ℕ) (s : Parts) (v : World) (x : Index) → index_at index s.indices ≡ Some x → AreHashed v (write_strings (index_at index s.indices) pin) → AreHashed v (pin_strings pin)
written_strings index pin s v x e h = subst (λ o. AreHashed v (write_strings o pin)) e h

-- a command, in a world that has its strings
pub goes : (c : Command) (s : Parts) (v : World) → AreHashed v (command_strings c s) → Tied s v → Goes (Other c) v (respond c s)
goes (command.Restart locality banks) s v h t = by_restart (Goes (Other (command.Restart locality banks)) v) locality banks s (λ _. t) (follows s _ v refl t)
goes (command.PcrExtend pcr digests) s v h t = by_pcr_extend (Goes (Other (command.PcrExtend pcr digests)) v) pcr digests s (λ _. t) (follows s _ v refl t)
goes (command.PcrRead bank pcr) s v h t = by_pcr_read (Goes (Other (command.PcrRead bank pcr)) v) bank pcr s (nothing (command.PcrRead bank pcr) s v refl t)
goes (command.StartSession hash) s v h t = by_start_session (Goes (Other (command.StartSession hash)) v) hash s (λ _. t) (λ _. same_tied s _ v refl refl refl t)
goes (command.PolicyPcr session bank pcrs) s v h t =
    by_policy_pcr (Goes (Other (command.PolicyPcr session bank pcrs)) v) session bank pcrs s (λ _. t) (λ _ _ _ _ _. same_tied s _ v refl refl refl t)
goes (command.PolicyOr session list) s v h t = by_policy_or (Goes (Other (command.PolicyOr session list)) v) session list s (λ _. t) (λ _ _ _. same_tied s _ v refl refl refl t)
goes (command.PolicyAuthorizeNv session index) s v h t =
    by_policy_authorize_nv (Goes (Other (command.PolicyAuthorizeNv session index)) v) session index s (λ _. t) (λ _ _ _ _ _ _ _. same_tied s _ v refl refl refl t)
goes (command.PolicyGetDigest session) s v h t = by_policy_get_digest (Goes (Other (command.PolicyGetDigest session)) v) session s (nothing (command.PolicyGetDigest session) s v refl t)
goes (command.FlushSession session) s v h t = by_flush_session (Goes (Other (command.FlushSession session)) v) session s (λ _. t) (same_tied s _ v refl refl refl t)
goes (command.NvDefine public) s v h t = by_nv_define (Goes (Other (command.NvDefine public)) v) public s (λ _. t) (λ _. same_tied s _ v refl refl refl t)
goes (command.NvUndefine index) s v h t =
    by_nv_undefine (Goes (Other (command.NvUndefine index)) v) index s (λ _. t) (λ _ _. tied_undefined _ v index (same_tied s _ v refl refl refl t))
goes (command.NvWrite index pin value) s v h t =
    by_nv_write (Goes (Other (command.NvWrite index pin value)) v) index pin value s (λ _. t)
    (λ x e _ _. tied_strange _ v pin (written_strings index pin s v x e h) (same_tied s _ v refl refl refl t))
goes (command.NvRead index) s v h t = by_nv_read (Goes (Other (command.NvRead index)) v) index s (nothing (command.NvRead index) s v refl t)
goes (command.NvReadPublic index) s v h t = by_nv_read_public (Goes (Other (command.NvReadPublic index)) v) index s (nothing (command.NvReadPublic index) s v refl t)
goes (command.Seal policy secret) s v h t =
    by_seal (Goes (Other (command.Seal policy secret)) v) policy secret s (λ _. t) (tied_object s v (record { handle = object_handle s.next_object; policy = policy; secret = secret }) t)
goes (command.Evict handle) s v h t = by_evict (Goes (Other (command.Evict handle)) v) handle s (λ _. t) (tied_evicted s v handle t)
goes (command.Unseal session handle) s v h t =
    by_unseal (Goes (Other (command.Unseal session handle)) v) session handle s (λ _. t) (λ _ _ _ _ _ _. t)

-- the world after a command of anyone is tied to the state that it leaves
pub tied_after_command : (c : Command) (s : Parts) (w : World) → Tied s w → Tied (respond c s).1 (world_after (Other c) s w)
tied_after_command c s w t = goes c s (hashed_world (command_strings c s) w) (all_hashed w (command_strings c s)) (tied_hashed s w (command_strings c s) t)

-- and so after commands that come one after the other
pub tied_after_commands : (commands : List Command) (s : Parts) (w : World) → Tied s w → Tied (state_after commands s) (world_after_all (map Other commands) s w)
tied_after_commands [] s w t = t
tied_after_commands (c ∷ commands) s w t = tied_after_commands commands (respond c s).1 (world_after (Other c) s w) (tied_after_command c s w t)

-- the objects of the state that is left are in order
abbrev pub IsOrdered : Response × Parts → Type 0
IsOrdered r = keeps_object_order r.1 ≡ true

order_pushed : (policy secret : List ℕ) (s : Parts) → keeps_object_order s ≡ true
    → keeps_object_order (record s { next_object = s.next_object + 1; objects = s.objects ++ record { handle = object_handle s.next_object; policy = policy; secret = secret } ∷ [] }) ≡ true
order_pushed policy secret s order =
    let x : Object = record { handle = object_handle s.next_object; policy = policy; secret = secret } in
    let next : object_handle s.next_object + 1 ≡ 0x81000000 + (s.next_object + 1) = omega arith in
    subst (λ ns. are_handles 0x81000000 (0x81000000 + (s.next_object + 1)) ns ≡ true) (sym (map-append (λ (y : Object). y.handle) s.objects (x ∷ [])))
    (subst (λ n. are_handles 0x81000000 n (map (λ (y : Object). y.handle) s.objects ++ object_handle s.next_object ∷ []) ≡ true) next
    (handles_push 0x81000000 (object_handle s.next_object) (map (λ (y : Object). y.handle) s.objects) (omega arith) order))

order_removed : (s : Parts) (place : ℕ) → keeps_object_order s ≡ true → keeps_object_order (record s { objects = remove s.objects place }) ≡ true
order_removed s place order =
    subst (λ ns. are_handles 0x81000000 (0x81000000 + s.next_object) ns ≡ true) (sym (map-remove (λ (x : Object). x.handle) s.objects place))
    (handles_remove 0x81000000 (0x81000000 + s.next_object) (map (λ (x : Object). x.handle) s.objects) place order)

-- every command keeps the order of objects
pub order_after_command : (c : Command) (s : Parts) → keeps_object_order s ≡ true → keeps_object_order (respond c s).1 ≡ true
order_after_command (command.Restart locality banks) s o = by_restart IsOrdered locality banks s (λ _. o) o
order_after_command (command.PcrExtend pcr digests) s o = by_pcr_extend IsOrdered pcr digests s (λ _. o) o
order_after_command (command.PcrRead bank pcr) s o = by_pcr_read IsOrdered bank pcr s (λ _. o)
order_after_command (command.StartSession hash) s o = by_start_session IsOrdered hash s (λ _. o) (λ _. o)
order_after_command (command.PolicyPcr session bank pcrs) s o = by_policy_pcr IsOrdered session bank pcrs s (λ _. o) (λ _ _ _ _ _. o)
order_after_command (command.PolicyOr session list) s o = by_policy_or IsOrdered session list s (λ _. o) (λ _ _ _. o)
order_after_command (command.PolicyAuthorizeNv session index) s o = by_policy_authorize_nv IsOrdered session index s (λ _. o) (λ _ _ _ _ _ _ _. o)
order_after_command (command.PolicyGetDigest session) s o = by_policy_get_digest IsOrdered session s (λ _. o)
order_after_command (command.FlushSession session) s o = by_flush_session IsOrdered session s (λ _. o) o
order_after_command (command.NvDefine public) s o = by_nv_define IsOrdered public s (λ _. o) (λ _. o)
order_after_command (command.NvUndefine index) s o = by_nv_undefine IsOrdered index s (λ _. o) (λ _ _. o)
order_after_command (command.NvWrite index pin value) s o = by_nv_write IsOrdered index pin value s (λ _. o) (λ _ _ _ _. o)
order_after_command (command.NvRead index) s o = by_nv_read IsOrdered index s (λ _. o)
order_after_command (command.NvReadPublic index) s o = by_nv_read_public IsOrdered index s (λ _. o)
order_after_command (command.Seal policy secret) s o = by_seal IsOrdered policy secret s (λ _. o) (order_pushed policy secret s o)
order_after_command (command.Evict handle) s o = by_evict IsOrdered handle s (λ _. o) (order_removed s (object_place handle s.objects) o)
order_after_command (command.Unseal session handle) s o = by_unseal IsOrdered session handle s (λ _. o) (λ _ _ _ _ _ _. o)
