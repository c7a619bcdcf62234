-- What the TPM and the files answer while a policy is taken away.
use Rattle.std.proofs.Common.{◌≡◌, ◌⊎◌, ℕ, List, inl, inr, refl, sym, ap, subst, ◌∙◌}
use Rattle.std.specs.Prelude.{Option, None, Some, Result, Ok, Err, IfOk, IfErr}
use Rattle.pl_base.specs.FileMap.{FileMap}
use Rattle.nv_index.specs.declared.index.Index.{Index}
use Rattle.nv_index.specs.Table.{index_at, public_of}
use Rattle.policy_file.specs.declared.policy.Policy.{Policy}
use Rattle.tpm_model.specs.declared.parts.Parts.{Parts}
use Rattle.tpm_model.specs.IndexCommands.{nv_read_public, public_answer}
use Rattle.tpm_device.specs.Stored.{Stored, Holds}
use Rattle.pcrlock_answer.specs.declared.answer.Answer.{Answer}
use Rattle.pcrlock_line.specs.declared.reply.Reply.{Reply}
use Rattle.pcrlock_line.specs.Machine.{Machine, Live, machine}
use Rattle.pcrlock_line.specs.Outcome.{Gives}
use Rattle.pcrlock_line.specs.Running.{Keeps, Runs}
use Rattle.pcrlock_line.specs.declared.stop.Stop.{Stop}
use Rattle.pcrlock_line.specs.Stopped.{StandsAt, StandsAmong}
use Rattle.pcrlock_line.proofs.Standing.{holds_same}
use Rattle.pcrlock_deeds.specs.PolicyAt.{policy_of}
use Rattle.pcrlock_update.specs.RemovePolicy.{has_policy, shows_policy, without_index, without_pin, removed_line, removal_line, removal_of, remove_policy_line}

-- the answer shows the policy's digest exactly where the index has it
shown_of : (digest : List ℕ) (o : Option Index) (handle : ℕ) (s : Parts) → shows_policy digest (public_answer (public_of o) handle s).0 ≡ has_policy digest o
shown_of digest None handle s = refl
shown_of digest (Some index) handle s = refl

pub shown : (digest : List ℕ) (handle : ℕ) (s : Parts) → shows_policy digest (nv_read_public handle s).0 ≡ has_policy digest (index_at handle s.indices)
shown digest handle s = shown_of digest (index_at handle s.indices) handle s

-- reading leaves the state
kept_of : (o : Option Index) (handle : ℕ) (s : Parts) → (public_answer (public_of o) handle s).1 ≡ s
kept_of None handle s = refl
kept_of (Some index) handle s = refl

pub read_keeps : (handle : ℕ) (s : Parts) → (nv_read_public handle s).1 ≡ s
read_keeps handle s = kept_of (index_at handle s.indices) handle s

-- after a stop of a command on the TPM the state before is stored, or the next one
pub either : (now : Option Stored) (s t : Parts) → (now ≡ Some (Holds s)) ⊎ (now ≡ Some (Holds t)) → Keeps now s ⊎ Keeps now t
either now s t (inl same) = inl (record { stored = same })
either now s t (inr next) = inr (record { stored = next })

-- the state that a device runs on with is stored
pub keeps_on : {A : Type 0} (result : Result A Stop) (now : Option Parts) (kept : Option Stored) (s : Parts) → IfOk result (λ _. Runs now kept s) → IfOk result (λ _. Keeps kept s)
keeps_on (Ok x) now kept s h = record { stored = h.stored }
keeps_on (Err stop) now kept s h = tt

-- a stop of what comes later
pub stops_later : {A : Type 0} (P Q : Type 0) (result : Result A Stop) → IfErr result (λ _. Q) → IfErr result (λ _. P ⊎ Q)
stops_later P Q (Ok x) h = tt
stops_later P Q (Err stop) h = inr h

-- after a stop of a reading the state is stored
pub read_stopped : (now : Option Stored) (handle : ℕ) (s : Parts) → (now ≡ Some (Holds s)) ⊎ (now ≡ Some (Holds (nv_read_public handle s).1)) → Keeps now s
read_stopped now handle s (inl same) = record { stored = same }
read_stopped now handle s (inr next) = record { stored = next ∙ ap (λ x. Some (Holds x)) (read_keeps handle s) }

-- files and a state that are told
pub standing : (held : Option FileMap) (stored : Option Stored) (files : FileMap) (s : Parts) (draws : List (List ℕ)) → held ≡ Some files → Keeps stored s
    → StandsAt held stored (machine (record { files = files; state = s; draws = draws }))
standing held stored files s draws e k = record { files = e; device = Holds s; tells = k.stored; same = holds_same s }

-- a stop before the file is removed
pub not_stored : (held : Option FileMap) (stored : Option Stored) (path : List ℕ) (policy : Policy) (m : Live) → held ≡ Some m.files
    → Keeps stored m.state ⊎ (Keeps stored (without_index policy m.state) ⊎ Keeps stored (without_pin policy (without_index policy m.state)))
    → StandsAmong held stored (removed_line path policy m).stops
not_stored held stored path policy m e (inl k) = inl (standing held stored m.files m.state m.draws e k)
not_stored held stored path policy m e (inr (inl k)) = inr (inl (standing held stored m.files (without_index policy m.state) m.draws e k))
not_stored held stored path policy m e (inr (inr k)) = inr (inr (inl (standing held stored m.files (without_pin policy (without_index policy m.state)) m.draws e k)))

-- the outcome where a policy was read
pub told_read : (held : Option FileMap) (stored : Option Stored) (words : Option (List (List ℕ))) (state path : List ℕ) (policy : Policy) (m : Machine) (reply : Reply)
    → policy_of m.files path ≡ Ok (Some policy) → Gives held stored words reply (removal_line state path policy m)
    → Gives held stored words reply (remove_policy_line state path m)
told_read held stored words state path policy m reply e h =
    subst (λ (x : Result (Option Policy) Answer). Gives held stored words reply (removal_of state path x m)) (sym e) h

pub stops_read : (held : Option FileMap) (stored : Option Stored) (state path : List ℕ) (policy : Policy) (m : Machine)
    → policy_of m.files path ≡ Ok (Some policy) → StandsAmong held stored (removal_line state path policy m).stops
    → StandsAmong held stored (remove_policy_line state path m).stops
stops_read held stored state path policy m e h =
    subst (λ (x : Result (Option Policy) Answer). StandsAmong held stored (removal_of state path x m).stops) (sym e) h
