-- A client's sessions are flushed one after the other.
use Rattle.std.proofs.Common.{◌≡◌, ◌⊎◌, inl, inr, ℕ, zero, suc, ◌+◌, ◌<◌, Bool, List, [], ◌∷◌, length, take, drop, refl, ap, ◌∙◌, subst, add-one, arith}
use Rattle.std.specs.Prelude.{Option, None, Some, Ok, Err, slice_get}
use Rattle.std.specs.Option.{option_map}
use Rattle.tpm_model.specs.declared.command.Command.{Command}
use Rattle.tpm_model.specs.declared.command.Command.TheVariants.{FlushSession}
use Rattle.tpm_model.specs.Respond.{respond}
use Rattle.tpm_model.specs.declared.parts.Parts.{Parts}
use Rattle.tpm_device.specs.Stored.{ExecuteGives, ExecuteStores, Holds, Stored}
use Rattle.tpm_device.specs.declared.device.ExecError.{ExecError}
use Rattle.tpm_device.specs.declared.device.ExecError.TheVariants.{Failed, Memory}
use Rattle.tpm_broker.specs.declared.rows.Handles.{Handles}
use Rattle.tpm_broker.specs.Clients.{Client, without_first}
use Rattle.tpm_broker.specs.Leaving.{FlushGives, FlushStores, LeaveGives, LeaveStores, after_flushes}

pub not_flushed : (o : Option Handles) (c : Command) (s : Parts) (stop : ExecError) (ready : Bool) (live : Option Parts) → ExecuteGives c s (Err stop) ready live → FlushGives o s (Err stop) live
not_flushed None c s stop ready live h = tt
not_flushed (Some handles) c s Failed ready live h = tt
not_flushed (Some handles) c s Memory ready live h = h.0

one_more : (xs : List Handles) (n : ℕ) (s : Parts) (live : Option Parts) → n < length xs → FlushGives (slice_get (drop n xs) 0) (after_flushes (take n xs) s) (Ok tt) live → live ≡ Some (after_flushes (take (suc n) xs) s)
one_more [] n s live within h = absurd (omega arith)
one_more (x ∷ xs) zero s live within h = h
one_more (x ∷ xs) (suc n) s live within h = one_more xs n _ live (omega arith) h

pub next_flushed : (xs : List Handles) (n : ℕ) (s t : Parts) (live : Option Parts) → n < length xs → t ≡ after_flushes (take n xs) s → FlushGives (slice_get (drop n xs) 0) t (Ok tt) live → live ≡ Some (after_flushes (take (n + 1) xs) s)
next_flushed xs n s t live within so_far h = rw add-one (one_more xs n s live within (subst (λ u. FlushGives (slice_get (drop n xs) 0) u (Ok tt) live) so_far h))

stopped_at : (xs : List Handles) (n : ℕ) (s : Parts) (t : Parts) (stop : ExecError) (live : Option Parts) → n < length xs → FlushGives (slice_get (drop n xs) 0) t (Err stop) live → t ≡ s → LeaveGives [] 0 s (Err stop) live
stopped_at [] n s t stop live within h e = absurd (omega arith)
stopped_at (x ∷ xs) zero s t Failed live within h e = tt
stopped_at (x ∷ xs) zero s t Memory live within h e = h ∙ ap Some e
stopped_at (x ∷ xs) (suc n) s t stop live within h e = stopped_at xs n s t stop live (omega arith) h e

pub part_flushed : (xs : List Handles) (n : ℕ) (s t : Parts) (stop : ExecError) (live : Option Parts) → n < length xs → t ≡ after_flushes (take n xs) s → FlushGives (slice_get (drop n xs) 0) t (Err stop) live → LeaveGives xs n s (Err stop) live
part_flushed xs n s t Failed live within so_far h = tt
part_flushed xs n s t Memory live within so_far h = stopped_at xs n (after_flushes (take n xs) s) t Memory live within h so_far

dropped : (xs : List Handles) (n : ℕ) → drop 1 (drop n xs) ≡ drop (suc n) xs
dropped xs zero = refl
dropped [] (suc n) = refl
dropped (x ∷ xs) (suc n) = dropped xs n

pub one_less : (n : ℕ) (before was now : Client) → was ≡ without_first n before → now ≡ without_first 1 was → now ≡ without_first (n + 1) before
one_less n before was now e f =
    f ∙ ap (without_first 1) e ∙ ap (λ (xs : List Handles). let c : Client = record { had = before.had; sessions = xs } in c) (rw add-one (dropped before.sessions n))

-- what is stored
stored_more : (xs : List Handles) (n : ℕ) (s : Parts) (stored : Option Stored) → n < length xs → FlushStores (slice_get (drop n xs) 0) (after_flushes (take n xs) s) (Ok tt) stored
    → stored ≡ Some (Holds (after_flushes (take (suc n) xs) s))
stored_more [] n s stored within h = absurd (omega arith)
stored_more (x ∷ xs) zero s stored within h = h
stored_more (x ∷ xs) (suc n) s stored within h = stored_more xs n _ stored (omega arith) h

pub next_stored : (xs : List Handles) (n : ℕ) (s t : Parts) (stored : Option Stored) → n < length xs → t ≡ after_flushes (take n xs) s → FlushStores (slice_get (drop n xs) 0) t (Ok tt) stored
    → stored ≡ Some (Holds (after_flushes (take (n + 1) xs) s))
next_stored xs n s t stored within so_far h = rw add-one (stored_more xs n s stored within (subst (λ u. FlushStores (slice_get (drop n xs) 0) u (Ok tt) stored) so_far h))

-- one of two states
one_of : (xs : List Handles) (n : ℕ) (s : Parts) (stored : Option Stored) → n < length xs → FlushStores (slice_get (drop n xs) 0) (after_flushes (take n xs) s) (Err Failed) stored
    → (stored ≡ Some (Holds (after_flushes (take n xs) s))) ⊎ (stored ≡ Some (Holds (after_flushes (take (suc n) xs) s)))
one_of [] n s stored within h = absurd (omega arith)
one_of (x ∷ xs) zero s stored within h = h
one_of (x ∷ xs) (suc n) s stored within h = one_of xs n _ stored (omega arith) h

none_flushed : (xs : List Handles) (n : ℕ) (s : Parts) (stored : Option Stored) → n < length xs → FlushStores (slice_get (drop n xs) 0) (after_flushes (take n xs) s) (Err Memory) stored
    → stored ≡ Some (Holds (after_flushes (take n xs) s))
none_flushed [] n s stored within h = absurd (omega arith)
none_flushed (x ∷ xs) zero s stored within h = h
none_flushed (x ∷ xs) (suc n) s stored within h = none_flushed xs n _ stored (omega arith) h

pub part_stored : (xs : List Handles) (n : ℕ) (s t : Parts) (stop : ExecError) (stored : Option Stored) → n < length xs → t ≡ after_flushes (take n xs) s
    → FlushStores (slice_get (drop n xs) 0) t (Err stop) stored → LeaveStores xs s (Err stop) stored
part_stored xs n s t Failed stored within so_far h =
    elim (one_of xs n s stored within (subst (λ u. FlushStores (slice_get (drop n xs) 0) u (Err Failed) stored) so_far h)) [
      | inl before ↦ (n, omega arith, before)
      | inr after ↦ (suc n, omega arith, after)
    ]
part_stored xs n s t Memory stored within so_far h =
    (n, omega arith, none_flushed xs n s stored within (subst (λ u. FlushStores (slice_get (drop n xs) 0) u (Err Memory) stored) so_far h))

pub not_stored : (o : Option Handles) (session : ℕ) (s : Parts) (stop : ExecError) (stored : Option Stored) → option_map (λ (handles : Handles). handles.tpm) o ≡ Some session
    → ExecuteStores (FlushSession session) s (Err stop) stored → FlushStores o s (Err stop) stored
not_stored None session s stop stored e h = tt
not_stored (Some handles) session s Failed stored e (inl before) = inl before
not_stored (Some handles) session s Failed stored e (inr after) = let same : session ≡ handles.tpm = cc in inr (after ∙ ap (λ n. Some (Holds (respond (FlushSession n) s).1)) same)
not_stored (Some handles) session s Memory stored e h = h
