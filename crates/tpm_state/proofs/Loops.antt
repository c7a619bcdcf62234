-- Loops that read items, up to the first that is at fault.
use Rattle.std.proofs.Common.{◌≡◌, ℕ, ◌-◌, ◌<◌, List, Result, Err}
use Rattle.pl_layout.specs.Reading.{repeat_at}
use Rattle.pl_layout.proofs.Loops.{fall}
use Rattle.tpm_state.specs.declared.error.DecodeError.{DecodeError}
use Rattle.tpm_state.specs.declared.error.DecodeError.TheVariants.{Malformed, BadRule, Memory}
use Rattle.tpm_state.specs.Field.{Fails}

-- the fault of an item is that of all
pub end : {A : Type 0} (e : DecodeError) (item : List A → List ℕ → Result (A × List ℕ) DecodeError) (count i : ℕ) (before : List A) (bytes : List ℕ) (total : Result (List A × List ℕ) DecodeError) → i < count
    → repeat_at item (count - i) before bytes ≡ total → Fails e (item before bytes) → Fails e total
end Memory item count i before bytes total lt so_far h = tt
end (BadRule rule) item count i before bytes total lt so_far h = fall item count i before bytes (BadRule rule) total lt so_far h
end (Malformed place) item count i before bytes total lt so_far h = fall item count i before bytes (Malformed place) total lt so_far h

-- a fault is told where reading has it
pub told : {A : Type 0} (e : DecodeError) (read : Result A DecodeError) → read ≡ Err e → Fails e read
told Memory read h = tt
told (BadRule rule) read h = h
told (Malformed place) read h = h
