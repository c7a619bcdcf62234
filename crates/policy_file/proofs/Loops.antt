-- Loops that read items, up to the first that is at fault.
use Rattle.std.proofs.Common.{◌≡◌, ℕ, ◌-◌, ◌<◌, List}
use Rattle.std.specs.Prelude.{Result, Err}
use Rattle.pl_layout.specs.Reading.{repeat_at}
use Rattle.pl_layout.proofs.Loops.{fall}
use Rattle.policy_file.specs.declared.error.FileError.{FileError}
use Rattle.policy_file.specs.declared.error.FileError.TheVariants.{Malformed, Memory}
use Rattle.policy_file.specs.PolicyReading.{Fails}

-- the fault of an item is that of all
pub end : {A : Type 0} (e : FileError) (item : List A → List ℕ → Result (A × List ℕ) FileError) (count i : ℕ) (before : List A) (bytes : List ℕ) (total : Result (List A × List ℕ) FileError) → i < count
    → repeat_at item (count - i) before bytes ≡ total → Fails e (item before bytes) → Fails e total
end Memory item count i before bytes total lt so_far f = tt
end (Malformed place kind) item count i before bytes total lt so_far f = fall item count i before bytes (Malformed place kind) total lt so_far f

-- a fault is told where reading has it
pub told : {A : Type 0} (e : FileError) (read : Result A FileError) → read ≡ Err e → Fails e read
told Memory read f = tt
told (Malformed place kind) read f = f
