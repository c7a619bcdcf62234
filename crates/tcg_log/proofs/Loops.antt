-- Loops that read items, up to the first that is at fault, and one step of that over records.
use Rattle.std.proofs.Common.{◌≡◌, ℕ, zero, suc, ◌-◌, ◌+◌, ◌≤◌, ◌<◌, true, false, eqb, length, List, [], ◌∷◌, ◌++◌, Result, Ok, Err, refl, sym, ◌∙◌, arith}
use Rattle.std.proofs.lemmas.Bool.{eqb-true}
use Rattle.std.proofs.lemmas.List.{nil_from_length}
use Rattle.pl_layout.specs.Reading.{◌>>=◌, repeat_at}
use Rattle.pl_layout.proofs.Steps.{bind_err}
use Rattle.pl_layout.proofs.Loops.{fall}
use Rattle.tcg_log.specs.declared.error.LogError.{LogError}
use Rattle.tcg_log.specs.declared.error.LogError.TheVariants.{Malformed, TooMany, Memory}
use Rattle.tcg_log.specs.declared.record.FirmwareRecord.{FirmwareRecord}
use Rattle.tcg_log.specs.declared.spec_id.Algorithm.{Algorithm}
use Rattle.tcg_log.specs.Reading.{Fails, record_at, records_at}

-- ---- items so many

-- the fault of an item is that of all
pub end : {A : Type 0} (e : LogError) (item : List A → List ℕ → Result (A × List ℕ) LogError) (count i : ℕ) (before : List A) (bytes : List ℕ) (total : Result (List A × List ℕ) LogError) → i < count
    → repeat_at item (count - i) before bytes ≡ total → Fails e (item before bytes) → Fails e total
end Memory item count i before bytes total lt so_far h = tt
end TooMany item count i before bytes total lt so_far h = fall item count i before bytes TooMany total lt so_far h
end (Malformed place kind) item count i before bytes total lt so_far h = fall item count i before bytes (Malformed place kind) total lt so_far h

-- ---- records to the end of the bytes

records_of_nothing : (all : ℕ) (algorithms : List Algorithm) (more : ℕ) (before : List FirmwareRecord) → records_at all algorithms more before [] ≡ Ok before
unfolding records_at
records_of_nothing all algorithms zero before = refl
records_of_nothing all algorithms (suc more) before = refl

-- the end of the bytes is the end of the records
pub records_done : (all : ℕ) (algorithms : List Algorithm) (more : ℕ) (before : List FirmwareRecord) (bytes : List ℕ) (total : Result (List FirmwareRecord) LogError) → eqb (length bytes) 0 ≡ true
    → records_at all algorithms more before bytes ≡ total → total ≡ Ok before
records_done all algorithms more before bytes total empty so_far =
    let nothing : bytes ≡ [] = nil_from_length bytes (eqb-true _ _ empty) in
    sym so_far ∙ rw nothing (records_of_nothing all algorithms more before)

too_many_of : (all : ℕ) (algorithms : List Algorithm) (before : List FirmwareRecord) (bytes : List ℕ) → eqb (length bytes) 0 ≡ false → records_at all algorithms zero before bytes ≡ Err TooMany
unfolding records_at
too_many_of all algorithms before [] more = absurd cc
too_many_of all algorithms before (b ∷ bytes) more = refl

-- bytes behind the last record that there may be
pub records_too_many : (all : ℕ) (algorithms : List Algorithm) (limit i : ℕ) (before : List FirmwareRecord) (bytes : List ℕ) (total : Result (List FirmwareRecord) LogError) → limit ≤ i → eqb (length bytes) 0 ≡ false
    → records_at all algorithms (limit - i) before bytes ≡ total → total ≡ Err TooMany
records_too_many all algorithms limit i before bytes total le more so_far =
    let k : limit - i ≡ 0 = omega arith in
    sym so_far ∙ rw k (too_many_of all algorithms before bytes more)

step_of : (all : ℕ) (algorithms : List Algorithm) (n : ℕ) (before : List FirmwareRecord) (bytes : List ℕ) → eqb (length bytes) 0 ≡ false
    → records_at all algorithms (suc n) before bytes ≡ (record_at all algorithms bytes >>= λ r. records_at all algorithms n (before ++ r.0 ∷ []) r.1)
unfolding records_at
step_of all algorithms n before [] more = absurd cc
step_of all algorithms n before (b ∷ bytes) more = refl

records_step : (all : ℕ) (algorithms : List Algorithm) (limit i : ℕ) (before : List FirmwareRecord) (bytes : List ℕ) → i < limit → eqb (length bytes) 0 ≡ false
    → records_at all algorithms (limit - i) before bytes ≡ (record_at all algorithms bytes >>= λ r. records_at all algorithms (limit - (i + 1)) (before ++ r.0 ∷ []) r.1)
records_step all algorithms limit i before bytes lt more =
    let k : limit - i ≡ suc (limit - (i + 1)) = omega arith in
    rw k (step_of all algorithms (limit - (i + 1)) before bytes more)

pub records_go_on : (all : ℕ) (algorithms : List Algorithm) (limit i : ℕ) (before : List FirmwareRecord) (bytes : List ℕ) (r : FirmwareRecord) (after : List ℕ) (total : Result (List FirmwareRecord) LogError) → i < limit → eqb (length bytes) 0 ≡ false
    → records_at all algorithms (limit - i) before bytes ≡ total → record_at all algorithms bytes ≡ Ok (r, after) → records_at all algorithms (limit - (i + 1)) (before ++ r ∷ []) after ≡ total
records_go_on all algorithms limit i before bytes r after total lt more so_far h =
    let one : records_at all algorithms (limit - i) before bytes ≡ records_at all algorithms (limit - (i + 1)) (before ++ r ∷ []) after = records_step all algorithms limit i before bytes lt more ∙ rw h refl in
    sym one ∙ so_far

pub records_end : (e : LogError) (all : ℕ) (algorithms : List Algorithm) (limit i : ℕ) (before : List FirmwareRecord) (bytes : List ℕ) (total : Result (List FirmwareRecord) LogError) → i < limit → eqb (length bytes) 0 ≡ false
    → records_at all algorithms (limit - i) before bytes ≡ total → Fails e (record_at all algorithms bytes) → Fails e total
records_end Memory all algorithms limit i before bytes total lt more so_far h = tt
records_end TooMany all algorithms limit i before bytes total lt more so_far h = sym so_far ∙ records_step all algorithms limit i before bytes lt more ∙ bind_err _ TooMany h
records_end (Malformed place kind) all algorithms limit i before bytes total lt more so_far h = sym so_far ∙ records_step all algorithms limit i before bytes lt more ∙ bind_err _ (Malformed place kind) h
