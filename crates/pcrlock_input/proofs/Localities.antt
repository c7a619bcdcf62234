-- A firmware announces one of three localities.
use Rattle.std.proofs.Common.{◌≡◌, ◌⊎◌, ℕ, Bool, true, false, cond, ◌&&◌, ◌||◌, ◌==◌, List, [], ◌∷◌, inl, inr, refl, slice_index}
use Rattle.std.specs.Prelude.{Option, None, Some, IfSome}
use Rattle.std.specs.List.{cons_option, filter_map}
use Rattle.std.proofs.lemmas.Bool.{and_parts, eqb-true}
use Rattle.tcg_log.specs.Locality.{announced, is_startup, announcement}
use Rattle.tcg_log.specs.declared.log.FirmwareLog.{FirmwareLog}
use Rattle.tcg_log.specs.declared.record.FirmwareRecord.{FirmwareRecord}
use Rattle.pcrlock_input.specs.Logs.{IsLocality, locality_in}

by_tests : (x : ℕ) (a b c : Bool) → (x == 0) ≡ a → (x == 3) ≡ b → (x == 4) ≡ c → (a || (b || c)) ≡ true → IsLocality x
by_tests x true b c is0 is3 is4 h = inl (eqb-true x 0 is0)
by_tests x false true c is0 is3 is4 h = inr (inl (eqb-true x 3 is3))
by_tests x false false true is0 is3 is4 h = inr (inr (eqb-true x 4 is4))
by_tests x false false false is0 is3 is4 h = absurd (cc h)

of_event : (event : List ℕ) → is_startup event ≡ true → IsLocality (slice_index event 16)
of_event event h =
    let parts = and_parts _ _ h in
    let more = and_parts _ _ parts.1 in
    by_tests (slice_index event 16) _ _ _ refl refl refl more.1

-- what is announced where a test says so
if_tested : (test : Bool) (x : ℕ) → (test ≡ true → IsLocality x) → IfSome (cond {A = Option ℕ} test (Some x) None) IsLocality
if_tested true x h = h refl
if_tested false x h = tt

of_record : (r : FirmwareRecord) → IfSome (announced r) IsLocality
of_record r = if_tested ((r.kind == 3) && ((r.pcr == 0) && is_startup r.event)) (slice_index r.event 16)
    (λ h. let parts = and_parts _ _ h in let more = and_parts _ _ parts.1 in of_event r.event more.1)

first_of : (o : Option ℕ) (rest : List ℕ) → IfSome o IsLocality → IsLocality (slice_index rest 0) → IsLocality (slice_index (cons_option o rest) 0)
first_of None rest h k = k
first_of (Some x) rest h k = h

of_records : (rs : List FirmwareRecord) → IsLocality (slice_index (filter_map announced rs) 0)
of_records [] = inl refl
of_records (r ∷ rs) = first_of (announced r) (filter_map announced rs) (of_record r) (of_records rs)

pub of_log : (log : Option FirmwareLog) → IsLocality (locality_in log)
of_log None = inl refl
of_log (Some log) = of_records log.records
