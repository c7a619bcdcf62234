-- A component file that is read has at most 256 records, and a refusal is that of the definition.
use Rattle.std.proofs.Common.{◌≡◌, ℕ, ◌+◌, ◌≤◌, Bool, true, false, cond, eqb, List, [], ◌∷◌, map, length, Result, Ok, Err, refl, subst, inl, inr, arith}
use Rattle.std.proofs.lemmas.Bool.{true≢false, eqb-false}
use Rattle.std.proofs.lemmas.List.{length-map}
use Rattle.std.specs.Option.{ok_or}
use Rattle.serde_json.specs.Data.{Items, no_items, item}
use Rattle.cel_record.specs.declared.error.RecordsError.{RecordsError}
use Rattle.cel_record.specs.declared.error.RecordsError.TheVariants as records
use Rattle.cel_record.specs.declared.record.CelRecord.{CelRecord}
use Rattle.cel_record.specs.Answers.{Refuses as RefusesRecords}
use Rattle.cel_record.specs.ComponentText.{component_of, values_of, records_from, numbered}
use Rattle.cel_record.specs.JsonValue.{json_of}
use Rattle.cel_record.specs.RecordText.{record_of}
use Rattle.cel_record.specs.Step.{◌>>=◌}
use Rattle.cel_record.specs.Spelled.{Spelled, spelled}
use Rattle.component_tree.specs.declared.error.TreeError.{TreeError}
use Rattle.component_tree.specs.declared.error.TreeError.TheVariants as errors
use Rattle.component_tree.specs.Reading.{refusal_of, some_records, records_of, IsRefusalOr}
use Rattle.component_tree.specs.Step.{Refuses}

-- ---- how many records there are

bind_ok : {A B : Type 0} (r : Result A RecordsError) (f : A → Result B RecordsError) (y : B) → (r >>= f) ≡ Ok y → (x : A) × (r ≡ Ok x) × (f x ≡ Ok y)
bind_ok (Ok x) f y e = (x, refl, e)
bind_ok (Err d) f y e = absurd cc

guard_ok : {A : Type 0} (b : Bool) (d : RecordsError) (r : Result A RecordsError) (y : A) → cond b (Err d) r ≡ Ok y → (b ≡ false) × (r ≡ Ok y)
guard_ok true d r y e = absurd cc
guard_ok false d r y e = (refl, e)

few_from : (n : ℕ) (ds : Items) (rs : List Spelled) → n ≤ 256 → records_from n ds ≡ Ok rs → n + length rs ≤ 256
few_from n no_items rs le e = let is : [] ≡ rs = cc in subst (λ (xs : List Spelled). n + length xs ≤ 256) is (omega arith)
few_from n (item d ds) rs le e =
    let g = guard_ok (eqb n 256) records.TooMany (numbered n (record_of d) >>= λ r. records_from (n + 1) ds >>= λ xs. Ok (r ∷ xs)) rs e in
    let a = bind_ok (numbered n (record_of d)) (λ r. records_from (n + 1) ds >>= λ xs. Ok (r ∷ xs)) rs g.1 in
    let b = bind_ok (records_from (n + 1) ds) (λ xs. Ok (a.0 ∷ xs)) rs a.2 in
    let off : n ≡ 256 → ⊥ = eqb-false n 256 g.0 in
    let more : (n + 1) + length b.0 ≤ 256 = few_from (n + 1) ds b.0 (omega arith) b.1 in
    let last : Result (List Spelled) RecordsError = Ok (a.0 ∷ b.0) in
    let same : last ≡ Ok rs = b.2 in
    let is : a.0 ∷ b.0 ≡ rs = cc in
    subst (λ (xs : List Spelled). n + length xs ≤ 256) is (omega arith)

pub few_records : (bytes : List ℕ) (rs : List Spelled) → component_of bytes ≡ Ok rs → length rs ≤ 256
few_records bytes rs e =
    let a = bind_ok (ok_or (json_of bytes) records.NotJson) (λ value. values_of value >>= λ values. records_from 0 values) rs e in
    let b = bind_ok (values_of a.0) (λ values. records_from 0 values) rs a.2 in
    let few : 0 + length rs ≤ 256 = few_from 0 b.0 rs (omega arith) b.2 in
    omega arith

pub few_read : (bytes : List ℕ) (l : List CelRecord) → component_of bytes ≡ Ok (map spelled l) → length l ≤ 256
few_read bytes l e = omega (arith, few_records bytes (map spelled l) e, length-map l spelled)

-- ---- which refusal it is

pub refused : (path : List ℕ) (e : RecordsError) (refusal : TreeError) (given : Result (List Spelled) RecordsError)
    → RefusesRecords e given → IsRefusalOr errors.Memory (refusal_of path e) refusal → Refuses refusal (some_records path given)
refused path records.Memory refusal given cause (inl is) = rw is tt
refused path records.Memory refusal given cause (inr is) = rw is tt
refused path records.NotJson refusal given cause (inl is) = rw (is, cause) refl
refused path records.NotJson refusal given cause (inr is) = rw is tt
refused path records.NotRecords refusal given cause (inl is) = rw (is, cause) refl
refused path records.NotRecords refusal given cause (inr is) = rw is tt
refused path (records.BadRecord n kind) refusal given cause (inl is) = rw (is, cause) refl
refused path (records.BadRecord n kind) refusal given cause (inr is) = rw is tt
refused path records.TooMany refusal given cause (inl is) = rw (is, cause) refl
refused path records.TooMany refusal given cause (inr is) = rw is tt

-- bytes that aren't none
pub records_of_some : (path bytes : List ℕ) → eqb (length bytes) 0 ≡ false → records_of path bytes ≡ some_records path (component_of bytes)
records_of_some path [] some = absurd (true≢false some)
records_of_some path (b ∷ bytes) some = refl

pub refused_bytes : (path bytes : List ℕ) (e : RecordsError) (refusal : TreeError) → eqb (length bytes) 0 ≡ false
    → RefusesRecords e (component_of bytes) → IsRefusalOr errors.Memory (refusal_of path e) refusal → Refuses refusal (records_of path bytes)
refused_bytes path bytes e refusal some cause is = rw (records_of_some path bytes some) (refused path e refusal (component_of bytes) cause is)
