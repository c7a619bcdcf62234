-- The log that is read is spelled so, what is spelled so is read, and too many records are those of a longer text.
use Rattle.std.proofs.Common.{◌≡◌, ℕ, zero, suc, ◌<◌, ◌≤◌, Bool, true, false, cond, ltb, leb, eqb, ◌&&◌, not, List, [], ◌∷◌, ◌++◌, length, replicate, Option, Some, None, Result, Ok, Err, refl, sym, ap, subst, ◌∙◌, append_assoc, arith}
use Rattle.std.specs.Prelude.{ok_or, IfOk}
use Rattle.std.specs.List.{flat_map, AllByRecursion, list_all}
use Rattle.std.specs.Int.{Width, w16, w32, to_le_bytes, byte_len}
use Rattle.std.specs.Str.{bytes_eq}
use Rattle.std.proofs.lemmas.Bool.{and_parts}
use Rattle.pl_layout.specs.Reading.{◌>>=◌, bytes_at, little_at, byte_at, repeat_at, counted_at}
use Rattle.pl_layout.proofs.Steps.{bind_ok, bind_eq, ok_is}
use Rattle.tcg_log.specs.declared.error.LogKind.TheVariants.{Algorithms, Count}
use Rattle.tcg_log.specs.declared.error.LogError.{LogError}
use Rattle.tcg_log.specs.declared.error.LogError.TheVariants.{TooMany, Memory, Malformed}
use Rattle.tcg_log.specs.declared.record.Tagged.{Tagged}
use Rattle.tcg_log.specs.declared.record.FirmwareRecord.{FirmwareRecord}
use Rattle.tcg_log.specs.declared.spec_id.Algorithm.{Algorithm}
use Rattle.tcg_log.specs.declared.spec_id.SpecId.{SpecId}
use Rattle.tcg_log.specs.declared.log.FirmwareLog.{FirmwareLog}
use Rattle.tcg_log.specs.Text.{signature, event_size, spec_text, record_text, log_text}
use Rattle.tcg_log.specs.Allowed.{is_named, size_fits, has_pcr, is_record, is_spec, is_log, IsBytes, RecordFits, LogFits, FirmwareText, HoldsMore, IsWritable}
use Rattle.tcg_log.specs.Reading.{Gives, cut, fault, constant_at, head_at, algorithm_at, named_at, vendor_at, class_at, spec_at, tagged_at, digests_at, event_at, record_at, records_at, log_at}
use Rattle.tcg_log.proofs.SpecLaws.{spec_takes, spec_again, size_below}
use Rattle.tcg_log.proofs.RecordLaws.{record_takes, records_take, records_again, records_over}

-- ---- no field is too many

abbrev Never : {A : Type 0} → Result A LogError → Type 0
Never r = r ≡ Err TooMany → ⊥

never_ok : {A : Type 0} (x : A) → Never (Ok x)
never_ok x e = absurd cc

never_malformed : {A : Type 0} (place : ℕ) (kind : _) → Never {A = A} (Err (Malformed place kind))
never_malformed place kind e = absurd cc

never_if : {A : Type 0} (b : Bool) (x y : Result A LogError) → Never x → Never y → Never (cond b x y)
never_if true x y m n = m
never_if false x y m n = n

never_bind : {A B : Type 0} (r : Result A LogError) (f : A → Result B LogError) → Never r → ((x : A) → Never (f x)) → Never (r >>= f)
never_bind (Ok x) f m n e = n x e
never_bind (Err d) f m n e = m cc

never_bytes : (all n : ℕ) (bytes : List ℕ) → Never (bytes_at (cut all) n bytes)
never_bytes all n bytes = never_if (ltb (length bytes) n) _ _ (never_malformed _ _) (never_ok _)

never_number : (all : ℕ) (w : Width) (bytes : List ℕ) → Never (little_at (cut all) w bytes)
never_number all w bytes = never_if (ltb (length bytes) (byte_len w)) _ _ (never_malformed _ _) (never_ok _)

never_byte : (all : ℕ) (bytes : List ℕ) → Never (byte_at (cut all) bytes)
never_byte all [] = never_malformed _ _
never_byte all (b ∷ bytes) = never_ok _

never_constant : (all : ℕ) (text bytes : List ℕ) → Never (constant_at all text bytes)
never_constant all text bytes = never_if (ltb (length bytes) (length text)) _ _ (never_malformed _ _) (never_if (bytes_eq _ text) _ _ (never_ok _) (never_malformed _ _))

never_head : (all : ℕ) (bytes : List ℕ) → Never (head_at all bytes)
unfolding head_at
never_head all bytes = never_bind _ _ (never_constant all (to_le_bytes w32 0) bytes) (λ kind. never_bind _ _ (never_constant all (to_le_bytes w32 3) kind) (λ digest. never_bind _ _ (never_constant all (replicate 20 0) digest) (λ size. never_number all w32 size)))

never_algorithm : (all : ℕ) (before : List Algorithm) (bytes : List ℕ) → Never (algorithm_at all before bytes)
unfolding algorithm_at
never_algorithm all before bytes =
    never_bind _ _ (never_number all w16 bytes) (λ number. never_if (is_named before number.0) _ _ (never_malformed _ _)
    (never_bind _ _ (never_number all w16 number.1) (λ size. never_if (size_fits number.0 size.0) _ _ (never_ok _) (never_malformed _ _))))

never_repeat : {A : Type 0} (item : List A → List ℕ → Result (A × List ℕ) LogError) → ((before : List A) (bytes : List ℕ) → Never (item before bytes)) → (n : ℕ) (before : List A) (bytes : List ℕ) → Never (repeat_at item n before bytes)
unfolding repeat_at
never_repeat item never zero before bytes = never_ok _
never_repeat item never (suc n) before bytes = never_bind _ _ (never before bytes) (λ a. never_repeat item never n (before ++ a.0 ∷ []) a.1)

never_counted : {A : Type 0} (item : List A → List ℕ → Result (A × List ℕ) LogError) → ((before : List A) (bytes : List ℕ) → Never (item before bytes)) → (all low high : ℕ) (kind : _) (bytes : List ℕ) → Never (counted_at (little_at (cut all) w32) low high (fault all kind) item bytes)
unfolding counted_at
never_counted item never all low high kind bytes =
    never_bind _ _ (never_number all w32 bytes) (λ n. never_if (leb low n.0 && leb n.0 high) _ _ (never_repeat item never n.0 [] n.1) (never_malformed _ _))

never_named : (all : ℕ) (bytes : List ℕ) → Never (named_at all bytes)
unfolding named_at
never_named all bytes = never_counted (algorithm_at all) (never_algorithm all) all 1 16 Algorithms bytes

never_vendor : (all size n : ℕ) (bytes : List ℕ) → Never (vendor_at all size n bytes)
unfolding vendor_at
never_vendor all size n bytes = never_bind _ _ (never_byte all bytes) (λ len. never_if (eqb size (event_size n len.0)) _ _ (never_bytes all len.0 len.1) (never_malformed _ _))

never_class : (all : ℕ) (bytes : List ℕ) → Never (class_at all bytes)
unfolding class_at
never_class all bytes =
    never_bind _ _ (never_number all w32 bytes) (λ a. never_bind _ _ (never_byte all a.1) (λ b. never_bind _ _ (never_byte all b.1)
    (λ c. never_bind _ _ (never_byte all c.1) (λ d. never_bind _ _ (never_byte all d.1) (λ f. never_ok _)))))

never_spec : (all : ℕ) (bytes : List ℕ) → Never (spec_at all bytes)
unfolding spec_at
never_spec all bytes =
    never_bind _ _ (never_head all bytes) (λ size. never_bind _ _ (never_constant all signature size.1) (λ event. never_bind _ _ (never_class all event)
    (λ class. never_bind _ _ (never_named all class.1) (λ named. never_bind _ _ (never_vendor all size.0 (length named.0) named.1) (λ vendor. never_ok _)))))

never_ok_or : {A : Type 0} (o : Option A) (place : ℕ) (kind : _) → Never (ok_or o (Malformed place kind))
never_ok_or None place kind = never_malformed place kind
never_ok_or (Some x) place kind = never_ok x

never_tagged : (all : ℕ) (algorithms : List Algorithm) (before : List Tagged) (bytes : List ℕ) → Never (tagged_at all algorithms before bytes)
unfolding tagged_at
never_tagged all algorithms before bytes =
    never_bind _ _ (never_number all w16 bytes) (λ number. never_bind _ _ (never_ok_or _ _ _) (λ size. never_bind _ _ (never_bytes all size number.1) (λ digest. never_ok _)))

never_digests : (all : ℕ) (algorithms : List Algorithm) (bytes : List ℕ) → Never (digests_at all algorithms bytes)
unfolding digests_at
never_digests all algorithms bytes = never_counted (tagged_at all algorithms) (never_tagged all algorithms) all 1 (length algorithms) Count bytes

never_event : (all : ℕ) (bytes : List ℕ) → Never (event_at all bytes)
unfolding event_at
never_event all bytes = never_bind _ _ (never_number all w32 bytes) (λ size. never_bytes all size.0 size.1)

never_record : (all : ℕ) (algorithms : List Algorithm) (bytes : List ℕ) → Never (record_at all algorithms bytes)
unfolding record_at
never_record all algorithms bytes =
    never_bind _ _ (never_number all w32 bytes) (λ pcr. never_bind _ _ (never_number all w32 pcr.1) (λ kind. never_if (not (has_pcr kind.0 pcr.0)) _ _ (never_malformed _ _)
    (never_bind _ _ (never_digests all algorithms kind.1) (λ digests. never_bind _ _ (never_event all digests.1) (λ event. never_ok _)))))

-- ---- too many records

-- a step that did not fail, before a failure that is not its own
record Later {A B : Type 0} (r : Result A LogError) (f : A → Result B LogError) : Type 0 where
  value : A
  first : r ≡ Ok value
  second : f value ≡ Err TooMany

later : {A B : Type 0} {r : Result A LogError} {f : A → Result B LogError} → Never r → (r >>= f) ≡ Err TooMany → Later r f
later {r = Ok x} never e = record { value = x; first = refl; second = e }
later {r = Err d} never e = absurd (never cc)

record RecordsOver (algorithms : List Algorithm) (limit : ℕ) (bytes : List ℕ) : Type 0 where
  more : List FirmwareRecord
  rest : List ℕ
  full : length more ≡ limit
  behind : 0 < length rest
  text : bytes ≡ flat_map record_text more ++ rest
  allowed : list_all (is_record algorithms) more ≡ true
  fits : AllByRecursion RecordFits more

over_take : (all : ℕ) (algorithms : List Algorithm) (limit : ℕ) (before : List FirmwareRecord) (bytes : List ℕ) → IsBytes bytes → records_at all algorithms limit before bytes ≡ Err TooMany → RecordsOver algorithms limit bytes
unfolding records_at
over_take all algorithms zero before [] fits e = absurd cc
over_take all algorithms (suc limit) before [] fits e = absurd cc
over_take all algorithms zero before (b ∷ bytes) fits e = record { more = []; rest = b ∷ bytes; full = refl; behind = omega arith; text = refl; allowed = refl; fits = tt }
over_take all algorithms (suc limit) before (b ∷ bytes) fits e =
    let a = later (never_record all algorithms (b ∷ bytes)) e in
    let first = record_takes all algorithms (b ∷ bytes) a.value fits a.first in
    let others = over_take all algorithms limit (before ++ a.value.0 ∷ []) a.value.1 first.takes.rest_fits a.second in
    record {
      more = a.value.0 ∷ others.more;
      rest = others.rest;
      full = ap suc others.full;
      behind = others.behind;
      text = first.takes.parts ∙ ap (λ (t : List ℕ). record_text a.value.0 ++ t) others.text ∙ sym (append_assoc (record_text a.value.0) (flat_map record_text others.more) others.rest);
      allowed = rw (first.allowed, others.allowed) refl;
      fits = (first.fits, others.fits);
    }

-- ---- the log

record LogTaken (bytes : List ℕ) (log : FirmwareLog) : Type 0 where
  text : FirmwareText bytes log
  few : length log.records ≤ 16384

log_takes : (bytes : List ℕ) (log : FirmwareLog) → IsBytes bytes → log_at bytes ≡ Ok log → LogTaken bytes log
unfolding log_at
log_takes bytes log fits e =
    let a = bind_ok e in
    let b = bind_ok a.second in
    let spec = spec_takes (length bytes) bytes a.value fits a.first in
    let records = records_take (length bytes) a.value.0.algorithms 16384 [] a.value.1 b.value spec.takes.rest_fits b.first in
    let whole : FirmwareLog = record { spec = a.value.0; records = records.more } in
    let same : whole ≡ log = ap (λ (rs : List FirmwareRecord). record { spec = a.value.0; records = rs }) (sym records.whole) ∙ ok_is (record { spec = a.value.0; records = b.value }) log b.second in
    subst (λ (l : FirmwareLog). LogTaken bytes l) same (record {
      text = record {
        allowed = rw (spec.allowed, records.allowed) refl;
        fits = record { spec = spec.fits; records = records.fits };
        text = spec.takes.parts ∙ ap (λ (rest : List ℕ). spec_text a.value.0 ++ rest) records.text;
      };
      few = records.few;
    })

pub log_again : (log : FirmwareLog) → is_log log ≡ true → LogFits log → length log.records ≤ 16384 → log_at (log_text log) ≡ Ok log
unfolding log_at
log_again log allowed fits few =
    let h = and_parts (is_spec log.spec) (list_all (is_record log.spec.algorithms) log.records) allowed in
    let all = length (log_text log) in
    bind_eq _ (log.spec, flat_map record_text log.records) (spec_again all log.spec (flat_map record_text log.records) h.0 fits.spec)
    (bind_eq _ log.records (records_again all log.spec.algorithms 16384 [] log.records (size_below log.spec h.0).0 few h.1 fits.records) refl)

log_over : (log : FirmwareLog) (rest : List ℕ) → is_log log ≡ true → LogFits log → length log.records ≡ 16384 → 0 < length rest → log_at (log_text log ++ rest) ≡ Err TooMany
unfolding log_at
log_over log [] allowed fits full more = absurd (omega arith)
log_over log (b ∷ rest) allowed fits full more =
    let h = and_parts (is_spec log.spec) (list_all (is_record log.spec.algorithms) log.records) allowed in
    let all = length (spec_text log.spec ++ (flat_map record_text log.records ++ b ∷ rest)) in
    ap log_at (append_assoc (spec_text log.spec) (flat_map record_text log.records) (b ∷ rest))
    ∙ bind_eq _ (log.spec, flat_map record_text log.records ++ b ∷ rest) (spec_again all log.spec (flat_map record_text log.records ++ b ∷ rest) h.0 fits.spec)
    (ap (λ r. r >>= λ records. Ok (record { spec = log.spec; records = records })) (records_over all log.spec.algorithms 16384 [] log.records b rest (size_below log.spec h.0).0 full h.1 fits.records))

abbrev made : SpecId → List FirmwareRecord → FirmwareLog
made spec records = record { spec = spec; records = records }

unbound : {A B : Type 0} (f : A → B) (r : Result A LogError) → (r >>= λ x. Ok (f x)) ≡ Err TooMany → r ≡ Err TooMany
unbound f (Ok x) e = absurd cc
unbound f (Err d) e = cc

over_holds : (bytes : List ℕ) → IsBytes bytes → log_at bytes ≡ Err TooMany → HoldsMore bytes
unfolding log_at
over_holds bytes fits e =
    let a = later (never_spec (length bytes) bytes) e in
    let spec = spec_takes (length bytes) bytes a.value fits a.first in
    let given : records_at (length bytes) a.value.0.algorithms 16384 [] a.value.1 ≡ Err TooMany = unbound (λ (records : List FirmwareRecord). made a.value.0 records) (records_at (length bytes) a.value.0.algorithms 16384 [] a.value.1) a.second in
    let records = over_take (length bytes) a.value.0.algorithms 16384 [] a.value.1 spec.takes.rest_fits given in
    record {
      log = record { spec = a.value.0; records = records.more };
      rest = records.rest;
      front = record { allowed = rw (spec.allowed, records.allowed) refl; fits = record { spec = spec.fits; records = records.fits }; text = refl };
      full = records.full;
      more = records.behind;
      parts = spec.takes.parts ∙ ap (λ (rest : List ℕ). spec_text a.value.0 ++ rest) records.text ∙ sym (append_assoc (spec_text a.value.0) (flat_map record_text records.more) records.rest);
    }

-- ---- what a function that gives the reading tells

pub is_found : (bytes : List ℕ) (r : Result FirmwareLog LogError) → IsBytes bytes → length bytes ≤ 4194304 → Gives (λ x. x) r (log_at bytes) → IfOk r (λ log. FirmwareText bytes log × IsWritable log)
is_found bytes (Ok log) fits short given =
    let t = log_takes bytes log fits given in
    (t.text, record { allowed = t.text.allowed; fits = t.text.fits; records = t.few; short = omega (arith, ap length t.text.text) })
is_found bytes (Err e) fits short given = tt

pub is_only : (bytes : List ℕ) (r : Result FirmwareLog LogError) → Gives (λ x. x) r (log_at bytes) → (log : FirmwareLog) → FirmwareText bytes log → length log.records ≤ 16384 → Gives (λ x. x) r (Ok log)
is_only bytes r given log t few = subst (λ f. Gives (λ x. x) r f) (ap log_at t.text ∙ log_again log t.allowed t.fits few) given

pub is_over : (bytes : List ℕ) (r : Result FirmwareLog LogError) → IsBytes bytes → Gives (λ x. x) r (log_at bytes) → r ≡ Err TooMany → HoldsMore bytes
is_over bytes (Ok log) fits given e = absurd cc
is_over bytes (Err TooMany) fits given e = over_holds bytes fits given
is_over bytes (Err Memory) fits given e = absurd cc
is_over bytes (Err (Malformed place kind)) fits given e = absurd cc

pub is_more : (bytes : List ℕ) (r : Result FirmwareLog LogError) → Gives (λ x. x) r (log_at bytes) → HoldsMore bytes → Gives (λ x. x) r (Err TooMany)
is_more bytes r given h = subst (λ f. Gives (λ x. x) r f) (ap log_at h.parts ∙ log_over h.log h.rest h.front.allowed h.front.fits h.full h.more) given
