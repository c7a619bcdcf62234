-- Records that are read are spelled so, and what is spelled so is read.
use Rattle.std.proofs.Common.{◌≡◌, ℕ, zero, suc, ◌^◌, ◌<◌, ◌≤◌, Bool, true, false, cond, ltb, leb, eqb, ◌&&◌, not, List, [], ◌∷◌, ◌++◌, length, Option, Some, None, Ok, Err, refl, sym, ap, subst, ◌∙◌, append_assoc, arith, eq-eqb}
use Rattle.std.specs.Prelude.{ok_or}
use Rattle.std.specs.Option.{option_map_or}
use Rattle.std.specs.List.{flat_map, AllByRecursion, list_all}
use Rattle.std.specs.Int.{w16, w32, to_le_bytes}
use Rattle.std.proofs.lemmas.Bool.{and_from, and_parts, not_from_true, not_from_false, not-true, not-false, eqb-true, lt-ltb, ltb-true, leb-true, le-leb}
use Rattle.std.proofs.lemmas.List.{append-nil}
use Rattle.pl_layout.proofs.Steps.{bind_ok, bind_eq, skip_test, passed_over, ok_is}
use Rattle.pl_layout.proofs.Fields.{IsBytes, Takes, Takes-then, Taken, Grammar, bytes_take, bytes_again}
use Rattle.pl_layout.proofs.Repeats.{GrammarBehind, CountedFits, counted_grammar, Passes, AsksEach, each_passes, passes_each}
use Rattle.tcg_log.specs.declared.error.LogKind.TheVariants.{Count, DigestAlgorithm}
use Rattle.tcg_log.specs.declared.error.LogError.{LogError}
use Rattle.tcg_log.specs.declared.error.LogError.TheVariants.{TooMany}
use Rattle.tcg_log.specs.declared.record.Tagged.{Tagged}
use Rattle.tcg_log.specs.declared.record.FirmwareRecord.{FirmwareRecord}
use Rattle.tcg_log.specs.declared.spec_id.Algorithm.{Algorithm}
use Rattle.tcg_log.specs.Text.{tagged_text, digests_text, event_text, record_text}
use Rattle.tcg_log.specs.Allowed.{size_named, is_tagged, tagged_fits, are_digests, has_pcr, is_record, TaggedFits, RecordFits}
use Rattle.tcg_log.specs.Reading.{cut, fault, tagged_at, digests_at, event_at, record_at, records_at}
use Rattle.tcg_log.proofs.Fields.{two, four}

-- ---- digests

ok_or_some : {A : Type 0} (o : Option A) (d : LogError) (x : A) → ok_or o d ≡ Ok x → o ≡ Some x
ok_or_some None d x e = absurd cc
ok_or_some (Some y) d x e = cc

unless : {A : Type 0} (b : Bool) (o : Option A) (x : A) → cond b None o ≡ Some x → (b ≡ false) × (o ≡ Some x)
unless true o x e = absurd cc
unless false o x e = (refl, e)

-- the size that is there is the digest's
named_size : (o : Option ℕ) (n : ℕ) → option_map_or (λ size. eqb n size) o false ≡ true → o ≡ Some n
named_size None n e = absurd cc
named_size (Some size) n e = ap Some (sym (eqb-true _ _ e))

tagged_takes : (all : ℕ) (algorithms : List Algorithm) (before : List Tagged) (bytes : List ℕ) (x : Tagged × List ℕ) → IsBytes bytes → tagged_at all algorithms before bytes ≡ Ok x
    → Taken tagged_text (Passes (tagged_fits algorithms) TaggedFits before) bytes x
unfolding tagged_at
tagged_takes all algorithms before bytes x fits e =
    let a = bind_ok e in
    let b = bind_ok a.second in
    let c = bind_ok b.second in
    let number = (two all).takes bytes a.value fits a.first in
    let there = unless (is_tagged before a.value.0) (size_named algorithms a.value.0) b.value (ok_or_some _ _ b.value b.first) in
    let digest = bytes_take (cut all) b.value a.value.1 c.value number.takes.rest_fits c.first in
    let sized : option_map_or (λ size. eqb (length c.value.0) size) (size_named algorithms a.value.0) false ≡ true = ap (λ (o : Option ℕ). option_map_or (λ size. eqb (length c.value.0) size) o false) there.1 ∙ eq-eqb _ _ digest.count in
    let made : Tagged × List ℕ = (record { algorithm = a.value.0; digest = c.value.0 }, c.value.1) in
    subst (λ (y : Tagged × List ℕ). Taken tagged_text (Passes (tagged_fits algorithms) TaggedFits before) bytes y) (ok_is made x c.second) (record {
      takes = Takes-then number.takes digest.takes;
      fits = (and_from _ _ (not_from_false _ there.0) sized, record { algorithm = number.fits; digest = digest.fits });
    })

tagged_again : (all : ℕ) (algorithms : List Algorithm) (before : List Tagged) (t : Tagged) (rest : List ℕ) → Passes (tagged_fits algorithms) TaggedFits before t → tagged_at all algorithms before (tagged_text t ++ rest) ≡ Ok (t, rest)
unfolding tagged_at
tagged_again all algorithms before t rest fits =
    let h = and_parts (not (is_tagged before t.algorithm)) (option_map_or (λ size. eqb (length t.digest) size) (size_named algorithms t.algorithm) false) fits.0 in
    let regrouped : tagged_text t ++ rest ≡ to_le_bytes w16 t.algorithm ++ (t.digest ++ rest) = append_assoc (to_le_bytes w16 t.algorithm) t.digest rest in
    let size : size_named algorithms t.algorithm ≡ Some (length t.digest) = named_size (size_named algorithms t.algorithm) (length t.digest) h.1 in
    let there : cond (is_tagged before t.algorithm) None (size_named algorithms t.algorithm) ≡ Some (length t.digest) = skip_test (is_tagged before t.algorithm) None (not-true _ h.0) size in
    ap (tagged_at all algorithms before) regrouped
    ∙ bind_eq _ (t.algorithm, t.digest ++ rest) ((two all).again t.algorithm (t.digest ++ rest) fits.1.algorithm)
    (bind_eq _ (length t.digest) (ap (λ (o : Option ℕ). ok_or o (fault all DigestAlgorithm (to_le_bytes w16 t.algorithm ++ (t.digest ++ rest)))) there)
    (bind_eq _ (t.digest, rest) (bytes_again (cut all) (length t.digest) t.digest rest refl) refl))

tagged_grammar : (all : ℕ) (algorithms : List Algorithm) → GrammarBehind (tagged_at all algorithms) tagged_text (Passes (tagged_fits algorithms) TaggedFits)
tagged_grammar all algorithms before = record {
  takes = λ bytes x fits e. tagged_takes all algorithms before bytes x fits e;
  again = λ t rest fits. tagged_again all algorithms before t rest fits;
}

asks_digests : (algorithms : List Algorithm) → AsksEach (tagged_fits algorithms) (are_digests algorithms)
asks_digests algorithms = record { none = λ before. refl; one = λ before t more. refl }

-- a list of digests that may stand in a record
abbrev DigestsFit : List Algorithm → List Tagged → Type 0
DigestsFit algorithms = CountedFits 1 (length algorithms) (2 ^ 32) (Passes (tagged_fits algorithms) TaggedFits)

digests_grammar : (all : ℕ) (algorithms : List Algorithm) → Grammar (digests_at all algorithms) digests_text (DigestsFit algorithms)
unfolding digests_at
digests_grammar all algorithms = counted_grammar (four all) (tagged_grammar all algorithms) 1 (length algorithms) (fault all Count)

-- ---- the event

pub record EventTaken (bytes event rest : List ℕ) : Type 0 where
  pub takes : Takes bytes (event_text event) rest
  pub short : ltb (length event) (2 ^ 32) ≡ true
  pub fits : IsBytes event

pub event_takes : (all : ℕ) (bytes event rest : List ℕ) → IsBytes bytes → event_at all bytes ≡ Ok (event, rest) → EventTaken bytes event rest
unfolding event_at
event_takes all bytes event rest fits e =
    let a = bind_ok e in
    let size = (four all).takes bytes a.value fits a.first in
    let t = bytes_take (cut all) a.value.0 a.value.1 (event, rest) size.takes.rest_fits a.second in
    record {
      takes = subst (λ (k : ℕ). Takes bytes (to_le_bytes w32 k ++ event) rest) (sym t.count) (Takes-then size.takes t.takes);
      short = lt-ltb _ _ (omega (arith, t.count, size.fits));
      fits = t.fits;
    }

event_again : (all : ℕ) (event rest : List ℕ) → length event < 2 ^ 32 → event_at all (event_text event ++ rest) ≡ Ok (event, rest)
unfolding event_at
event_again all event rest short =
    let regrouped : event_text event ++ rest ≡ to_le_bytes w32 (length event) ++ (event ++ rest) = append_assoc (to_le_bytes w32 (length event)) event rest in
    ap (event_at all) regrouped
    ∙ bind_eq _ (length event, event ++ rest) ((four all).again (length event) (event ++ rest) short) (bytes_again (cut all) (length event) event rest refl)

-- ---- a record

pub record RecordTaken (algorithms : List Algorithm) (bytes : List ℕ) (r : FirmwareRecord) (rest : List ℕ) : Type 0 where
  pub takes : Takes bytes (record_text r) rest
  pub allowed : is_record algorithms r ≡ true
  pub fits : RecordFits r

pub record_takes : (all : ℕ) (algorithms : List Algorithm) (bytes : List ℕ) (x : FirmwareRecord × List ℕ) → IsBytes bytes → record_at all algorithms bytes ≡ Ok x → RecordTaken algorithms bytes x.0 x.1
unfolding record_at
record_takes all algorithms bytes x fits e =
    let a = bind_ok e in
    let b = bind_ok a.second in
    let g = passed_over _ b.second in
    let c = bind_ok g.1 in
    let d = bind_ok c.second in
    let pcr = (four all).takes bytes a.value fits a.first in
    let kind = (four all).takes a.value.1 b.value pcr.takes.rest_fits b.first in
    let digests = (digests_grammar all algorithms).takes b.value.1 c.value kind.takes.rest_fits c.first in
    let each = each_passes TaggedFits (asks_digests algorithms) [] c.value.0 digests.fits.fit in
    let count = and_from _ _ (le-leb _ _ digests.fits.some) (le-leb _ _ digests.fits.few) in
    let event = event_takes all c.value.1 d.value.0 d.value.1 digests.takes.rest_fits d.first in
    let made : FirmwareRecord × List ℕ = (record { pcr = a.value.0; kind = b.value.0; digests = c.value.0; event = d.value.0 }, d.value.1) in
    subst (λ (y : FirmwareRecord × List ℕ). RecordTaken algorithms bytes y.0 y.1) (ok_is made x d.second) (record {
      takes = Takes-then pcr.takes (Takes-then kind.takes (Takes-then digests.takes event.takes));
      allowed = and_from _ _ (and_from _ _ (not-false (has_pcr b.value.0 a.value.0) g.0) count) (and_from _ _ each.allowed event.short);
      fits = record { pcr = pcr.fits; kind = kind.fits; digests = each.fits; event = event.fits };
    })

regroup : (p k d e rest : List ℕ) → (p ++ (k ++ (d ++ e))) ++ rest ≡ p ++ (k ++ (d ++ (e ++ rest)))
regroup p k d e rest = simp append_assoc

pub record_again : (all : ℕ) (algorithms : List Algorithm) (r : FirmwareRecord) (rest : List ℕ) → length algorithms < 2 ^ 32 → is_record algorithms r ≡ true → RecordFits r
    → record_at all algorithms (record_text r ++ rest) ≡ Ok (r, rest)
unfolding record_at
record_again all algorithms r rest few allowed fits =
    let counts = leb 1 (length r.digests) && leb (length r.digests) (length algorithms) in
    let h = and_parts (has_pcr r.kind r.pcr && counts) (are_digests algorithms [] r.digests && ltb (length r.event) (2 ^ 32)) allowed in
    let k = and_parts (has_pcr r.kind r.pcr) counts h.0 in
    let m = and_parts (are_digests algorithms [] r.digests) (ltb (length r.event) (2 ^ 32)) h.1 in
    let count = and_parts (leb 1 (length r.digests)) (leb (length r.digests) (length algorithms)) k.1 in
    let at_most : length r.digests ≤ length algorithms = leb-true _ _ count.1 in
    let fit : DigestsFit algorithms r.digests = record {
      some = leb-true _ _ count.0;
      few = at_most;
      below = omega arith;
      fit = passes_each TaggedFits (asks_digests algorithms) [] r.digests m.0 fits.digests;
    } in
    let event = event_text r.event ++ rest in
    let digests = digests_text r.digests ++ event in
    let kind = to_le_bytes w32 r.kind ++ digests in
    ap (record_at all algorithms) (regroup (to_le_bytes w32 r.pcr) (to_le_bytes w32 r.kind) (digests_text r.digests) (event_text r.event) rest)
    ∙ bind_eq _ (r.pcr, kind) ((four all).again r.pcr kind fits.pcr)
    (bind_eq _ (r.kind, digests) ((four all).again r.kind digests fits.kind)
    (skip_test (not (has_pcr r.kind r.pcr)) _ (not_from_true _ k.0)
    (bind_eq _ (r.digests, event) ((digests_grammar all algorithms).again r.digests event fit)
    (bind_eq _ (r.event, rest) (event_again all r.event rest (ltb-true _ _ m.1)) refl))))

-- ---- records to the end of the bytes

pub record RecordsTaken (algorithms : List Algorithm) (limit : ℕ) (before : List FirmwareRecord) (bytes : List ℕ) (read : List FirmwareRecord) : Type 0 where
  pub more : List FirmwareRecord
  pub whole : read ≡ before ++ more
  pub few : length more ≤ limit
  pub text : bytes ≡ flat_map record_text more
  pub allowed : list_all (is_record algorithms) more ≡ true
  pub fits : AllByRecursion RecordFits more

pub records_take : (all : ℕ) (algorithms : List Algorithm) (limit : ℕ) (before : List FirmwareRecord) (bytes : List ℕ) (read : List FirmwareRecord) → IsBytes bytes → records_at all algorithms limit before bytes ≡ Ok read
    → RecordsTaken algorithms limit before bytes read
unfolding records_at
records_take all algorithms zero before [] read fits e =
    subst (λ (y : List FirmwareRecord). RecordsTaken algorithms zero before [] y) (ok_is before read e)
    (record { more = []; whole = sym (append-nil before); few = omega arith; text = refl; allowed = refl; fits = tt })
records_take all algorithms (suc limit) before [] read fits e =
    subst (λ (y : List FirmwareRecord). RecordsTaken algorithms (suc limit) before [] y) (ok_is before read e)
    (record { more = []; whole = sym (append-nil before); few = omega arith; text = refl; allowed = refl; fits = tt })
records_take all algorithms zero before (b ∷ bytes) read fits e = absurd cc
records_take all algorithms (suc limit) before (b ∷ bytes) read fits e =
    let a = bind_ok e in
    let first = record_takes all algorithms (b ∷ bytes) a.value fits a.first in
    let others = records_take all algorithms limit (before ++ a.value.0 ∷ []) a.value.1 read first.takes.rest_fits a.second in
    record {
      more = a.value.0 ∷ others.more;
      whole = others.whole ∙ append_assoc before (a.value.0 ∷ []) others.more;
      few = omega (arith, others.few);
      text = first.takes.parts ∙ ap (λ (rest : List ℕ). record_text a.value.0 ++ rest) others.text;
      allowed = and_from _ _ first.allowed others.allowed;
      fits = (first.fits, others.fits);
    }

pub records_again : (all : ℕ) (algorithms : List Algorithm) (limit : ℕ) (before more : List FirmwareRecord) → length algorithms < 2 ^ 32 → length more ≤ limit → list_all (is_record algorithms) more ≡ true → AllByRecursion RecordFits more
    → records_at all algorithms limit before (flat_map record_text more) ≡ Ok (before ++ more)
unfolding records_at
records_again all algorithms zero before [] few short allowed fits = ap Ok (sym (append-nil before))
records_again all algorithms (suc limit) before [] few short allowed fits = ap Ok (sym (append-nil before))
records_again all algorithms zero before (r ∷ more) few short allowed fits = absurd (omega arith)
records_again all algorithms (suc limit) before (r ∷ more) few short allowed fits =
    let h = and_parts (is_record algorithms r) (list_all (is_record algorithms) more) allowed in
    bind_eq _ (r, flat_map record_text more) (record_again all algorithms r (flat_map record_text more) few h.0 fits.0)
    (records_again all algorithms limit (before ++ r ∷ []) more few (omega arith) h.1 fits.1 ∙ ap Ok (append_assoc before (r ∷ []) more))

-- as many records as there may be, and bytes behind them
pub records_over : (all : ℕ) (algorithms : List Algorithm) (limit : ℕ) (before more : List FirmwareRecord) (b : ℕ) (rest : List ℕ) → length algorithms < 2 ^ 32 → length more ≡ limit → list_all (is_record algorithms) more ≡ true
    → AllByRecursion RecordFits more → records_at all algorithms limit before (flat_map record_text more ++ b ∷ rest) ≡ Err TooMany
unfolding records_at
records_over all algorithms zero before [] b rest few count allowed fits = refl
records_over all algorithms (suc limit) before [] b rest few count allowed fits = absurd (omega arith)
records_over all algorithms zero before (r ∷ more) b rest few count allowed fits = absurd (omega arith)
records_over all algorithms (suc limit) before (r ∷ more) b rest few count allowed fits =
    let h = and_parts (is_record algorithms r) (list_all (is_record algorithms) more) allowed in
    let regrouped : flat_map record_text (r ∷ more) ++ b ∷ rest ≡ record_text r ++ (flat_map record_text more ++ b ∷ rest) = append_assoc (record_text r) (flat_map record_text more) (b ∷ rest) in
    ap (records_at all algorithms (suc limit) before) regrouped
    ∙ bind_eq _ (r, flat_map record_text more ++ b ∷ rest) (record_again all algorithms r (flat_map record_text more ++ b ∷ rest) few h.0 fits.0)
    (records_over all algorithms limit (before ++ r ∷ []) more b rest few (omega arith) h.1 fits.1)
