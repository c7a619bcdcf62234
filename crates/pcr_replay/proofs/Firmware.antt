-- The records of a writable log, one after the other.
use Rattle.std.proofs.Common.{◌≡◌, ℕ, ◌+◌, ◌^◌, ◌<◌, Bool, true, false, cond, eqb, leb, ltb, ◌&&◌, not, List, [], ◌∷◌, ◌++◌, length, get_or, drop, Option, Some, None, refl, sym, ap, subst, ◌∙◌, append_assoc}
use Rattle.std.specs.Option.{option_map, option_map_or, option_to_list}
use Rattle.std.specs.List.{AllByRecursion, cons_option, list_all}
use Rattle.std.specs.Prelude.{find}
use Rattle.std.proofs.lemmas.Bool.{eqb-true}
use Rattle.std.proofs.lemmas.List.{drop_more}
use Rattle.std.proofs.lemmas.List.Elements.{All-from_recursion}
use Rattle.std.proofs.lemmas.List.Sums.{AllPass-from_list_all}
use Rattle.hash_bank.specs.declared.bank.Bank.{Bank}
use Rattle.hash_bank.specs.declared.bank.Bank.TheVariants.{Sha1, Sha256, Sha384, Sha512}
use Rattle.hash_bank.specs.Hash.{size_in, algorithm_in}
use Rattle.tcg_log.specs.declared.record.Tagged.{Tagged}
use Rattle.tcg_log.specs.declared.record.FirmwareRecord.{FirmwareRecord}
use Rattle.tcg_log.specs.declared.spec_id.Algorithm.{Algorithm}
use Rattle.tcg_log.specs.declared.log.FirmwareLog.{FirmwareLog}
use Rattle.tcg_log.specs.Allowed.{size_fits, is_named, are_algorithms, size_named, is_tagged, tagged_fits, are_digests, has_pcr, is_record, is_spec, is_log}
use Rattle.pcr_replay.specs.declared.record.LogRecord.{LogRecord}
use Rattle.pcr_replay.specs.Row.{Row, rows}
use Rattle.pcr_replay.specs.Combined.{extended_row, firmware_rows}
use Rattle.pcr_replay.specs.Sized.{AreSized}

both : (a b : Bool) → (a && b) ≡ true → (a ≡ true) × (b ≡ true)
both true b e = (refl, e)
both false b e = absurd cc

-- ---- sizes

-- a bank's algorithm has the bank's size
bank_size : (b : Bank) (size : ℕ) → size_fits (algorithm_in b) size ≡ true → size ≡ size_in b
bank_size Sha1 size e = eqb-true _ _ e
bank_size Sha256 size e = eqb-true _ _ e
bank_size Sha384 size e = eqb-true _ _ e
bank_size Sha512 size e = eqb-true _ _ e

each_fits : (before algorithms : List Algorithm) → are_algorithms before algorithms ≡ true → AllByRecursion (λ a. size_fits a.number a.size ≡ true) algorithms
each_fits before [] e = tt
each_fits before (a ∷ more) e =
    let h = both (not (is_named before a.number) && size_fits a.number a.size) (are_algorithms (before ++ a ∷ []) more) e in
    ((both (not (is_named before a.number)) (size_fits a.number a.size) h.0).1, each_fits (before ++ a ∷ []) more h.1)

found_fits : (a : Algorithm) (found : Option Algorithm) (number size : ℕ) (b : Bool) → eqb a.number number ≡ b → size_fits a.number a.size ≡ true → (option_map (λ a. a.size) found ≡ Some size → size_fits number size ≡ true)
    → option_map (λ a. a.size) (cond b (Some a) found) ≡ Some size → size_fits number size ≡ true
found_fits a found number size true same fits later e =
    let s : a.size ≡ size = cc in
    subst (λ n. size_fits n size ≡ true) (eqb-true _ _ same) (subst (λ s. size_fits a.number s ≡ true) s fits)
found_fits a found number size false same fits later e = later e

-- the size that the algorithms give a number fits it
named_fits : (algorithms : List Algorithm) (number size : ℕ) → AllByRecursion (λ a. size_fits a.number a.size ≡ true) algorithms → size_named algorithms number ≡ Some size → size_fits number size ≡ true
named_fits [] number size fits e = absurd cc
named_fits (a ∷ more) number size fits e =
    found_fits a (find (λ a. eqb a.number number) more) number size (eqb a.number number) refl fits.0 (λ h. named_fits more number size fits.1 h) e

the_size : (o : Option ℕ) (n : ℕ) → option_map_or (λ size. eqb n size) o false ≡ true → o ≡ Some n
the_size None n e = absurd cc
the_size (Some size) n e = ap Some (sym (eqb-true _ _ e))

sizes : (algorithms : List Algorithm) (before digests : List Tagged) → AllByRecursion (λ a. size_fits a.number a.size ≡ true) algorithms → are_digests algorithms before digests ≡ true
    → AllByRecursion (λ t. (b : Bank) → t.algorithm ≡ algorithm_in b → length t.digest ≡ size_in b) digests
sizes algorithms before [] fits e = tt
sizes algorithms before (t ∷ more) fits e =
    let h = both (tagged_fits algorithms before t) (are_digests algorithms (before ++ t ∷ []) more) e in
    let k = both (not (is_tagged before t.algorithm)) (option_map_or (λ size. eqb (length t.digest) size) (size_named algorithms t.algorithm) false) h.0 in
    let there = named_fits algorithms t.algorithm (length t.digest) fits (the_size (size_named algorithms t.algorithm) (length t.digest) k.1) in
    (λ b is. bank_size b (length t.digest) (subst (λ n. size_fits n (length t.digest) ≡ true) is there), sizes algorithms (before ++ t ∷ []) more fits h.1)

-- what a writable log says of the record at a place
pub record Allowed (r : FirmwareRecord) : Type 0 where
  pub sized : AreSized r.digests
  pub in_range : has_pcr r.kind r.pcr ≡ true

pub each_allowed : (log : FirmwareLog) (i : ℕ) (r : FirmwareRecord) → is_log log ≡ true → i < length log.records → r ≡ get_or log.records i r → Allowed r
each_allowed log i r allowed lt is =
    let algorithms = log.spec.algorithms in
    let h = both (is_spec log.spec) (list_all (is_record algorithms) log.records) allowed in
    let s = both (leb 1 (length algorithms) && leb (length algorithms) 16) (are_algorithms [] algorithms && ltb (length log.spec.vendor) 256) h.0 in
    let named = (both (are_algorithms [] algorithms) (ltb (length log.spec.vendor) 256) s.1).0 in
    let at : is_record algorithms r ≡ true = ap (is_record algorithms) is ∙ AllPass-from_list_all (is_record algorithms) log.records h.1 i r lt in
    let counts = leb 1 (length r.digests) && leb (length r.digests) (length algorithms) in
    let k = both (has_pcr r.kind r.pcr && counts) (are_digests algorithms [] r.digests && ltb (length r.event) (2 ^ 32)) at in
    record {
      sized = All-from_recursion _ r.digests (sizes algorithms [] r.digests (each_fits [] algorithms named) (both (are_digests algorithms [] r.digests) (ltb (length r.event) (2 ^ 32)) k.1).0);
      in_range = (both (has_pcr r.kind r.pcr) counts k.0).0;
    }

-- ---- one record more

consed : (o : Option Row) (more : List Row) → cons_option o more ≡ option_to_list o ++ more
consed None more = refl
consed (Some x) more = refl

pub firmware_next : (old new : List LogRecord) (records : List FirmwareRecord) (i : ℕ) (r : FirmwareRecord) (total : List Row) → i < length records → r ≡ get_or records i r
    → rows new ≡ rows old ++ option_to_list (extended_row r) → rows old ++ firmware_rows (drop i records) ≡ total → rows new ++ firmware_rows (drop (i + 1) records) ≡ total
firmware_next old new records i r total lt is pushed so_far =
    let more = firmware_rows (drop (i + 1) records) in
    let here : firmware_rows (drop i records) ≡ option_to_list (extended_row r) ++ more =
    ap firmware_rows (drop_more records i r lt ∙ ap (λ x. x ∷ drop (i + 1) records) (sym is)) ∙ consed (extended_row r) more in
    ap (λ l. l ++ more) pushed ∙ append_assoc (rows old) (option_to_list (extended_row r)) more ∙ ap (λ x. rows old ++ x) (sym here) ∙ so_far
