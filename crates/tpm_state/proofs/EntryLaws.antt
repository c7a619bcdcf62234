-- Entries of a trail that are read are spelled so, and what is spelled so is read.
use Rattle.std.proofs.Common.{◌≡◌, ℕ, ◌+◌, ◌*◌, ◌/◌, ◌%◌, ◌^◌, ◌<◌, eqb, List, [], ◌∷◌, ◌++◌, length, get_or, Option, Some, None, Ok, Err, refl, sym, ap, subst, ◌∙◌, arith, inl, inr, lit<}
use Rattle.std.specs.Prelude.{ok_or}
use Rattle.std.specs.Int.{w16, w32, to_be_bytes}
use Rattle.std.proofs.lemmas.Bool.{eqb-true}
use Rattle.hash_bank.specs.declared.bank.Bank.{Bank}
use Rattle.hash_bank.specs.declared.bank.Bank.TheVariants.{Sha1, Sha256, Sha384, Sha512}
use Rattle.hash_bank.specs.Hash.{size_in, algorithm_in, bank_of_algorithm}
use Rattle.pl_layout.specs.Reading.{bytes_at}
use Rattle.pl_layout.proofs.Steps.{bind_ok, bind_eq, on_test, ok_is}
use Rattle.pl_layout.proofs.Fields.{IsBytes, Takes, Takes-then, Takes-byte, Taken, Grammar, bytes_take, bytes_again, bytes_grammar, wide16, wide32, number_grammar, byte_takes}
use Rattle.pl_layout.proofs.Repeats.{ListFits}
use Rattle.tpm_model.specs.declared.trail.TrailEntry.{TrailEntry}
use Rattle.tpm_model.specs.declared.trail.TrailEntry.TheVariants.{Pcr, Or, AuthorizeNv}
use Rattle.tpm_state.specs.declared.error.DecodeError.{DecodeError}
use Rattle.tpm_state.specs.Field.{fault, counted_at, counted_text, digest_text}
use Rattle.tpm_state.specs.Entries.{mask_text, entry_text, EntryFits, mask_at, bank_number_at, pcr_entry_at, or_entry_at, nv_entry_at, entry_at}
use Rattle.tpm_state.proofs.Appends.{regroup_three}
use Rattle.tpm_state.proofs.Counted.{counted_grammar}

-- ---- the mask

mask_back : (mask : List ℕ) → length mask ≡ 3 → IsBytes mask → mask_text (get_or mask 0 0 + 256 * get_or mask 1 0 + 65536 * get_or mask 2 0) ≡ mask
mask_back [] len fits = absurd (omega arith)
mask_back (a ∷ []) len fits = absurd (omega arith)
mask_back (a ∷ b ∷ []) len fits = absurd (omega arith)
mask_back (a ∷ b ∷ c ∷ d ∷ more) len fits = absurd (omega arith)
mask_back (a ∷ b ∷ c ∷ []) len fits =
    let m = a + 256 * b + 65536 * c in
    let one : m % 256 ≡ a = omega (arith, fits 0, fits 1, fits 2) in
    let two : m / 256 % 256 ≡ b = omega (arith, fits 0, fits 1, fits 2) in
    let three : m / 65536 % 256 ≡ c = omega (arith, fits 0, fits 1, fits 2) in
    rw (one, two, three) refl

mask_below : (mask : List ℕ) → IsBytes mask → get_or mask 0 0 + 256 * get_or mask 1 0 + 65536 * get_or mask 2 0 < 2 ^ 24
mask_below mask fits = omega (arith, fits 0, fits 1, fits 2)

mask_value : (m : ℕ) → m < 2 ^ 24 → m % 256 + 256 * (m / 256 % 256) + 65536 * (m / 65536 % 256) ≡ m
mask_value m lt = omega arith

mask_takes : (all : ℕ) (bytes : List ℕ) (x : ℕ × List ℕ) → IsBytes bytes → mask_at all bytes ≡ Ok x → Taken mask_text (λ m. m < 2 ^ 24) bytes x
unfolding mask_at
mask_takes all bytes x fits e =
    let a = bind_ok e in
    let t = bytes_take (fault all) 3 bytes a.value fits a.first in
    let m = get_or a.value.0 0 0 + 256 * get_or a.value.0 1 0 + 65536 * get_or a.value.0 2 0 in
    subst (λ (y : ℕ × List ℕ). Taken mask_text (λ m. m < 2 ^ 24) bytes y) (ok_is (m, a.value.1) x a.second) (record {
      takes = subst (λ (text : List ℕ). Takes bytes text a.value.1) (sym (mask_back a.value.0 t.count t.fits)) t.takes;
      fits = mask_below a.value.0 t.fits;
    })

mask_again : (all m : ℕ) (rest : List ℕ) → m < 2 ^ 24 → mask_at all (mask_text m ++ rest) ≡ Ok (m, rest)
unfolding mask_at
mask_again all m rest lt =
    bind_eq _ (mask_text m, rest) (bytes_again (fault all) 3 (mask_text m) rest refl) (ap (λ (n : ℕ). Ok (n, rest)) (mask_value m lt))

-- ---- the bank

bank_back : (n : ℕ) (b : Bank) → bank_of_algorithm n ≡ Some b → n ≡ algorithm_in b
bank_back n b e =
    elim (on_test (eqb n 4) e) [
      | inl p ↦ eqb-true _ _ p.0 ∙ ap algorithm_in (some_is Sha1 b p.1)
      | inr q ↦ elim (on_test (eqb n 11) q.1) [
        | inl p ↦ eqb-true _ _ p.0 ∙ ap algorithm_in (some_is Sha256 b p.1)
        | inr q ↦ elim (on_test (eqb n 12) q.1) [
          | inl p ↦ eqb-true _ _ p.0 ∙ ap algorithm_in (some_is Sha384 b p.1)
          | inr q ↦ elim (on_test (eqb n 13) q.1) [
            | inl p ↦ eqb-true _ _ p.0 ∙ ap algorithm_in (some_is Sha512 b p.1)
            | inr q ↦ absurd (not_none b q.1)
          ]
        ]
      ]
    ]
  where
    some_is : (a b : Bank) → Some a ≡ Some b → a ≡ b
    some_is a b e = cc

    not_none : (b : Bank) → None ≡ Some b → ⊥
    not_none b e = cc

ok_or_some : {A : Type 0} (o : Option A) (d : DecodeError) (x : A) → ok_or o d ≡ Ok x → o ≡ Some x
ok_or_some None d x e = absurd cc
ok_or_some (Some y) d x e = cc

bank_number_takes : (all : ℕ) (bytes : List ℕ) (x : Bank × List ℕ) → IsBytes bytes → bank_number_at all bytes ≡ Ok x → Takes bytes (to_be_bytes w16 (algorithm_in x.0)) x.1
unfolding bank_number_at
bank_number_takes all bytes x fits e =
    let a = bind_ok e in
    let b = bind_ok a.second in
    let t = (number_grammar wide16 (fault all)).takes bytes a.value fits a.first in
    let is : a.value.0 ≡ algorithm_in b.value = bank_back a.value.0 b.value (ok_or_some _ _ b.value b.first) in
    subst (λ (y : Bank × List ℕ). Takes bytes (to_be_bytes w16 (algorithm_in y.0)) y.1) (ok_is (b.value, a.value.1) x b.second)
    (subst (λ (n : ℕ). Takes bytes (to_be_bytes w16 n) a.value.1) is t.takes)

algorithm_below : (b : Bank) → algorithm_in b < 2 ^ 16
algorithm_below Sha1 = lit< tt
algorithm_below Sha256 = lit< tt
algorithm_below Sha384 = lit< tt
algorithm_below Sha512 = lit< tt

bank_there : (b : Bank) → bank_of_algorithm (algorithm_in b) ≡ Some b
bank_there Sha1 = refl
bank_there Sha256 = refl
bank_there Sha384 = refl
bank_there Sha512 = refl

bank_number_again : (all : ℕ) (b : Bank) (rest : List ℕ) → bank_number_at all (to_be_bytes w16 (algorithm_in b) ++ rest) ≡ Ok (b, rest)
unfolding bank_number_at
bank_number_again all b rest =
    bind_eq _ (algorithm_in b, rest) ((number_grammar wide16 (fault all)).again (algorithm_in b) rest (algorithm_below b))
    (bind_eq _ b (ap (λ (o : Option Bank). ok_or o (fault all (to_be_bytes w16 (algorithm_in b) ++ rest))) (bank_there b)) refl)

-- ---- entries behind their tag

pcr_takes : (all : ℕ) (hash : Bank) (bytes : List ℕ) (x : TrailEntry × List ℕ) → IsBytes bytes → pcr_entry_at all hash bytes ≡ Ok x → Taken entry_text (EntryFits hash) (1 ∷ bytes) x
unfolding pcr_entry_at
pcr_takes all hash bytes x fits e =
    let a = bind_ok e in
    let b = bind_ok a.second in
    let c = bind_ok b.second in
    let bank = bank_number_takes all bytes a.value fits a.first in
    let mask = mask_takes all a.value.1 b.value bank.rest_fits b.first in
    let values = bytes_take (fault all) (size_in hash) b.value.1 c.value mask.takes.rest_fits c.first in
    let made : TrailEntry × List ℕ = (Pcr a.value.0 b.value.0 c.value.0, c.value.1) in
    subst (λ (y : TrailEntry × List ℕ). Taken entry_text (EntryFits hash) (1 ∷ bytes) y) (ok_is made x c.second) (record {
      takes = Takes-then (Takes-byte 1 bytes fits) (Takes-then bank (Takes-then mask.takes values.takes));
      fits = (mask.fits, values.count);
    })

pcr_again : (all : ℕ) (hash bank : Bank) (pcrs : ℕ) (values rest : List ℕ) → pcrs < 2 ^ 24 → length values ≡ size_in hash
    → pcr_entry_at all hash ((to_be_bytes w16 (algorithm_in bank) ++ (mask_text pcrs ++ values)) ++ rest) ≡ Ok (Pcr bank pcrs values, rest)
unfolding pcr_entry_at
pcr_again all hash bank pcrs values rest lt len =
    ap (pcr_entry_at all hash) (regroup_three (to_be_bytes w16 (algorithm_in bank)) (mask_text pcrs) values rest)
    ∙ bind_eq _ (bank, mask_text pcrs ++ (values ++ rest)) (bank_number_again all bank (mask_text pcrs ++ (values ++ rest)))
    (bind_eq _ (pcrs, values ++ rest) (mask_again all pcrs (values ++ rest) lt)
    (bind_eq _ (values, rest) (bytes_again (fault all) (size_in hash) values rest len) refl))

-- the digests of a PolicyOR
digests_grammar : (all : ℕ) (hash : Bank) → Grammar (counted_at all 2 8 (bytes_at (fault all) (size_in hash))) (counted_text digest_text) (ListFits 2 8 (λ digest. length digest ≡ size_in hash))
digests_grammar all hash = counted_grammar (bytes_grammar (fault all) (size_in hash)) all 2 8 (lit< tt)

or_takes : (all : ℕ) (hash : Bank) (bytes : List ℕ) (x : TrailEntry × List ℕ) → IsBytes bytes → or_entry_at all hash bytes ≡ Ok x → Taken entry_text (EntryFits hash) (2 ∷ bytes) x
unfolding or_entry_at
or_takes all hash bytes x fits e =
    let a = bind_ok e in
    let list = (digests_grammar all hash).takes bytes a.value fits a.first in
    let made : TrailEntry × List ℕ = (Or a.value.0, a.value.1) in
    subst (λ (y : TrailEntry × List ℕ). Taken entry_text (EntryFits hash) (2 ∷ bytes) y) (ok_is made x a.second) (record {
      takes = Takes-then (Takes-byte 2 bytes fits) list.takes;
      fits = list.fits;
    })

or_again : (all : ℕ) (hash : Bank) (list : List (List ℕ)) (rest : List ℕ) → ListFits 2 8 (λ digest. length digest ≡ size_in hash) list → or_entry_at all hash (counted_text digest_text list ++ rest) ≡ Ok (Or list, rest)
unfolding or_entry_at
or_again all hash list rest fits = bind_eq _ (list, rest) ((digests_grammar all hash).again list rest fits) refl

nv_takes : (all : ℕ) (hash : Bank) (bytes : List ℕ) (x : TrailEntry × List ℕ) → IsBytes bytes → nv_entry_at all bytes ≡ Ok x → Taken entry_text (EntryFits hash) (3 ∷ bytes) x
unfolding nv_entry_at
nv_takes all hash bytes x fits e =
    let a = bind_ok e in
    let b = bind_ok a.second in
    let c = bind_ok b.second in
    let name = bytes_take (fault all) 32 bytes a.value fits a.first in
    let digest = bytes_take (fault all) 32 a.value.1 b.value name.takes.rest_fits b.first in
    let written = (number_grammar wide32 (fault all)).takes b.value.1 c.value digest.takes.rest_fits c.first in
    let made : TrailEntry × List ℕ = (AuthorizeNv a.value.0 b.value.0 c.value.0, c.value.1) in
    subst (λ (y : TrailEntry × List ℕ). Taken entry_text (EntryFits hash) (3 ∷ bytes) y) (ok_is made x c.second) (record {
      takes = Takes-then (Takes-byte 3 bytes fits) (Takes-then name.takes (Takes-then digest.takes written.takes));
      fits = (name.count, digest.count, written.fits);
    })

nv_again : (all : ℕ) (name digest : List ℕ) (written : ℕ) (rest : List ℕ) → length name ≡ 32 → length digest ≡ 32 → written < 2 ^ 32
    → nv_entry_at all ((name ++ (digest ++ to_be_bytes w32 written)) ++ rest) ≡ Ok (AuthorizeNv name digest written, rest)
unfolding nv_entry_at
nv_again all name digest written rest name_len digest_len lt =
    ap (nv_entry_at all) (regroup_three name digest (to_be_bytes w32 written) rest)
    ∙ bind_eq _ (name, digest ++ (to_be_bytes w32 written ++ rest)) (bytes_again (fault all) 32 name (digest ++ (to_be_bytes w32 written ++ rest)) name_len)
    (bind_eq _ (digest, to_be_bytes w32 written ++ rest) (bytes_again (fault all) 32 digest (to_be_bytes w32 written ++ rest) digest_len)
    (bind_eq _ (written, rest) ((number_grammar wide32 (fault all)).again written rest lt) refl))

-- ---- an entry

behind_tag : (hash : Bank) (tag n : ℕ) (bytes rest : List ℕ) (x : TrailEntry × List ℕ) → tag ≡ n → Takes bytes (tag ∷ []) rest → Taken entry_text (EntryFits hash) (n ∷ rest) x → Taken entry_text (EntryFits hash) bytes x
behind_tag hash tag n bytes rest x is first t =
    let same : bytes ≡ n ∷ rest = first.parts ∙ ap (λ (k : ℕ). k ∷ rest) is in
    subst (λ (b : List ℕ). Taken entry_text (EntryFits hash) b x) (sym same) t

refused : {A : Type 0} (d : DecodeError) (y : A) → Err d ≡ Ok y → ⊥
refused d y e = cc

entry_takes : (all : ℕ) (hash : Bank) (bytes : List ℕ) (x : TrailEntry × List ℕ) → IsBytes bytes → entry_at all hash bytes ≡ Ok x → Taken entry_text (EntryFits hash) bytes x
unfolding entry_at
entry_takes all hash bytes x fits e =
    let a = bind_ok e in
    let first = byte_takes (fault all) bytes a.value fits a.first in
    elim (on_test (eqb a.value.0 1) a.second) [
      | inl p ↦ behind_tag hash a.value.0 1 bytes a.value.1 x (eqb-true _ _ p.0) first (pcr_takes all hash a.value.1 x first.rest_fits p.1)
      | inr q ↦ elim (on_test (eqb a.value.0 2) q.1) [
        | inl p ↦ behind_tag hash a.value.0 2 bytes a.value.1 x (eqb-true _ _ p.0) first (or_takes all hash a.value.1 x first.rest_fits p.1)
        | inr q ↦ elim (on_test (eqb a.value.0 3) q.1) [
          | inl p ↦ behind_tag hash a.value.0 3 bytes a.value.1 x (eqb-true _ _ p.0) first (nv_takes all hash a.value.1 x first.rest_fits p.1)
          | inr q ↦ absurd (refused _ x q.1)
        ]
      ]
    ]

entry_again : (all : ℕ) (hash : Bank) (entry : TrailEntry) (rest : List ℕ) → EntryFits hash entry → entry_at all hash (entry_text entry ++ rest) ≡ Ok (entry, rest)
unfolding entry_at
entry_again all hash (Pcr bank pcrs values) rest fits = pcr_again all hash bank pcrs values rest fits.0 fits.1
entry_again all hash (Or list) rest fits = or_again all hash list rest fits
entry_again all hash (AuthorizeNv name digest written) rest fits = nv_again all name digest written rest fits.0 fits.1 fits.2

pub entry_grammar : (all : ℕ) (hash : Bank) → Grammar (entry_at all hash) entry_text (EntryFits hash)
entry_grammar all hash = record {
  takes = λ bytes x fits e. entry_takes all hash bytes x fits e;
  again = λ entry rest fits. entry_again all hash entry rest fits;
}
