-- The begin of a state file that is read is spelled so, and what is spelled so is read.
use Rattle.std.proofs.Common.{◌≡◌, ℕ, zero, suc, ◌+◌, ◌*◌, ◌/◌, ◌%◌, ◌^◌, ◌<◌, ◌≤◌, Bool, true, false, cond, ltb, eqb, List, [], ◌∷◌, ◌++◌, length, map, replicate, Ok, Err, refl, sym, ap, subst, ◌∙◌, append_assoc, arith, inl, inr}
use Rattle.std.specs.List.{flat_map, AllByRecursion}
use Rattle.std.specs.Int.{w32, to_be_bytes}
use Rattle.std.specs.Str.{bytes_eq}
use Rattle.std.proofs.lemmas.Bool.{le-ltb}
use Rattle.std.proofs.lemmas.List.{append-nil, length-append, length-map, length-replicate, map-append, nil_from_length}
use Rattle.std.proofs.lemmas.Slice.Eq.{bytes_eq-Decides}
use Rattle.std.proofs.lemmas.Grind.{flat_map-append}
use Rattle.std.proofs.Math.Nat.{suc-mul, zero-mul}
use Rattle.hash_bank.specs.declared.bank.Bank.{Bank}
use Rattle.hash_bank.specs.declared.bank.Bank.TheVariants.{Sha1, Sha256, Sha384, Sha512}
use Rattle.hash_bank.specs.declared.banks.Banks.{Banks}
use Rattle.hash_bank.specs.Hash.{size_in}
use Rattle.pl_layout.specs.Reading.{bytes_at, repeat_at}
use Rattle.pl_layout.proofs.Steps.{bind_ok, bind_eq, on_test, skip_test, passed_over, ok_is}
use Rattle.pl_layout.proofs.Fields.{IsBytes, Takes, Takes-then, Taken, bytes_take, bytes_again, bytes_grammar, wide32, number_grammar}
use Rattle.pl_layout.proofs.Repeats.{Repeated, nothing_more, repeat_take, repeat_again, each_fits, fits_each}
use Rattle.tpm_model.specs.Pcrs.{HasValues, sizes_if}
use Rattle.tpm_state.specs.declared.error.DecodeError.{DecodeError}
use Rattle.tpm_state.specs.declared.version.Version.{Version}
use Rattle.tpm_state.specs.declared.version.Version.TheVariants.{One, Two}
use Rattle.tpm_state.specs.declared.header.Counters.{Counters}
use Rattle.tpm_state.specs.Field.{fault, digest_text}
use Rattle.tpm_state.specs.Header.{magic_text, weight, banks_byte, values_text, counters_text, version_at, banks_of, bank_at, values_at, counters_at}
use Rattle.tpm_state.proofs.Appends.{regroup_four}

-- ---- the version

refused : {A : Type 0} (d : DecodeError) (y : A) → Err d ≡ Ok y → ⊥
refused d y e = cc

pub version_takes : (all : ℕ) (bytes : List ℕ) (x : Version × List ℕ) → IsBytes bytes → version_at all bytes ≡ Ok x → Takes bytes (magic_text x.0) x.1
unfolding version_at
version_takes all bytes x fits e =
    let a = bind_ok e in
    let t = bytes_take (fault all) 8 bytes a.value fits a.first in
    elim (on_test (bytes_eq a.value.0 (magic_text Two)) a.second) [
      | inl p ↦ subst (λ (y : Version × List ℕ). Takes bytes (magic_text y.0) y.1) (ok_is (Two, a.value.1) x p.1)
          (subst (λ (text : List ℕ). Takes bytes text a.value.1) ((bytes_eq-Decides a.value.0 (magic_text Two)).0 p.0) t.takes)
      | inr q ↦ elim (on_test (bytes_eq a.value.0 (magic_text One)) q.1) [
        | inl p ↦ subst (λ (y : Version × List ℕ). Takes bytes (magic_text y.0) y.1) (ok_is (One, a.value.1) x p.1)
            (subst (λ (text : List ℕ). Takes bytes text a.value.1) ((bytes_eq-Decides a.value.0 (magic_text One)).0 p.0) t.takes)
        | inr q ↦ absurd (refused _ x q.1)
      ]
    ]

pub version_again : (all : ℕ) (version : Version) (rest : List ℕ) → version_at all (magic_text version ++ rest) ≡ Ok (version, rest)
unfolding version_at
version_again all One rest = bind_eq _ (magic_text One, rest) (bytes_again (fault all) 8 (magic_text One) rest refl) refl
version_again all Two rest = bind_eq _ (magic_text Two, rest) (bytes_again (fault all) 8 (magic_text Two) rest refl) refl

-- ---- the byte of the banks

pub banks_back : (banks : Banks) → banks_of (banks_byte banks) ≡ banks
banks_back banks = back banks.sha1 banks.sha256 banks.sha384 banks.sha512
  where
    back : (a b c d : Bool) → banks_of (banks_byte (record { sha1 = a; sha256 = b; sha384 = c; sha512 = d })) ≡ record { sha1 = a; sha256 = b; sha384 = c; sha512 = d }
    back false false false false = refl
    back false false false true = refl
    back false false true false = refl
    back false false true true = refl
    back false true false false = refl
    back false true false true = refl
    back false true true false = refl
    back false true true true = refl
    back true false false false = refl
    back true false false true = refl
    back true false true false = refl
    back true false true true = refl
    back true true false false = refl
    back true true false true = refl
    back true true true false = refl
    back true true true true = refl

weight_1 : (n : ℕ) → n < 2 → weight (eqb n 1) 1 ≡ n
weight_1 zero lt = refl
weight_1 (suc zero) lt = refl
weight_1 (suc (suc n)) lt = absurd (omega arith)

weight_2 : (n : ℕ) → n < 2 → weight (eqb n 1) 2 ≡ 2 * n
weight_2 zero lt = refl
weight_2 (suc zero) lt = refl
weight_2 (suc (suc n)) lt = absurd (omega arith)

weight_4 : (n : ℕ) → n < 2 → weight (eqb n 1) 4 ≡ 4 * n
weight_4 zero lt = refl
weight_4 (suc zero) lt = refl
weight_4 (suc (suc n)) lt = absurd (omega arith)

weight_8 : (n : ℕ) → n < 2 → weight (eqb n 1) 8 ≡ 8 * n
weight_8 zero lt = refl
weight_8 (suc zero) lt = refl
weight_8 (suc (suc n)) lt = absurd (omega arith)

pub byte_back : (byte : ℕ) → byte ≤ 15 → banks_byte (banks_of byte) ≡ byte
byte_back byte few =
    let a = weight_1 (byte % 2) (omega arith) in
    let b = weight_2 (byte / 2 % 2) (omega arith) in
    let c = weight_4 (byte / 4 % 2) (omega arith) in
    let d = weight_8 (byte / 8 % 2) (omega arith) in
    rw (a, b, c, d) (omega arith)

-- ---- the values of a bank

abbrev pub count_if : Bool → ℕ
count_if present = cond present 24 0

bank_takes : (all : ℕ) (present : Bool) (bank : Bank) (before : List (List ℕ)) (bytes : List ℕ) (x : List (List ℕ) × List ℕ) → IsBytes bytes → bank_at all present bank before bytes ≡ Ok x
    → Repeated digest_text (λ b digest. length digest ≡ size_in bank) (count_if present) before bytes x
unfolding bank_at
bank_takes all false bank before bytes x fits e =
    subst (λ (y : List (List ℕ) × List ℕ). Repeated digest_text (λ b digest. length digest ≡ size_in bank) 0 before bytes y) (ok_is (before, bytes) x e)
    (nothing_more digest_text (λ b digest. length digest ≡ size_in bank) before bytes fits)
bank_takes all true bank before bytes x fits e =
    let g = passed_over _ e in
    repeat_take (λ b. bytes_grammar (fault all) (size_in bank)) 24 before bytes x fits g.1

flat_length : (size : ℕ) (more : List (List ℕ)) → AllByRecursion (λ digest. length digest ≡ size) more → length (flat_map digest_text more) ≡ length more * size
flat_length size [] fits = sym (zero-mul size)
flat_length size (d ∷ more) fits = omega (arith, suc-mul (length more) size, length-append d (flat_map digest_text more), flat_length size more fits.1, fits.0)

bank_again : (all : ℕ) (present : Bool) (bank : Bank) (before more : List (List ℕ)) (rest : List ℕ) → length more ≡ count_if present → AllByRecursion (λ digest. length digest ≡ size_in bank) more
    → bank_at all present bank before (flat_map digest_text more ++ rest) ≡ Ok (before ++ more, rest)
unfolding bank_at
bank_again all false bank before more rest count fits =
    let none : more ≡ [] = nil_from_length more count in
    subst (λ (m : List (List ℕ)). bank_at all false bank before (flat_map digest_text m ++ rest) ≡ Ok (before ++ m, rest)) (sym none)
    (ap (λ (read : List (List ℕ)). Ok (read, rest)) (sym (append-nil before)))
bank_again all true bank before more rest count fits =
    let all_of : length (flat_map digest_text more) ≡ 24 * size_in bank = flat_length (size_in bank) more fits ∙ ap (λ (n : ℕ). n * size_in bank) count in
    let long : ltb (length (flat_map digest_text more ++ rest)) (24 * size_in bank) ≡ false = le-ltb _ _ (omega (arith, length-append (flat_map digest_text more) rest)) in
    let read : repeat_at (λ b. bytes_at (fault all) (size_in bank)) 24 before (flat_map digest_text more ++ rest) ≡ Ok (before ++ more, rest) =
    subst (λ (n : ℕ). repeat_at (λ b. bytes_at (fault all) (size_in bank)) n before (flat_map digest_text more ++ rest) ≡ Ok (before ++ more, rest)) count (repeat_again (λ b. bytes_grammar (fault all) (size_in bank)) before more rest (fits_each (λ digest. length digest ≡ size_in bank) before more fits)) in
    skip_test (ltb (length (flat_map digest_text more ++ rest)) (24 * size_in bank)) _ long read

-- ---- sizes

map_sizes : (size : ℕ) (more : List (List ℕ)) → AllByRecursion (λ digest. length digest ≡ size) more → map length more ≡ replicate (length more) size
map_sizes size [] fits = refl
map_sizes size (d ∷ more) fits = ap (λ (n : ℕ). n ∷ map length more) fits.0 ∙ ap (λ (ns : List ℕ). size ∷ ns) (map_sizes size more fits.1)

sizes_from : (present : Bool) (size : ℕ) (more : List (List ℕ)) → length more ≡ count_if present → AllByRecursion (λ digest. length digest ≡ size) more → map length more ≡ sizes_if present size
sizes_from true size more count fits = map_sizes size more fits ∙ ap (λ (n : ℕ). replicate n size) count
sizes_from false size more count fits = map_sizes size more fits ∙ ap (λ (n : ℕ). replicate n size) count

all_sized : (size n : ℕ) (more : List (List ℕ)) → map length more ≡ replicate n size → AllByRecursion (λ digest. length digest ≡ size) more
all_sized size n [] e = tt
all_sized size zero (d ∷ more) e = absurd cc
all_sized size (suc n) (d ∷ more) e = (heads e, all_sized size n more (tails e))
  where
    heads : {a b : ℕ} {fs gs : List ℕ} → a ∷ fs ≡ b ∷ gs → a ≡ b
    heads e = cc

    tails : {a b : ℕ} {fs gs : List ℕ} → a ∷ fs ≡ b ∷ gs → fs ≡ gs
    tails e = cc

record Sized (present : Bool) (size : ℕ) (more : List (List ℕ)) : Type 0 where
  count : length more ≡ count_if present
  fits : AllByRecursion (λ digest. length digest ≡ size) more

sizes_to : (present : Bool) (size : ℕ) (more : List (List ℕ)) → map length more ≡ sizes_if present size → Sized present size more
sizes_to true size more e = record {
  count = sym (length-map more length) ∙ ap length e ∙ length-replicate 24 size;
  fits = all_sized size 24 more e;
}
sizes_to false size more e = record { count = sym (length-map more length) ∙ ap length e; fits = all_sized size 0 more e }

record Split (xs : List (List ℕ)) (fs gs : List ℕ) : Type 0 where
  ys : List (List ℕ)
  zs : List (List ℕ)
  whole : xs ≡ ys ++ zs
  front : map length ys ≡ fs
  back : map length zs ≡ gs

split_map : (xs : List (List ℕ)) (fs gs : List ℕ) → map length xs ≡ fs ++ gs → Split xs fs gs
split_map xs [] gs e = record { ys = []; zs = xs; whole = refl; front = refl; back = e }
split_map [] (a ∷ fs) gs e = absurd cc
split_map (x ∷ xs) (a ∷ fs) gs e =
    let others = split_map xs fs gs (tails e) in
    record {
      ys = x ∷ others.ys;
      zs = others.zs;
      whole = ap (λ (l : List (List ℕ)). x ∷ l) others.whole;
      front = ap (λ (n : ℕ). n ∷ map length others.ys) (heads e) ∙ ap (λ (ns : List ℕ). a ∷ ns) others.front;
      back = others.back;
    }
  where
    heads : {a b : ℕ} {fs gs : List ℕ} → a ∷ fs ≡ b ∷ gs → a ≡ b
    heads e = cc

    tails : {a b : ℕ} {fs gs : List ℕ} → a ∷ fs ≡ b ∷ gs → fs ≡ gs
    tails e = cc

-- ---- the values of all banks

flat_four : (a b c d : List (List ℕ)) → flat_map digest_text (((a ++ b) ++ c) ++ d) ≡ flat_map digest_text a ++ (flat_map digest_text b ++ (flat_map digest_text c ++ flat_map digest_text d))
flat_four a b c d = simp (flat_map-append, append_assoc)

flat_four_then : (a b c d : List (List ℕ)) (rest : List ℕ) → flat_map digest_text (((a ++ b) ++ c) ++ d) ++ rest ≡ flat_map digest_text a ++ (flat_map digest_text b ++ (flat_map digest_text c ++ (flat_map digest_text d ++ rest)))
flat_four_then a b c d rest = ap (λ (l : List ℕ). l ++ rest) (flat_four a b c d) ∙ regroup_four (flat_map digest_text a) (flat_map digest_text b) (flat_map digest_text c) (flat_map digest_text d) rest

map_four : (a b c d : List (List ℕ)) → map length (((a ++ b) ++ c) ++ d) ≡ ((map length a ++ map length b) ++ map length c) ++ map length d
map_four a b c d = simp map-append

four_sized : (banks : Banks) (a b c d : List (List ℕ)) → map length a ≡ sizes_if banks.sha1 20 → map length b ≡ sizes_if banks.sha256 32 → map length c ≡ sizes_if banks.sha384 48 → map length d ≡ sizes_if banks.sha512 64
    → HasValues banks (((a ++ b) ++ c) ++ d)
four_sized banks a b c d p q r s = map_four a b c d ∙ rw (p, q, r, s) refl

joined : {p q r x a : List (List ℕ)} (b c d : List (List ℕ)) → p ≡ a → q ≡ p ++ b → r ≡ q ++ c → x ≡ r ++ d → x ≡ ((a ++ b) ++ c) ++ d
joined b c d h i j k = k ∙ ap (λ (l : List (List ℕ)). l ++ d) (j ∙ ap (λ (l : List (List ℕ)). l ++ c) (i ∙ ap (λ (l : List (List ℕ)). l ++ b) h))

values_joined : (banks : Banks) (bytes : List ℕ) (x : List (List ℕ) × List ℕ) (a b c d : List (List ℕ)) → x.0 ≡ ((a ++ b) ++ c) ++ d
    → Takes bytes (flat_map digest_text a ++ (flat_map digest_text b ++ (flat_map digest_text c ++ flat_map digest_text d))) x.1 → HasValues banks (((a ++ b) ++ c) ++ d) → Taken values_text (λ pcrs. HasValues banks pcrs) bytes x
values_joined banks bytes x a b c d whole taken sizes = record {
  takes = subst (λ (l : List (List ℕ)). Takes bytes (values_text l) x.1) (sym whole) (subst (λ (text : List ℕ). Takes bytes text x.1) (sym (flat_four a b c d)) taken);
  fits = subst (λ (l : List (List ℕ)). HasValues banks l) (sym whole) sizes;
}

pub values_takes : (all : ℕ) (banks : Banks) (bytes : List ℕ) (x : List (List ℕ) × List ℕ) → IsBytes bytes → values_at all banks bytes ≡ Ok x → Taken values_text (λ pcrs. HasValues banks pcrs) bytes x
unfolding values_at
values_takes all banks bytes x fits e =
    let p = bind_ok e in
    let q = bind_ok p.second in
    let r = bind_ok q.second in
    let a = bank_takes all banks.sha1 Sha1 [] bytes p.value fits p.first in
    let b = bank_takes all banks.sha256 Sha256 p.value.0 p.value.1 q.value a.takes.rest_fits q.first in
    let c = bank_takes all banks.sha384 Sha384 q.value.0 q.value.1 r.value b.takes.rest_fits r.first in
    let d = bank_takes all banks.sha512 Sha512 r.value.0 r.value.1 x c.takes.rest_fits r.second in
    values_joined banks bytes x a.more b.more c.more d.more
    (joined b.more c.more d.more a.whole b.whole c.whole d.whole)
    (Takes-then a.takes (Takes-then b.takes (Takes-then c.takes d.takes)))
    (four_sized banks a.more b.more c.more d.more (sizes_from banks.sha1 20 a.more a.count (each_fits (λ digest. length digest ≡ 20) [] a.more a.fits))
    (sizes_from banks.sha256 32 b.more b.count (each_fits (λ digest. length digest ≡ 32) p.value.0 b.more b.fits))
    (sizes_from banks.sha384 48 c.more c.count (each_fits (λ digest. length digest ≡ 48) q.value.0 c.more c.fits))
    (sizes_from banks.sha512 64 d.more d.count (each_fits (λ digest. length digest ≡ 64) r.value.0 d.more d.fits)))

values_four : (all : ℕ) (banks : Banks) (a b c d : List (List ℕ)) (rest : List ℕ) → Sized banks.sha1 20 a → Sized banks.sha256 32 b → Sized banks.sha384 48 c → Sized banks.sha512 64 d
    → values_at all banks (values_text (((a ++ b) ++ c) ++ d) ++ rest) ≡ Ok (((a ++ b) ++ c) ++ d, rest)
unfolding values_at
values_four all banks a b c d rest p q r s =
    let fourth = flat_map digest_text d ++ rest in
    let third = flat_map digest_text c ++ fourth in
    let second = flat_map digest_text b ++ third in
    ap (values_at all banks) (flat_four_then a b c d rest)
    ∙ bind_eq _ (a, second) (bank_again all banks.sha1 Sha1 [] a second p.count p.fits)
    (bind_eq _ (a ++ b, third) (bank_again all banks.sha256 Sha256 a b third q.count q.fits)
    (bind_eq _ ((a ++ b) ++ c, fourth) (bank_again all banks.sha384 Sha384 (a ++ b) c fourth r.count r.fits)
    (bank_again all banks.sha512 Sha512 ((a ++ b) ++ c) d rest s.count s.fits)))

pub values_again : (all : ℕ) (banks : Banks) (pcrs : List (List ℕ)) (rest : List ℕ) → HasValues banks pcrs → values_at all banks (values_text pcrs ++ rest) ≡ Ok (pcrs, rest)
values_again all banks pcrs rest fits =
    let last = split_map pcrs ((sizes_if banks.sha1 20 ++ sizes_if banks.sha256 32) ++ sizes_if banks.sha384 48) (sizes_if banks.sha512 64) fits in
    let third = split_map last.ys (sizes_if banks.sha1 20 ++ sizes_if banks.sha256 32) (sizes_if banks.sha384 48) last.front in
    let first = split_map third.ys (sizes_if banks.sha1 20) (sizes_if banks.sha256 32) third.front in
    let whole : pcrs ≡ ((first.ys ++ first.zs) ++ third.zs) ++ last.zs = last.whole ∙ ap (λ (l : List (List ℕ)). l ++ last.zs) (third.whole ∙ ap (λ (l : List (List ℕ)). l ++ third.zs) first.whole) in
    subst (λ (l : List (List ℕ)). values_at all banks (values_text l ++ rest) ≡ Ok (l, rest)) (sym whole)
    (values_four all banks first.ys first.zs third.zs last.zs rest (sizes_to banks.sha1 20 first.ys first.front) (sizes_to banks.sha256 32 first.zs first.back) (sizes_to banks.sha384 48 third.zs third.back) (sizes_to banks.sha512 64 last.zs last.back))

-- ---- the counters

pub record CountersFit (c : Counters) : Type 0 where
  pub update_counter : c.update_counter < 2 ^ 32
  pub next_session : c.next_session < 2 ^ 32
  pub write_counter : c.write_counter < 2 ^ 32
  pub next_object : c.next_object < 2 ^ 32

pub counters_takes : (all : ℕ) (bytes : List ℕ) (x : Counters × List ℕ) → IsBytes bytes → counters_at all bytes ≡ Ok x → Taken counters_text CountersFit bytes x
unfolding counters_at
counters_takes all bytes x fits e =
    let a = bind_ok e in
    let b = bind_ok a.second in
    let c = bind_ok b.second in
    let d = bind_ok c.second in
    let g = number_grammar wide32 (fault all) in
    let update = g.takes bytes a.value fits a.first in
    let session = g.takes a.value.1 b.value update.takes.rest_fits b.first in
    let write = g.takes b.value.1 c.value session.takes.rest_fits c.first in
    let object = g.takes c.value.1 d.value write.takes.rest_fits d.first in
    let made : Counters × List ℕ = (record { update_counter = a.value.0; next_session = b.value.0; write_counter = c.value.0; next_object = d.value.0 }, d.value.1) in
    subst (λ (y : Counters × List ℕ). Taken counters_text CountersFit bytes y) (ok_is made x d.second) (record {
      takes = Takes-then update.takes (Takes-then session.takes (Takes-then write.takes object.takes));
      fits = record { update_counter = update.fits; next_session = session.fits; write_counter = write.fits; next_object = object.fits };
    })

pub counters_again : (all : ℕ) (c : Counters) (rest : List ℕ) → CountersFit c → counters_at all (counters_text c ++ rest) ≡ Ok (c, rest)
unfolding counters_at
counters_again all c rest fits =
    let g = number_grammar wide32 (fault all) in
    let object = to_be_bytes w32 c.next_object ++ rest in
    let write = to_be_bytes w32 c.write_counter ++ object in
    let session = to_be_bytes w32 c.next_session ++ write in
    bind_eq _ (c.update_counter, session) (g.again c.update_counter session fits.update_counter)
    (bind_eq _ (c.next_session, write) (g.again c.next_session write fits.next_session)
    (bind_eq _ (c.write_counter, object) (g.again c.write_counter object fits.write_counter)
    (bind_eq _ (c.next_object, rest) (g.again c.next_object rest fits.next_object) refl)))
