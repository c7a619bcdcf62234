-- Where the PCR values of a bank stand, and the size that each has.
use Rattle.std.proofs.Common.{◌≡◌, ℕ, ◌+◌, ◌*◌, ◌<◌, Bool, true, false, cond, ◌&&◌, List, [], ◌++◌, length, replicate, set, refl, sym, ap, ◌∙◌, arith, append_assoc, append-nil}
use Rattle.std.specs.Prelude.{slice_get, Option, None, Some, nat_lt}
use Rattle.std.specs.Option.{option_map}
use Rattle.std.proofs.lemmas.Option.{slice_get_within, slice_get-map, slice_get-get_or, get_or_from_slice_get}
use Rattle.std.proofs.lemmas.List.{get_or-append-add, get_or_append_left, get_or-replicate, length-replicate}
use Rattle.std.proofs.Math.ListN.{length-append}
use Rattle.std.proofs.Math.Seq.{map-set_same}
use Rattle.std.proofs.lemmas.Bool.{ltb-true}
use Rattle.hash_bank.specs.declared.bank.Bank.{Bank}
use Rattle.hash_bank.specs.declared.bank.Bank.TheVariants.{Sha1, Sha256, Sha384, Sha512}
use Rattle.hash_bank.specs.declared.banks.Banks.{Banks}
use Rattle.hash_bank.specs.Hash.{size_in}
use Rattle.hash_bank.specs.Banks.{has_bank}
use Rattle.tpm_model.specs.Pcrs.{one_if, place_of, pcr_of, sizes_if, sizes_of, HasValues}

both_true : (a b : Bool) → (a && b) ≡ true → (a ≡ true) × (b ≡ true)
both_true true b e = (refl, e)
both_true false b e = cc

-- the element p of n equal ones that stand behind a front
in_segment : (front : List ℕ) (n x : ℕ) (rest : List ℕ) (p : ℕ) → p < n → slice_get (front ++ (replicate n x ++ rest)) (length front + p) ≡ Some x
in_segment front n x rest p h =
    let segment : length (replicate n x) ≡ n = length-replicate n x in
    let all : length (front ++ (replicate n x ++ rest)) ≡ length front + (n + length rest) =
    length-append front (replicate n x ++ rest) ∙ ap (λ k. length front + k) (length-append (replicate n x) rest ∙ ap (λ k. k + length rest) segment) in
    let within : length front + p < length (front ++ (replicate n x ++ rest)) = omega arith in
    let inside : p < length (replicate n x) = omega arith in
    slice_get-get_or (front ++ (replicate n x ++ rest)) (length front + p) 0 within
    ∙ ap Some (get_or-append-add front (replicate n x ++ rest) p 0 ∙ get_or_append_left (replicate n x) rest 0 p inside ∙ get_or-replicate n p x 0 h)

length-sizes_if : (present : Bool) (size : ℕ) → length (sizes_if present size) ≡ 24 * one_if present
length-sizes_if true size = length-replicate 24 size
length-sizes_if false size = refl

-- a present bank's segment, behind the sizes of the banks before it
at_segment : (front : List ℕ) (present : Bool) (size : ℕ) (rest : List ℕ) (p place : ℕ) → present ≡ true → p < 24 → place ≡ length front + p → slice_get (front ++ (sizes_if present size ++ rest)) place ≡ Some size
at_segment front true size rest p place e h at = ap (slice_get (front ++ (replicate 24 size ++ rest))) at ∙ in_segment front 24 size rest p h
at_segment front false size rest p place e h at = cc

-- the size of a present bank's value
pub size_at : (banks : Banks) (bank : Bank) (p : ℕ) → has_bank banks bank ≡ true → p < 24 → slice_get (sizes_of banks) (place_of banks bank p) ≡ Some (size_in bank)
size_at banks Sha1 p e h =
    let a = sizes_if banks.sha1 20 in let b = sizes_if banks.sha256 32 in let c = sizes_if banks.sha384 48 in let d = sizes_if banks.sha512 64 in
    ap (λ xs. slice_get xs (place_of banks Sha1 p)) (append_assoc (a ++ b) c d ∙ append_assoc a b (c ++ d))
    ∙ at_segment [] banks.sha1 20 (b ++ (c ++ d)) p (place_of banks Sha1 p) e h (omega arith)
size_at banks Sha256 p e h =
    let a = sizes_if banks.sha1 20 in let b = sizes_if banks.sha256 32 in let c = sizes_if banks.sha384 48 in let d = sizes_if banks.sha512 64 in
    ap (λ xs. slice_get xs (place_of banks Sha256 p)) (append_assoc (a ++ b) c d ∙ append_assoc a b (c ++ d))
    ∙ at_segment a banks.sha256 32 (c ++ d) p (place_of banks Sha256 p) e h (omega (arith, length-sizes_if banks.sha1 20))
size_at banks Sha384 p e h =
    let a = sizes_if banks.sha1 20 in let b = sizes_if banks.sha256 32 in let c = sizes_if banks.sha384 48 in let d = sizes_if banks.sha512 64 in
    ap (λ xs. slice_get xs (place_of banks Sha384 p)) (append_assoc (a ++ b) c d)
    ∙ at_segment (a ++ b) banks.sha384 48 d p (place_of banks Sha384 p) e h
    (omega (arith, length-append a b, length-sizes_if banks.sha1 20, length-sizes_if banks.sha256 32))
size_at banks Sha512 p e h =
    let a = sizes_if banks.sha1 20 in let b = sizes_if banks.sha256 32 in let c = sizes_if banks.sha384 48 in let d = sizes_if banks.sha512 64 in
    ap (λ xs. slice_get (((a ++ b) ++ c) ++ xs) (place_of banks Sha512 p)) (sym (append-nil d))
    ∙ at_segment ((a ++ b) ++ c) banks.sha512 64 [] p (place_of banks Sha512 p) e h
    (omega (arith, length-append (a ++ b) c, length-append a b, length-sizes_if banks.sha1 20, length-sizes_if banks.sha256 32, length-sizes_if banks.sha384 48))

-- what is known of a PCR's value: its place, and its size
pub record IsValueAt (banks : Banks) (pcrs : List (List ℕ)) (bank : Bank) (p : ℕ) (value : List ℕ) : Type 0 where
  pub bound : p < 24
  pub within : place_of banks bank p < length pcrs
  pub found : slice_get pcrs (place_of banks bank p) ≡ Some value
  pub size : length value ≡ size_in bank

pub value_at : (banks : Banks) (pcrs : List (List ℕ)) (bank : Bank) (p : ℕ) (value : List ℕ) → HasValues banks pcrs → pcr_of banks pcrs bank p ≡ Some value → IsValueAt banks pcrs bank p value
value_at banks pcrs bank p value h e =
    let tests : (has_bank banks bank && nat_lt p 24 ≡ true) × (slice_get pcrs (place_of banks bank p) ≡ Some value) = found (has_bank banks bank && nat_lt p 24) (slice_get pcrs (place_of banks bank p)) value e in
    let parts : (has_bank banks bank ≡ true) × (nat_lt p 24 ≡ true) = both_true _ _ tests.0 in
    let below : p < 24 = ltb-true p 24 parts.1 in
    let sizes : Some (length value) ≡ Some (size_in bank) =
    sym (slice_get-map length pcrs (place_of banks bank p) ∙ ap (option_map length) tests.1)
    ∙ ap (λ xs. slice_get xs (place_of banks bank p)) h ∙ size_at banks bank p parts.0 below in
    record { bound = below; within = slice_get_within pcrs (place_of banks bank p) value tests.1; found = tests.1; size = cc }
  where
    found : (b : Bool) (o : Option (List ℕ)) (x : List ℕ) → cond b o None ≡ Some x → (b ≡ true) × (o ≡ Some x)
    found true o x e = (refl, e)
    found false o x e = cc

-- another value of the same size leaves the sizes
pub keeps_values : (banks : Banks) (pcrs : List (List ℕ)) (place : ℕ) (old new : List ℕ) → HasValues banks pcrs → slice_get pcrs place ≡ Some old → length new ≡ length old → HasValues banks (set pcrs place new)
keeps_values banks pcrs place old new h e size =
    map-set_same length pcrs place new [] (size ∙ sym (ap length (get_or_from_slice_get pcrs place old [] e))) ∙ h
