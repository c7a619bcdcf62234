-- The bounds of the values that are read.
use Rattle.std.proofs.Common.{◌≡◌, ◌∙◌, ℕ, ◌*◌, ◌<◌, ◌≤◌, ◌^◌, Bool, true, false, cond, ◌&&◌, ◌||◌, List, [], ◌∷◌, length, Option, Some, None, Result, Ok, Err, refl, sym, arith, true≢false}
use Rattle.std.specs.Prelude.{◌==◌, nat_le, IfSome, IsTrue, bit_or, option_map}
use Rattle.std.specs.Result.{result_ok}
use Rattle.std.proofs.lemmas.Bool.{and_parts, leb-true}
use Rattle.std.proofs.lemmas.Nat.{or_lt, le_or_r, pow_pos}
use Rattle.std.proofs.Math.Pow.{pow-lt}
use Rattle.std.proofs.lemmas.List.Splits.{length-slice_split}
use Rattle.std.proofs.lemmas.Bool.Decides.{nat_tests}
use Rattle.hex.specs.Hex.{decode_of, decode_sized}
use Rattle.hex.specs.declared.error.FromHexError.{FromHexError}
use Rattle.hex.proofs.HexLemmas.{decode_of-ok, decode_sized-ok, decode_sized-twice}
use Rattle.hash_bank.specs.declared.bank.Bank.{Bank}
use Rattle.hash_bank.specs.declared.bank.Bank.TheVariants.{Sha1, Sha256, Sha384, Sha512}
use Rattle.hash_bank.specs.declared.banks.Banks.{Banks}
use Rattle.hash_bank.specs.Banks.{has_bank}
use Rattle.policy_digest.specs.Mask.{has_pcr}
use Rattle.pcrlock_words.specs.ProperRequest.{IsMask, IsIndex, IsLocality, AreClients, IsKey, IsPin, has_some_bank}
use Rattle.pl_text.specs.Parts.{parts_of}
use Rattle.pl_text.specs.Words.{◌>>=◌, number_up_to, pcr_of, with_pcr, with_pcrs, pcr_mask_of, bank_of, with_bank, with_banks, no_bank, banks_of, handle_of}
use Rattle.pcrlock_words.specs.Values.{required, optional, defaulted, locality_of, key_of, pin_of, nv_handle, index_of, clients_up_to}
use Rattle.pl_text.proofs.Decimals.{number-in_range}

abbrev pub Text : Type 0
Text = List ℕ

-- what holds of each value that may be read
pub of_each : {A : Type 0} (P : A → Type 0) (o : Option A) → ((x : A) → Some x ≡ o → P x) → IfSome o P
of_each P None each = tt
of_each P (Some x) each = each x refl

-- a value of which nothing is asked, and then another reading
pub after : {A B : Type 0} (Q : B → Type 0) (o : Option A) (f : A → Option B) → ((x : A) → IfSome (f x) Q) → IfSome (o >>= f) Q
after Q None f next = tt
after Q (Some x) f next = next x

-- a value that is known, and then another reading
pub known : {A B : Type 0} (P : A → Type 0) (Q : B → Type 0) (o : Option A) (f : A → Option B) → IfSome o P → ((x : A) → P x → IfSome (f x) Q) → IfSome (o >>= f) Q
known P Q None f knows next = tt
known P Q (Some x) f knows next = next x knows

-- a value that is let through by a test
pub let_by : {A : Type 0} (P : A → Type 0) (test : Bool) (x : A) → (test ≡ true → P x) → IfSome (cond test (Some x) None) P
let_by P true x holds = holds refl
let_by P false x holds = tt

-- and one that a test holds back
pub held_by : {A : Type 0} (P : A → Type 0) (test : Bool) (x : A) → (test ≡ false → P x) → IfSome (cond test None (Some x)) P
held_by P true x holds = tt
held_by P false x holds = holds refl

pub in_required : {A : Type 0} (P : A → Type 0) (read : Text → Option A) → ((value : Text) → IfSome (read value) P) → (given : Option Text) → IfSome (required read given) P
in_required P read each None = tt
in_required P read each (Some value) = each value

in_some : {A : Type 0} (P : A → Type 0) (found : Option A) → IfSome found P → IfSome (option_map (λ x. Some x) found) (λ o. IfSome o P)
in_some P None holds = tt
in_some P (Some x) holds = holds

pub in_optional : {A : Type 0} (P : A → Type 0) (read : Text → Option A) → ((value : Text) → IfSome (read value) P) → (given : Option Text) → IfSome (optional read given) (λ o. IfSome o P)
in_optional P read each None = tt
in_optional P read each (Some value) = in_some P (read value) (each value)

pub in_defaulted : {A : Type 0} (P : A → Type 0) (read : Text → Option A) (default : A) → P default → ((value : Text) → IfSome (read value) P) → (given : Option Text) → IfSome (defaulted read default given) P
in_defaulted P read default usual each None = usual
in_defaulted P read default usual each (Some value) = each value

-- ---- numbers

pub number_within : (limit : ℕ) (value : Text) → IfSome (number_up_to limit value) (λ n. n ≤ limit)
number_within limit value = of_each (λ n. n ≤ limit) (number_up_to limit value) (λ n read. number-in_range limit n value read)

some_clients : (limit clients : ℕ) → clients ≤ limit → (clients == 0) ≡ false → AreClients limit clients
some_clients limit clients below some = (grind (arith, nat_tests), below)

pub clients_within : (limit : ℕ) (value : Text) → IfSome (clients_up_to limit value) (AreClients limit)
clients_within limit value =
    known (λ n. n ≤ limit) (AreClients limit) (number_up_to limit value) (λ n. cond (n == 0) None (Some n)) (number_within limit value)
    (λ n below. held_by (AreClients limit) (n == 0) n (some_clients limit n below))

pub locality_known : (value : Text) → IfSome (locality_of value) IsLocality
locality_known value =
    after IsLocality (number_up_to 4 value) (λ n. cond (n == 0 || n == 3 || n == 4) (Some n) None) (λ n. let_by IsLocality (n == 0 || n == 3 || n == 4) n (λ one. one))

index_bounds : (handle : ℕ) → (nat_le 0x01000000 handle && nat_le handle 0x01ffffff) ≡ true → IsIndex handle
index_bounds handle inside =
    let parts = and_parts (nat_le 0x01000000 handle) (nat_le handle 0x01ffffff) inside in
    (leb-true 0x01000000 handle parts.0, leb-true handle 0x01ffffff parts.1)

handle_within : (handle : ℕ) → IfSome (nv_handle handle) IsIndex
handle_within handle = let_by IsIndex (nat_le 0x01000000 handle && nat_le handle 0x01ffffff) handle (index_bounds handle)

pub index_within : (value : Text) → IfSome (index_of value) IsIndex
index_within value =
    after IsIndex (handle_of value) nv_handle handle_within

-- ---- bytes

let_through : (test : Bool) (r : Result Text FromHexError) (bytes : Text) → Some bytes ≡ cond test (result_ok r) None → (test ≡ true) × (r ≡ Ok bytes)
let_through true (Ok found) bytes e = (refl, cc)
let_through true (Err d) bytes f = cc
let_through false r bytes f = cc

key_bounds : (value key : Text) → Some key ≡ key_of value → IsKey key
key_bounds value key read =
    let parts = let_through (nat_le 2 (length value) && nat_le (length value) 256) (decode_of value) key read in
    let bounds = and_parts (nat_le 2 (length value)) (nat_le (length value) 256) parts.0 in
    let low : 2 ≤ length value = leb-true 2 (length value) bounds.0 in
    let high : length value ≤ 256 = leb-true (length value) 256 bounds.1 in
    let twice : length value ≡ 2 * length key = (decode_of-ok value key parts.1).2 in
    (omega (arith, low, twice), omega (arith, high, twice))

pub key_within : (value : Text) → IfSome (key_of value) IsKey
key_within value = of_each IsKey (key_of value) (key_bounds value)

decoded : (r : Result Text FromHexError) (bytes : Text) → Some bytes ≡ result_ok r → r ≡ Ok bytes
decoded (Ok found) bytes e = cc
decoded (Err d) bytes f = cc

pin_bounds : (value pin : Text) → Some pin ≡ pin_of value → IsPin pin
pin_bounds value pin read =
    let sized : decode_sized value 32 ≡ Ok pin = decoded (decode_sized value 32) pin read in
    let long : length value ≡ 2 * 32 = decode_sized-ok value 32 pin sized in
    let twice : length value ≡ 2 * length pin = (decode_of-ok value pin (sym (decode_sized-twice value 32 long) ∙ sized)).2 in
    omega (arith, long, twice)

pub pin_within : (value : Text) → IfSome (pin_of value) IsPin
pin_within value = of_each IsPin (pin_of value) (pin_bounds value)

-- ---- masks of PCRs

held_back : {A : Type 0} (P : A → Type 0) (test : Bool) (o : Option A) → IfSome o P → IfSome (cond test None o) P
held_back P true o holds = tt
held_back P false o holds = holds

mask_more : (mask pcr : ℕ) → mask < 2 ^ 24 → pcr ≤ 23 → IsMask (with_pcr mask pcr)
mask_more mask pcr below in_range =
    let at_least : 2 ^ pcr ≤ bit_or mask (2 ^ pcr) = le_or_r mask (2 ^ pcr) in
    let positive : 0 < 2 ^ pcr = pow_pos pcr in
    let near : pcr < 24 = omega (arith, in_range) in
    (omega (arith, at_least, positive), or_lt 24 mask (2 ^ pcr) below (pow-lt near))

pcrs_more : (numbers : List Text) (mask : ℕ) → IsMask mask → IfSome (with_pcrs mask numbers) IsMask
pcrs_more [] mask so_far = so_far
pcrs_more (number ∷ numbers) mask so_far =
    known (λ n. n ≤ 23) IsMask (pcr_of number) (λ pcr. cond (has_pcr mask pcr) None (with_pcrs (with_pcr mask pcr) numbers)) (number_within 23 number)
    (λ pcr below. held_back IsMask (has_pcr mask pcr) (with_pcrs (with_pcr mask pcr) numbers) (pcrs_more numbers (with_pcr mask pcr) (mask_more mask pcr so_far.1 below)))

first_pcrs : (numbers : List Text) → 1 ≤ length numbers → IfSome (with_pcrs 0 numbers) IsMask
first_pcrs [] some = absurd (omega (arith, some))
first_pcrs (number ∷ numbers) some =
    known (λ n. n ≤ 23) IsMask (pcr_of number) (λ pcr. cond (has_pcr 0 pcr) None (with_pcrs (with_pcr 0 pcr) numbers)) (number_within 23 number)
    (λ pcr below. held_back IsMask (has_pcr 0 pcr) (with_pcrs (with_pcr 0 pcr) numbers) (pcrs_more numbers (with_pcr 0 pcr) (mask_more 0 pcr (omega arith) below)))

some_parts : (value : Text) → 1 ≤ length (parts_of 44 value)
some_parts value = omega (arith, length-slice_split (λ byte. byte == 44) value)

pub pcrs_within : (value : Text) → IfSome (pcr_mask_of value) IsMask
pcrs_within value = first_pcrs (parts_of 44 value) (some_parts value)

-- ---- banks

either : (a b : Bool) → b ≡ true → (a || b) ≡ true
either true b e = refl
either false b e = e

first : (a b : Bool) → a ≡ true → (a || b) ≡ true
first true b e = refl
first false b e = absurd (true≢false (sym e))

some_bank : (bank : Bank) (banks : Banks) → has_some_bank (with_bank bank banks) ≡ true
some_bank Sha1 banks = refl
some_bank Sha256 banks =
    first (banks.sha1 || true || banks.sha384) banks.sha512 (first (banks.sha1 || true) banks.sha384 (either banks.sha1 true refl))
some_bank Sha384 banks = first (banks.sha1 || banks.sha256 || true) banks.sha512 (either (banks.sha1 || banks.sha256) true refl)
some_bank Sha512 banks = either (banks.sha1 || banks.sha256 || banks.sha384) true refl

abbrev pub HasSome : Banks → Type 0
HasSome banks = IsTrue (has_some_bank banks)

banks_more : (names : List Text) (banks : Banks) → HasSome banks → IfSome (with_banks banks names) HasSome
banks_more [] banks so_far = so_far
banks_more (name ∷ names) banks so_far =
    after HasSome (bank_of name) (λ bank. cond (has_bank banks bank) None (with_banks (with_bank bank banks) names))
    (λ bank. held_back HasSome (has_bank banks bank) (with_banks (with_bank bank banks) names) (banks_more names (with_bank bank banks) (some_bank bank banks)))

first_banks : (names : List Text) → 1 ≤ length names → IfSome (with_banks no_bank names) HasSome
first_banks [] some = absurd (omega (arith, some))
first_banks (name ∷ names) some =
    after HasSome (bank_of name) (λ bank. cond (has_bank no_bank bank) None (with_banks (with_bank bank no_bank) names))
    (λ bank. held_back HasSome (has_bank no_bank bank) (with_banks (with_bank bank no_bank) names) (banks_more names (with_bank bank no_bank) (some_bank bank no_bank)))

pub banks_within : (value : Text) → IfSome (banks_of value) HasSome
banks_within value = first_banks (parts_of 44 value) (some_parts value)
