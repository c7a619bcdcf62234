-- What two strings of policies that are equal have in common.
use Rattle.std.proofs.Common.{◌≡◌, ℕ, ◌/◌, ◌%◌, List, [], ◌∷◌, ◌++◌, length, get_or, refl, ap, ◌∙◌, arith}
use Rattle.std.specs.Int.{w32, to_be_bytes}
use Rattle.std.proofs.lemmas.List.{append_cancel_left, append_cancel_right}
use Rattle.hash_bank.specs.declared.bank.Bank.{Bank}
use Rattle.hash_bank.specs.declared.bank.Bank.TheVariants.{Sha1, Sha256, Sha384, Sha512}
use Rattle.hash_bank.specs.Hash.{algorithm_in, zeros_in}
use Rattle.policy_digest.specs.Strings.{nv_string_in, or_string_in, pcr_string_in, policy_pcr_code, selection_of}

-- fronts of one length, and what stands behind them
pub record AreParts {A : Type 0} (a b c d : List A) : Type 0 where
  pub front : a ≡ c
  pub back : b ≡ d

pub parts : {A : Type 0} (a b c d : List A) → length a ≡ length c → a ++ b ≡ c ++ d → AreParts a b c d
parts [] b [] d long e = record { front = refl; back = e }
parts [] b (y ∷ c) d long e = cc
parts (x ∷ a) b [] d long e = cc
parts (x ∷ a) b (y ∷ c) d long e =
    let heads : x ≡ y = cc in
    let tails : a ++ b ≡ c ++ d = cc in
    let shorter : length a ≡ length c = omega (arith, long) in
    let rest = parts a b c d shorter tails in
    record { front = ap (λ z. z ∷ a) heads ∙ ap (λ zs. y ∷ zs) rest.front; back = rest.back }

-- a mask is told by its bytes, of which the highest isn't cut
same_mask : (m n : ℕ) → m % 256 ≡ n % 256 → m / 256 % 256 ≡ n / 256 % 256 → m / 65536 ≡ n / 65536 → m ≡ n
same_mask m n low middle high = omega arith

same_bank : (a b : Bank) → algorithm_in a % 256 ≡ algorithm_in b % 256 → a ≡ b
same_bank Sha1 Sha1 e = refl
same_bank Sha1 Sha256 e = absurd (omega arith)
same_bank Sha1 Sha384 e = absurd (omega arith)
same_bank Sha1 Sha512 e = absurd (omega arith)
same_bank Sha256 Sha1 e = absurd (omega arith)
same_bank Sha256 Sha256 e = refl
same_bank Sha256 Sha384 e = absurd (omega arith)
same_bank Sha256 Sha512 e = absurd (omega arith)
same_bank Sha384 Sha1 e = absurd (omega arith)
same_bank Sha384 Sha256 e = absurd (omega arith)
same_bank Sha384 Sha384 e = refl
same_bank Sha384 Sha512 e = absurd (omega arith)
same_bank Sha512 Sha1 e = absurd (omega arith)
same_bank Sha512 Sha256 e = absurd (omega arith)
same_bank Sha512 Sha384 e = absurd (omega arith)
same_bank Sha512 Sha512 e = refl

-- a selection tells its bank and its mask
pub record IsSameLook (bank other : Bank) (m n : ℕ) (seen values : List ℕ) : Type 0 where
  pub bank_same : bank ≡ other
  pub mask : m ≡ n
  pub digest : seen ≡ values

same_look : (bank other : Bank) (m n : ℕ) (seen values : List ℕ)
    → selection_of bank m ++ (seen ++ []) ≡ selection_of other n ++ (values ++ []) → IsSameLook bank other m n seen values
same_look bank other m n seen values e =
    let whole = parts (selection_of bank m) (seen ++ []) (selection_of other n) (values ++ []) refl e in
    record {
      bank_same = same_bank bank other (ap (λ xs. get_or xs 5 0) whole.front);
      mask = same_mask m n (ap (λ xs. get_or xs 7 0) whole.front) (ap (λ xs. get_or xs 8 0) whole.front) (ap (λ xs. get_or xs 9 0) whole.front);
      digest = append_cancel_right seen values [] whole.back;
    }

-- two strings of PolicyPCR with old digests of one length
pub same_pcr_string : (hash : Bank) (before after : List ℕ) (bank other : Bank) (m n : ℕ) (seen values : List ℕ) → length before ≡ length after
    → pcr_string_in hash before bank m seen ≡ pcr_string_in hash after other n values → IsSameLook bank other m n seen values
unfolding pcr_string_in
same_pcr_string hash before after bank other m n seen values long e =
    let whole = parts before _ after _ long e in
    same_look bank other m n seen values (append_cancel_left (to_be_bytes w32 policy_pcr_code) _ _ whole.back)

-- no string of PolicyOR is one of PolicyPCR from zeros
pub or_is_no_pcr : (hash : Bank) (list : List (List ℕ)) (bank : Bank) (m : ℕ) (values : List ℕ)
    → or_string_in hash list ≡ pcr_string_in hash (zeros_in hash) bank m values → ⊥
unfolding or_string_in pcr_string_in
or_is_no_pcr hash list bank m values e =
    let codes = append_cancel_left (zeros_in hash) _ _ e in
    let byte : 0x71 ≡ 0x7F = ap (λ xs. get_or xs 3 0) codes in
    omega (arith, byte)

-- nor is one of PolicyAuthorizeNV
pub nv_is_no_pcr : (hash : Bank) (name : List ℕ) (bank : Bank) (m : ℕ) (values : List ℕ)
    → nv_string_in hash name ≡ pcr_string_in hash (zeros_in hash) bank m values → ⊥
unfolding nv_string_in pcr_string_in
nv_is_no_pcr hash name bank m values e =
    let codes = append_cancel_left (zeros_in hash) _ _ e in
    let byte : 0x92 ≡ 0x7F = ap (λ xs. get_or xs 3 0) codes in
    omega (arith, byte)
