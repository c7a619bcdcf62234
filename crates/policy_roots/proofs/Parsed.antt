-- What two strings of policies, or of indices, that are equal have in common.
use Rattle.std.proofs.Common.{◌≡◌, ℕ, ◌+◌, ◌/◌, ◌%◌, ◌<◌, ◌≤◌, ◌^◌, List, [], ◌∷◌, ◌++◌, length, get_or, refl, sym, ap, ◌∙◌, arith, length-append}
use Rattle.std.specs.Int.{w16, w32, from_be_bytes, to_be_bytes}
use Rattle.std.specs.List.{All, concat}
use Rattle.std.proofs.lemmas.List.{append_cancel_left, append_cancel_right}
use Rattle.std.proofs.lemmas.List.Elements.{All-head, All-tail}
use Rattle.std.proofs.lemmas.Nat.{from_be_bytes-to_be_bytes_4}
use Rattle.hash_bank.specs.declared.bank.Bank.{Bank}
use Rattle.hash_bank.specs.declared.bank.Bank.TheVariants.{Sha1, Sha256, Sha384, Sha512}
use Rattle.hash_bank.specs.Hash.{algorithm_in, size_in, zeros_in}
use Rattle.hash_bank.proofs.Sizes.{length-zeros_in, one_le-size_in}
use Rattle.nv_index.specs.IndexName.{index_string}
use Rattle.nv_index.specs.declared.index.NvPublic.{NvPublic}
use Rattle.policy_digest.specs.Strings.{nv_string_in, or_string_in, pcr_string_in, policy_authorize_nv_code, policy_or_code, policy_pcr_code, selection_of}
use Rattle.policy_roots.specs.Looks.{IsSameLook}

-- fronts of one length, and what stands behind them
pub record AreParts {A : Type 0} (a b c d : List A) : Type 0 where
  pub front : a ≡ c
  pub back : b ≡ d

pub parts : {A : Type 0} (a b c d : List A) → length a ≡ length c → a ++ b ≡ c ++ d → AreParts a b c d
parts [] b [] d long e = record { front = refl; back = e }
parts [] b (y ∷ c) d long e = cc
parts (x ∷ a) b [] d long e = cc
parts (x ∷ a) b (y ∷ c) d long e =
    let heads : x ≡ y = cc in
    let tails : a ++ b ≡ c ++ d = cc in
    let shorter : length a ≡ length c = omega (arith, long) in
    let rest = parts a b c d shorter tails in
    record { front = ap (λ z. z ∷ a) heads ∙ ap (λ zs. y ∷ zs) rest.front; back = rest.back }

-- ---- PolicyPCR

-- a mask is told by its bytes, of which the highest isn't cut
same_mask : (m n : ℕ) → m % 256 ≡ n % 256 → m / 256 % 256 ≡ n / 256 % 256 → m / 65536 ≡ n / 65536 → m ≡ n
same_mask m n low middle high = omega arith

same_bank : (a b : Bank) → algorithm_in a % 256 ≡ algorithm_in b % 256 → a ≡ b
same_bank Sha1 Sha1 e = refl
same_bank Sha1 Sha256 e = absurd (omega arith)
same_bank Sha1 Sha384 e = absurd (omega arith)
same_bank Sha1 Sha512 e = absurd (omega arith)
same_bank Sha256 Sha1 e = absurd (omega arith)
same_bank Sha256 Sha256 e = refl
same_bank Sha256 Sha384 e = absurd (omega arith)
same_bank Sha256 Sha512 e = absurd (omega arith)
same_bank Sha384 Sha1 e = absurd (omega arith)
same_bank Sha384 Sha256 e = absurd (omega arith)
same_bank Sha384 Sha384 e = refl
same_bank Sha384 Sha512 e = absurd (omega arith)
same_bank Sha512 Sha1 e = absurd (omega arith)
same_bank Sha512 Sha256 e = absurd (omega arith)
same_bank Sha512 Sha384 e = absurd (omega arith)
same_bank Sha512 Sha512 e = refl

-- two strings of PolicyPCR with old digests of one length
pub same_pcr_string : (hash : Bank) (before after : List ℕ) (bank other : Bank) (m n : ℕ) (seen values : List ℕ) → length before ≡ length after
    → pcr_string_in hash before bank m seen ≡ pcr_string_in hash after other n values → IsSameLook before after bank other m n seen values
unfolding pcr_string_in
same_pcr_string hash before after bank other m n seen values long e =
    let whole = parts before _ after _ long e in
    let look = parts (selection_of bank m) (seen ++ []) (selection_of other n) (values ++ []) refl (append_cancel_left (to_be_bytes w32 policy_pcr_code) _ _ whole.back) in
    record {
      old = whole.front;
      banks = same_bank bank other (ap (λ xs. get_or xs 5 0) look.front);
      masks = same_mask m n (ap (λ xs. get_or xs 7 0) look.front) (ap (λ xs. get_or xs 8 0) look.front) (ap (λ xs. get_or xs 9 0) look.front);
      digests = append_cancel_right seen values [] look.back;
    }

-- ---- the three kinds

pub or_is_no_pcr : (hash : Bank) (before : List ℕ) (list : List (List ℕ)) (bank : Bank) (m : ℕ) (values : List ℕ) → length before ≡ size_in hash
    → or_string_in hash list ≡ pcr_string_in hash before bank m values → ⊥
unfolding or_string_in pcr_string_in
or_is_no_pcr hash before list bank m values long e =
    let codes = (parts (zeros_in hash) _ before _ (length-zeros_in hash ∙ sym long) e).back in
    let byte : 0x71 ≡ 0x7F = ap (λ xs. get_or xs 3 0) codes in
    omega (arith, byte)

pub nv_is_no_pcr : (hash : Bank) (before name : List ℕ) (bank : Bank) (m : ℕ) (values : List ℕ) → length before ≡ size_in hash
    → nv_string_in hash name ≡ pcr_string_in hash before bank m values → ⊥
unfolding nv_string_in pcr_string_in
nv_is_no_pcr hash before name bank m values long e =
    let codes = (parts (zeros_in hash) _ before _ (length-zeros_in hash ∙ sym long) e).back in
    let byte : 0x92 ≡ 0x7F = ap (λ xs. get_or xs 3 0) codes in
    omega (arith, byte)

pub nv_is_no_or : (hash : Bank) (name : List ℕ) (list : List (List ℕ)) → nv_string_in hash name ≡ or_string_in hash list → ⊥
unfolding nv_string_in or_string_in
nv_is_no_or hash name list e =
    let codes = append_cancel_left (zeros_in hash) _ _ e in
    let byte : 0x92 ≡ 0x71 = ap (λ xs. get_or xs 3 0) codes in
    omega (arith, byte)

-- ---- PolicyOR and PolicyAuthorizeNV

-- digests of one length, joined, tell the digests
module _ (size : ℕ) (some_bytes : 1 ≤ size) where
  abbrev pub HasSize : List ℕ → Type 0
  HasSize digest = length digest ≡ size

  pub same_digests : (some others : List (List ℕ)) → All HasSize some → All HasSize others → concat some ≡ concat others → some ≡ others
  same_digests [] [] a b e = refl
  same_digests [] (y ∷ others) a b e =
      let long = All-head HasSize y others b in
      let none : 0 ≡ length (y ++ concat others) = ap length e in
      absurd (omega (arith, some_bytes, long, none, length-append y (concat others)))
  same_digests (x ∷ some) [] a b e =
      let long = All-head HasSize x some a in
      let none : length (x ++ concat some) ≡ 0 = ap length e in
      absurd (omega (arith, some_bytes, long, none, length-append x (concat some)))
  same_digests (x ∷ some) (y ∷ others) a b e =
      let whole = parts x (concat some) y (concat others) (All-head HasSize x some a ∙ sym (All-head HasSize y others b)) e in
      let rest = same_digests some others (All-tail HasSize x some a) (All-tail HasSize y others b) whole.back in
      ap (λ z. z ∷ some) whole.front ∙ ap (λ zs. y ∷ zs) rest

pub same_or_string : (hash : Bank) (some others : List (List ℕ)) → All (λ (d : List ℕ). length d ≡ size_in hash) some → All (λ (d : List ℕ). length d ≡ size_in hash) others
    → or_string_in hash some ≡ or_string_in hash others → some ≡ others
unfolding or_string_in
same_or_string hash some others a b e =
    same_digests (size_in hash) (one_le-size_in hash) some others a b (append_cancel_left (to_be_bytes w32 policy_or_code) _ _ (append_cancel_left (zeros_in hash) _ _ e))

pub same_nv_string : (hash : Bank) (name other : List ℕ) → nv_string_in hash name ≡ nv_string_in hash other → name ≡ other
unfolding nv_string_in
same_nv_string hash name other e =
    append_cancel_right name other []
    (append_cancel_left (to_be_bytes w16 (algorithm_in Sha256)) _ _ (append_cancel_left (to_be_bytes w32 policy_authorize_nv_code) _ _ (append_cancel_left (zeros_in hash) _ _ e)))

-- ---- indices

-- the bytes of the handle, and the policy
record IsSameIndex (some other : NvPublic) : Type 0 where
  number : to_be_bytes w32 some.handle ≡ to_be_bytes w32 other.handle
  policy : some.policy ≡ other.policy

-- a string before one of a known length
last_length : (policy size : List ℕ) → length size ≡ 2 → length (policy ++ (size ++ [])) ≡ length policy + 2
last_length policy size two = omega (arith, two, length-append policy (size ++ []), length-append size [])

same_index_string : (some other : NvPublic) → index_string some ≡ index_string other → IsSameIndex some other
unfolding index_string
same_index_string some other e =
    let handle = parts (to_be_bytes w32 some.handle) _ (to_be_bytes w32 other.handle) _ refl e in
    let name = append_cancel_left (0x00 ∷ 0x0B ∷ []) _ _ handle.back in
    let attributes = parts (to_be_bytes w32 some.attributes) _ (to_be_bytes w32 other.attributes) _ refl name in
    let last : some.policy ++ (to_be_bytes w16 some.size ++ []) ≡ other.policy ++ (to_be_bytes w16 other.size ++ []) =
    append_cancel_left (0x00 ∷ 0x20 ∷ []) _ _ attributes.back in
    let long : length some.policy ≡ length other.policy =
    omega (arith, ap length last, last_length some.policy (to_be_bytes w16 some.size) refl, last_length other.policy (to_be_bytes w16 other.size) refl) in
    let policy = parts some.policy _ other.policy _ long last in
    record { number = handle.front; policy = policy.front }

pub same_index_policy : (some other : NvPublic) → index_string some ≡ index_string other → some.policy ≡ other.policy
same_index_policy some other e = (same_index_string some other e).policy

pub same_index_handle : (some other : NvPublic) → some.handle < 2 ^ 32 → other.handle < 2 ^ 32 → index_string some ≡ index_string other → some.handle ≡ other.handle
same_index_handle some other small fits e =
    sym (from_be_bytes-to_be_bytes_4 some.handle small)
    ∙ ap (from_be_bytes w32) (same_index_string some other e).number
    ∙ from_be_bytes-to_be_bytes_4 other.handle fits
