-- Each element of a digest is a byte.
use Rattle.std.proofs.Common.{ℕ, zero, suc, ◌<◌, List, [], ◌∷◌, ◌++◌, slice_index, take, replicate, arith}
use Rattle.std.specs.Int.{w32, w64, to_be_bytes}
use Rattle.hex.specs.Hex.{IsBytes}
use Rattle.sha1.specs.Sha1.{sha1}
use Rattle.sha1.specs.Sha1 as One
use Rattle.sha2.specs.Sha256.{sha256}
use Rattle.sha2.specs.Sha256 as Short
use Rattle.sha2.specs.Sha512.{sha384, sha512}
use Rattle.sha2.specs.Sha512 as Long
use Rattle.hash_bank.specs.declared.bank.Bank.{Bank}
use Rattle.hash_bank.specs.declared.bank.Bank.TheVariants.{Sha1, Sha256, Sha384, Sha512}
use Rattle.hash_bank.specs.Hash.{digest_in, size_in, zeros_in}

IsBytes-append : (xs ys : List ℕ) → IsBytes xs → IsBytes ys → IsBytes (xs ++ ys)
IsBytes-append [] ys hx hy i = hy i
IsBytes-append (x ∷ xs) ys hx hy zero = hx 0
IsBytes-append (x ∷ xs) ys hx hy (suc i) = IsBytes-append xs ys (λ k. hx (suc k)) hy i

IsBytes-take : (n : ℕ) (xs : List ℕ) → IsBytes xs → IsBytes (take n xs)
IsBytes-take zero xs h i = omega arith
IsBytes-take (suc n) [] h i = omega arith
IsBytes-take (suc n) (x ∷ xs) h zero = h 0
IsBytes-take (suc n) (x ∷ xs) h (suc i) = IsBytes-take n xs (λ k. h (suc k)) i

IsBytes-w32 : (n : ℕ) → IsBytes (to_be_bytes w32 n)
IsBytes-w32 n zero = omega arith
IsBytes-w32 n (suc zero) = omega arith
IsBytes-w32 n (suc (suc zero)) = omega arith
IsBytes-w32 n (suc (suc (suc zero))) = omega arith
IsBytes-w32 n (suc (suc (suc (suc i)))) = omega arith

IsBytes-w64 : (n : ℕ) → IsBytes (to_be_bytes w64 n)
IsBytes-w64 n zero = omega arith
IsBytes-w64 n (suc zero) = omega arith
IsBytes-w64 n (suc (suc zero)) = omega arith
IsBytes-w64 n (suc (suc (suc zero))) = omega arith
IsBytes-w64 n (suc (suc (suc (suc zero)))) = omega arith
IsBytes-w64 n (suc (suc (suc (suc (suc zero))))) = omega arith
IsBytes-w64 n (suc (suc (suc (suc (suc (suc zero)))))) = omega arith
IsBytes-w64 n (suc (suc (suc (suc (suc (suc (suc zero))))))) = omega arith
IsBytes-w64 n (suc (suc (suc (suc (suc (suc (suc (suc i)))))))) = omega arith

IsBytes-words1 : (h : List ℕ) (n : ℕ) → IsBytes (One.digest_bytes h n)
unfolding One.digest_bytes
IsBytes-words1 h zero i = omega arith
IsBytes-words1 h (suc n) i =
    IsBytes-append (One.digest_bytes h n) (to_be_bytes w32 (slice_index h n)) (IsBytes-words1 h n) (IsBytes-w32 (slice_index h n)) i

IsBytes-words256 : (h : List ℕ) (n : ℕ) → IsBytes (Short.digest_bytes h n)
unfolding Short.digest_bytes
IsBytes-words256 h zero i = omega arith
IsBytes-words256 h (suc n) i =
    IsBytes-append (Short.digest_bytes h n) (to_be_bytes w32 (slice_index h n)) (IsBytes-words256 h n) (IsBytes-w32 (slice_index h n)) i

IsBytes-words512 : (h : List ℕ) (n : ℕ) → IsBytes (Long.digest_bytes h n)
unfolding Long.digest_bytes
IsBytes-words512 h zero i = omega arith
IsBytes-words512 h (suc n) i =
    IsBytes-append (Long.digest_bytes h n) (to_be_bytes w64 (slice_index h n)) (IsBytes-words512 h n) (IsBytes-w64 (slice_index h n)) i

-- a digest is made of bytes
pub IsBytes-digest_in : (b : Bank) (bytes : List ℕ) → IsBytes (digest_in b bytes)
unfolding digest_in sha1 sha256 sha384 sha512
IsBytes-digest_in Sha1 bytes = IsBytes-words1 _ 5
IsBytes-digest_in Sha256 bytes = IsBytes-words256 _ 8
IsBytes-digest_in Sha384 bytes = IsBytes-take 48 _ (IsBytes-words512 _ 8)
IsBytes-digest_in Sha512 bytes = IsBytes-words512 _ 8

IsBytes-replicate : (n x : ℕ) → x < 256 → IsBytes (replicate n x)
IsBytes-replicate zero x h i = omega arith
IsBytes-replicate (suc n) x h zero = h
IsBytes-replicate (suc n) x h (suc i) = IsBytes-replicate n x h i

-- so are the bank's zeros
pub IsBytes-zeros_in : (b : Bank) → IsBytes (zeros_in b)
unfolding zeros_in
IsBytes-zeros_in b = IsBytes-replicate (size_in b) 0 (omega arith)
