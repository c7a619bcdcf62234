-- Where the strings of two values don't clash, their policies are equal exactly where they are.
use Rattle.std.proofs.Common.{◌≡◌, ℕ, ◌^◌, List, [], ◌++◌, refl, ap, lit<, Contains}
use Rattle.std.specs.Str.{bytes_eq}
use Rattle.std.proofs.lemmas.List.{append_cancel_left, append_cancel_right}
use Rattle.std.proofs.lemmas.Slice.Eq.{bytes_eq-Decides}
use Rattle.std.proofs.lemmas.Bool.Decides.{Decides-like, same_from_decides}
use Rattle.hash_bank.specs.declared.bank.Bank.{Bank}
use Rattle.hash_bank.specs.Hash.{digest_in, zeros_in}
use Rattle.hash_bank.specs.HashedString.{HashedString, NoClash}
use Rattle.policy_digest.specs.BindingStrings.{literal_strings}
use Rattle.std.specs.Int.{w32, to_be_bytes}
use Rattle.policy_digest.specs.Strings.{pcr_string_in, policy_pcr_code, selection_of}
use Rattle.tpm_model.specs.Binding.{literal_policy}

-- the string of a PolicyPCR tells the digest of the values
same_digest : (hash bank : Bank) (pcr : ℕ) (d e : List ℕ)
    → pcr_string_in hash (zeros_in hash) bank (2 ^ pcr) d ≡ pcr_string_in hash (zeros_in hash) bank (2 ^ pcr) e → d ≡ e
unfolding pcr_string_in
same_digest hash bank pcr d e same =
    append_cancel_right d e [] (append_cancel_left (selection_of bank (2 ^ pcr)) _ _ (append_cancel_left (to_be_bytes w32 policy_pcr_code) _ _ (append_cancel_left (zeros_in hash) _ _ same)))

-- the strings of both values
abbrev pub both_strings : Bank → Bank → ℕ → List ℕ → List ℕ → List HashedString
both_strings hash bank pcr now value = literal_strings hash bank pcr now ++ literal_strings hash bank pcr value

abbrev value_string : Bank → List ℕ → HashedString
value_string hash value = record { hash = hash; bytes = value }

abbrev policy_string : Bank → Bank → ℕ → List ℕ → HashedString
policy_string hash bank pcr value = record { hash = hash; bytes = pcr_string_in hash (zeros_in hash) bank (2 ^ pcr) (digest_in hash value) }

same_value : (hash bank : Bank) (pcr : ℕ) (now value : List ℕ) → NoClash (Contains (both_strings hash bank pcr now value))
    → literal_policy hash bank pcr now ≡ literal_policy hash bank pcr value → now ≡ value
same_value hash bank pcr now value safe same =
    let strings : policy_string hash bank pcr now ≡ policy_string hash bank pcr value =
    safe.distinct (policy_string hash bank pcr now) (policy_string hash bank pcr value) (1, lit< tt, refl) (3, lit< tt, refl) refl same in
    let digests : digest_in hash now ≡ digest_in hash value =
    same_digest hash bank pcr (digest_in hash now) (digest_in hash value) (ap (λ (s : HashedString). s.bytes) strings) in
    let values : value_string hash now ≡ value_string hash value =
    safe.distinct (value_string hash now) (value_string hash value) (0, lit< tt, refl) (2, lit< tt, refl) refl digests in
    ap (λ (s : HashedString). s.bytes) values

-- so the comparison of the policies is that of the values
pub same_test : (hash bank : Bank) (pcr : ℕ) (now value : List ℕ) → NoClash (Contains (both_strings hash bank pcr now value))
    → bytes_eq (literal_policy hash bank pcr now) (literal_policy hash bank pcr value) ≡ bytes_eq now value
same_test hash bank pcr now value safe = same_from_decides {P = now ≡ value} _ _
    (Decides-like (bytes_eq (literal_policy hash bank pcr now) (literal_policy hash bank pcr value))
    (same_value hash bank pcr now value safe) (λ e. ap (literal_policy hash bank pcr) e)
    (bytes_eq-Decides (literal_policy hash bank pcr now) (literal_policy hash bank pcr value)))
    (bytes_eq-Decides now value)
