-- Where strings don't clash, a pin's policy tells the pin.
use Rattle.std.proofs.Common.{◌≡◌, ℕ, List, [], refl, ap, lit<, Contains}
use Rattle.std.specs.Int.{w16, w32, to_be_bytes}
use Rattle.std.proofs.lemmas.List.{append_cancel_left, append_cancel_right}
use Rattle.hash_bank.specs.declared.bank.Bank.TheVariants.{Sha256}
use Rattle.hash_bank.specs.Hash.{algorithm_in, sha256_of, zeros_in}
use Rattle.hash_bank.specs.HashedString.{HashedString}
use Rattle.policy_digest.specs.Pin.{pin_policy_of, pin_strings, policy_signed_of, signed_string}
use Rattle.policy_digest.specs.Strings.{policy_signed_code}
use Rattle.tpm_model.specs.World.{World, AreHashed}
use Rattle.tpm_worlds.specs.EventLists.{Safe}

-- the string of PolicySigned tells the pin's hash
same_signed : (p q : List ℕ) → signed_string p ≡ signed_string q → sha256_of p ≡ sha256_of q
unfolding signed_string
same_signed p q e =
    append_cancel_right (sha256_of p) (sha256_of q) []
    (append_cancel_left (to_be_bytes w16 (algorithm_in Sha256)) _ _ (append_cancel_left (to_be_bytes w32 policy_signed_code) _ _ (append_cancel_left (zeros_in Sha256) _ _ e)))

abbrev string : List ℕ → HashedString
string bytes = record { hash = Sha256; bytes = bytes }

same_bytes : (w : World) (a b : List ℕ) → Safe w → Contains w.hashed (string a) → Contains w.hashed (string b) → sha256_of a ≡ sha256_of b → a ≡ b
same_bytes w a b safe h k e = let same : string a ≡ string b = safe.distinct (string a) (string b) h k refl e in ap (λ (s : HashedString). s.bytes) same

pub same_pin : (w : World) (p q : List ℕ) → Safe w → AreHashed w (pin_strings p) → AreHashed w (pin_strings q) → pin_policy_of p ≡ pin_policy_of q → p ≡ q
same_pin w p q safe h k e =
    let policies : policy_signed_of p ≡ policy_signed_of q = same_bytes w (policy_signed_of p) (policy_signed_of q) safe (h _ (2, lit< tt, refl)) (k _ (2, lit< tt, refl)) e in
    let signed : signed_string p ≡ signed_string q = same_bytes w (signed_string p) (signed_string q) safe (h _ (1, lit< tt, refl)) (k _ (1, lit< tt, refl)) policies in
    same_bytes w p q safe (h _ (0, lit< tt, refl)) (k _ (0, lit< tt, refl)) (same_signed p q signed)
