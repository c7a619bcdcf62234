-- Where the lists of PolicyORs lead (TPM 2.0 Library Part 3, TPM2_PolicyOR). SHA-256 throughout.
use Rattle.std.specs.Prelude.{◌≡◌, ◌≤◌, ℕ, List, [], ◌∷◌, length, Contains}
use Rattle.hash_bank.specs.declared.bank.Bank.TheVariants.{Sha256}
use Rattle.policy_digest.specs.Policies.{policy_or_of}

-- the lists lead a session from this digest to the top: each has 2 to 8 digests, the session's among them, which is
-- then what the list's PolicyOR gives
abbrev pub Leads : List ℕ → List (List (List ℕ)) → List ℕ → Type 0
Leads digest [] top = digest ≡ top
Leads digest (list ∷ lists) top =
    (2 ≤ length list) × (length list ≤ 8) × Contains list digest × Leads (policy_or_of Sha256 list) lists top
