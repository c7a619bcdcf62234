-- The policy of a binding tells the binding, where the strings behind both policies don't clash.
use Rattle.std.proofs.Common.{◌≡◌, ℕ, ◌^◌, List, length, inl, refl, sym, ap, subst, ◌∙◌, lit<, arith, ⊎_elim}
use Rattle.std.specs.Prelude.{◌<◌, ◌≤◌}
use Rattle.std.proofs.Math.Pow.{pow-lt}
use Rattle.std.proofs.lemmas.Bool.{cases_lt}
use Rattle.std.proofs.lemmas.List.Elements.{Contains-append_right}
use Rattle.hash_bank.specs.declared.bank.Bank.{Bank}
use Rattle.hash_bank.specs.declared.bank.Bank.TheVariants.{Sha256}
use Rattle.hash_bank.specs.Hash.{digest_in, size_in, zeros_in}
use Rattle.hash_bank.specs.HashedString.{HashedString, NoClash}
use Rattle.hash_bank.proofs.Sizes.{length-digest_in, length-zeros_in}
use Rattle.nv_index.specs.IndexName.{index_name_of, index_string, written_public}
use Rattle.nv_index.specs.declared.index.NvPublic.{NvPublic}
use Rattle.policy_digest.specs.BindingStrings.{bind_strings, literal_strings, name_strings_in}
use Rattle.policy_digest.specs.Pin.{pin_policy_of, pin_strings}
use Rattle.policy_digest.specs.Policies.{IsPolicyHash, policy_authorize_nv_of}
use Rattle.policy_digest.specs.Strings.{nv_string_in, pcr_string_in}
use Rattle.policy_roots.specs.Held.{AreHeld}
use Rattle.policy_roots.proofs.Parsed.{nv_is_no_pcr, same_nv_string, same_pcr_string}
use Rattle.tpm_model.specs.Binding.{literal_policy}
use Rattle.tpm_worlds.proofs.Opened.{same_hash}

-- masks of one PCR each
same_pcr : (p q : ℕ) → 2 ^ p ≡ 2 ^ q → p ≡ q
same_pcr p q e = ⊎_elim
    (λ (less : p < q). let apart : 2 ^ p < 2 ^ q = pow-lt less in absurd (omega (arith, apart, e)))
    (λ (most : q ≤ p). ⊎_elim
    (λ (more : q < p). let apart : 2 ^ q < 2 ^ p = pow-lt more in absurd (omega (arith, apart, e)))
    (λ (least : p ≤ q). omega (arith, most, least))
    (cases_lt q p))
    (cases_lt p q)

-- two literals, told apart by bank, PCR and value
pub record IsSameLiteral (bank other : Bank) (pcr number : ℕ) (value now : List ℕ) : Type 0 where
  pub banks : bank ≡ other
  pub pcrs : pcr ≡ number
  pub values : value ≡ now

module _ (S : HashedString → Type 0) (safe : NoClash S) where
  same_bytes : (hash : Bank) (a b : List ℕ) → S (record { hash = hash; bytes = a }) → S (record { hash = hash; bytes = b }) → digest_in hash a ≡ digest_in hash b → a ≡ b
  same_bytes hash a b here there e =
      ap (λ (s : HashedString). s.bytes) (safe.distinct (record { hash = hash; bytes = a }) (record { hash = hash; bytes = b }) here there refl e)

  -- of two indices
  pub same_index : (some other : NvPublic) → AreHeld S (name_strings_in Sha256 some) → AreHeld S (name_strings_in Sha256 other)
      → policy_authorize_nv_of Sha256 (index_name_of some) ≡ policy_authorize_nv_of Sha256 (index_name_of other) → index_string some ≡ index_string other
  same_index some other here there e =
      let policies : nv_string_in Sha256 (index_name_of some) ≡ nv_string_in Sha256 (index_name_of other) =
      same_bytes Sha256 (nv_string_in Sha256 (index_name_of some)) (nv_string_in Sha256 (index_name_of other)) (here _ (1, lit< tt, refl)) (there _ (1, lit< tt, refl)) e in
      same_bytes Sha256 (index_string some) (index_string other) (here _ (0, lit< tt, refl)) (there _ (0, lit< tt, refl))
      (same_nv_string Sha256 (index_name_of some) (index_name_of other) policies)

  -- of an index and a literal
  pub index_is_no_literal : (public : NvPublic) (hash bank : Bank) (pcr : ℕ) (value : List ℕ) → IsPolicyHash hash → AreHeld S (name_strings_in Sha256 public) → AreHeld S (literal_strings hash bank pcr value)
      → policy_authorize_nv_of Sha256 (index_name_of public) ≡ literal_policy hash bank pcr value → ⊥
  index_is_no_literal public hash bank pcr value policy here there e =
      let sizes : size_in Sha256 ≡ size_in hash = sym (length-digest_in Sha256 _) ∙ ap length e ∙ length-digest_in hash _ in
      let one : Sha256 ≡ hash = same_hash Sha256 hash (inl refl) policy sizes in
      under hash one here there e
    where
      at_sha256 : AreHeld S (name_strings_in Sha256 public) → AreHeld S (literal_strings Sha256 bank pcr value)
          → policy_authorize_nv_of Sha256 (index_name_of public) ≡ literal_policy Sha256 bank pcr value → ⊥
      at_sha256 mine theirs f = nv_is_no_pcr Sha256 (zeros_in Sha256) (index_name_of public) bank (2 ^ pcr) (digest_in Sha256 value) (length-zeros_in Sha256)
          (same_bytes Sha256 (nv_string_in Sha256 (index_name_of public)) (pcr_string_in Sha256 (zeros_in Sha256) bank (2 ^ pcr) (digest_in Sha256 value))
          (mine _ (1, lit< tt, refl)) (theirs _ (1, lit< tt, refl)) f)

      under : (k : Bank) → Sha256 ≡ k → AreHeld S (name_strings_in Sha256 public) → AreHeld S (literal_strings k bank pcr value)
          → policy_authorize_nv_of Sha256 (index_name_of public) ≡ literal_policy k bank pcr value → ⊥
      under k is = subst (λ x. AreHeld S (name_strings_in Sha256 public) → AreHeld S (literal_strings x bank pcr value)
          → policy_authorize_nv_of Sha256 (index_name_of public) ≡ literal_policy x bank pcr value → ⊥) is at_sha256

  -- of two literals
  pub same_literal : (hash key bank other : Bank) (pcr number : ℕ) (value now : List ℕ) → IsPolicyHash hash → IsPolicyHash key
      → AreHeld S (literal_strings hash bank pcr value) → AreHeld S (literal_strings key other number now)
      → literal_policy hash bank pcr value ≡ literal_policy key other number now → IsSameLiteral bank other pcr number value now
  same_literal hash key bank other pcr number value now policy theirs here there e =
      let sizes : size_in hash ≡ size_in key = sym (length-digest_in hash _) ∙ ap length e ∙ length-digest_in key _ in
      under key (same_hash hash key policy theirs sizes) here there e
    where
      at_hash : AreHeld S (literal_strings hash bank pcr value) → AreHeld S (literal_strings hash other number now)
          → literal_policy hash bank pcr value ≡ literal_policy hash other number now → IsSameLiteral bank other pcr number value now
      at_hash mine others f =
          let strings = same_bytes hash (pcr_string_in hash (zeros_in hash) bank (2 ^ pcr) (digest_in hash value)) (pcr_string_in hash (zeros_in hash) other (2 ^ number) (digest_in hash now))
          (mine _ (1, lit< tt, refl)) (others _ (1, lit< tt, refl)) f in
          let look = same_pcr_string hash (zeros_in hash) (zeros_in hash) bank other (2 ^ pcr) (2 ^ number) (digest_in hash value) (digest_in hash now) refl strings in
          record {
            banks = look.banks;
            pcrs = same_pcr pcr number look.masks;
            values = same_bytes hash value now (mine _ (0, lit< tt, refl)) (others _ (0, lit< tt, refl)) look.digests;
          }

      under : (k : Bank) → hash ≡ k → AreHeld S (literal_strings hash bank pcr value) → AreHeld S (literal_strings k other number now)
          → literal_policy hash bank pcr value ≡ literal_policy k other number now → IsSameLiteral bank other pcr number value now
      under k is = subst (λ x. AreHeld S (literal_strings hash bank pcr value) → AreHeld S (literal_strings x other number now)
          → literal_policy hash bank pcr value ≡ literal_policy x other number now → IsSameLiteral bank other pcr number value now) is at_hash

-- the last strings of a binding to an index are those of its Name
pub names_held : (S : HashedString → Type 0) (handle : ℕ) (pin : List ℕ) → AreHeld S (bind_strings handle pin) → AreHeld S (name_strings_in Sha256 (written_public handle (pin_policy_of pin)))
names_held S handle pin held s at = held s (Contains-append_right (pin_strings pin) (name_strings_in Sha256 (written_public handle (pin_policy_of pin))) s at)
