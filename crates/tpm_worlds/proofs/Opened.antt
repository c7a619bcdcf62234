-- An Unseal of an object that is bound to one value of one PCR: the session's newest entry is the look
-- at that PCR, so the PCR holds the value now.
use Rattle.std.proofs.Common.{◌≡◌, ℕ, ◌^◌, ◌<◌, List, [], ◌∷◌, length, inl, inr, refl, sym, ap, subst, ◌∙◌, lit<, Contains, append-nil, arith}
use Rattle.std.specs.Prelude.{reverse, None, Some}
use Rattle.hash_bank.specs.declared.bank.Bank.{Bank}
use Rattle.hash_bank.specs.Hash.{digest_in, size_in, zeros_in}
use Rattle.hash_bank.specs.HashedString.{HashedString}
use Rattle.hash_bank.proofs.Sizes.{length-digest_in, length-zeros_in}
use Rattle.policy_digest.specs.BindingStrings.{literal_strings}
use Rattle.policy_digest.specs.Policies.{IsPolicyHash}
use Rattle.policy_digest.specs.Strings.{pcr_string_in, values_string}
use Rattle.tpm_model.specs.declared.parts.Parts.{Parts}
use Rattle.tpm_model.specs.declared.sessions.Session.{Session}
use Rattle.tpm_model.specs.declared.trail.TrailEntry.{TrailEntry}
use Rattle.tpm_model.specs.declared.trail.TrailEntry.TheVariants.{Pcr, Or, AuthorizeNv}
use Rattle.tpm_model.specs.Binding.{literal_policy}
use Rattle.tpm_model.specs.Pcrs.{pcr_of, HasValues}
use Rattle.tpm_model.specs.SessionCommands.{noted_before}
use Rattle.tpm_model.specs.Strings.{joined_values}
use Rattle.tpm_model.specs.Trails.{digest_of_in}
use Rattle.tpm_model.specs.World.{World, AreHashed}
use Rattle.tpm_worlds.specs.SealedTie.{AreHashedEntries}
use Rattle.tpm_worlds.specs.EventLists.{Safe}
use Rattle.tpm_model.proofs.OnePcr.{one_of_24, present_value}
use Rattle.tpm_worlds.proofs.SameStrings.{nv_is_no_pcr, or_is_no_pcr, same_pcr_string}
use Rattle.tpm_worlds.proofs.Sessions.{IsGood, IsSeen, IsSmall, SeesNow, saw_so_far}
use Rattle.tpm_worlds.proofs.Trails.{all_newest, length-digest_of_in}

-- the newest of the entries is a look at this one PCR that saw this value's digest
record IsLook (hash bank : Bank) (pcr : ℕ) (value : List ℕ) (entries : List TrailEntry) : Type 0 where
  pub seen : List ℕ
  pub rest : List TrailEntry
  pub newest : entries ≡ Pcr bank (2 ^ pcr) seen ∷ rest
  pub digest : seen ≡ digest_in hash value

-- the string of a literal's policy
abbrev policy_string : Bank → Bank → ℕ → List ℕ → HashedString
policy_string hash bank pcr value = record { hash = hash; bytes = pcr_string_in hash (zeros_in hash) bank (2 ^ pcr) (digest_in hash value) }

-- a hashed string with the digest of that one is that one
same_string : (w : World) (hash bank : Bank) (pcr : ℕ) (value bytes : List ℕ) → Safe w → AreHashed w (literal_strings hash bank pcr value)
    → Contains w.hashed (record { hash = hash; bytes = bytes }) → digest_in hash bytes ≡ literal_policy hash bank pcr value
    → bytes ≡ pcr_string_in hash (zeros_in hash) bank (2 ^ pcr) (digest_in hash value)
same_string w hash bank pcr value bytes safe strings there e =
    let same : record { hash = hash; bytes = bytes } ≡ policy_string hash bank pcr value =
    safe.distinct (record { hash = hash; bytes = bytes }) (policy_string hash bank pcr value) there (strings _ (1, lit< tt, refl)) refl e in
    ap (λ (s : HashedString). s.bytes) same

-- the trail behind a literal's policy
look : (w : World) (hash bank : Bank) (pcr : ℕ) (value : List ℕ) (entries : List TrailEntry) → Safe w → AreHashed w (literal_strings hash bank pcr value)
    → AreHashedEntries w hash entries → digest_of_in hash entries ≡ literal_policy hash bank pcr value → IsLook hash bank pcr value entries
look w hash bank pcr value [] safe strings all e =
    absurd (safe.nonzero (policy_string hash bank pcr value) (strings _ (1, lit< tt, refl)) (sym e))
look w hash bank pcr value (Pcr other mask seen ∷ rest) safe strings all e =
    let same = same_string w hash bank pcr value _ safe strings all.1 e in
    let parts = same_pcr_string hash (digest_of_in hash rest) (zeros_in hash) other bank mask (2 ^ pcr) seen (digest_in hash value)
    (length-digest_of_in hash rest ∙ sym (length-zeros_in hash)) same in
    record {
      seen = seen;
      rest = rest;
      newest = λ i. Pcr (parts.bank_same i) (parts.mask i) seen ∷ rest;
      digest = parts.digest;
    }
look w hash bank pcr value (Or list ∷ rest) safe strings all e =
    absurd (or_is_no_pcr hash list bank (2 ^ pcr) (digest_in hash value) (same_string w hash bank pcr value _ safe strings all.1 e))
look w hash bank pcr value (AuthorizeNv name digest written ∷ rest) safe strings all e =
    absurd (nv_is_no_pcr hash name bank (2 ^ pcr) (digest_in hash value) (same_string w hash bank pcr value _ safe strings all.1 e))

-- two hashes of policies with digests of one size are one
pub same_hash : (a b : Bank) → IsPolicyHash a → IsPolicyHash b → size_in a ≡ size_in b → a ≡ b
same_hash a b (inl p) (inl q) e = p ∙ sym q
same_hash a b (inr p) (inr q) e = p ∙ sym q
same_hash a b (inl p) (inr q) e = let wrong : 32 ≡ 48 = ap size_in (sym p) ∙ e ∙ ap size_in q in absurd (omega (arith, wrong))
same_hash a b (inr p) (inl q) e = let wrong : 48 ≡ 32 = ap size_in (sym p) ∙ e ∙ ap size_in q in absurd (omega (arith, wrong))

-- where the hash is the session's
opened_under : (s : Parts) (w : World) (x : Session) (bank : Bank) (pcr : ℕ) (value : List ℕ) → HasValues s.banks s.pcrs → IsGood s w x → Safe w
    → AreHashed w (literal_strings x.hash bank pcr value) → x.digest ≡ literal_policy x.hash bank pcr value → noted_before x.noted s.update_counter ≡ None
    → pcr_of s.banks s.pcrs bank pcr ≡ Some value
opened_under s w x bank pcr value values g safe strings e free =
    let found = look w x.hash bank pcr value (reverse x.trail) safe strings g.entries (sym g.fold ∙ e) in
    let small : 2 ^ pcr < 2 ^ 24 = all_newest IsSmall x.trail (Pcr bank (2 ^ pcr) found.seen) found.rest found.newest g.small in
    let saw : IsSeen s w x.hash bank (2 ^ pcr) found.seen =
    all_newest (SeesNow s w x.hash) x.trail (Pcr bank (2 ^ pcr) found.seen) found.rest found.newest (saw_so_far s w x g free) in
    let there = present_value s.banks s.pcrs bank pcr values (one_of_24 pcr small) saw.present in
    let joined : joined_values bank (2 ^ pcr) s ≡ there.value = ap values_string there.alone ∙ append-nil there.value in
    let digests : digest_in x.hash (joined_values bank (2 ^ pcr) s) ≡ digest_in x.hash value = sym saw.digest ∙ found.digest in
    let same : record { hash = x.hash; bytes = joined_values bank (2 ^ pcr) s } ≡ record { hash = x.hash; bytes = value } =
    safe.distinct (record { hash = x.hash; bytes = joined_values bank (2 ^ pcr) s }) (record { hash = x.hash; bytes = value }) saw.joined (strings _ (0, lit< tt, refl)) refl digests in
    there.found ∙ ap Some (sym joined ∙ ap (λ (t : HashedString). t.bytes) same)

-- a session whose digest is a literal's policy, and that noted no other counter, looked at the PCR
-- while it held what it holds now: the value
pub opened : (s : Parts) (w : World) (x : Session) (hash bank : Bank) (pcr : ℕ) (value : List ℕ) → HasValues s.banks s.pcrs → IsGood s w x → Safe w → IsPolicyHash hash
    → AreHashed w (literal_strings hash bank pcr value) → x.digest ≡ literal_policy hash bank pcr value → noted_before x.noted s.update_counter ≡ None
    → pcr_of s.banks s.pcrs bank pcr ≡ Some value
opened s w x hash bank pcr value values g safe policy strings e free =
    let sizes : size_in x.hash ≡ size_in hash =
    sym (length-digest_of_in x.hash (reverse x.trail)) ∙ ap length (sym g.fold ∙ e) ∙ length-digest_in hash _ in
    let one : hash ≡ x.hash = sym (same_hash x.hash hash g.hash policy sizes) in
    opened_under s w x bank pcr value values g safe
    (subst (λ k. AreHashed w (literal_strings k bank pcr value)) one strings)
    (e ∙ ap (λ k. literal_policy k bank pcr value) one) free
