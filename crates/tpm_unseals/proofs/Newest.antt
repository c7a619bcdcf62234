-- The newest entry of a session whose digest is the policy of an index: it read a write of the program's.
use Rattle.std.proofs.Common.{◌≡◌, ℕ, ◌^◌, ◌<◌, List, [], ◌∷◌, inl, inr, refl, sym, subst, lit<, Contains}
use Rattle.hash_bank.specs.declared.bank.Bank.TheVariants.{Sha256}
use Rattle.hash_bank.specs.Hash.{digest_in}
use Rattle.nv_index.specs.IndexName.{index_string, written_public}
use Rattle.nv_index.specs.declared.index.NvPublic.{NvPublic}
use Rattle.policy_digest.specs.BindingStrings.{bind_strings}
use Rattle.policy_digest.specs.Pin.{pin_policy_of, pin_strings}
use Rattle.policy_digest.specs.PlainTable.{PlainTable, root_of}
use Rattle.policy_digest.specs.Strings.{nv_string_in}
use Rattle.policy_digest.specs.TableStrings.{under_sha256}
use Rattle.policy_roots.proofs.Depths.{same_bytes}
use Rattle.policy_roots.proofs.Parsed.{nv_is_no_or, nv_is_no_pcr, same_index_handle, same_index_policy, same_nv_string}
use Rattle.tpm_model.specs.declared.parts.Parts.{Parts}
use Rattle.tpm_model.specs.declared.trail.TrailEntry.{TrailEntry}
use Rattle.tpm_model.specs.declared.trail.TrailEntry.TheVariants.{Pcr, Or, AuthorizeNv}
use Rattle.tpm_model.specs.Binding.{index_policy}
use Rattle.tpm_model.specs.Events.{Clean}
use Rattle.tpm_model.specs.Tied.{Tied}
use Rattle.tpm_model.specs.Trails.{digest_of_in}
use Rattle.tpm_model.specs.WholeTie.{IsTiedRead, IsWriteOf}
use Rattle.tpm_model.specs.World.{World, AreHashed}
use Rattle.tpm_worlds.specs.EventLists.{Safe}
use Rattle.tpm_worlds.specs.SealedTie.{AreHashedEntries}
use Rattle.tpm_worlds.proofs.SamePin.{same_pin}
use Rattle.tpm_worlds.proofs.Trails.{length-digest_of_in}
use Rattle.tpm_unseals.specs.ByPolicy.{written_name}

-- the newest of the entries is a PolicyAuthorizeNV by the index, once it is written with the pin
pub record IsNewest (index : ℕ) (pin : List ℕ) (entries : List TrailEntry) : Type 0 where
  pub digest : List ℕ
  pub number : ℕ
  pub rest : List TrailEntry
  pub newest : entries ≡ AuthorizeNv (written_name index pin) digest number ∷ rest

-- a hashed string with the digest of the index's policy is its string
same_string : (w : World) (index : ℕ) (pin bytes : List ℕ) → Safe w → AreHashed w (bind_strings index pin) → Contains w.hashed (under_sha256 bytes)
    → digest_in Sha256 bytes ≡ index_policy index pin → bytes ≡ nv_string_in Sha256 (written_name index pin)
same_string w index pin bytes safe strings there e =
    same_bytes (Contains w.hashed) safe bytes (nv_string_in Sha256 (written_name index pin)) there (strings _ (4, lit< tt, refl)) e

pub newest_read : (w : World) (index : ℕ) (pin : List ℕ) (entries : List TrailEntry) → Safe w → AreHashed w (bind_strings index pin)
    → AreHashedEntries w Sha256 entries → digest_of_in Sha256 entries ≡ index_policy index pin → IsNewest index pin entries
newest_read w index pin [] safe strings all e =
    absurd (safe.nonzero (under_sha256 (nv_string_in Sha256 (written_name index pin))) (strings _ (4, lit< tt, refl)) (sym e))
newest_read w index pin (Pcr bank pcrs seen ∷ rest) safe strings all e =
    absurd (nv_is_no_pcr Sha256 (digest_of_in Sha256 rest) (written_name index pin) bank pcrs seen (length-digest_of_in Sha256 rest) (sym (same_string w index pin _ safe strings all.1 e)))
newest_read w index pin (Or list ∷ rest) safe strings all e =
    absurd (nv_is_no_or Sha256 (written_name index pin) list (sym (same_string w index pin _ safe strings all.1 e)))
newest_read w index pin (AuthorizeNv name digest number ∷ rest) safe strings all e =
    let same : name ≡ written_name index pin = same_nv_string Sha256 name (written_name index pin) (same_string w index pin _ safe strings all.1 e) in
    record { digest = digest; number = number; rest = rest; newest = λ i. AuthorizeNv (same i) digest number ∷ rest }

-- what was read is the root of a table that the program wrote into the index with the pin
pub record IsOurs (w : World) (index : ℕ) (pin digest : List ℕ) (number : ℕ) : Type 0 where
  pub table : PlainTable
  pub wrote : Contains w.writes (record { number = number; handle = index; pin = pin; table = table })
  pub root : root_of table ≡ digest

-- no stranger wrote the index with the pin
pub our_write : (s : Parts) (w : World) (index : ℕ) (pin digest : List ℕ) (number : ℕ) → Tied s w → Safe w → Clean w → index < 2 ^ 32 → Contains w.pins pin
    → AreHashed w (bind_strings index pin) → IsTiedRead w (written_name index pin) digest number → IsOurs w index pin digest number
our_write s w index pin digest number tied safe clean range known strings read =
    let own : NvPublic = written_public index (pin_policy_of pin) in
    let other : NvPublic = written_public read.handle (pin_policy_of read.pin) in
    let areas : index_string own ≡ index_string other = same_bytes (Contains w.hashed) safe (index_string own) (index_string other) (strings _ (3, lit< tt, refl)) read.string read.name in
    by (same_index_handle own other range read.range areas) (same_index_policy own other areas) read.write
  where
    same : AreHashed w (pin_strings read.pin) → pin_policy_of pin ≡ pin_policy_of read.pin → pin ≡ read.pin
    same hashed policy = same_pin w pin read.pin safe (tied.pins pin known) hashed policy

    by : index ≡ read.handle → pin_policy_of pin ≡ pin_policy_of read.pin → IsWriteOf w number read.handle read.pin digest → IsOurs w index pin digest number
    by handle policy (inl ours) =
        let pins : pin ≡ read.pin = same (tied.pins read.pin ours.0) policy in
        let table : PlainTable = ours.1.0 in
        record {
          table = table;
          wrote = subst (λ (p : List ℕ). Contains w.writes (record { number = number; handle = index; pin = p; table = table })) (sym pins)
              (subst (λ (h : ℕ). Contains w.writes (record { number = number; handle = h; pin = read.pin; table = table })) (sym handle) ours.1.1);
          root = ours.1.2;
        }
    by handle policy (inr foreign) =
        let pins : pin ≡ read.pin = same (tied.strange read.pin foreign) policy in
        absurd (clean pin known (subst (Contains w.strange) (sym pins) foreign))
