-- What the two lists say, where no PCR lacks its separator and both fit into component files.
use Rattle.std.proofs.Common.{◌≡◌, ◌≤◌, ℕ, List, true, Some, length, map, sym, subst}
use Rattle.hash_bank.specs.declared.bank.Bank.{Bank}
use Rattle.policy_digest.specs.Mask.{has_pcr}
use Rattle.cel_record.specs.Spelled.{Spelled, spelled}
use Rattle.pcr_replay.specs.Measured.{measured_in}
use Rattle.pcr_replay.specs.Row.{Row}
use Rattle.component_make.specs.declared.locked.Locked.{Locked}
use Rattle.component_make.specs.EarlyLate.{early_of, late_of}
use Rattle.component_make.specs.Lock.{AreSeparated, IsLock}
use Rattle.component_make.specs.Parting.{IsParted}
use Rattle.component_make.specs.Split.{IsSplit}
use Rattle.component_make.proofs.Rows.{whole}
use Rattle.component_make.proofs.Parts.{split_by}

pub locks : (mask : ℕ) (rows : List Row) (l : Locked) → AreSeparated mask rows → IsParted mask rows l → length l.early ≤ 256 → length l.late ≤ 256 → IsLock mask rows l
locks mask rows l separated parted early_fits late_fits = record {
  separated = separated;
  early = whole l.early (early_of mask rows) parted.early early_fits;
  late = whole l.late (late_of mask rows) parted.late late_fits;
  early_fits = early_fits;
  late_fits = late_fits;
}

pub splits : (mask : ℕ) (rows : List Row) (l : Locked) → IsLock mask rows l → (bank : Bank) (pcr : ℕ) (digests : List (List ℕ)) → has_pcr mask pcr ≡ true → measured_in bank pcr rows ≡ Some digests
    → IsSplit bank pcr rows (map spelled l.early) (map spelled l.late) digests
splits mask rows l lock bank pcr digests inside measured =
    let law = split_by bank mask pcr rows digests inside (lock.separated pcr) measured in
    subst (λ (late : List Spelled). IsSplit bank pcr rows (map spelled l.early) late digests) (sym lock.late)
    (subst (λ (early : List Spelled). IsSplit bank pcr rows early (late_of mask rows) digests) (sym lock.early) law)
