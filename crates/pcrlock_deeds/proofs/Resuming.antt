-- What stands after a stop is kept, whatever sessions are open.
use Rattle.std.proofs.Common.{◌≡◌, ℕ, List, refl, sym, ap, ◌∙◌, subst, arith}
use Rattle.std.specs.Prelude.{Option, Some}
use Rattle.pl_base.specs.FileMap.{FileMap}
use Rattle.tpm_device.specs.Running.{DiffersInSessions}
use Rattle.tpm_device.specs.Stored.{Stored, Holds}
use Rattle.tpm_model.proofs.Ties.{same_tied}
use Rattle.tpm_model.specs.World.{World}
use Rattle.tpm_model.specs.declared.parts.Parts.{Parts}
use Rattle.pcrlock_line.specs.Machine.{Live, Machine}
use Rattle.pcrlock_line.specs.Stopped.{StandsAt, IsStoredSo}
use Rattle.pcrlock_deeds.specs.Acts.{HoldsAt, HoldsOn}
use Rattle.pcrlock_deeds.specs.Deed.{keeps}
use Rattle.pcrlock_deeds.specs.Doings.{Stage, stage_machine}
use Rattle.pcrlock_deeds.specs.Kept.{IsOwnKept}
use Rattle.pcrlock_deeds.specs.Resumed.{StandsKept}
use Rattle.pcrlock_deeds.specs.Sound.{StandsTied}
use Rattle.pcrlock_deeds.proofs.Growing.{grows_filing}
use Rattle.pcrlock_deeds.proofs.Tying.{kept_same, own_same}

-- the first state with the sessions of the second
abbrev with_sessions : Parts → Parts → Parts
with_sessions s t = record s { next_session = t.next_session; sessions = t.sessions }

-- which is the second
same_state : (s t : Parts) → DiffersInSessions s t → with_sessions s t ≡ t
same_state s t d =
    let banks = sym d.banks in
    let pcrs = sym d.pcrs in
    let updates = sym d.update_counter in
    let writes = sym d.write_counter in
    let number = sym d.next_object in
    let indices = sym d.indices in
    let objects = sym d.objects in
    λ i. record {
      banks = banks i;
      pcrs = pcrs i;
      update_counter = updates i;
      next_session = t.next_session;
      write_counter = writes i;
      next_object = number i;
      sessions = t.sessions;
      indices = indices i;
      objects = objects i;
    }

module _ (policy : List ℕ) where
  -- all but sessions is kept with other sessions, and with other words to draw
  pub own_resumed : (m : Live) (w : World) (t : Parts) (words : List (List ℕ)) → DiffersInSessions m.state t → IsOwnKept policy m w
      → IsOwnKept policy (record { files = m.files; state = t; draws = words }) w
  own_resumed m w t words differs k =
      let s = with_sessions m.state t in
      subst (λ (x : Parts). IsOwnKept policy (record { files = m.files; state = x; draws = words }) w) (same_state m.state t differs)
      (kept_same policy m (record { files = m.files; state = s; draws = words }) w w refl (λ _ h. h) refl refl (omega arith)
      (record { values = k.orderly.values; objects = k.orderly.objects; table = k.orderly.table; counted = k.orderly.counted })
      (own_same m.state s w w k.orderly (grows_filing keeps w) refl refl refl refl refl refl (same_tied m.state s w refl refl refl k.own.base) k.own) k)

  -- so what stands of a tied stage is kept in its world
  pub stands_kept : (held : Option FileMap) (kept : Option Stored) (stages : List Stage) → StandsTied (IsOwnKept policy) held kept stages → StandsKept policy held kept stages
  stands_kept held kept stages tied = record {
    stage = tied.stage;
    among = tied.among;
    stands = tied.stands;
    keeps = λ now files device. goes_on now files device;
  }
    where
      goes_on : (now : Machine) → held ≡ Some now.files → kept ≡ Some now.device → HoldsAt (IsOwnKept policy) now tied.stage.world
      goes_on now files device =
          let at = tied.stands in
          let other = at.same in
          let same_files : tied.stage.live.files ≡ now.files = cc (at.files, files) in
          let same_device : Holds other.0 ≡ now.device = cc (other.1, at.tells, device) in
          subst (λ (x : FileMap). HoldsAt (IsOwnKept policy) (record now { files = x }) tied.stage.world) same_files
          (subst (λ (x : Stored). HoldsOn (IsOwnKept policy) x (record { files = tied.stage.live.files; device = x; draws = now.draws }) tied.stage.world) same_device
          (own_resumed tied.stage.live tied.stage.world other.0 now.draws other.2 tied.tied))
