-- What breaks what is kept.
use Rattle.std.proofs.Common.{◌≡◌, ℕ, List, [], cond, sym, ap, subst, ◌∙◌}
use Rattle.std.specs.Prelude.{None, Some}
use Rattle.std.specs.Cmp.{eq_by_cmp_equiv}
use Rattle.std.specs.Cmp.Lexicographic.{nat_list_cmp_total}
use Rattle.std.specs.FinMap.{get, get-insert, insert}
use Rattle.pl_base.specs.FileMap.{FileMap}
use Rattle.nv_index.specs.Table.{index_at}
use Rattle.tpm_model.specs.World.{LiveIndex, World}
use Rattle.pcrlock_line.specs.Machine.{Live}
use Rattle.pcrlock_deeds.specs.Filed.{IsFiledAs}
use Rattle.pcrlock_deeds.specs.Kept.{IsOwnKept}
use Rattle.pcrlock_deeds.specs.Steps.{written_live}

-- bytes at the path that nothing filed
pub forgotten_file : (policy bytes : List ℕ) (m : Live) (w : World) → w.filed ≡ None → IsOwnKept policy (written_live policy bytes m) w → ⊥
forgotten_file policy bytes m w none k =
    let now : FileMap = insert m.files policy bytes in
    let there : get now policy ≡ Some bytes =
    get-insert nat_list_cmp_total m.files policy bytes policy ∙ ap (λ same. cond same (Some bytes) (get m.files policy)) ((eq_by_cmp_equiv nat_list_cmp_total).refl policy) in
    let gone : get now policy ≡ None = subst (IsFiledAs now policy w) none k.filed in
    cc

-- an index that the state hasn't
pub lost_index : (policy : List ℕ) (m : Live) (w : World) (handle : ℕ) (live : LiveIndex) → m.state.indices ≡ [] → get w.live handle ≡ Some live → IsOwnKept policy m w → ⊥
lost_index policy m w handle live none found k =
    let there = (k.own.indices.live handle live).0 found in
    let same = ap (index_at handle) (sym none) ∙ there.found in
    cc
