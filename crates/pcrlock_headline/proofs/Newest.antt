-- What the state has of a live index: its public area, and the root of its newest table.
use Rattle.std.proofs.Common.{◌≡◌, ℕ, sym, ap, subst, ◌∙◌}
use Rattle.std.specs.Prelude.{Some}
use Rattle.std.specs.FinMap.{get}
use Rattle.nv_index.specs.IndexName.{written_public}
use Rattle.nv_index.specs.Table.{index_at}
use Rattle.nv_index.specs.declared.index.Index.{Index}
use Rattle.nv_index.specs.declared.index.Written.{Written}
use Rattle.policy_digest.specs.Pin.{pin_policy_of}
use Rattle.policy_digest.specs.PlainTable.{root_of}
use Rattle.policy_digest.specs.TableStrings.{table_strings}
use Rattle.policy_roots.specs.Rows.{HasRows}
use Rattle.policy_roots.proofs.Valid.{valid_has_rows}
use Rattle.policy_walk.specs.Choosing.{content_of}
use Rattle.tpm_model.specs.declared.parts.Parts.{Parts}
use Rattle.tpm_model.specs.Orderly.{Orderly}
use Rattle.tpm_model.specs.ValidTable.{IsValidTable}
use Rattle.tpm_model.specs.World.{AreHashed, LiveIndex, PolicyUpdate, World}
use Rattle.tpm_worlds.specs.WholeEvents.{OwnTie}
use Rattle.tpm_worlds.proofs.IndexPlaces.{found_handle}
use Rattle.tpm_worlds.proofs.TrailReads.{written_area}

pub record HoldsNewest (s : Parts) (w : World) (handle : ℕ) (live : LiveIndex) : Type 0 where
  pub index : Index
  pub found : index_at handle s.indices ≡ Some index
  pub written : Written
  pub was : index.written ≡ Some written
  pub area : index.public ≡ written_public handle (pin_policy_of live.pin)
  pub content : written.value ≡ content_of (root_of live.table)
  pub table : IsValidTable live.table
  pub rows : HasRows live.table
  pub hashed : AreHashed w (table_strings live.table)

pub newest_held : (s : Parts) (w : World) (handle : ℕ) (live : LiveIndex) → Orderly s → OwnTie s w → get w.live handle ≡ Some live → HoldsNewest s w handle live
newest_held s w handle live orderly own e =
    let l = (own.indices.live handle live).0 e in
    let root = own.indices.roots handle live e in
    let update : PolicyUpdate = record { number = l.written.number; handle = handle; pin = live.pin; table = live.table } in
    let one : l.index ≡ root.index = one_index l.index root.index (sym l.found ∙ root.found) in
    let policy : root.index.public.policy ≡ pin_policy_of live.pin = sym (ap (λ (i : Index). i.public.policy) one) ∙ l.policy in
    let valid = (own.indices.updates update l.update).table in
    record {
      index = root.index;
      found = root.found;
      written = root.written;
      was = root.was;
      area = written_area s orderly handle root.index root.written root.found root.was
          ∙ ap (λ h. written_public h root.index.public.policy) (found_handle handle s.indices root.index root.found)
          ∙ ap (written_public handle) policy;
      content = root.content;
      table = valid;
      rows = subst HasRows (sym valid.same) (valid_has_rows valid.table valid.valid);
      hashed = own.base.updates update l.update;
    }
  where
    one_index : (a b : Index) → Some a ≡ Some b → a ≡ b
    one_index a b f = cc
