use Rattle.std.proofs.Common.{◌≡◌, ◌<◌, length, sym, ap, ◌∙◌, not, true, false, arith}
use Rattle.std.specs.Prelude.{nat_lt}
use Rattle.std.proofs.lemmas.Bool.{ltb-true}
use Rattle.nv_index.proofs.TableKeeps.{table_without}
use Rattle.nv_index.proofs.table.IndexTable.undefine.Goals as goal

pub invariant_of-self : goal.invariant_of-self
invariant_of-self c =
    let there : nat_lt c.index_place-place.result (length c.as_slice-2.result.now) ≡ true = sym c.get.ensures.lookup.0 ∙ c.is_none.ensures ∙ ap not c.if-is_none.false in
    let within : c.index_place-place.result < length c.self.inside.entries.items = rw c.as_slice-2.ensures.value at (ltb-true c.index_place-place.result (length c.as_slice-2.result.now) there) in
    rw c.remove-gone.ensures.items (table_without c.self.inside.entries.items c.index_place-place.result within c.self.invariant)
