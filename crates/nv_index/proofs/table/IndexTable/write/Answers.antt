use Rattle.std.proofs.Common.{◌≡◌, ◌<◌, length, get_or, sym, ap, ◌∙◌, true}
use Rattle.std.specs.Prelude.{nat_lt, slice_get, Some}
use Rattle.std.specs.List.{list_all}
use Rattle.std.proofs.lemmas.Bool.{ltb-true}
use Rattle.std.proofs.lemmas.Option.{slice_get-get_or}
use Rattle.nv_index.specs.Table.{is_before}
use Rattle.nv_index.proofs.TableKeeps.{table_written}
use Rattle.nv_index.proofs.table.IndexTable.write.Goals as goal

pub invariant_of-self : goal.invariant_of-self
invariant_of-self c =
    let place = c.index_place-place.result in
    let within : place < length c.as_slice-2.result.now = ltb-true place (length c.as_slice-2.result.now) (sym c.in-Some.ensures.lookup.0) in
    let read : slice_get c.as_slice-2.result.now place ≡ Some c.in-Some.index.now =
    slice_get-get_or c.as_slice-2.result.now place c.in-Some.index.now within ∙ ap Some (sym c.in-Some.ensures.lookup.1) in
    let found : slice_get c.self.inside.entries.items place ≡ Some c.in-Some.index.now = rw c.as_slice-2.ensures.value at read in
    rw c.written_index-index.ensures
    (table_written c.self.inside.entries.items place c.in-Some.index.now c.args.value.now c.args.number found c.requires.some
    (ap (λ xs. list_all (is_before c.args.number) xs) c.self.view_is ∙ c.requires.later) c.self.invariant)
