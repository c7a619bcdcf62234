use Rattle.std.proofs.Common.{◌≡◌, ◌≤◌, length, sym, ap, ◌∙◌, subst}
use Rattle.std.specs.Prelude.{List, None}
use Rattle.std.specs.List.{position_or_len}
use Rattle.nv_index.specs.Table.{DefineGives, define_refusal, is_above, unwritten, with_index}
use Rattle.nv_index.specs.declared.index.Index.{Index}
use Rattle.nv_index.proofs.TableKeeps.{above_within, definition_gives, table_after_insert}
use Rattle.nv_index.proofs.table.IndexTable.define.Goals as goal

pub insert_at-requires : goal.insert_at-requires
insert_at-requires c = rw (c.place_above-place.ensures, c.as_slice-2.ensures.value) (above_within c.args.public.now.handle c.self.inside.entries.items)

pub invariant_of-self : goal.invariant_of-self
invariant_of-self c =
    table_after_insert c.insert_at.result c.args.public.now c.self.inside.entries.items c.insert_at.new.entries.items c.place_above-place.result
    (rw c.as_slice-2.ensures.value at c.place_above-place.ensures) (rw c.as_slice.ensures.value at (sym c.define_refusal.ensures ∙ c.in_default.is)) c.insert_at.ensures c.self.invariant

pub returns : goal.returns
returns c =
    subst (λ (xs : List Index). DefineGives (define_refusal c.args.public.now xs) c.insert_at.result xs (with_index (unwritten c.args.public.now) xs) c.insert_at.new.entries.items) c.self.view_is
    (definition_gives c.insert_at.result c.args.public.now c.self.inside.entries.items c.insert_at.new.entries.items c.place_above-place.result
    (rw c.as_slice-2.ensures.value at c.place_above-place.ensures) (rw c.as_slice.ensures.value at (sym c.define_refusal.ensures ∙ c.in_default.is)) c.insert_at.ensures)
