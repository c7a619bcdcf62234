-- The order of component files.
use Rattle.std.specs.declared.cmp.Ordering.{Ordering}
use Rattle.std.specs.Ordering.{nat_cmp, on, then_cmp}
use Rattle.std.specs.Option.{option_cmp}
use Rattle.std.specs.Cmp.{IsTotalOrder, then_total, on_total}
use Rattle.std.specs.Cmp.Lexicographic.{slice_cmp, nat_list_cmp_total, options_total}
use Rattle.component_tree.specs.declared.place.Place.{Place}

-- by the bytes of the ids, then a component's own file first, and its variants' by the bytes of their files' names
abbrev pub place_cmp : Place → Place → Ordering
place_cmp = then_cmp (on (λ p. p.id) (slice_cmp nat_cmp)) (on (λ p. p.file) (option_cmp (slice_cmp nat_cmp)))

pub place_total : IsTotalOrder place_cmp
place_total = then_total (on_total (λ p. p.id) nat_list_cmp_total) (on_total (λ p. p.file) (options_total nat_list_cmp_total))
