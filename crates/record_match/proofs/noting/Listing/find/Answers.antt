use Rattle.std.proofs.Common.{List, drop, sym, ap, ◌∙◌}
use Rattle.std.specs.List.{position_from}
use Rattle.std.proofs.lemmas.List.{drop-map}
use Rattle.component_tree.specs.declared.tree.Component.{Component}
use Rattle.component_tree.specs.PlainTree.{plain, plain_component}
use Rattle.pcr_replay.specs.Row.{row}
use Rattle.record_match.specs.ListedBy.{lists}
use Rattle.record_match.specs.Noted.{IsListingOf}
use Rattle.record_match.proofs.NotedLemmas.{found_from, found_none}
use Rattle.record_match.proofs.noting.Listing.find.Goals as goal

pub returns-in_err-first : goal.returns-in_err-first
unfolding IsListingOf
returns-in_err-first c =
    c.from_residual.ensures
    ∙ found_none c.args.self.now.numbers (row c.args.entry.now) (plain c.args.tree.now.components) c.requires (sym c.in_err-first.was ∙ c.least.ensures)

pub returns : goal.returns
unfolding IsListingOf
returns c =
    let components = c.args.tree.now.components in
    let first = c.in_ok-first.first in
    let listed = lists (row c.args.entry.now) in
    c.listed_from.ensures
    ∙ ap (λ (cs : List Component). position_from listed first (plain (drop first cs))) c.as_slice.ensures
    ∙ ap (position_from listed first) (sym (drop-map plain_component first components))
    ∙ found_from c.args.self.now.numbers (row c.args.entry.now) (plain components) first c.requires (sym c.in_ok-first.was ∙ c.least.ensures)
