use Rattle.std.proofs.Common.{sym, ◌∙◌}
use Rattle.component_tree.specs.PlainTree.{plain_variant}
use Rattle.record_match.specs.Lacking.{lacking_in, lacking_among}
use Rattle.component_tree.specs.PlainTree.{plain_component}
use Rattle.record_match.proofs.Plainly.{giving_here, giving_later, lacking_plainly}
use Rattle.record_match.proofs.lacking.lacking_variant.Goals as goal

pub returns-in-Some-clause-value : goal.returns-in-Some-clause-value
returns-in-Some-clause-value c =
    let items = c.args.component.now.variants in
    sym (giving_here plain_variant (lacking_in c.args.bank c.args.pcr) items c.loop-number.number c.variant-item.result c.in-Some.place (lacking_among c.args.bank c.args.pcr (plain_component c.args.component.now))
    (rw c.as_slice-variant-items.ensures at c.loop-number-test.true) (rw c.as_slice-variant-items.ensures at c.variant-item.is)
    (sym (lacking_plainly c.args.bank c.args.pcr c.variant-item.result) ∙ sym c.in-Some.ensures.value) c.loop-number.invariant)

pub loop-number-preserved : goal.loop-number-preserved
loop-number-preserved c =
    let items = c.args.component.now.variants in
    giving_later plain_variant (lacking_in c.args.bank c.args.pcr) items c.loop-number.number c.variant-item.result (lacking_among c.args.bank c.args.pcr (plain_component c.args.component.now))
    (rw c.as_slice-variant-items.ensures at c.loop-number-test.true) (rw c.as_slice-variant-items.ensures at c.variant-item.is)
    (sym (lacking_plainly c.args.bank c.args.pcr c.variant-item.result) ∙ sym c.in_default.ensures.value) c.loop-number.invariant
