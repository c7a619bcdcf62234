use Rattle.std.proofs.Common.{sym, ap, length, ◌∙◌, arith}
use Rattle.component_tree.specs.PlainTree.{plain}
use Rattle.pcrlock_proofs.proofs.Each.{at_first, few_more, next_in, next_out, next_refused}
use Rattle.pcrlock_proofs.proofs.Passing.{of_both, of_none}
use Rattle.pcrlock_proofs.proofs.proving.proofs_each.Goals.{then-is_in_mask+in-Ok+in_ok-put_behind-in-Ok, else-is_in_mask}
use Rattle.pcrlock_proofs.proofs.proving.proofs_each.Goals as goal

pub loop-pcr-init : goal.loop-pcr-init
loop-pcr-init c = record {
  rest = at_first c.args.asked c.args.location.now (plain c.args.tree.now.components) c.new-list.result.items c.new-list.ensures.items;
  few = omega (arith, ap length c.new-list.ensures.items);
  passing = of_none c.args.asked c.args.location.now (plain c.args.tree.now.components) 1 c.new-list.result.items c.new-list.ensures.items;
}

pub returns-in-Err-clause-told : goal.returns-in-Err-clause-told
returns-in-Err-clause-told c =
    next_refused c.args.asked c.args.location.now (plain c.args.tree.now.components) c.loop-pcr.pcr c.loop-pcr.list.items c.in-Err.error (omega arith)
    (sym c.if-is_in_mask.true ∙ c.is_in_mask.ensures) c.in-Err.ensures.told c.loop-pcr.invariant.rest

pub loop-pcr-preserved : goal.loop-pcr-preserved
loop-pcr-preserved c =
    elim c.if-is_in_mask.branch [
      | then-is_in_mask+in-Ok+in_ok-put_behind-in-Ok w ↦ record {
        rest = rw w.list-is (rw w.in_ok-put_behind-in-Ok.ensures
            (next_in c.args.asked c.args.location.now (plain c.args.tree.now.components) c.loop-pcr.pcr c.loop-pcr.list.items w.in-Ok.further (omega arith)
            (sym w.if-is_in_mask.true ∙ c.is_in_mask.ensures) w.in-Ok.ensures.told c.loop-pcr.invariant.rest));
        few = rw w.list-is (rw w.in_ok-put_behind-in-Ok.ensures (few_more c.loop-pcr.list.items w.in-Ok.further c.loop-pcr.pcr c.loop-pcr.invariant.few w.in-Ok.ensures.few));
        passing = rw w.list-is (rw w.in_ok-put_behind-in-Ok.ensures
            (of_both c.args.asked c.args.location.now (plain c.args.tree.now.components) 1 c.loop-pcr.list.items w.in-Ok.further c.loop-pcr.invariant.passing w.in-Ok.ensures.passing));
      }
      | else-is_in_mask w ↦ record {
        rest = rw w.list-is (next_out c.args.asked c.args.location.now (plain c.args.tree.now.components) c.loop-pcr.pcr c.loop-pcr.list.items (omega arith)
            (sym w.if-is_in_mask.false ∙ c.is_in_mask.ensures) c.loop-pcr.invariant.rest);
        few = rw w.list-is (omega (arith, c.loop-pcr.invariant.few));
        passing = rw w.list-is c.loop-pcr.invariant.passing;
      }
    ]
