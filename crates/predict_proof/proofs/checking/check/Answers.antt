use Rattle.std.proofs.Common.{arith}
use Rattle.component_tree.specs.PlainTree.{plain}
use Rattle.predict_proof.proofs.Checks.{next_proved, refused_here, exactly_err, exactly_ok, all_proved, fault_here, no_fault_here, no_fault}
use Rattle.predict_proof.proofs.JointLemmas.{all_foreseen}
use Rattle.predict_proof.proofs.checking.check.Goals as goal

pub returns-in-Some-clause-refused : goal.returns-in-Some-clause-refused
returns-in-Some-clause-refused c =
    refused_here c.args.bank c.args.locality c.args.window.now (plain c.args.tree.now.components) c.args.list.now c.components_inside-components.result.now c.inside-first.result c.loop-number.number c.index-list-number.result c.in-Some.error
    c.components_inside-components.ensures.value c.inside-first.ensures c.loop-number-test.true c.index-list-number.is c.in-Some.ensures c.loop-number.invariant.proved

pub returns-in-Some-clause-proved : goal.returns-in-Some-clause-proved
returns-in-Some-clause-proved c =
    exactly_err c.args.bank c.args.locality c.args.window.now (plain c.args.tree.now.components) c.args.list.now c.in-Some.error (returns-in-Some-clause-refused c)

pub returns-in-Some-clause-answer : goal.returns-in-Some-clause-answer
returns-in-Some-clause-answer c =
    fault_here c.args.bank c.args.locality c.args.window.now (plain c.args.tree.now.components) c.args.list.now c.components_inside-components.result.now c.inside-first.result c.loop-number.number c.index-list-number.result c.in-Some.error
    c.components_inside-components.ensures.value c.inside-first.ensures c.loop-number-test.true c.index-list-number.is c.in-Some.ensures c.loop-number.invariant.rest

pub loop-number-preserved : goal.loop-number-preserved
loop-number-preserved c = record {
  proved = next_proved c.args.bank c.args.locality c.args.window.now (plain c.args.tree.now.components) c.args.list.now c.components_inside-components.result.now c.inside-first.result c.loop-number.number c.index-list-number.result
      c.components_inside-components.ensures.value c.inside-first.ensures c.loop-number-test.true c.index-list-number.is c.requires.shaped c.in_default.ensures c.loop-number.invariant.proved;
  rest = no_fault_here c.args.bank c.args.locality c.args.window.now (plain c.args.tree.now.components) c.args.list.now c.components_inside-components.result.now c.inside-first.result c.loop-number.number c.index-list-number.result
      c.components_inside-components.ensures.value c.inside-first.ensures c.loop-number-test.true c.index-list-number.is c.in_default.ensures c.loop-number.invariant.rest;
}

pub returns-clause-answer : goal.returns-clause-answer
returns-clause-answer c =
    no_fault c.args.bank c.args.locality c.args.window.now (plain c.args.tree.now.components) c.args.list.now c.loop-number.number (omega arith) c.loop-number.invariant.rest

pub returns-clause-proved : goal.returns-clause-proved
returns-clause-proved c =
    exactly_ok c.args.bank c.args.locality c.args.window.now (plain c.args.tree.now.components) c.args.list.now
    (all_proved c.args.bank c.args.locality c.args.window.now (plain c.args.tree.now.components) c.args.list.now c.loop-number.number (omega arith) c.loop-number.invariant.proved)

pub returns-clause-foreseen : goal.returns-clause-foreseen
returns-clause-foreseen c =
    all_foreseen c.args.bank c.args.locality c.args.window.now (plain c.args.tree.now.components) c.args.list.now
    (all_proved c.args.bank c.args.locality c.args.window.now (plain c.args.tree.now.components) c.args.list.now c.loop-number.number (omega arith) c.loop-number.invariant.proved)
