use Rattle.std.proofs.Common.{◌≤◌, ◌+◌, length, arith}
use Rattle.std.proofs.lemmas.List.{take_rest}
use Rattle.record_match.proofs.FirstChoice.{turn_next, turn_none, turn_left, noted_at_turn}
use Rattle.record_match.proofs.choosing.walk.Goals as goal

pub loop-number-preserved : goal.loop-number-preserved
loop-number-preserved c =
    let n = noted_at_turn c.args.steps.now c.args.list.now c.args.sets.now c.loop-number.number c.index-sets-steps.result c.loop-number-test.true c.requires.noted c.index-sets-steps.is in
    let t = turn_next c.args.steps.now c.args.list.now c.loop-number.number c.loop-number.place c.loop-number.choice c.index-steps-number.result c.index-sets-steps.result c.in-Some.variant c.index-alternatives-variant.result
    c.loop-number-test.true c.loop-number.invariant c.index-steps-number.is n
    (rw (c.as_slice-alternatives.ensures, c.as_slice-noted.ensures, take_rest, take_rest) at c.in-Some.ensures.value) (rw c.as_slice-alternatives.ensures at c.index-alternatives-variant.is) in
    rw (c.len-place.ensures, c.in_ok-push-in-Some.ensures) t

pub overflow_add-place : goal.overflow_add-place
overflow_add-place c =
    let n = noted_at_turn c.args.steps.now c.args.list.now c.args.sets.now c.loop-number.number c.index-sets-steps.result c.loop-number-test.true c.requires.noted c.index-sets-steps.is in
    let t = turn_next c.args.steps.now c.args.list.now c.loop-number.number c.loop-number.place c.loop-number.choice c.index-steps-number.result c.index-sets-steps.result c.in-Some.variant c.index-alternatives-variant.result
    c.loop-number-test.true c.loop-number.invariant c.index-steps-number.is n
    (rw (c.as_slice-alternatives.ensures, c.as_slice-noted.ensures, take_rest, take_rest) at c.in-Some.ensures.value) (rw c.as_slice-alternatives.ensures at c.index-alternatives-variant.is) in
    let within : c.loop-number.place + length c.index-alternatives-variant.result ≤ length c.args.list.now = t.within in
    omega arith

pub returns-in-None : goal.returns-in-None
returns-in-None c =
    let n = noted_at_turn c.args.steps.now c.args.list.now c.args.sets.now c.loop-number.number c.index-sets-steps.result c.loop-number-test.true c.requires.noted c.index-sets-steps.is in
    turn_none c.args.steps.now c.args.list.now c.loop-number.number c.loop-number.place c.loop-number.choice c.index-steps-number.result c.index-sets-steps.result c.loop-number-test.true c.loop-number.invariant c.index-steps-number.is n
    (rw (c.as_slice-alternatives.ensures, c.as_slice-noted.ensures, take_rest, take_rest) at c.in-None.ensures.value)

pub returns-then-place-list : goal.returns-then-place-list
returns-then-place-list c = turn_left c.args.steps.now c.args.list.now c.loop-number.number c.loop-number.place c.loop-number.choice (omega arith) (omega arith) c.loop-number.invariant
