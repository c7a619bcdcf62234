use Rattle.std.proofs.Common.{◌≡◌, ◌<◌, ◌≤◌, ℕ, List, length, get_or, sym, subst, arith, Result, Option, ◌∙◌}
use Rattle.std.proofs.lemmas.List.{get_or_default, drop_all}
use Rattle.component_tree.specs.PlainTree.{plain}
use Rattle.pcr_replay.specs.Row.{rows}
use Rattle.predictor.specs.declared.error.ProtectError.{ProtectError}
use Rattle.predictor.specs.declared.protection.Cause.{Cause}
use Rattle.predictor.specs.Foreseen.{foreseen}
use Rattle.predictor.specs.Protected.{standing_in, refused_for, rows_of, Refuses}
use Rattle.predictor.proofs.Sorts.{row_stands, row_values, rows_done, each_done, each_stops, stands_in}
use Rattle.predictor.proofs.protecting.protect_each.Goals as goal

pub returns : goal.returns
returns c =
    let tree = plain c.args.tree.now.components in
    let standing : ℕ → Result (Option Cause) ProtectError = standing_in tree c.args.window.now c.args.bank (rows c.args.log.now) c.args.locality c.args.now.now in
    let values : ℕ → Result (List (List ℕ)) ProtectError = λ p. refused_for p (foreseen c.args.bank c.args.locality p c.args.window.now tree) in
    each_done tree c.args.window.now c.args.pcrs.now c.args.bank (rows c.args.log.now) c.args.locality c.args.now.now c.loop-pcr.rows c.loop-pcr.left
    (rows_done standing values c.args.pcrs.now c.loop-pcr.pcr-index c.loop-pcr.rows c.loop-pcr.left (drop_all c.loop-pcr.pcr-index c.args.pcrs.now (omega arith)) c.loop-pcr.invariant)

pub returns-in-Err : goal.returns-in-Err
returns-in-Err c =
    let tree = plain c.args.tree.now.components in
    let standing : ℕ → Result (Option Cause) ProtectError = standing_in tree c.args.window.now c.args.bank (rows c.args.log.now) c.args.locality c.args.now.now in
    let values : ℕ → Result (List (List ℕ)) ProtectError = λ p. refused_for p (foreseen c.args.bank c.args.locality p c.args.window.now tree) in
    let whole = rows_of standing values c.args.pcrs.now in
    let p : ℕ = get_or c.args.pcrs.now c.loop-pcr.pcr-index 0 in
    let in_list : p ≡ get_or c.args.pcrs.now c.loop-pcr.pcr-index p = get_or_default c.args.pcrs.now c.loop-pcr.pcr-index 0 p c.loop-pcr-test.true in
    let below : p ≤ 23 = c.requires.in_range c.loop-pcr.pcr-index 0 c.loop-pcr-test.true in
    let in_now : p < length c.args.now.now = omega (arith, c.requires.count) in
    let same = stands_in tree (plain c.components_inside-components.result.now) c.args.window.now c.args.bank (rows c.args.log.now) c.args.locality c.args.now.now p c.index-now-pcr.result c.components_inside-components.ensures.value in_now c.index-now-pcr.is in
    each_stops tree c.args.window.now c.args.pcrs.now c.args.bank (rows c.args.log.now) c.args.locality c.args.now.now c.in-Err.error
    (row_stands standing values c.args.pcrs.now c.loop-pcr.pcr-index p c.in-Err.error c.loop-pcr.rows c.loop-pcr.left whole c.loop-pcr-test.true in_list
    (subst (λ (r : Result (Option Cause) ProtectError). Refuses c.in-Err.error r) same c.in-Err.ensures) c.loop-pcr.invariant)

pub returns-in-Err-values_where : goal.returns-in-Err-values_where
returns-in-Err-values_where c =
    let tree = plain c.args.tree.now.components in
    let standing : ℕ → Result (Option Cause) ProtectError = standing_in tree c.args.window.now c.args.bank (rows c.args.log.now) c.args.locality c.args.now.now in
    let values : ℕ → Result (List (List ℕ)) ProtectError = λ p. refused_for p (foreseen c.args.bank c.args.locality p c.args.window.now tree) in
    let whole = rows_of standing values c.args.pcrs.now in
    let p : ℕ = get_or c.args.pcrs.now c.loop-pcr.pcr-index 0 in
    let in_list : p ≡ get_or c.args.pcrs.now c.loop-pcr.pcr-index p = get_or_default c.args.pcrs.now c.loop-pcr.pcr-index 0 p c.loop-pcr-test.true in
    let below : p ≤ 23 = c.requires.in_range c.loop-pcr.pcr-index 0 c.loop-pcr-test.true in
    let in_now : p < length c.args.now.now = omega (arith, c.requires.count) in
    let same = stands_in tree (plain c.components_inside-components.result.now) c.args.window.now c.args.bank (rows c.args.log.now) c.args.locality c.args.now.now p c.index-now-pcr.result c.components_inside-components.ensures.value in_now c.index-now-pcr.is in
    each_stops tree c.args.window.now c.args.pcrs.now c.args.bank (rows c.args.log.now) c.args.locality c.args.now.now c.in-Err-values_where.error
    (row_values standing values c.args.pcrs.now c.loop-pcr.pcr-index p c.in-Ok.cause c.in-Err-values_where.error c.loop-pcr.rows c.loop-pcr.left whole c.loop-pcr-test.true in_list
    (sym same ∙ c.in-Ok.ensures) c.in-Err-values_where.ensures c.loop-pcr.invariant)
