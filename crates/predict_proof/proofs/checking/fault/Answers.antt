use Rattle.std.proofs.Common.{refl, take, sym, ◌∙◌, arith}
use Rattle.component_tree.specs.PlainTree.{plain}
use Rattle.policy_digest.specs.Mask.{pcrs_of}
use Rattle.record_match.specs.Extends.{reached_by}
use Rattle.predict_proof.specs.Fault.{first_differing}
use Rattle.predict_proof.proofs.Faults.{no_such_choice, digest_lacks, differs_at}
use Rattle.predict_proof.proofs.checking.fault.Goals as goal

pub returns-then-not-is_choice : goal.returns-then-not-is_choice
returns-then-not-is_choice c =
    no_such_choice c.args.bank c.args.locality c.args.first c.args.components.now (take c.args.proof.now.cut c.args.components.now) c.as_slice-choice.result.now c.args.number c.args.proof.now
    (refl, c.as_slice-choice.ensures, omega arith, omega arith) (sym c.if-not-is_choice.true ∙ c.is_choice.ensures)

pub returns-then-lacks_some : goal.returns-then-lacks_some
returns-then-lacks_some c =
    digest_lacks c.args.bank c.args.locality c.args.first c.args.components.now (take c.args.proof.now.cut c.args.components.now) c.as_slice-choice.result.now c.args.number c.args.proof.now
    (refl, c.as_slice-choice.ensures, omega arith, omega arith) (sym c.if-not-is_choice.false ∙ c.is_choice.ensures) (sym c.if-lacks_some.true ∙ c.lacks_some.ensures)

pub returns : goal.returns
returns c =
    c.difference.ensures
    ∙ differs_at c.args.bank c.args.locality c.args.first c.args.components.now (take c.args.proof.now.cut c.args.components.now) c.as_slice-choice.result.now c.args.number c.args.proof.now
    c.as_slice.result.now (first_differing (λ p. reached_by c.args.bank p c.args.locality (plain (take c.args.proof.now.cut c.args.components.now)) c.as_slice-choice.result.now) (pcrs_of c.args.proof.now.pcrs) c.as_slice.result.now)
    (refl, c.as_slice-choice.ensures, omega arith, omega arith) (sym c.if-not-is_choice.false ∙ c.is_choice.ensures) (sym c.if-lacks_some.false ∙ c.lacks_some.ensures) c.as_slice.ensures.value refl
