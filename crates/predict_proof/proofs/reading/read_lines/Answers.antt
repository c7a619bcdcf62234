use Rattle.std.proofs.Common.{◌≡◌, ◌+◌, length, sym, ap, ◌∙◌, subst, arith}
use Rattle.std.proofs.lemmas.Bool.{eqb-false}
use Rattle.std.proofs.lemmas.List.{length_push}
use Rattle.pl_text.specs.Parts.{parts_of}
use Rattle.predict_proof.specs.ProofsIn.{proofs_from}
use Rattle.predict_proof.specs.ReadsAs.{LinesBefore}
use Rattle.predict_proof.proofs.FileLemmas.{one_before, bad_unended, bad_unread}
use Rattle.predict_proof.proofs.ProofsRead.{prefixed, read_more, read_unread, read_unended, read_full}
use Rattle.predict_proof.proofs.reading.read_lines.Goals as goal

pub returns-in_default-clause-reads : goal.returns-in_default-clause-reads
returns-in_default-clause-reads c =
    bad_unended c.args.bank c.args.text.now c.loop-place.rest.now c.loop-place.proofs (c.loop-place.place + 1) c.loop-place.invariant.before (omega (arith, c.loop-place.invariant.count)) (omega (arith, c.loop-place.invariant.count))
    (λ none. eqb-false (length c.loop-place.rest.now) 0 (sym c.is_empty.ensures ∙ c.if-is_empty.false) (ap length none)) c.in_default.ensures

pub returns-in_default-2-clause-reads : goal.returns-in_default-2-clause-reads
returns-in_default-2-clause-reads c =
    bad_unread c.args.bank c.args.text.now c.loop-place.rest.now c.in-Some.line.now c.in-Some.behind.now c.loop-place.proofs (c.loop-place.place + 1) c.loop-place.invariant.before (omega (arith, c.loop-place.invariant.count)) (omega (arith, c.loop-place.invariant.count))
    (λ none. eqb-false (length c.loop-place.rest.now) 0 (sym c.is_empty.ensures ∙ c.if-is_empty.false) (ap length none)) c.in-Some.ensures (sym c.in_ok-proof.ensures ∙ c.in_default-2.is)

pub loop-place-preserved : goal.loop-place-preserved
loop-place-preserved c =
    record {
      before = subst (λ ps. LinesBefore c.args.bank c.args.text.now ps c.in-Some.behind.now) (sym c.in_ok-push.ensures)
          (one_before c.args.bank c.args.text.now c.loop-place.rest.now c.in-Some.line.now c.in-Some.behind.now c.loop-place.proofs c.in-Some-2.proof c.loop-place.invariant.before c.in-Some.ensures (sym c.in_ok-proof.ensures ∙ c.in-Some-2.is));
      given = subst (λ ps. prefixed ps (proofs_from c.args.bank (c.loop-place.place + 1) (parts_of 10 c.in-Some.behind.now)) ≡ proofs_from c.args.bank 0 (parts_of 10 c.args.text.now)) (sym c.in_ok-push.ensures)
          (read_more c.args.bank (proofs_from c.args.bank 0 (parts_of 10 c.args.text.now)) c.loop-place.place c.loop-place.proofs c.in-Some-2.proof c.loop-place.rest.now c.in-Some.line.now c.in-Some.behind.now (omega arith) c.in-Some.ensures (sym c.in_ok-proof.ensures ∙ c.in-Some-2.is) c.loop-place.invariant.given);
      count = ap length c.in_ok-push.ensures ∙ length_push c.loop-place.proofs c.in-Some-2.proof ∙ ap (λ n. n + 1) c.loop-place.invariant.count;
    }

pub returns-in_default-clause-answer : goal.returns-in_default-clause-answer
returns-in_default-clause-answer c =
    read_unended c.args.bank (proofs_from c.args.bank 0 (parts_of 10 c.args.text.now)) c.loop-place.place c.loop-place.proofs c.loop-place.rest.now (omega arith) (sym c.is_empty.ensures ∙ c.if-is_empty.false) c.in_default.ensures c.loop-place.invariant.given

pub returns-in_default-2-clause-answer : goal.returns-in_default-2-clause-answer
returns-in_default-2-clause-answer c =
    read_unread c.args.bank (proofs_from c.args.bank 0 (parts_of 10 c.args.text.now)) c.loop-place.place c.loop-place.proofs c.loop-place.rest.now c.in-Some.line.now c.in-Some.behind.now (omega arith) c.in-Some.ensures (sym c.in_ok-proof.ensures ∙ c.in_default-2.is) c.loop-place.invariant.given

pub returns-else-is_empty-2-clause-answer : goal.returns-else-is_empty-2-clause-answer
returns-else-is_empty-2-clause-answer c =
    read_full c.args.bank (proofs_from c.args.bank 0 (parts_of 10 c.args.text.now)) c.loop-place.place c.loop-place.proofs c.loop-place.rest.now (omega arith) (sym c.is_empty-2.ensures ∙ c.if-is_empty-2.false) c.loop-place.invariant.given
