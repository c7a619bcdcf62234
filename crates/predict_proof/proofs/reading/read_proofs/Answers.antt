use Rattle.std.proofs.Common.{Ok, Err, sym}
use Rattle.std.proofs.lemmas.List.Elements.{All-weaker}
use Rattle.predict_proof.specs.declared.error.ProofError.TheVariants as errors
use Rattle.predict_proof.specs.Proved.{HasShape}
use Rattle.predict_proof.specs.ReadsAs.{IsLine}
use Rattle.predict_proof.proofs.FileLemmas.{file_read, file_refused, first_bad, spelled_so, unended_head, unread_head}
use Rattle.predict_proof.proofs.ProofsRead.{head_alone, head_unread, file_told, file_untold}
use Rattle.predict_proof.proofs.reading.read_proofs.Goals as goal

pub returns-in_default-clause-reads : goal.returns-in_default-clause-reads
returns-in_default-clause-reads c = first_bad c.args.bytes.now (unended_head c.args.bytes.now c.in_default.ensures)

pub returns-in_default-clause-spelled : goal.returns-in_default-clause-spelled
returns-in_default-clause-spelled c = spelled_so c.args.bytes.now (Err (errors.BadLine 0)) (returns-in_default-clause-reads c)

pub returns-in_default-read_head-clause-reads : goal.returns-in_default-read_head-clause-reads
returns-in_default-read_head-clause-reads c = first_bad c.args.bytes.now (unread_head c.args.bytes.now c.in-Some.line.now c.in-Some.rest.now c.in-Some.ensures (sym c.in_default-read_head.ensures))

pub returns-in_default-read_head-clause-spelled : goal.returns-in_default-read_head-clause-spelled
returns-in_default-read_head-clause-spelled c = spelled_so c.args.bytes.now (Err (errors.BadLine 0)) (returns-in_default-read_head-clause-reads c)

pub returns-in-Ok-clause-reads : goal.returns-in-Ok-clause-reads
returns-in-Ok-clause-reads c =
    file_read c.args.bytes.now c.in-Some.line.now c.in-Some.rest.now c.in-Some-read_head.bank c.in-Some-read_head.locality c.in-Some.ensures (sym c.in-Some-read_head.ensures) c.in-Ok.proofs c.in-Ok.ensures.reads

pub returns-in-Ok-clause-few : goal.returns-in-Ok-clause-few
returns-in-Ok-clause-few c = (returns-in-Ok-clause-reads c).0.few

pub returns-in-Ok-clause-shaped : goal.returns-in-Ok-clause-shaped
returns-in-Ok-clause-shaped c = All-weaker (IsLine c.in-Some-read_head.bank) (HasShape c.in-Some-read_head.bank) (λ q line. line.shape) c.in-Ok.proofs (returns-in-Ok-clause-reads c).0.lines

pub returns-in-Ok-clause-spelled : goal.returns-in-Ok-clause-spelled
returns-in-Ok-clause-spelled c =
    spelled_so c.args.bytes.now (Ok (record { bank = c.in-Some-read_head.bank; locality = c.in-Some-read_head.locality; proofs = c.in-Ok.proofs })) (returns-in-Ok-clause-reads c)

pub returns-in-Err-clause-reads : goal.returns-in-Err-clause-reads
returns-in-Err-clause-reads c =
    file_refused c.args.bytes.now c.in-Some.line.now c.in-Some.rest.now c.in-Some-read_head.bank c.in-Some-read_head.locality c.in-Some.ensures (sym c.in-Some-read_head.ensures) c.in-Err.error c.in-Err.ensures.reads

pub returns-in-Err-clause-spelled : goal.returns-in-Err-clause-spelled
returns-in-Err-clause-spelled c = spelled_so c.args.bytes.now (Err c.in-Err.error) (returns-in-Err-clause-reads c)

pub returns-in_default-clause-answer : goal.returns-in_default-clause-answer
returns-in_default-clause-answer c = head_alone c.args.bytes.now c.in_default.ensures

pub returns-in_default-read_head-clause-answer : goal.returns-in_default-read_head-clause-answer
returns-in_default-read_head-clause-answer c = head_unread c.args.bytes.now c.in-Some.line.now c.in-Some.rest.now c.in-Some.ensures (sym c.in_default-read_head.ensures)

pub returns-in-Ok-clause-answer : goal.returns-in-Ok-clause-answer
returns-in-Ok-clause-answer c =
    file_told c.args.bytes.now c.in-Some.line.now c.in-Some.rest.now c.in-Some-read_head.bank c.in-Some-read_head.locality c.in-Ok.proofs c.in-Some.ensures (sym c.in-Some-read_head.ensures) c.in-Ok.ensures.answer

pub returns-in-Err-clause-answer : goal.returns-in-Err-clause-answer
returns-in-Err-clause-answer c =
    file_untold c.args.bytes.now c.in-Some.line.now c.in-Some.rest.now c.in-Some-read_head.bank c.in-Some-read_head.locality c.in-Err.error c.in-Some.ensures (sym c.in-Some-read_head.ensures) c.in-Err.ensures.answer
