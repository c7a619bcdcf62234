use Rattle.std.proofs.Common.{◌≡◌, ◌+◌, ◌++◌, [], drop, take, map, sym, ap, subst, ◌∙◌, arith, append_assoc, append-nil}
use Rattle.std.specs.Prelude.{All}
use Rattle.std.proofs.lemmas.List.{drop_all, take_all, length-map}
use Rattle.std.proofs.lemmas.List.Elements.{All-map, All-more, All-same}
use Rattle.cel_record.specs.Proper.{IsProper}
use Rattle.cel_record.specs.Spelled.{spelled}
use Rattle.userspace_log.specs.Written.{seq_text, written_text}
use Rattle.userspace_log.proofs.NextText.{next_text}
use Rattle.userspace_log.proofs.RoundTrip.{log_of-seq_text}
use Rattle.userspace_log.proofs.writer.write_seq.Goals as goal

pub loop-record-preserved : goal.loop-record-preserved
loop-record-preserved c =
    let rs = c.args.records.now in
    let i = c.loop-record.record-index in
    let r = c.record-item.result in
    record {
      text = ap (λ s. s ++ seq_text (map spelled (drop (i + 1) rs))) c.in_ok-write_text.ensures.text
          ∙ append_assoc c.loop-record.out.items (written_text (spelled r)) (seq_text (map spelled (drop (i + 1) rs)))
          ∙ ap (λ s. c.loop-record.out.items ++ s) (sym (next_text rs i r c.loop-record-test.true c.record-item.is))
          ∙ c.loop-record.invariant.text;
      proper = All-more (λ r. IsProper (spelled r)) rs i r c.loop-record-test.true c.loop-record.invariant.proper (subst (λ r. IsProper (spelled r)) c.record-item.is c.in_ok-write_text.ensures.proper);
    }

-- no record is left, so the text is whole, and reads back
pub returns-clause-reads_back : goal.returns-clause-reads_back
returns-clause-reads_back c few =
    let rs = c.args.records.now in
    let n = c.loop-record.record-index in
    let none_left : drop n rs ≡ [] = drop_all n rs (omega arith) in
    let whole : c.loop-record.out.items ≡ seq_text (map spelled rs) =
    sym (append-nil c.loop-record.out.items) ∙ ap (λ left. c.loop-record.out.items ++ seq_text (map spelled left)) (sym none_left) ∙ c.loop-record.invariant.text in
    let proper : All IsProper (map spelled rs) =
    All-map IsProper spelled rs (All-same (λ r. IsProper (spelled r)) rs (take n rs) (sym (take_all n rs (omega arith))) c.loop-record.invariant.proper) in
    rw whole (log_of-seq_text (map spelled rs) (rw length-map few) proper)
