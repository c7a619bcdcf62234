use Rattle.std.proofs.Common.{subst, take, take_all, get_or}
use Rattle.std.specs.List.{All}
use Rattle.std.proofs.lemmas.List.Elements.{All-more}
use Rattle.cel_record.specs.declared.record.CelRecord.{CelRecord}
use Rattle.cel_record.specs.Spelled.{spelled}
use Rattle.record_match.specs.Noted.{NotesRecord}
use Rattle.record_match.proofs.NotedLemmas.{kept_record, lowers_trans}
use Rattle.record_match.proofs.noting.note_records.Goals as goal

pub loop-measured-preserved : goal.loop-measured-preserved
loop-measured-preserved c =
    let number = c.args.number in
    let records = c.args.records.now in
    let i = c.loop-measured.measured-index in
    let old = c.loop-measured.numbers in
    let new = c.note_record.new.numbers in
    let lowers = c.in_ok-note_record.ensures.lowers in
    record {
      lowers = lowers_trans c.args.numbers.now old new c.loop-measured.invariant.lowers lowers;
      so_far = All-more (λ (r : CelRecord). NotesRecord new number (spelled r)) records i c.measured-item.result c.loop-measured-test.true (λ k d inside. kept_record old new number (spelled (get_or (take i records) k d)) lowers (c.loop-measured.invariant.so_far k d inside)) (subst (λ (r : CelRecord). NotesRecord new number (spelled r)) c.measured-item.is c.in_ok-note_record.ensures.noted);
    }

pub returns-clause-noted : goal.returns-clause-noted
returns-clause-noted c =
    subst (All (λ (r : CelRecord). NotesRecord c.loop-measured.numbers c.args.number (spelled r))) (take_all c.loop-measured.measured-index c.args.records.now c.loop-measured-test.false) c.loop-measured.invariant.so_far
