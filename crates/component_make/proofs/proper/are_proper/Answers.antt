use Rattle.std.proofs.Common.{take, subst, sym, arith}
use Rattle.std.proofs.lemmas.List.{take_all}
use Rattle.std.proofs.lemmas.List.Elements.{All-map, All-more, All-same}
use Rattle.cel_record.specs.Proper.{IsProper}
use Rattle.cel_record.specs.Spelled.{spelled}
use Rattle.component_make.proofs.proper.are_proper.Goals as goal

pub loop-record-preserved : goal.loop-record-preserved
loop-record-preserved c =
    All-more (λ r. IsProper (spelled r)) c.args.records.now c.loop-record.record-index c.record-item.result c.loop-record-test.true c.loop-record.invariant (subst (λ r. IsProper (spelled r)) c.record-item.is c.is_proper.ensures)

pub returns : goal.returns
returns c =
    let rs = c.args.records.now in
    let i = c.loop-record.record-index in
    All-map IsProper spelled rs (All-same (λ r. IsProper (spelled r)) rs (take i rs) (sym (take_all i rs (omega arith))) c.loop-record.invariant)
