use Rattle.std.proofs.Common.{◌≡◌, [], drop, take, map, sym, ap, subst, arith, nat_lt, string_bytes}
use Rattle.std.proofs.lemmas.Grind.{common_steps}
use Rattle.std.proofs.lemmas.List.{drop_all, take_all}
use Rattle.std.proofs.lemmas.List.Elements.{All-map, All-more, All-same}
use Rattle.cel_record.specs.Proper.{IsProper}
use Rattle.cel_record.specs.Spelled.{spelled}
use Rattle.cel_record.specs.Written.{numbered_texts}
use Rattle.cel_record.proofs.Commas.{all_written}
use Rattle.cel_record.proofs.writer.write_all_numbered.Goals as goal

-- no record is left behind the loop
pub returns-clause-text : goal.returns-clause-text
returns-clause-text c =
    let n = c.loop-number.number in
    let rs = c.args.records.now in
    let none_left : drop n rs ≡ [] = drop_all n rs (omega arith) in
    all_written (string_bytes c.loop-number.out) (string_bytes c.args.out.now) (nat_lt 0 n) (numbered_texts n (map spelled (drop n rs))) (numbered_texts 0 (map spelled rs))
    (ap (λ left. numbered_texts n (map spelled left)) none_left) c.loop-number.invariant.text

pub loop-number-preserved : goal.loop-number-preserved
loop-number-preserved c = record {
  text = grind (arith, common_steps);
  proper = All-more (λ r. IsProper (spelled r)) c.args.records.now c.loop-number.number c.index-records-number.result (omega arith) c.loop-number.invariant.proper (subst (λ r. IsProper (spelled r)) c.index-records-number.is c.in_ok-write_numbered.ensures.proper);
}

pub returns-clause-proper : goal.returns-clause-proper
returns-clause-proper c =
    let rs = c.args.records.now in
    All-map IsProper spelled rs (All-same (λ r. IsProper (spelled r)) rs (take c.loop-number.number rs) (sym (take_all c.loop-number.number rs (omega arith))) c.loop-number.invariant.proper)
