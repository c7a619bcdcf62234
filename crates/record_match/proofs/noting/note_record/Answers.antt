use Rattle.cel_record.specs.Spelled.{spelled}
use Rattle.record_match.specs.Noted.{Lowers, key_of}
use Rattle.record_match.proofs.NotedLemmas.{by_bank, kept_up, lowers_trans}
use Rattle.record_match.proofs.noting.note_record.Goals as goal

pub returns-clause-lowers : goal.returns-clause-lowers
returns-clause-lowers c =
    let start = c.args.numbers.now in
    let one = c.note_digest.new.numbers in
    let two = c.note_digest-2.new.numbers in
    let three = c.note_digest-3.new.numbers in
    let four = c.note_digest-4.new.numbers in
    lowers_trans start one four c.in_ok-note_digest.ensures.lowers
    (lowers_trans one two four c.in_ok-note_digest-2.ensures.lowers (lowers_trans two three four c.in_ok-note_digest-3.ensures.lowers c.in_ok-note_digest-4.ensures.lowers))

pub returns-clause-noted : goal.returns-clause-noted
returns-clause-noted c =
    let pcr = c.args.measured.now.pcr in
    let number = c.args.number in
    let one = c.note_digest.new.numbers in
    let two = c.note_digest-2.new.numbers in
    let three = c.note_digest-3.new.numbers in
    let four = c.note_digest-4.new.numbers in
    let from_three : Lowers three four = c.in_ok-note_digest-4.ensures.lowers in
    let from_two : Lowers two four = lowers_trans two three four c.in_ok-note_digest-3.ensures.lowers from_three in
    let from_one : Lowers one four = lowers_trans one two four c.in_ok-note_digest-2.ensures.lowers from_two in
    by_bank four number (spelled c.args.measured.now)
    (λ d is. kept_up one four (key_of pcr d) number from_one (c.in_ok-note_digest.ensures.noted d is))
    (λ d is. kept_up two four (key_of pcr d) number from_two (c.in_ok-note_digest-2.ensures.noted d is))
    (λ d is. kept_up three four (key_of pcr d) number from_three (c.in_ok-note_digest-3.ensures.noted d is))
    (λ d is. c.in_ok-note_digest-4.ensures.noted d is)
