use Rattle.std.proofs.Common.{sym, ◌∙◌}
use Rattle.pl_text.proofs.Decimals.{number-unparsed, number-unplain, number-within, number-above}
use Rattle.pl_text.proofs.numbers.number_in.Goals as goal
use Rattle.pl_text.proofs.numbers.number_in.Goals.{else-is_plain-via-then-is_plain+else-number-limit, else-is_plain-via-else-is_plain}

pub returns-in_err-number : goal.returns-in_err-number
returns-in_err-number c =
    c.from_residual.ensures ∙ sym (number-unparsed c.args.limit c.args.word.now c.parse.result c.ranges.limit.fits c.parse.ensures.value.0 (sym c.ok.ensures.value ∙ c.in_err-number.was))

pub returns-then-number-limit : goal.returns-then-number-limit
returns-then-number-limit c =
    sym
    (number-within c.args.limit c.in_ok-number.number c.args.word.now c.parse.result c.parse.ensures.value.0 (sym c.ok.ensures.value ∙ c.in_ok-number.was) (sym c.is_plain.ensures ∙ c.if-is_plain.true) c.if-number-limit.true)

pub returns-else-is_plain : goal.returns-else-is_plain
returns-else-is_plain c =
    elim c.else-is_plain.branch [
      | else-is_plain-via-then-is_plain+else-number-limit w ↦
          sym
          (number-above c.args.limit c.in_ok-number.number c.args.word.now c.parse.result c.parse.ensures.value.0 (sym c.ok.ensures.value ∙ c.in_ok-number.was) (sym c.is_plain.ensures ∙ w.if-is_plain.true) w.if-number-limit.false)
      | else-is_plain-via-else-is_plain w ↦
          sym
          (number-unplain c.args.limit c.args.word.now c.ranges.limit.fits (sym c.is_plain.ensures ∙ w.if-is_plain.false))
    ]
