use Rattle.std.proofs.Common.{ap, ◌∙◌}
use Rattle.std.specs.Prelude.{Some}
use Rattle.tpm_device.specs.Stored.{Holds}
use Rattle.pcrlock_line.proofs.Refusals.{too_large, malformed, bad_rule, large_refused, malformed_refused, rule_refused}
use Rattle.pcrlock_line.proofs.device.ready.Goals as goal

pub returns-in_ok-limit-in-Err-TooLarge-clause-told : goal.returns-in_ok-limit-in-Err-TooLarge-clause-told
returns-in_ok-limit-in-Err-TooLarge-clause-told g c = λ kept e.
    ap Some c.in_ok-limit-in-Err-TooLarge.ensures
    ∙ large_refused kept c.in-Err-TooLarge.field-0 c.in-Err-TooLarge.size _ c.args.path.now c.in-Err-TooLarge.field-0-is (c.in-Err-TooLarge.ensures.told kept e)

pub returns-in_ok-limit-in-Err-TooLarge-clause-live : goal.returns-in_ok-limit-in-Err-TooLarge-clause-live
returns-in_ok-limit-in-Err-TooLarge-clause-live g c = λ s e. absurd
    (too_large s c.in-Err-TooLarge.field-0 c.in-Err-TooLarge.size _ c.in-Err-TooLarge.field-0-is (c.in-Err-TooLarge.ensures.told (Holds s) e))

pub returns-in_ok-malformed_at-in-Err-Malformed-clause-told : goal.returns-in_ok-malformed_at-in-Err-Malformed-clause-told
returns-in_ok-malformed_at-in-Err-Malformed-clause-told g c = λ kept e.
    ap Some c.in_ok-malformed_at-in-Err-Malformed.ensures
    ∙ malformed_refused kept c.in-Err-Malformed.field-0 c.in-Err-Malformed.place _ c.args.path.now _ c.text.ensures c.in-Err-Malformed.field-0-is (c.in-Err-Malformed.ensures.told kept e)

pub returns-in_ok-malformed_at-in-Err-Malformed-clause-live : goal.returns-in_ok-malformed_at-in-Err-Malformed-clause-live
returns-in_ok-malformed_at-in-Err-Malformed-clause-live g c = λ s e. absurd
    (malformed s c.in-Err-Malformed.field-0 c.in-Err-Malformed.place _ c.in-Err-Malformed.field-0-is (c.in-Err-Malformed.ensures.told (Holds s) e))

pub returns-in_ok-breaks_rule-in-Err-BadRule-clause-told : goal.returns-in_ok-breaks_rule-in-Err-BadRule-clause-told
returns-in_ok-breaks_rule-in-Err-BadRule-clause-told g c = λ kept e.
    c.in_ok-breaks_rule-in-Err-BadRule.ensures
    ∙ rule_refused kept c.in-Err-BadRule.field-0 c.in-Err-BadRule.rule _ c.args.path.now _ c.text-in-Err-BadRule.ensures c.in-Err-BadRule.field-0-is (c.in-Err-BadRule.ensures.told kept e)

pub returns-in_ok-breaks_rule-in-Err-BadRule-clause-live : goal.returns-in_ok-breaks_rule-in-Err-BadRule-clause-live
returns-in_ok-breaks_rule-in-Err-BadRule-clause-live g c = λ s e. absurd
    (bad_rule s c.in-Err-BadRule.field-0 c.in-Err-BadRule.rule _ c.in-Err-BadRule.field-0-is (c.in-Err-BadRule.ensures.told (Holds s) e))
