use Rattle.std.proofs.Common.{ap, ◌∙◌}
use Rattle.std.specs.Str.{valid_up_to}
use Rattle.pcrlock_run.proofs.Texts.{read_utf8, read_refused}
use Rattle.pcrlock_run.proofs.file.text_from.Goals as goal

pub returns-in-Ok : goal.returns-in-Ok
returns-in-Ok c = read_utf8 c.args.file.now c.args.bytes.items c.in-Ok.text c.few_lines.result (ap (λ v. v.items) c.in-Ok.ensures.ok) c.few_lines.ensures

pub returns-in_ok-malformed-in-Err : goal.returns-in_ok-malformed-in-Err
returns-in_ok-malformed-in-Err c =
    read_refused c.args.file.now c.args.bytes.items c.text.result.now c.valid_up_to.result c.in_ok-malformed-in-Err.field-0 c.text.ensures
    (c.valid_up_to.ensures ∙ ap valid_up_to c.utf8_error.ensures ∙ c.in-Err.ensures.valid_len) (λ utf8. cc (c.in-Err.ensures.succeeds utf8)) c.in_ok-malformed-in-Err.ensures
