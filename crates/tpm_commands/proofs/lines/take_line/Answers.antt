use Rattle.std.proofs.Common.{◌≡◌, true, false, refl, sym, ◌∙◌}
use Rattle.std.specs.Str.{is_utf8}
use Rattle.std.proofs.lemmas.Str.{is_utf8-from_IsUtf8}
use Rattle.tpm_commands.specs.File.{is_passed_over, line_of}
use Rattle.tpm_commands.proofs.Utf8.{not_utf8}
use Rattle.tpm_commands.proofs.lines.take_line.Goals as goal

pub returns-in-Ok-clause-items : goal.returns-in-Ok-clause-items
unfolding line_of
returns-in-Ok-clause-items g c =
    let over : is_passed_over c.args.line.now ≡ true = sym c.passes_over.ensures ∙ c.if-passes_over.true in
    let text : is_utf8 c.args.line.now ≡ true = is_utf8-from_IsUtf8 c.args.line.now c.in-Ok.ensures.cases.1 in
    rw (over, text) refl

pub returns-in-Err-clause-items : goal.returns-in-Err-clause-items
unfolding line_of
returns-in-Err-clause-items g c =
    let over : is_passed_over c.args.line.now ≡ true = sym c.passes_over.ensures ∙ c.if-passes_over.true in
    let text : is_utf8 c.args.line.now ≡ false = not_utf8 c.args.line.now c.in-Err.ensures.cases.0 in
    rw (over, text) refl
