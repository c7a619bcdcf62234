use Rattle.std.proofs.Common.{◌≡◌, true, false, length, Some, refl, sym, ap, ◌∙◌, eqb}
use Rattle.std.specs.Str.{is_utf8}
use Rattle.std.proofs.lemmas.Str.{is_utf8-from_IsUtf8}
use Rattle.tpm_commands.proofs.Utf8.{not_utf8}
use Rattle.tpm_commands.proofs.event.read_path.Goals as goal

pub returns-in-Ok : goal.returns-in-Ok
returns-in-Ok c =
    let some : eqb (length c.args.word.now) 0 ≡ false = sym c.is_empty.ensures ∙ c.if-is_empty.false in
    let text : is_utf8 c.args.word.now ≡ true = is_utf8-from_IsUtf8 c.args.word.now c.in-Ok.ensures.cases.1 in
    rw (some, text) (ap Some c.in-Ok.ensures.cases.0)

pub returns-in-Err : goal.returns-in-Err
returns-in-Err c =
    let some : eqb (length c.args.word.now) 0 ≡ false = sym c.is_empty.ensures ∙ c.if-is_empty.false in
    let text : is_utf8 c.args.word.now ≡ false = not_utf8 c.args.word.now c.in-Err.ensures.cases.0 in
    rw (some, text) refl
