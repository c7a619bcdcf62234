use Rattle.std.proofs.Common.{map, subst}
use Rattle.std.specs.Str.{IsUtf8}
use Rattle.std.proofs.lemmas.Str.{IsUtf8-string_bytes}
use Rattle.std.proofs.lemmas.List.{length-map}
use Rattle.cel_record.specs.Spelled.{spelled}
use Rattle.cel_record.proofs.ComponentData.{component_of-component_text}
use Rattle.cel_record.proofs.writer.write_cel.Goals as goal

-- a `String` is UTF-8, so its text is read
pub returns-clause-reads_back : goal.returns-clause-reads_back
returns-clause-reads_back c few =
    let rs = map spelled c.args.records.now in
    let text = c.in_ok-text.ensures.text in
    rw (c.into_bytes.ensures.value, text) (component_of-component_text rs (rw length-map few) c.in_ok-text.ensures.proper (subst IsUtf8 text (IsUtf8-string_bytes c.in_ok-text.text)))
