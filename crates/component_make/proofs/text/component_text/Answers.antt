use Rattle.std.proofs.Common.{◌≡◌, ◌≤◌, length, map, ap, ◌∙◌, arith}
use Rattle.std.proofs.lemmas.List.{length-map}
use Rattle.cel_record.specs.Spelled.{spelled}
use Rattle.cel_record.specs.Written.{component_text}
use Rattle.component_make.specs.FileText.{object_text, file_text}
use Rattle.component_make.proofs.FileData.{component_of-file_text}
use Rattle.component_make.proofs.text.component_text.Goals as goal

pub returns-clause-reads_back : goal.returns-clause-reads_back
returns-clause-reads_back c =
    let rs = map spelled c.args.records.now in
    let list : c.in_ok-list.list.items ≡ component_text rs = c.in_ok-list.ensures.text in
    let few : length rs ≤ 256 = omega (arith, length-map c.args.records.now spelled) in
    let made : c.in_ok-text.text.items ≡ file_text rs = c.in_ok-text.ensures ∙ ap object_text (c.as_slice.ensures.value ∙ list) in
    rw made (component_of-file_text rs few c.are_proper.ensures (rw list at (c.in_ok-list.ensures.reads_back c.requires)))
