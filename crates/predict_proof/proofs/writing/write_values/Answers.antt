use Rattle.std.proofs.Common.{string_bytes}
use Rattle.hex.specs.Hex.{encode_lower}
use Rattle.predict_proof.proofs.Texts.{joined_written}
use Rattle.predict_proof.proofs.writing.write_values.Goals as goal

pub returns : goal.returns
returns c =
    joined_written encode_lower c.in-Some.first.now c.in-Some.others.now c.args.values.now (string_bytes c.args.text.now) (string_bytes c.write.new.self) (string_bytes c.write_more_values.new.text) c.in-Some.ensures.cases.0 c.in_ok-write.ensures.bytes c.in_ok-write_more_values.ensures
