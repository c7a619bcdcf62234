use Rattle.std.proofs.Common.{string_bytes}
use Rattle.std.specs.Prelude.{codes}
use Rattle.hex.specs.Hex.{encode_lower}
use Rattle.pl_text.proofs.Joins.{between_written}
use Rattle.pcrlock_words.proofs.predict.write_values.Goals as goal

pub returns : goal.returns
returns c =
    between_written (codes ",") encode_lower c.in-Some.first.now c.in-Some.others.now c.args.digests.now (string_bytes c.args.text.now) (string_bytes c.write.new.self) (string_bytes c.write_more.new.text) c.in-Some.ensures.cases.0 c.in_ok-write.ensures.bytes c.in_ok-write_more.ensures
