use Rattle.std.proofs.Common.{string_bytes}
use Rattle.std.specs.Prelude.{codes}
use Rattle.std.specs.Fmt.{decimal}
use Rattle.pl_text.proofs.Joins.{between_written}
use Rattle.pl_text.proofs.listing.write_numbers.Goals as goal

pub returns : goal.returns
returns c =
    between_written (codes ",") decimal c.in-Some.first.now c.in-Some.others.now c.args.numbers.now (string_bytes c.args.text.now) (string_bytes c.write.new.self) (string_bytes c.write_more_numbers.new.text) c.in-Some.ensures.cases.0 c.in_ok-write.ensures.bytes c.in_ok-write_more_numbers.ensures
