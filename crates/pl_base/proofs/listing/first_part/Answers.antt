use Rattle.std.proofs.Common.{lit<}
use Rattle.std.specs.Prelude.{None, Some}
use Rattle.std.proofs.lemmas.Str.Pattern.{split_parts}
use Rattle.pl_base.proofs.Parts.{plain_from_bytes}
use Rattle.pl_base.proofs.listing.first_part.Goals as goal

pub returns-in-Some-clause-plain : goal.returns-in-Some-clause-plain
returns-in-Some-clause-plain c = plain_from_bytes c.in-Some.part.now (split_parts 47 c.args.rest.now (Some (c.in-Some.part, c.in-Some.field-0-1)) c.in-Some.ensures.cases (lit< tt)).1

pub returns-in-Some-clause-whole : goal.returns-in-Some-clause-whole
returns-in-Some-clause-whole c = (c.in-Some.field-0-1.now, (split_parts 47 c.args.rest.now (Some (c.in-Some.part, c.in-Some.field-0-1)) c.in-Some.ensures.cases (lit< tt)).0)

pub returns-in-None-clause-plain : goal.returns-in-None-clause-plain
returns-in-None-clause-plain c = plain_from_bytes c.args.rest.now (split_parts 47 c.args.rest.now None c.in-None.ensures.cases (lit< tt))
