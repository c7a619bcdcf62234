use Rattle.std.proofs.Common.{arith}
use Rattle.std.specs.Prelude.{Some, None}
use Rattle.std.proofs.lemmas.Str.Pattern.{split_parts}
use Rattle.pcrlock_run.proofs.Parts.{first_line, only_line}
use Rattle.pcrlock_run.proofs.next.next_line.Goals as goal

pub returns-in-Some-clause-split : goal.returns-in-Some-clause-split
returns-in-Some-clause-split c =
    let parts = split_parts 10 c.args.text.now (Some (c.in-Some.line, c.in-Some.rest)) c.in-Some.ensures.cases (omega arith) in
    first_line c.args.text.now c.in-Some.line.now c.in-Some.rest.now parts.0 parts.1

pub returns-in-None-clause-split : goal.returns-in-None-clause-split
returns-in-None-clause-split c = only_line c.args.text.now (split_parts 10 c.args.text.now None c.in-None.ensures.cases (omega arith))
