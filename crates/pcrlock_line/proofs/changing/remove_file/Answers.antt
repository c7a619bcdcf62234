use Rattle.std.proofs.Common.{sym, ap}
use Rattle.std.specs.Prelude.{is_some}
use Rattle.pcrlock_line.proofs.Removed.{missing, after_failure, after_memory}
use Rattle.pcrlock_line.proofs.changing.remove_file.Goals as goal

pub returns-in-Err-Missing-clause-was : goal.returns-in-Err-Missing-clause-was
returns-in-Err-Missing-clause-was g c = λ held e.
    sym (ap is_some (missing held c.args.path.now c.in-Err-Missing.field-0 _ c.in-Err-Missing.field-0-is (c.in-Err-Missing.ensures.told held e)).0)

pub returns-in-Err-Missing-clause-told : goal.returns-in-Err-Missing-clause-told
returns-in-Err-Missing-clause-told g c = λ held e.
    (missing held c.args.path.now c.in-Err-Missing.field-0 _ c.in-Err-Missing.field-0-is (c.in-Err-Missing.ensures.told held e)).1

pub returns-in-Err-Failed-clause-stops : goal.returns-in-Err-Failed-clause-stops
returns-in-Err-Failed-clause-stops g c = λ held e.
    after_failure held c.args.path.now c.in-Err-Failed.field-0 _ c.in-Err-Failed.field-0-is (c.in-Err-Failed.ensures.told held e)

pub returns-in-Err-Memory-clause-stops : goal.returns-in-Err-Memory-clause-stops
returns-in-Err-Memory-clause-stops g c = λ held e.
    after_memory held c.args.path.now c.in-Err-Memory.field-0 _ c.in-Err-Memory.field-0-is (c.in-Err-Memory.ensures.told held e)
