use Rattle.std.specs.FinMap.{insert}
use Rattle.pcrlock_line.proofs.Replaced.{after_failure, after_memory}
use Rattle.pcrlock_line.proofs.changing.replace_file.Goals as goal

pub returns-in-Err-Failed-clause-stops : goal.returns-in-Err-Failed-clause-stops
returns-in-Err-Failed-clause-stops g c = λ held e.
    after_failure held (insert held c.args.path.now c.args.bytes.now) c.in-Err-Failed.field-0 _ c.in-Err-Failed.field-0-is (c.in-Err-Failed.ensures.told held e)

pub returns-in-Err-Memory-clause-stops : goal.returns-in-Err-Memory-clause-stops
returns-in-Err-Memory-clause-stops g c = λ held e.
    after_memory held (insert held c.args.path.now c.args.bytes.now) c.in-Err-Memory.field-0 _ c.in-Err-Memory.field-0-is (c.in-Err-Memory.ensures.told held e)
