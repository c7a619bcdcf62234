use Rattle.std.specs.FinMap.{insert}
use Rattle.pcrlock_lock.proofs.Done.{when_err, second_of_two}
use Rattle.pcrlock_lock.proofs.firmware_lock.write_both.Goals as goal

pub returns-in-Ok-clause-stops : goal.returns-in-Ok-clause-stops
returns-in-Ok-clause-stops g c = λ held is.
    let first = insert held c.args.first.now.path c.args.first.now.bytes.items in
    when_err c.write_file-in-Ok.result _ _ (second_of_two _ held first _) (c.write_file-in-Ok.ensures.stops first (c.in-Ok.ensures.told held is))
