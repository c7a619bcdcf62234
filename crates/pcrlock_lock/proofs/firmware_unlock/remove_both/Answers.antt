use Rattle.std.proofs.Common.{sym, ap, ◌∙◌}
use Rattle.std.specs.Prelude.{Some}
use Rattle.std.specs.FinMap.{remove}
use Rattle.pcrlock_line.proofs.Composed.{then_stops}
use Rattle.pcrlock_lock.proofs.Removed.{counted_two, then_two, between_two, between_first}
use Rattle.pcrlock_lock.proofs.firmware_unlock.remove_both.Goals as goal

pub returns-in-Ok-remove_file-clause-number : goal.returns-in-Ok-remove_file-clause-number
returns-in-Ok-remove_file-clause-number g c = λ held is.
    c.count.ensures
    ∙ counted_two held c.args.first.now c.args.second.now c.in-Ok.was c.in-Ok-remove_file.other (c.in-Ok.ensures.was held is)
    (c.in-Ok-remove_file.ensures.was (remove held c.args.first.now) (c.in-Ok.ensures.told held is))

pub returns-in-Ok-remove_file-clause-told : goal.returns-in-Ok-remove_file-clause-told
returns-in-Ok-remove_file-clause-told g c = λ held is.
    c.in-Ok-remove_file.ensures.told (remove held c.args.first.now) (c.in-Ok.ensures.told held is) ∙ ap Some (sym (then_two held c.args.first.now c.args.second.now))

pub returns-in-Err-remove_file-clause-causes : goal.returns-in-Err-remove_file-clause-causes
returns-in-Err-remove_file-clause-causes g c =
    let F = g.F.Files.faults in
    then_stops (F c.args.files.now, 0, 0, 0) (F c.remove_file.new.files, 0, 0, 0) (F c.remove_file-in-Ok.new.files, 0, 0, 0) c.remove_file.result c.remove_file-in-Ok.result c.in-Err-remove_file.stop
    c.remove_file.ensures.causes c.remove_file-in-Ok.ensures.causes c.in-Err-remove_file.is

pub returns-in-Err-remove_file-clause-stops : goal.returns-in-Err-remove_file-clause-stops
returns-in-Err-remove_file-clause-stops g c = λ held is.
    between_two _ held c.args.first.now c.args.second.now (c.in-Err-remove_file.ensures.stops (remove held c.args.first.now) (c.in-Ok.ensures.told held is))

pub returns-in-Err-clause-stops : goal.returns-in-Err-clause-stops
returns-in-Err-clause-stops g c = λ held is.
    between_first _ held c.args.first.now c.args.second.now (c.in-Err.ensures.stops held is)
