use Rattle.std.proofs.Common.{◌≤◌, take, length, arith}
use Rattle.std.proofs.lemmas.List.{length-take}
use Rattle.tpm_commands.specs.Values.{group_of}
use Rattle.tpm_commands.proofs.Groups.{group_over}
use Rattle.tpm_commands.proofs.group.read_group.Goals as goal

pub returns-in-Some-texts : goal.returns-in-Some-texts
returns-in-Some-texts c =
    let front = take c.loop-count.count c.loop-count.room in
    let full : 8 ≤ length front = omega (arith, length-take c.loop-count.count c.loop-count.room) in
    group_over front c.loop-count.texts c.in-Some-texts.field-0 (group_of c.args.word.now) c.in-Some-texts.is full c.loop-count.invariant.read
