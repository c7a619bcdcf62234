use Rattle.std.proofs.Common.{◌≡◌, take, length}
use Rattle.pl_text.specs.Parts.{parts_behind}
use Rattle.tpm_commands.specs.Values.{group_of}
use Rattle.tpm_commands.proofs.Groups.{group_from}
use Rattle.tpm_commands.proofs.group.read_group.Given as goal

abbrev pub invariant-loop-count : goal.invariant-loop-count
invariant-loop-count l = record {
  room : length l.room ≡ 8;
  read : group_from (take l.count l.room) (parts_behind 44 l.texts) ≡ group_of l.fn.word;
}
