use Rattle.tpm_model.specs.Held.{parts_of}
use Rattle.tpm_model.proofs.KeepsIndices.{counted_before}
use Rattle.tpm_model.proofs.index_commands.index_written.Goals as goal

pub write-requires-clause-later : goal.write-requires-clause-later
write-requires-clause-later c = counted_before (parts_of c.args.held.now) c.requires
