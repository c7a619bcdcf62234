use Rattle.std.proofs.Common.{ℕ, ◌<◌}
use Rattle.std.proofs.lemmas.List.Elements.{recursion_from_All}
use Rattle.tpm_model.specs.declared.command.Command.{Command}
use Rattle.tpm_broker.proofs.AsAlone.{clients_alone}
use Rattle.tpm_broker.proofs.serving.each_is_answered_alone.Goals as goal

pub returns : goal.returns
returns c = λ n k asked s rules low all room limit. clients_alone k n asked s rules low (recursion_from_All (λ (one : ℕ × Command). one.0 < n) asked all) room limit
