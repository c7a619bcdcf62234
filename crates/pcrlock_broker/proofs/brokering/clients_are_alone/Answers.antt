use Rattle.std.proofs.Common.{ℕ, ◌<◌}
use Rattle.tpm_model.specs.declared.command.Command.{Command}
use Rattle.std.proofs.lemmas.List.Elements.{recursion_from_All}
use Rattle.tpm_broker.proofs.AsAlone.{clients_alone}
use Rattle.pcrlock_broker.proofs.Numbers.{asked_below}
use Rattle.pcrlock_broker.proofs.brokering.clients_are_alone.Goals as goal

pub returns : goal.returns
returns c = λ clients k list files path s rules low read room numbers.
    clients_alone k clients list s rules low (recursion_from_All (λ (one : ℕ × Command). one.0 < clients) list (asked_below files path clients list read)) room numbers
