use Rattle.std.proofs.Common.{List, Result, ap, subst}
use Rattle.tpm_commands.specs.declared.error.CommandsError.{CommandsError}
use Rattle.tpm_commands.specs.declared.event.EventLine.{EventLine}
use Rattle.tpm_commands.specs.Answers.{Gives}
use Rattle.tpm_commands.specs.Events.{events_in}
use Rattle.tpm_commands.specs.File.{items_of, lines_of}
use Rattle.tpm_commands.proofs.Updates.{events_by}
use Rattle.tpm_commands.proofs.events.read_events.Goals as goal

pub returns : goal.returns
unfolding events_in
returns c =
    subst (λ (given : Result (List EventLine) CommandsError). Gives (λ events. events) c.read_lines.result given)
    (ap items_of (events_by c.args.clients 256 (lines_of c.args.bytes.now))) c.read_lines.ensures
