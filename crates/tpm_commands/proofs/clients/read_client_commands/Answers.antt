use Rattle.std.proofs.Common.{◌≡◌, ℕ, List, Result, ap, subst}
use Rattle.tpm_model.specs.declared.command.Command.{Command}
use Rattle.tpm_commands.specs.declared.clients.ClientLines.{ClientLines}
use Rattle.tpm_commands.specs.declared.error.CommandsError.{CommandsError}
use Rattle.tpm_commands.specs.Answers.{Gives}
use Rattle.tpm_commands.specs.Clients.{client_command_of, client_commands_in}
use Rattle.tpm_commands.specs.File.{items_of, lines_of}
use Rattle.tpm_commands.proofs.Walks.{lines_same}
use Rattle.tpm_commands.proofs.clients.read_client_commands.Goals as goal

pub returns : goal.returns
unfolding client_commands_in
returns c =
    let grammar : ClientLines = record { clients = c.args.clients } in
    subst (λ (given : Result (List (ℕ × Command)) CommandsError). Gives (λ commands. commands) c.read_lines.result given)
    (ap items_of (lines_same (λ (g : ClientLines) line. client_command_of g.clients line) grammar (lines_of c.args.bytes.now))) c.read_lines.ensures
