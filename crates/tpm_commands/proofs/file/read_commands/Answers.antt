use Rattle.std.proofs.Common.{◌≡◌, List, Result, ap, subst}
use Rattle.std.specs.Prelude.{map}
use Rattle.tpm_model.specs.declared.command.Command.{Command}
use Rattle.tpm_commands.specs.declared.error.CommandsError.{CommandsError}
use Rattle.tpm_commands.specs.declared.file.CommandLines.{CommandLines}
use Rattle.tpm_commands.specs.Answers.{Gives}
use Rattle.tpm_commands.specs.CommandLine.{command_of}
use Rattle.tpm_commands.specs.File.{commands_of, items_of, lines_of}
use Rattle.tpm_commands.proofs.Walks.{lines_same}
use Rattle.tpm_commands.proofs.file.read_commands.Goals as goal

pub returns : goal.returns
unfolding commands_of
returns c =
    let grammar : CommandLines = record {} in
    subst (λ (given : Result (List Command) CommandsError). Gives (λ commands. commands) c.read_lines.result given)
    (ap items_of (lines_same (λ (g : CommandLines) line. command_of line) grammar (lines_of c.args.bytes.now))) c.read_lines.ensures
