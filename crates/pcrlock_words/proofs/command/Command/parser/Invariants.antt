use Rattle.std.proofs.Common.{◌≡◌, map, take}
use Rattle.std.specs.Prelude.{filter}
use Rattle.clap.specs.Words.{app_of}
use Rattle.pcrlock_words.specs.Commands.{stands}
use Rattle.pcrlock_words.specs.Parser.{entry_of, parser_for}
use Rattle.pcrlock_words.proofs.command.Command.parser.Given as goal

abbrev pub invariant-loop-entry : goal.invariant-loop-entry
invariant-loop-entry l = app_of l.parser ≡ parser_for (filter (stands l.within) (map entry_of (take l.entry-index l.entry-items)))
