use Rattle.std.proofs.Common.{◌≡◌, ℕ, List, ◌∷◌, Option, Some, is_some, sym, ap, ◌∙◌, subst}
use Rattle.std.specs.Prelude.{option_copied}
use Rattle.pcrlock_words.specs.declared.command.Command.{Command}
use Rattle.pcrlock_words.specs.Commands.{command_named}
use Rattle.pcrlock_words.specs.Readings.{Gives}
use Rattle.pcrlock_words.specs.Requests.{line_request, options_request}
use Rattle.pcrlock_words.proofs.Bytes.{is_some-copied}
use Rattle.pcrlock_words.proofs.read.read_line.Goals as goal

-- a command's name and the words behind it
line_reads : (policy : Option (List ℕ)) (name : List ℕ) (words : List (List ℕ)) (command : Command) → command_named (is_some policy) name ≡ Some command → line_request policy (name ∷ words) ≡ options_request policy command words
line_reads policy name words command named = rw named

pub returns : goal.returns
returns c =
    let policy = option_copied c.args.script_policy in
    let name = c.in-Some.name.now in
    let words = c.in-Some.words.now in
    let command = c.in-Some-from_name.command in
    let within = c.is_some.ensures ∙ sym (is_some-copied c.args.script_policy) in
    let named : command_named (is_some policy) name ≡ Some command =
    sym
    (c.in-Some-from_name.ensures ∙ ap (λ w. command_named w c.text.result.now) within ∙ ap (command_named (is_some policy)) c.text.ensures) in
    subst (Gives c.read_options.result) (sym (ap (line_request policy) c.in-Some.ensures.cases.0 ∙ line_reads policy name words command named)) c.read_options.ensures
