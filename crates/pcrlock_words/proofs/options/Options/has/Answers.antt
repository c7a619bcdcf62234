use Rattle.std.proofs.Common.{◌∙◌, ap}
use Rattle.pcrlock_words.specs.Options.{is_given}
use Rattle.pcrlock_words.specs.Parser.{is_of_words}
use Rattle.pcrlock_words.proofs.ParserSet.{given_in}
use Rattle.pcrlock_words.proofs.options.Options.has.Goals as goal

pub returns : goal.returns
returns c =
    c.is_of_words.ensures
    ∙ ap is_of_words c.value_source.ensures
    ∙ given_in c.self.inside.matches c.args.name.now c.self.invariant
    ∙ ap (is_given c.args.name.now) c.self.view_is
