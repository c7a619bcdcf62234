use Rattle.std.proofs.Common.{◌∙◌, ap, sym}
use Rattle.pcrlock_words.specs.Options.{is_given, value_of}
use Rattle.pcrlock_words.proofs.ParserSet.{no_value, value_in}
use Rattle.pcrlock_words.proofs.options.Options.value.Goals as goal

pub returns-then-has : goal.returns-then-has
returns-then-has c =
    c.get_str.ensures
    ∙ value_in c.self.inside.matches c.args.name.now c.self.invariant (ap (is_given c.args.name.now) c.self.view_is ∙ sym c.has.ensures ∙ c.if-has.true)
    ∙ ap (value_of c.args.name.now) c.self.view_is

pub returns-else-has : goal.returns-else-has
returns-else-has c = sym (no_value c.args.name.now c.args.self.now (sym c.has.ensures ∙ c.if-has.false))
