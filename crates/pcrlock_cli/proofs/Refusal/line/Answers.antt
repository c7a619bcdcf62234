use Rattle.std.proofs.Common.{◌≡◌, ap, sym}
use Rattle.pcrlock_answer.specs.Texts as texts
use Rattle.pcrlock_cli.specs.Process.{refusal_line}
use Rattle.pcrlock_cli.proofs.Refusal.line.Goals as goal

pub returns-in-BadWords : goal.returns-in-BadWords
unfolding texts.answer_text texts.answer_words
returns-in-BadWords c = ap refusal_line (sym c.in-BadWords.is)

pub returns-in-Memory : goal.returns-in-Memory
unfolding texts.answer_text texts.answer_words
returns-in-Memory c = ap refusal_line (sym c.in-Memory.is)

pub returns-in-Unstored : goal.returns-in-Unstored
unfolding texts.answer_text texts.answer_words
returns-in-Unstored c = ap refusal_line (sym c.in-Unstored.is)
