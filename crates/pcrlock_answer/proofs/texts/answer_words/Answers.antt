-- each text that `format!` gives, regrouped as the definition groups it
use Rattle.std.proofs.Common.{append_assoc}
use Rattle.pcrlock_answer.specs.Texts.{answer_words}
use Rattle.pcrlock_answer.proofs.texts.answer_words.Goals as goal

pub returns-in_ok-format-in-NotLiteral : goal.returns-in_ok-format-in-NotLiteral
unfolding answer_words
returns-in_ok-format-in-NotLiteral c =
    rw (c.in-NotLiteral.is, c.in_ok-format-in-NotLiteral.ensures.ok) (simp append_assoc)

pub returns-in_ok-format-in-Malformed : goal.returns-in_ok-format-in-Malformed
unfolding answer_words
returns-in_ok-format-in-Malformed c =
    rw (c.in-Malformed.is, c.in_ok-format-in-Malformed.ensures.ok, c.text-path.ensures) (simp append_assoc)

pub returns-in_ok-format-in-Limit : goal.returns-in_ok-format-in-Limit
unfolding answer_words
returns-in_ok-format-in-Limit c =
    rw (c.in-Limit.is, c.in_ok-format-in-Limit.ensures.ok, c.text-kind.ensures) (simp append_assoc)

pub returns-in_ok-format-in-WrongBinding : goal.returns-in_ok-format-in-WrongBinding
unfolding answer_words
returns-in_ok-format-in-WrongBinding c =
    rw (c.in-WrongBinding.is, c.in_ok-format-in-WrongBinding.ensures.ok) (simp append_assoc)

pub returns-in_ok-format-in-NoDigest : goal.returns-in_ok-format-in-NoDigest
unfolding answer_words
returns-in_ok-format-in-NoDigest c =
    rw (c.in-NoDigest.is, c.in_ok-format-in-NoDigest.ensures.ok, c.text-component.ensures, c.text-variant.ensures) (simp append_assoc)

pub returns-in_ok-format-in-IndexTaken : goal.returns-in_ok-format-in-IndexTaken
unfolding answer_words
returns-in_ok-format-in-IndexTaken c =
    rw (c.in-IndexTaken.is, c.in_ok-format-in-IndexTaken.ensures.ok, c.in_ok-handle-in-IndexTaken.ensures) (simp append_assoc)

pub returns-in_ok-format-in-Outdated : goal.returns-in_ok-format-in-Outdated
unfolding answer_words
returns-in_ok-format-in-Outdated c =
    rw (c.in-Outdated.is, c.in_ok-format-in-Outdated.ensures.ok) (simp append_assoc)

pub returns-in_ok-format-in-PinRefused : goal.returns-in_ok-format-in-PinRefused
unfolding answer_words
returns-in_ok-format-in-PinRefused c =
    rw (c.in-PinRefused.is, c.in_ok-format-in-PinRefused.ensures.ok) (simp append_assoc)
