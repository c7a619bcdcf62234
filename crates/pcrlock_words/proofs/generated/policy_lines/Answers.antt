-- the text that `format!` gives, regrouped as the definition groups it
use Rattle.std.proofs.Common.{append_assoc}
use Rattle.pcrlock_words.specs.GenText.{made_text}
use Rattle.pcrlock_words.proofs.generated.policy_lines.Goals as goal

pub returns : goal.returns
unfolding made_text
returns c = rw c.in_ok-format.ensures.ok (simp append_assoc)
