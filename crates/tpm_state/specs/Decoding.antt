-- What a state file is read as: the layout, and then the rules of a state in their order.
use Rattle.std.specs.Prelude.{ℕ, nat_le, ◌&&◌, if◌then◌else◌, List, Option, Some, None, Result, Ok, Err}
use Rattle.tpm_model.specs.declared.parts.Parts.{Parts}
use Rattle.tpm_model.specs.declared.rules.StateRule.{StateRule}
use Rattle.tpm_model.specs.declared.rules.StateRule.TheVariants as rule
use Rattle.tpm_model.specs.Rules.{broken_rule}
use Rattle.tpm_state.specs.declared.error.DecodeError.{DecodeError}
use Rattle.tpm_state.specs.declared.error.DecodeError.TheVariants.{BadRule}
use Rattle.pl_layout.specs.Reading.{◌>>=◌}
use Rattle.tpm_state.specs.Layout.{layout_at}

-- the parts, or the rule that they break
abbrev pub unless_broken : Option StateRule → Parts → Result Parts DecodeError
unless_broken None s = Ok s
unless_broken (Some broken) s = Err (BadRule broken)

-- the first rule, that of the banks, is that of their byte: a bit that stands for no bank is in none of
-- the parts
abbrev pub ruled : ℕ × Parts → Result Parts DecodeError
ruled (byte, s) = if nat_le 1 byte && nat_le byte 15 then unless_broken (broken_rule s) s else Err (BadRule rule.Banks)

unfoldable pub state_of : List ℕ → Result Parts DecodeError
state_of bytes = do
  layout ← layout_at bytes
  ruled layout
