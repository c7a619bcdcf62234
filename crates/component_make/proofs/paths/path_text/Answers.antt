-- the text that `format!` gives, regrouped as the definition groups it
use Rattle.std.proofs.Common.{append_assoc}
use Rattle.component_make.specs.FirmwareFiles.{variant_path}
use Rattle.component_make.proofs.paths.path_text.Goals as goal

pub returns : goal.returns
unfolding variant_path
returns c = rw c.in_ok-format.ensures.ok (simp append_assoc)
