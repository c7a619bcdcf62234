use Rattle.component_tree.proofs.Endings.{strips_text}
use Rattle.component_tree.proofs.name.stem.Goals as goal

pub returns : goal.returns
returns c = strips_text c.args.ending.now c.args.name.now c.strip_suffix.result c.strip_suffix.ensures.cases
