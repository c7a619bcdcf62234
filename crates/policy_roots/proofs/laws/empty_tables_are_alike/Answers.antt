use Rattle.std.proofs.Common.{refl}
use Rattle.policy_digest.specs.PlainTable.{root_after}
use Rattle.policy_roots.proofs.laws.empty_tables_are_alike.Goals as goal

pub returns-clause-alike : goal.returns-clause-alike
unfolding root_after
returns-clause-alike c = refl
