use Rattle.std.proofs.Common.{length}
use Rattle.tpm_model.proofs.index_rules.+are_apart.Given as goal

-- the indices that are left
abbrev pub decreases-are_apart : goal.decreases-are_apart
decreases-are_apart l = length l.indices.now
