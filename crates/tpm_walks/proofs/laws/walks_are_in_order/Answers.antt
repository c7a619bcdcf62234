use Rattle.tpm_walks.proofs.Inside.{walk_looks, walk_reads_not}
use Rattle.tpm_walks.proofs.laws.walks_are_in_order.Goals as goal

pub returns-clause-turned : goal.returns-clause-turned
returns-clause-turned c = λ bank first second seen values differ walks. differ (let e = walks.3 in cc)

pub returns-clause-empty : goal.returns-clause-empty
returns-clause-empty c = λ bank row rows walks. let e = walks.3 in absurd cc

pub returns-clause-reads_not : goal.returns-clause-reads_not
returns-clause-reads_not c = λ table trail walks. walk_reads_not table trail walks

pub returns-clause-looks : goal.returns-clause-looks
returns-clause-looks c = λ table trail walks. walk_looks table trail walks
