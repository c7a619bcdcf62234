use Rattle.pcrlock_headline.proofs.Exact.{exact, only_live, outdated}
use Rattle.pcrlock_headline.proofs.laws.outdated_files_open_nothing.Goals as goal

pub returns-clause-outdated : goal.returns-clause-outdated
returns-clause-outdated c = λ path m w state token handle filed live k safe states found t missing. outdated path m w k safe filed states live found state token handle t missing

pub returns-clause-older : goal.returns-clause-older
returns-clause-older c = λ path m w state token handle index pin key live older k current safe e found open_now closed variant.
    closed (only_live w index pin live found ((exact path m w state token handle index pin key k current safe e).0 (variant.1 open_now)))
