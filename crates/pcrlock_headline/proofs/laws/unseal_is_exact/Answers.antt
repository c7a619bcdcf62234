use Rattle.pcrlock_headline.proofs.Exact.{by_values, exact, prints_key}
use Rattle.pcrlock_headline.proofs.laws.unseal_is_exact.Goals as goal

pub returns-clause-policy : goal.returns-clause-policy
returns-clause-policy c = λ path m w state token handle index pin key k current safe e. exact path m w state token handle index pin key k current safe e

pub returns-clause-values : goal.returns-clause-values
returns-clause-values c = λ path m w state token handle index pin key k current safe e. by_values path m w state token handle index pin key k current safe e

pub returns-clause-key : goal.returns-clause-key
returns-clause-key c = λ path m w state token handle index pin key text k current safe e printed. prints_key path m w state token handle index pin key k current safe e text printed
