use Rattle.std.specs.Prelude.{Contains}
use Rattle.tpm_walks.proofs.Onward.{row_leads}
use Rattle.tpm_walks.proofs.TableWalks.{row_ends}
use Rattle.tpm_walks.proofs.laws.rows_are_walked.Goals as goal

pub returns-clause-row : goal.returns-clause-row
returns-clause-row c = λ hashed bank before row trail safe held has size known e. row_ends (Contains hashed) safe bank before row trail held has size known e

pub returns-clause-onward : goal.returns-clause-onward
returns-clause-onward c = λ bank row earlier place inside has. row_leads bank row earlier place inside has
