use Rattle.std.specs.Prelude.{Contains}
use Rattle.policy_digest.specs.Plain.{plain_table}
use Rattle.policy_roots.proofs.Valid.{valid_has_rows}
use Rattle.tpm_walks.proofs.Onward.{table_leads}
use Rattle.tpm_walks.proofs.TableWalks.{table_walked}
use Rattle.tpm_walks.proofs.Tied.{valid_rows}
use Rattle.tpm_walks.proofs.laws.tables_are_walked.Goals as goal

pub returns-clause-valid : goal.returns-clause-valid
returns-clause-valid c = λ hashed table trail safe held valid known e. table_walked (Contains hashed) safe (plain_table table) trail held (valid_has_rows table valid) known e

pub returns-clause-plain_valid : goal.returns-clause-plain_valid
returns-clause-plain_valid c = λ hashed table trail safe held valid known e. table_walked (Contains hashed) safe table trail held (valid_rows table valid) known e

pub returns-clause-plain : goal.returns-clause-plain
returns-clause-plain c = λ hashed table trail safe held has known e. table_walked (Contains hashed) safe table trail held has known e

pub returns-clause-onward : goal.returns-clause-onward
returns-clause-onward c = λ table trail has walks. table_leads table trail has walks
