use Rattle.policy_file.proofs.Policies.{is_read_back}
use Rattle.policy_file.proofs.Sizes.{is_within}
use Rattle.policy_file.proofs.policy_writing.write_policy.Goals as goal

pub returns-clause-reads_back : goal.returns-clause-reads_back
returns-clause-reads_back c = is_read_back c.args.policy.now c.text_of.result c.requires c.text_of.ensures

pub returns-clause-within : goal.returns-clause-within
returns-clause-within c = is_within c.args.policy.now c.text_of.result c.requires c.text_of.ensures
