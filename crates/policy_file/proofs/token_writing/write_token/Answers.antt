use Rattle.policy_file.proofs.Tokens.{is_read_back}
use Rattle.policy_file.proofs.token_writing.write_token.Goals as goal

pub returns-clause-read_back : goal.returns-clause-read_back
returns-clause-read_back c = is_read_back c.args.token.now c.put_token.result c.requires c.put_token.ensures
