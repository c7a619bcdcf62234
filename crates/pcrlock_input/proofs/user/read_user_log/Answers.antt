use Rattle.std.proofs.Common.{option_copied}
use Rattle.userspace_log.specs.Found.{found as plain}
use Rattle.pcrlock_line.specs.Content.{content_found}
use Rattle.pcrlock_input.specs.User.{user_in, user_limit, user_path}
use Rattle.pcrlock_input.proofs.Named.{named_told}
use Rattle.pcrlock_input.proofs.user.read_user_log.Goals as goal

pub returns-clause-told : goal.returns-clause-told
returns-clause-told g c = λ held is.
    named_told plain c.log_found.result user_in held (option_copied c.args.named) user_path user_limit c.is_named.result c.path_or-path.result.now (content_found c.in_ok-found.found)
    c.is_named.ensures c.path_or-path.ensures (c.in_ok-found.ensures.told held is) c.log_found.ensures.told
