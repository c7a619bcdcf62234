-- What is found behind what was found before.
use Rattle.std.proofs.Common.{Result, Ok}
use Rattle.cel_record.specs.Step.{◌>>=◌}
use Rattle.userspace_log.specs.declared.error.SeqError.{SeqError}
use Rattle.userspace_log.specs.Found.{Found, followed_by}

-- what is found behind a
abbrev pub behind : Found → Result Found SeqError → Result Found SeqError
behind a given = given >>= λ f. Ok (followed_by a f)
