-- What a command takes as the log of userspace.
use Rattle.std.specs.Prelude.{ℕ, Bool, List, codes, is_some, unwrap_or, Option, Result, Ok, Err, if◌then◌else◌}
use Rattle.pl_base.specs.FileMap.{FileMap}
use Rattle.userspace_log.specs.declared.error.SeqError.{SeqError}
use Rattle.userspace_log.specs.declared.error.SeqError.TheVariants as log
use Rattle.userspace_log.specs.Found.{Found, none_found}
use Rattle.userspace_log.specs.UserText.{log_of}
use Rattle.pcrlock_answer.specs.declared.answer.Answer.{Answer}
use Rattle.pcrlock_answer.specs.declared.answer.Answer.TheVariants as said
use Rattle.pcrlock_answer.specs.declared.place.Place.TheVariants as place
use Rattle.pcrlock_line.specs.Content.{Content, Missing, TooLarge, Bytes, content_of}

-- where systemd writes the log, which is read where no option names another
abbrev pub user_path : List ℕ
user_path = codes "/run/log/systemd/tpm2-measure.log"

-- the most bytes that it may have
abbrev pub user_limit : ℕ
user_limit = 1048576

-- what was read, or why there is nothing: a place in bytes, or the number of a record. No reading
-- ends for want of memory
abbrev pub user_read : List ℕ → Result Found SeqError → Result Found Answer
user_read path (Ok f) = Ok f
user_read path (Err (log.BadSeparator at)) = Err (said.Malformed path (place.At at))
user_read path (Err (log.BadRecord number kind)) = Err (said.Malformed path (place.At number))
user_read path (Err log.TooMany) = Err (said.Limit (codes "userspace-records") 4097)
user_read path (Err log.Memory) = Err said.Memory

-- by what stands at the path: a log that was named has to be there
abbrev pub user_in : Bool → List ℕ → Content → Result Found Answer
user_in named path Missing = if named then Err (said.NoSuchFile path) else Ok none_found
user_in named path (TooLarge size) = Err (said.Limit (codes "userspace-bytes") size)
user_in named path (Bytes bytes) = user_read path (log_of bytes)

-- the log at the path that is named, else that at the usual path, where one is there
abbrev pub user_of : FileMap → Option (List ℕ) → Result Found Answer
user_of files named = user_in (is_some named) (unwrap_or named user_path) (content_of files (unwrap_or named user_path) user_limit)
