-- What a userspace log holds, as plain data.
use Rattle.std.specs.Prelude.{ℕ, ◌+◌, List, [], ◌∷◌, ◌++◌, map, Option, Some, None, Result, Ok}
use Rattle.cel_record.specs.Spelled.{Spelled, spelled}
use Rattle.cel_record.specs.Step.{◌>>=◌}
use Rattle.userspace_log.specs.declared.error.SeqError.{SeqError}
use Rattle.userspace_log.specs.declared.log.UserLog.{UserLog}

-- the records of some texts, and how many texts were skipped
pub record Found : Type 0 where
  pub records : List Spelled
  pub skipped : ℕ

abbrev pub none_found : Found
none_found = record { records = []; skipped = 0 }

-- with what one text said before: a record, or nothing
abbrev pub with_first : Option Spelled → Found → Found
with_first None f = record f { skipped = f.skipped + 1 }
with_first (Some r) f = record f { records = r ∷ f.records }

-- with what one text said behind: a record, or nothing
abbrev pub with_last : Found → Option Spelled → Found
with_last f None = record f { skipped = f.skipped + 1 }
with_last f (Some r) = record f { records = f.records ++ r ∷ [] }

abbrev pub with_piece : Found → Result (Option Spelled) SeqError → Result Found SeqError
with_piece f said = said >>= λ o. Ok (with_last f o)

-- one after another
abbrev pub followed_by : Found → Found → Found
followed_by f g = record { records = f.records ++ g.records; skipped = f.skipped + g.skipped }

-- a log, without where it lies in memory
abbrev pub found : UserLog → Found
found l = record { records = map spelled l.records; skipped = l.skipped }

-- these records, and no text skipped
abbrev pub found_all : List Spelled → Found
found_all rs = record { records = rs; skipped = 0 }
