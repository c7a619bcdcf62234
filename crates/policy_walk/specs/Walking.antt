-- A client's next command, and what the TPM's answer leads to (TPM 2.0 Library Part 3, the commands named).
use Rattle.std.specs.Prelude.{ℕ, ◌+◌, ◌==◌, nat_lt, List, [], ◌∷◌, length, position, Option, None, Some, Result, Ok, Err, if◌then◌else◌}
use Rattle.std.specs.Str.{bytes_eq}
use Rattle.hash_bank.specs.declared.bank.Bank.TheVariants.{Sha256}
use Rattle.or_tree.specs.Plan.{Plan, leaves_at, pcrs_at}
use Rattle.policy_digest.specs.Levels.{path_of}
use Rattle.tpm_model.specs.declared.command.Command.{Command}
use Rattle.tpm_model.specs.declared.command.Command.TheVariants as command
use Rattle.tpm_model.specs.declared.response.Response.{Response}
use Rattle.tpm_model.specs.declared.response.Response.TheVariants as answer
use Rattle.tpm_model.specs.declared.response.Refusal.{Refusal}
use Rattle.tpm_model.specs.declared.response.Refusal.TheVariants as refusal
use Rattle.policy_walk.specs.declared.stopped.Stopped.{Stopped}
use Rattle.policy_walk.specs.declared.walk.Walk.{Walk}
use Rattle.policy_walk.specs.declared.walk.Walk.TheVariants as walk
use Rattle.policy_walk.specs.declared.why.StartRefusal.{StartRefusal}
use Rattle.policy_walk.specs.declared.why.StartRefusal.TheVariants as start
use Rattle.policy_walk.specs.declared.why.Why.{Why}
use Rattle.policy_walk.specs.declared.why.Why.TheVariants as why
use Rattle.policy_walk.specs.Places.{Step, at_pcr, at_digest, at_or, Ready, Place, Past}

-- a walk that stops, with its reason
abbrev pub stopped_for : ℕ → Why → Stopped
stopped_for session reason = record { session = session; why = Some reason }

abbrev pub stops : {A : Type 0} → ℕ → Why → Result A Stopped
stops session reason = Err (stopped_for session reason)

-- ---- the start

abbrev pub started_by : Ready → Response → Result Place StartRefusal
started_by r (answer.Session session) = Ok (record { plan = r.plan; index = r.index; session = session; row = 0; step = at_pcr })
started_by r (answer.Refused refusal.HandlesEnd) = Err start.HandlesEnd
started_by r other = Err start.SessionsFull

-- ---- the rows: the next command

abbrev pub or_command : ℕ → List (List (List ℕ)) → Command
or_command session [] = command.PolicyGetDigest session
or_command session (list ∷ lists) = command.PolicyOr session list

abbrev pub step_command : Plan → ℕ → ℕ → Step → Command
step_command plan session row at_pcr = command.PolicyPcr session plan.bank (pcrs_at plan row)
step_command plan session row at_digest = command.PolicyGetDigest session
step_command plan session row (at_or lists) = or_command session lists

abbrev pub walk_command : Place → Command
walk_command p = step_command p.plan p.session p.row p.step

-- ---- the rows: what an answer leads to

-- a refusal of PolicyPCR, PolicyGetDigest or PolicyOR: a full trail, or a digest that none of the list is, comes
-- only where another used the session
abbrev pub why_walked : ℕ → Refusal → Why
why_walked session (refusal.PcrChanged noted now) = why.PcrChanged noted now
why_walked session (refusal.BankAbsent bank) = why.BankAbsent bank
why_walked session refusal.Value = why.Interfered
why_walked session refusal.TrailFull = why.Interfered
why_walked session other = why.SessionGone session

-- behind the last command of a row: the next row, or past all
abbrev pub behind_row : Plan → ℕ → ℕ → ℕ → Walk
behind_row plan index session row =
    if nat_lt (row + 1) (length plan.rows) then walk.Started (record { plan = plan; index = index; session = session; row = row + 1; step = at_pcr })
    else walk.Branched (record { plan = plan; index = index; session = session })

-- the lists that are left
abbrev pub with_lists : Plan → ℕ → ℕ → ℕ → List (List (List ℕ)) → Walk
with_lists plan index session row [] = behind_row plan index session row
with_lists plan index session row (list ∷ lists) =
    walk.Started (record { plan = plan; index = index; session = session; row = row; step = at_or (list ∷ lists) })

-- the first leaf that the session's digest is
abbrev pub with_leaf : Plan → ℕ → ℕ → ℕ → Option ℕ → Result Walk Stopped
with_leaf plan index session row None = stops session (why.NotForeseen (pcrs_at plan row))
with_leaf plan index session row (Some leaf) = Ok (with_lists plan index session row (path_of (leaves_at plan row) leaf))

abbrev pub behind_pcr : Plan → ℕ → ℕ → ℕ → Response → Result Walk Stopped
behind_pcr plan index session row (answer.Refused r) = stops session (why_walked session r)
behind_pcr plan index session row other =
    Ok (walk.Started (record { plan = plan; index = index; session = session; row = row; step = at_digest }))

abbrev pub behind_digest : Plan → ℕ → ℕ → ℕ → Response → Result Walk Stopped
behind_digest plan index session row (answer.PolicyDigest digest) =
    with_leaf plan index session row (position (λ leaf. bytes_eq leaf digest) (leaves_at plan row))
behind_digest plan index session row (answer.Refused r) = stops session (why_walked session r)
behind_digest plan index session row other = stops session (why.SessionGone session)

-- behind the first of the lists
abbrev pub behind_list : List (List (List ℕ)) → List (List (List ℕ))
behind_list [] = []
behind_list (list ∷ lists) = lists

abbrev pub behind_or : Plan → ℕ → ℕ → ℕ → List (List (List ℕ)) → Response → Result Walk Stopped
behind_or plan index session row lists (answer.Refused r) = stops session (why_walked session r)
behind_or plan index session row lists other = Ok (with_lists plan index session row (behind_list lists))

abbrev pub behind_step : Plan → ℕ → ℕ → ℕ → Step → Response → Result Walk Stopped
behind_step plan index session row at_pcr response = behind_pcr plan index session row response
behind_step plan index session row at_digest response = behind_digest plan index session row response
behind_step plan index session row (at_or lists) response = behind_or plan index session row lists response

abbrev pub walked_by : Place → Response → Result Walk Stopped
walked_by p response = behind_step p.plan p.index p.session p.row p.step response

-- ---- behind the rows

-- a refusal of PolicyAuthorizeNV: the session's digest isn't what the index holds, the index isn't there or was
-- never written
abbrev pub why_authorised : ℕ → Refusal → Why
why_authorised session refusal.Value = why.NotNewest
why_authorised session refusal.NotDefined = why.NoIndex
why_authorised session refusal.Uninitialized = why.Unwritten
why_authorised session refusal.TrailFull = why.Interfered
why_authorised session other = why.SessionGone session

abbrev pub authorised_by : Past → Response → Result Past Stopped
authorised_by p (answer.Refused r) = stops p.session (why_authorised p.session r)
authorised_by p other = Ok p

-- a refusal of Unseal
abbrev pub why_kept : ℕ → ℕ → Refusal → Why
why_kept session object (refusal.PcrChanged noted now) = why.PcrChanged noted now
why_kept session object (refusal.PolicyFail digest policy) = why.WrongBinding digest policy
why_kept session object (refusal.Handle handle) = if handle == session then why.SessionGone session else why.NoObject object
why_kept session object other = why.SessionGone session

-- the secret, or why it was kept
abbrev pub secret_in : Response → Option (List ℕ)
secret_in (answer.Secret secret) = Some secret
secret_in other = None

abbrev pub why_in : ℕ → ℕ → Response → Option Why
why_in session object (answer.Secret secret) = None
why_in session object (answer.Refused r) = Some (why_kept session object r)
why_in session object other = Some (why.SessionGone session)
