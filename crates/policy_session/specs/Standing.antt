-- Where a session stands while a client walks over the rows of a table, and where the walk then ends.
use Rattle.std.specs.Prelude.{◌≡◌, ℕ, ◌+◌, ◌-◌, ◌*◌, ◌^◌, ◌<◌, ◌≤◌, if◌then◌else◌, true, List, [], ◌∷◌, length, drop, Option, None, Some, Result, Ok, Err}
use Rattle.std.specs.List.{All, AllByRecursion}
use Rattle.hash_bank.specs.declared.bank.Bank.TheVariants.{Sha256}
use Rattle.hash_bank.specs.Banks.{has_bank}
use Rattle.nv_index.specs.IndexName.{index_name_of}
use Rattle.nv_index.specs.declared.index.NvPublic.{NvPublic}
use Rattle.or_tree.specs.Leading.{Leads}
use Rattle.or_tree.specs.Plan.{Plan, RowPlan, leaves_at, pcrs_at}
use Rattle.policy_digest.specs.Policies.{policy_authorize_nv_of}
use Rattle.policy_walk.specs.declared.stopped.Stopped.{Stopped}
use Rattle.policy_walk.specs.declared.walk.Walk.{Walk}
use Rattle.policy_walk.specs.declared.walk.Walk.TheVariants as walk
use Rattle.policy_walk.specs.declared.why.Why.{Why}
use Rattle.policy_walk.specs.declared.why.Why.TheVariants as why
use Rattle.policy_walk.specs.Ends.{End, past_rows, at_row, after_lists, client_end, end_from, leaf_at}
use Rattle.policy_walk.specs.Places.{Step, at_pcr, at_digest, at_or, Place, Past}
use Rattle.tpm_model.specs.declared.parts.Parts.{Parts}
use Rattle.tpm_model.specs.declared.sessions.Session.{Session}
use Rattle.tpm_model.specs.SessionCommands.{noted_before}
use Rattle.policy_session.specs.BoundUnseal.{joined_values}
use Rattle.policy_session.specs.OpenSession.{IsOpen, with_open}
use Rattle.policy_session.specs.declared.error.UnsealError.{UnsealError}

-- a row as a valid table has it
pub record FitsRow (row : RowPlan) : Type 0 where
  pub mask : row.pcrs < 2 ^ 24
  pub few : length row.leaves ≤ 512
  pub sizes : All (λ d. length d ≡ 32) row.leaves

-- and all rows
pub record FitsPlan (plan : Plan) : Type 0 where
  pub few : length plan.rows ≤ 24
  pub rows : AllByRecursion FitsRow plan.rows

-- lists of digests of SHA-256 that lead from a digest on
pub record AreBefore (digest : List ℕ) (lists : List (List (List ℕ))) : Type 0 where
  pub top : List ℕ
  pub leads : Leads digest lists top
  pub sizes : AllByRecursion (All (λ d. length d ≡ 32)) lists

-- the session has looked at the present PCRs of a present bank
pub record HasLooked (plan : Plan) (x : Session) (s : Parts) : Type 0 where
  pub present : has_bank s.banks plan.bank ≡ true
  pub noted : x.noted ≡ Some s.update_counter

-- before PolicyPCR, before PolicyGetDigest, and before PolicyORs; at most four entries a row
abbrev pub StandsBefore : Plan → ℕ → Step → Session → Parts → Type 0
StandsBefore plan row at_pcr x s = length x.trail ≤ 4 * row
StandsBefore plan row at_digest x s = HasLooked plan x s × (length x.trail ≤ 4 * row + 1)
StandsBefore plan row (at_or lists) x s =
    HasLooked plan x s × AreBefore x.digest lists × (1 ≤ length lists) × (length x.trail + length lists ≤ 4 * row + 4)

-- the session is of SHA-256, was started last, and saw no PCR that changed
pub record IsWalking (session : ℕ) (x : Session) (s : Parts) : Type 0 where
  pub opened : IsOpen session x s
  pub hash : x.hash ≡ Sha256
  pub unchanged : noted_before x.noted s.update_counter ≡ None

-- the session stands at the place
pub record StandsAt (p : Place) (x : Session) (s : Parts) : Type 0 where
  pub fits : FitsPlan p.plan
  pub inside : p.row < length p.plan.rows
  pub walking : IsWalking p.session x s
  pub before : StandsBefore p.plan p.row p.step x s

-- the session is past all rows
pub record StandsPast (p : Past) (x : Session) (s : Parts) : Type 0 where
  pub walking : IsWalking p.session x s
  pub looked : HasLooked p.plan x s
  pub short : length x.trail ≤ 96

-- what a walk comes to that ends so: the session's digest, or why it stops
abbrev pub come_to : End → Result (List ℕ) Why
come_to (past_rows digest) = Ok digest
come_to (at_row pcrs) = Err (why.NotForeseen pcrs)

-- from a row on
abbrev pub from_row : Plan → Parts → List ℕ → ℕ → Result (List ℕ) Why
from_row plan s digest row =
    if has_bank s.banks plan.bank then come_to (client_end plan.bank (joined_values plan.bank s) digest (drop row plan.rows))
    else Err (why.BankAbsent plan.bank)

-- behind a row, as a client goes on
abbrev pub behind_row : Plan → Parts → ℕ → List ℕ → End
behind_row plan s row digest = client_end plan.bank (joined_values plan.bank s) digest (drop (row + 1) plan.rows)

-- the row of this number
abbrev pub row_in : Plan → ℕ → RowPlan
row_in plan row = record { pcrs = pcrs_at plan row; leaves = leaves_at plan row }

-- what a walk comes to from a step on, where the session has this digest
abbrev pub comes_to : Plan → Parts → List ℕ → ℕ → Step → Result (List ℕ) Why
comes_to plan s digest row at_pcr = from_row plan s digest row
comes_to plan s digest row at_digest = come_to (end_from (row_in plan row) digest (leaf_at (row_in plan row) digest) (behind_row plan s row))
comes_to plan s digest row (at_or lists) = come_to (behind_row plan s row (after_lists digest lists))

-- what the walk of a session came to: a place further on, from which it comes to the same; past all rows; or its end
abbrev pub WalkedTo : Plan → ℕ → ℕ → Session → Parts → Result (List ℕ) Why → Result Walk Stopped → Type 0
WalkedTo plan index session x s comes (Ok (walk.Started p)) =
    (p.plan ≡ plan) × (p.index ≡ index) × (p.session ≡ session) × StandsAt p x s × (comes_to p.plan s x.digest p.row p.step ≡ comes)
WalkedTo plan index session x s comes (Ok (walk.Branched p)) =
    (p.plan ≡ plan) × (p.index ≡ index) × (p.session ≡ session) × StandsPast p x s × (comes ≡ Ok x.digest)
WalkedTo plan index session x s comes (Err stopped) =
    (stopped.session ≡ session) × IsOpen session x s × (reason : Why) × (comes ≡ Err reason) × (stopped.why ≡ Some reason)

-- what the whole walk over the rows came to, and left: past all rows, or its end
abbrev pub WalkedOut : Plan → ℕ → ℕ → Session → Parts → Result (List ℕ) Why → Result (Result Past Stopped) UnsealError → Type 0
WalkedOut plan index session x s comes (Ok (Ok p)) =
    (p.plan ≡ plan) × (p.index ≡ index) × (p.session ≡ session) × StandsPast p x s × (comes ≡ Ok x.digest)
WalkedOut plan index session x s comes (Ok (Err stopped)) =
    (stopped.session ≡ session) × IsOpen session x s × (reason : Why) × (comes ≡ Err reason) × (stopped.why ≡ Some reason)
WalkedOut plan index session x s comes (Err error) = ⊥

-- the same of a session that is open in the state after it
pub record IsOut (plan : Plan) (index session : ℕ) (s : Parts) (comes : Result (List ℕ) Why) (result : Result (Result Past Stopped) UnsealError) (after : Parts) : Type 0 where
  pub x : Session
  pub left : after ≡ with_open x s
  pub opened : IsOpen session x s
  pub out : WalkedOut plan index session x s comes result

-- the most commands that are left of a walk before it is past all rows
abbrev pub left_of : ℕ → Step → ℕ
left_of rows at_pcr = 6 * rows
left_of rows at_digest = 6 * rows - 1
left_of rows (at_or lists) = 6 * rows - 5 + length lists

abbrev pub commands_left : Place → ℕ
commands_left p = left_of (length p.plan.rows - p.row + 1) p.step

-- the index authorised the session
pub record IsAuthorised (p : Past) (public : NvPublic) (s : Parts) (result : Result (Result Past Stopped) UnsealError) (after : Parts) : Type 0 where
  pub is : result ≡ Ok (Ok p)
  pub x : Session
  pub left : after ≡ with_open x s
  pub opened : IsOpen p.session x s
  pub digest : x.digest ≡ policy_authorize_nv_of Sha256 (index_name_of public)
  pub noted : x.noted ≡ Some s.update_counter
