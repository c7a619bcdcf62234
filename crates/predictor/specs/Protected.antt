-- Which of the asked PCRs a policy can protect, the table that protects them, and why each other one is left out.
use Rattle.std.specs.Prelude.{◌≡◌, ℕ, ◌^◌, Bool, true, false, List, [], ◌∷◌, map, slice_index_or, Option, Some, None, Result, Ok, Err, if◌then◌else◌}
use Rattle.std.specs.Str.{bytes_eq}
use Rattle.hash_bank.specs.declared.bank.Bank.{Bank}
use Rattle.component_tree.specs.PlainTree.{PlainComponent}
use Rattle.pcr_replay.specs.Row.{Row as LogRow}
use Rattle.pcr_replay.specs.Measured.{measured_in, replayed_in}
use Rattle.policy_digest.specs.Mask.{mask_of, pcrs_of}
use Rattle.policy_digest.specs.declared.table.Row.{Row}
use Rattle.record_match.specs.Recognition.{recognised}
use Rattle.record_match.specs.declared.error.MatchError.{MatchError}
use Rattle.record_match.specs.declared.error.MatchError.TheVariants as matching
use Rattle.predictor.specs.declared.error.ForeseeError.{ForeseeError}
use Rattle.predictor.specs.declared.error.ForeseeError.TheVariants as foreseeing
use Rattle.predictor.specs.declared.error.ProtectError.{ProtectError}
use Rattle.predictor.specs.declared.error.ProtectError.TheVariants as errors
use Rattle.predictor.specs.declared.protection.Cause.{Cause}
use Rattle.predictor.specs.declared.protection.Cause.TheVariants as causes
use Rattle.predictor.specs.declared.protection.LeftOut.{LeftOut}
use Rattle.predictor.specs.declared.protection.Protection.{Protection}
use Rattle.predictor.specs.declared.window.Window.{Window}
use Rattle.predictor.specs.Cuts.{inside_of}
use Rattle.predictor.specs.Foreseen.{foreseen, foreseen_joint}

infixl 10 ◌>>=◌
abbrev pub ◌>>=◌ : {A B : Type 0} → Result A ProtectError → (A → Result B ProtectError) → Result B ProtectError
(Ok x) >>= f = f x
(Err e) >>= f = Err e

-- ---- one PCR

-- no cause where a choice explains the PCR's digests; recognition never wants memory
abbrev pub by_recognition : Result (List ℕ) MatchError → Result (Option Cause) ProtectError
by_recognition (Ok choice) = Ok None
by_recognition (Err (matching.NoDigest i v n)) = Err (errors.NoDigest i v n)
by_recognition (Err (matching.MissingComponent i)) = Ok (Some (causes.MissingComponent i))
by_recognition (Err matching.Unrecognised) = Ok (Some causes.Unrecognised)
by_recognition (Err matching.Memory) = Err errors.Memory

abbrev pub by_measured : Bank → ℕ → List PlainComponent → Option (List (List ℕ)) → Result (Option Cause) ProtectError
by_measured bank pcr inside None = Ok (Some causes.NoLogDigest)
by_measured bank pcr inside (Some list) = by_recognition (recognised bank pcr inside list)

abbrev pub by_replayed : List ℕ → Option (List ℕ) → Result (Option Cause) ProtectError → Result (Option Cause) ProtectError
by_replayed now None matched = Ok (Some causes.NoLogDigest)
by_replayed now (Some value) matched = if bytes_eq value now then matched else Ok (Some (causes.ValueDiffers value now))

-- the first cause for which the PCR is left out, and none where it is protected: the log has its digests in the
-- bank, their replay is the value that the PCR holds now, and some choice of the components inside the window
-- explains them
unfoldable pub standing_of : Bank → ℕ → List LogRow → List PlainComponent → List ℕ → ℕ → Result (Option Cause) ProtectError
standing_of bank locality log inside now pcr = by_replayed now (replayed_in bank pcr locality log) (by_measured bank pcr inside (measured_in bank pcr log))

-- a refusal of what is foreseen, as one of what is protected
abbrev pub refusal_for : ℕ → ForeseeError → ProtectError
refusal_for pcr (foreseeing.NoDigest i v n) = errors.NoDigest i v n
refusal_for pcr (foreseeing.TooMany k) = errors.TooMany pcr k
refusal_for pcr foreseeing.Memory = errors.Memory

-- whether the PCR's replay is its value, by its cause
abbrev pub replayed_with : Option Cause → Bool
replayed_with None = true
replayed_with (Some causes.NoLogDigest) = false
replayed_with (Some (causes.ValueDiffers replayed now)) = false
replayed_with (Some (causes.MissingComponent i)) = true
replayed_with (Some causes.Unrecognised) = true

abbrev pub refused_for : {A : Type 0} → ℕ → Result A ForeseeError → Result A ProtectError
refused_for pcr (Ok x) = Ok x
refused_for pcr (Err e) = Err (refusal_for pcr e)

-- what is foreseen of a PCR whose replay is its value; nothing else is asked for
abbrev pub where_replayed : Option Cause → Result (List (List ℕ)) ProtectError → Result (List (List ℕ)) ProtectError
where_replayed cause values = if replayed_with cause then values else Ok []

abbrev pub left_out : ℕ → Cause → LeftOut
left_out pcr cause = record { pcr = pcr; cause = cause }

-- ---- a row for each protected PCR

-- the PCR's bit, and each value as a list of its own
abbrev pub row_of : ℕ → List (List ℕ) → Row
row_of pcr values = record { pcrs = 2 ^ pcr; choices = map (λ v. v ∷ []) values }

abbrev pub row_or_cause : ℕ → Option Cause → List (List ℕ) → List Row × List LeftOut → List Row × List LeftOut
row_or_cause pcr None values rest = (row_of pcr values ∷ rest.0, rest.1)
row_or_cause pcr (Some cause) values rest = (rest.0, left_out pcr cause ∷ rest.1)

-- the rows and the causes of these PCRs in order, or the first refusal
abbrev pub rows_of : (ℕ → Result (Option Cause) ProtectError) → (ℕ → Result (List (List ℕ)) ProtectError) → List ℕ → Result (List Row × List LeftOut) ProtectError
rows_of standing values [] = Ok ([], [])
rows_of standing values (p ∷ pcrs) =
    standing p >>= λ cause. where_replayed cause (values p) >>= λ list. rows_of standing values pcrs >>= λ rest. Ok (row_or_cause p cause list rest)

-- ---- one row for all protected PCRs

abbrev pub kept_or_cause : ℕ → Option Cause → List ℕ × List LeftOut → List ℕ × List LeftOut
kept_or_cause pcr None rest = (pcr ∷ rest.0, rest.1)
kept_or_cause pcr (Some cause) rest = (rest.0, left_out pcr cause ∷ rest.1)

-- those of these PCRs that are protected, and the causes of the others, or the first refusal
abbrev pub kept_of : (ℕ → Result (Option Cause) ProtectError) → List ℕ → Result (List ℕ × List LeftOut) ProtectError
kept_of standing [] = Ok ([], [])
kept_of standing (p ∷ pcrs) = standing p >>= λ cause. kept_of standing pcrs >>= λ rest. Ok (kept_or_cause p cause rest)

abbrev pub joint_row : List ℕ → List (List (List ℕ)) → Row
joint_row pcrs states = record { pcrs = mask_of pcrs; choices = states }

-- no row for no PCR; a refusal names the lowest PCR
abbrev pub joint_rows : (List ℕ → Result (List (List (List ℕ))) ForeseeError) → List ℕ → Result (List Row) ProtectError
joint_rows states [] = Ok []
joint_rows states (p ∷ pcrs) = refused_for p (states (p ∷ pcrs)) >>= λ list. Ok (joint_row (p ∷ pcrs) list ∷ [])

-- ---- the whole

abbrev pub protection : Bank → List Row → List LeftOut → Protection
protection bank rows left = record { table = record { bank = bank; rows = rows }; left = left }

-- the standing of a PCR, whose present value is that at its number
abbrev pub standing_in : List PlainComponent → Window → Bank → List LogRow → ℕ → List (List ℕ) → ℕ → Result (Option Cause) ProtectError
standing_in tree window bank log locality now pcr = standing_of bank locality log (inside_of window.end tree) (slice_index_or now pcr []) pcr

unfoldable pub protected_each : List PlainComponent → Window → List ℕ → Bank → List LogRow → ℕ → List (List ℕ) → Result Protection ProtectError
protected_each tree window asked bank log locality now =
    rows_of (standing_in tree window bank log locality now) (λ p. refused_for p (foreseen bank locality p window tree)) asked >>= λ found. Ok (protection bank found.0 found.1)

unfoldable pub protected_joint : List PlainComponent → Window → List ℕ → Bank → List LogRow → ℕ → List (List ℕ) → Result Protection ProtectError
protected_joint tree window asked bank log locality now =
    kept_of (standing_in tree window bank log locality now) asked >>= λ found.
    joint_rows (λ pcrs. foreseen_joint bank locality pcrs window tree) found.0 >>= λ rows. Ok (protection bank rows found.1)

-- all asked PCRs together, or each by itself
abbrev pub protected_of : Bool → List PlainComponent → Window → ℕ → Bank → List LogRow → ℕ → List (List ℕ) → Result Protection ProtectError
protected_of joint tree window asked bank log locality now =
    if joint then protected_joint tree window (pcrs_of asked) bank log locality now else protected_each tree window (pcrs_of asked) bank log locality now

-- the answer is that of the definition, unless memory ran out
abbrev pub Refuses : {A : Type 0} → ProtectError → Result A ProtectError → Type 0
Refuses (errors.NoDigest i v n) given = given ≡ Err (errors.NoDigest i v n)
Refuses (errors.TooMany p k) given = given ≡ Err (errors.TooMany p k)
Refuses errors.Memory given = Unit {0}

abbrev pub Answers : {A : Type 0} → Result A ProtectError → Result A ProtectError → Type 0
Answers (Ok x) given = given ≡ Ok x
Answers (Err e) given = Refuses e given
