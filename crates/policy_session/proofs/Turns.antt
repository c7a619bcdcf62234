-- One turn of the walk over the rows.
use Rattle.std.proofs.Common.{◌≡◌, ℕ, ◌+◌, ◌-◌, ◌*◌, ◌<◌, ◌≤◌, Bool, true, false, cond, List, [], ◌∷◌, length, position, refl, sym, ap, ◌∙◌, subst, arith}
use Rattle.std.specs.Prelude.{Option, None, Some, Result, Ok, Err, nat_lt}
use Rattle.std.specs.Str.{bytes_eq}
use Rattle.std.proofs.lemmas.Bool.{ltb-true}
use Rattle.tpm_device.specs.Stored.{Stored, Holds}
use Rattle.or_tree.specs.Plan.{Plan, leaves_at}
use Rattle.or_tree.proofs.Leading.{few_lists}
use Rattle.policy_digest.specs.Levels.{path_of}
use Rattle.policy_walk.specs.declared.stopped.Stopped.{Stopped}
use Rattle.policy_walk.specs.declared.walk.Walk.{Walk}
use Rattle.policy_walk.specs.declared.walk.Walk.TheVariants as walk
use Rattle.policy_walk.specs.declared.why.Why.{Why}
use Rattle.policy_walk.specs.Places.{Step, at_pcr, at_digest, at_or, Past, Place}
use Rattle.policy_walk.specs.Walking.{behind_digest, behind_list, behind_or, behind_pcr, behind_row, behind_step, walk_command, walked_by, with_leaf, with_lists}
use Rattle.tpm_model.specs.declared.response.Response.{Response}
use Rattle.tpm_model.specs.declared.response.Response.TheVariants as answer
use Rattle.tpm_model.specs.declared.parts.Parts.{Parts}
use Rattle.tpm_model.specs.declared.sessions.Session.{Session}
use Rattle.tpm_model.specs.Respond.{respond}
use Rattle.policy_session.specs.declared.error.UnsealError.{UnsealError}
use Rattle.policy_session.specs.Answers.{is_answer}
use Rattle.policy_session.specs.Kept.{IsKept}
use Rattle.policy_session.specs.OpenSession.{IsOpen, with_open}
use Rattle.policy_session.specs.Ran.{Ran}
use Rattle.tpm_device.specs.Running.{IsLive}
use Rattle.policy_session.specs.Standing.{IsOut, StandsAt, WalkedTo, commands_left, comes_to, left_of}
use Rattle.policy_session.proofs.GoesOn.{GoesOn, goes}
use Rattle.policy_session.proofs.Runs.{ran_err, ran_ok}

-- the walk stands at a place from which it comes to what it came to from the first one
pub record IsOnward (first : Place) (x : Session) (s : Parts) (keeps : Bool) (p : Place) (live : Option Parts) (stored : Option Stored) : Type 0 where
  pub y : Session
  pub is : IsLive keeps (with_open y s) live stored
  pub at : StandsAt p y s
  pub plan : p.plan ≡ first.plan
  pub index : p.index ≡ first.index
  pub session : p.session ≡ first.session
  pub comes : comes_to p.plan s y.digest p.row p.step ≡ comes_to first.plan s x.digest first.row first.step

-- where the turn took the walk
pub record IsTurn (first : Place) (x : Session) (s : Parts) (result : Result Walk Stopped) (after : Parts) : Type 0 where
  pub y : Session
  pub left : after ≡ with_open y s
  pub opened : IsOpen first.session y s
  pub to : WalkedTo first.plan first.index first.session y s (comes_to first.plan s x.digest first.row first.step) result

pub going : (p : Place) (y : Session) (s : Parts) → StandsAt p y s
    → GoesOn p.plan p.index p.session s (comes_to p.plan s y.digest p.row p.step) (respond (walk_command p) (with_open y s)) (walked_by p (respond (walk_command p) (with_open y s)).0)
going p y s at = goes p.plan p.index p.session p.row s at.fits at.inside p.step y at.walking at.before

-- the state that the turn's command leaves
pub kept_on : (p : Place) (y : Session) (s : Parts) → StandsAt p y s → IsKept s (respond (walk_command p) (with_open y s)).1
kept_on p y s at = let g = going p y s at in subst (IsKept s) (sym g.left) g.opened.kept

moved : (plan plan' : Plan) (index index' session session' : ℕ) (y : Session) (s : Parts) (comes comes' : Result (List ℕ) Why) (result : Result Walk Stopped)
    → plan ≡ plan' → index ≡ index' → session ≡ session' → comes ≡ comes' → WalkedTo plan index session y s comes result → WalkedTo plan' index' session' y s comes' result
moved plan plan' index index' session session' y s comes comes' result a b c d h =
    subst (λ r. WalkedTo plan' index' session' y s r result) d
    (subst (λ n. WalkedTo plan' index' n y s comes result) c
    (subst (λ n. WalkedTo plan' n session y s comes result) b
    (subst (λ q. WalkedTo q index session y s comes result) a h)))

pub turned : (first : Place) (x : Session) (s : Parts) (keeps : Bool) (p : Place) (live : Option Parts) (stored : Option Stored) (o : IsOnward first x s keeps p live stored)
    → IsTurn first x s (walked_by p (respond (walk_command p) (with_open o.y s)).0) (respond (walk_command p) (with_open o.y s)).1
turned first x s keeps p live stored o =
    let g = going p o.y s o.at in
    record {
      y = g.x;
      left = g.left;
      opened = subst (λ n. IsOpen n g.x s) o.session g.opened;
      to = moved p.plan first.plan p.index first.index p.session first.session g.x s _ _ _ o.plan o.index o.session o.comes g.to;
    }

-- ---- the turns come to an end

on_row : (plan : Plan) (index session row : ℕ) (q : Place) → behind_row plan index session row ≡ walk.Started q
    → commands_left q < 6 * (length plan.rows - row + 1) - 5
on_row plan index session row q e = by_test (nat_lt (row + 1) (length plan.rows)) refl e
  where
    next : Place
    next = record { plan = plan; index = index; session = session; row = row + 1; step = at_pcr }

    past : Past
    past = record { plan = plan; index = index; session = session }

    by_test : (b : Bool) → nat_lt (row + 1) (length plan.rows) ≡ b → cond b (walk.Started next) (walk.Branched past) ≡ walk.Started q
        → commands_left q < 6 * (length plan.rows - row + 1) - 5
    by_test true t f =
        let inside : row + 1 < length plan.rows = ltb-true (row + 1) (length plan.rows) t in
        let is : next ≡ q = cc in
        subst (λ n. commands_left n < 6 * (length plan.rows - row + 1) - 5) is (omega (arith, inside))
    by_test false t f = cc

on_lists : (plan : Plan) (index session row : ℕ) (lists : List (List (List ℕ))) (q : Place) → with_lists plan index session row lists ≡ walk.Started q
    → commands_left q ≤ 6 * (length plan.rows - row + 1) - 5 + length lists
on_lists plan index session row [] q e = omega (arith, on_row plan index session row q e)
on_lists plan index session row (list ∷ lists) q e =
    let place : Place = record { plan = plan; index = index; session = session; row = row; step = at_or (list ∷ lists) } in
    let is : place ≡ q = cc in
    subst (λ n. commands_left n ≤ 6 * (length plan.rows - row + 1) - 5 + length (list ∷ lists)) is (omega arith)

abbrev pub ended_at : Place → Result Walk Stopped
ended_at q = Ok (walk.Started q)

-- behind PolicyPCR
on_digest : (plan : Plan) (index session row : ℕ) (q : Place) → Ok (walk.Started (record { plan = plan; index = index; session = session; row = row; step = at_digest })) ≡ ended_at q
    → commands_left q < 6 * (length plan.rows - row + 1)
on_digest plan index session row q e =
    let place : Place = record { plan = plan; index = index; session = session; row = row; step = at_digest } in
    let is : place ≡ q = cc in
    subst (λ n. commands_left n < 6 * (length plan.rows - row + 1)) is (omega arith)

-- behind PolicyGetDigest
on_leaf : (plan : Plan) (index session row : ℕ) (o : Option ℕ) (q : Place) → with_leaf plan index session row o ≡ ended_at q
    → commands_left q < 6 * (length plan.rows - row + 1) - 1
on_leaf plan index session row None q e = cc
on_leaf plan index session row (Some leaf) q e =
    let lists = path_of (leaves_at plan row) leaf in
    let is : with_lists plan index session row lists ≡ walk.Started q = cc in
    omega (arith, on_lists plan index session row lists q is, few_lists (leaves_at plan row) leaf)

-- behind PolicyOR
on_or : (plan : Plan) (index session row : ℕ) (lists : List (List (List ℕ))) (q : Place) → Ok (with_lists plan index session row (behind_list lists)) ≡ ended_at q
    → commands_left q < 6 * (length plan.rows - row + 1) - 5 + length lists
on_or plan index session row [] q e =
    let is : behind_row plan index session row ≡ walk.Started q = cc in
    omega (arith, on_row plan index session row q is)
on_or plan index session row (list ∷ lists) q e =
    let is : with_lists plan index session row lists ≡ walk.Started q = cc in
    omega (arith, on_lists plan index session row lists q is)

fewer_at : (plan : Plan) (index session row : ℕ) (step : Step) (response : Response) (q : Place) → behind_step plan index session row step response ≡ ended_at q
    → commands_left q < left_of (length plan.rows - row + 1) step
fewer_at plan index session row at_pcr answer.Done q e = on_digest plan index session row q e
fewer_at plan index session row at_pcr (answer.Pcr v) q e = on_digest plan index session row q e
fewer_at plan index session row at_pcr (answer.Session n) q e = on_digest plan index session row q e
fewer_at plan index session row at_pcr (answer.PolicyDigest v) q e = on_digest plan index session row q e
fewer_at plan index session row at_pcr (answer.Content v) q e = on_digest plan index session row q e
fewer_at plan index session row at_pcr (answer.Public v) q e = on_digest plan index session row q e
fewer_at plan index session row at_pcr (answer.Object n) q e = on_digest plan index session row q e
fewer_at plan index session row at_pcr (answer.Secret v) q e = on_digest plan index session row q e
fewer_at plan index session row at_pcr (answer.Refused v) q e = cc
fewer_at plan index session row (at_or lists) answer.Done q e = on_or plan index session row lists q e
fewer_at plan index session row (at_or lists) (answer.Pcr v) q e = on_or plan index session row lists q e
fewer_at plan index session row (at_or lists) (answer.Session n) q e = on_or plan index session row lists q e
fewer_at plan index session row (at_or lists) (answer.PolicyDigest v) q e = on_or plan index session row lists q e
fewer_at plan index session row (at_or lists) (answer.Content v) q e = on_or plan index session row lists q e
fewer_at plan index session row (at_or lists) (answer.Public v) q e = on_or plan index session row lists q e
fewer_at plan index session row (at_or lists) (answer.Object n) q e = on_or plan index session row lists q e
fewer_at plan index session row (at_or lists) (answer.Secret v) q e = on_or plan index session row lists q e
fewer_at plan index session row (at_or lists) (answer.Refused v) q e = cc
fewer_at plan index session row at_digest answer.Done q e = cc
fewer_at plan index session row at_digest (answer.Pcr v) q e = cc
fewer_at plan index session row at_digest (answer.Session n) q e = cc
fewer_at plan index session row at_digest (answer.Content v) q e = cc
fewer_at plan index session row at_digest (answer.Public v) q e = cc
fewer_at plan index session row at_digest (answer.Object n) q e = cc
fewer_at plan index session row at_digest (answer.Secret v) q e = cc
fewer_at plan index session row at_digest (answer.Refused v) q e = cc
fewer_at plan index session row at_digest (answer.PolicyDigest v) q e = on_leaf plan index session row (position (λ leaf. bytes_eq leaf v) (leaves_at plan row)) q e

-- each turn from a place to another leaves fewer commands
pub fewer : (p : Place) (response : Response) (q : Place) → walked_by p response ≡ ended_at q → commands_left q < commands_left p
fewer p response q e = fewer_at p.plan p.index p.session p.row p.step response q e

-- ---- the turn of a device

-- what a turn of the walk answers and leaves
abbrev pub WalksSo : Place → Parts → Result (Result Walk Stopped) UnsealError → Parts → Type 0
WalksSo p s result after = (result ≡ Ok (walked_by p (respond (walk_command p) s).0)) × (after ≡ (respond (walk_command p) s).1)

pub record TurnsTo (first : Place) (x : Session) (s : Parts) (result : Result (Result Walk Stopped) UnsealError) (after : Parts) : Type 0 where
  pub walk : Result Walk Stopped
  pub is : result ≡ Ok walk
  pub turn : IsTurn first x s walk after

pub turn : (first : Place) (x : Session) (s : Parts) (keeps : Bool) (p : Place) (live : Option Parts) (stored : Option Stored) (o : IsOnward first x s keeps p live stored)
    (result : Result (Result Walk Stopped) UnsealError) (ready : Bool) (now : Option Parts) (kept : Option Stored)
    → Ran s keeps (WalksSo p (with_open o.y s)) result ready now kept → Ran s keeps (TurnsTo first x s) result ready now kept
turn first x s keeps p live stored o result ready now kept h = record {
  answered = λ is.
      let a = h.answered is in
      record {
        after = a.after;
        is = a.is;
        readiness = a.readiness;
        good = record {
          walk = walked_by p (respond (walk_command p) (with_open o.y s)).0;
          is = a.good.0;
          turn = subst (λ n. IsTurn first x s (walked_by p (respond (walk_command p) (with_open o.y s)).0) n) (sym a.good.1) (turned first x s keeps p live stored o);
        };
      };
  stopped = h.stopped;
}

-- ---- the four ends of a turn
module _ (first : Place) (x : Session) (s : Parts) (keeps : Bool) (result : Result (Result Walk Stopped) UnsealError) (ready : Bool) (now : Option Parts) (kept : Option Stored)
    (ran : Ran s keeps (TurnsTo first x s) result ready now kept) where
  -- what the walk comes to from its first place
  abbrev pub comes : Result (List ℕ) Why
  comes = comes_to first.plan s x.digest first.row first.step

  led : (w : Result Walk Stopped) (after : Parts) (t : TurnsTo first x s (Ok w) after) → WalkedTo first.plan first.index first.session t.turn.y s comes w
  led w after t =
      let same : t.walk ≡ w = cc in
      subst (WalkedTo first.plan first.index first.session t.turn.y s comes) same t.turn.to

  -- another place
  pub onward : (q : Place) → result ≡ Ok (ended_at q) → IsOnward first x s keeps q now kept
  onward q e =
      let a = ran.answered (ap is_answer e) in
      let good = subst (λ r. TurnsTo first x s r a.after) e a.good in
      let to = led (ended_at q) a.after good in
      record {
        y = good.turn.y;
        is = record { now = a.is.now ∙ ap Some good.turn.left; same = λ k. a.is.same k ∙ ap (λ n. Some (Holds n)) good.turn.left };
        at = to.3;
        plan = to.0;
        index = to.1;
        session = to.2;
        comes = to.4;
      }

  -- past all rows
  pub past_all : (b : Past) → result ≡ Ok (Ok (walk.Branched b)) → Ran s keeps (IsOut first.plan first.index first.session s comes) (Ok (Ok b)) ready now kept
  past_all b e =
      ran_ok s keeps (TurnsTo first x s) (IsOut first.plan first.index first.session s comes) (Ok (walk.Branched b)) (Ok b) ready now kept
      (subst (λ r. Ran s keeps (TurnsTo first x s) r ready now kept) e ran)
      (λ after t. record { x = t.turn.y; left = t.turn.left; opened = t.turn.opened; out = led (Ok (walk.Branched b)) after t })

  -- the walk's end
  pub stopped_at : (end : Stopped) → result ≡ Ok (Err end) → Ran s keeps (IsOut first.plan first.index first.session s comes) (Ok (Err end)) ready now kept
  stopped_at end e =
      ran_ok s keeps (TurnsTo first x s) (IsOut first.plan first.index first.session s comes) (Err end) (Err end) ready now kept
      (subst (λ r. Ran s keeps (TurnsTo first x s) r ready now kept) e ran)
      (λ after t. record { x = t.turn.y; left = t.turn.left; opened = t.turn.opened; out = led (Err end) after t })

  -- no answer
  pub failed : (why : UnsealError) → result ≡ Err why → Ran s keeps (IsOut first.plan first.index first.session s comes) (Err why) ready now kept
  failed why e =
      ran_err s keeps (TurnsTo first x s) (IsOut first.plan first.index first.session s comes) why ready now kept
      (subst (λ r. Ran s keeps (TurnsTo first x s) r ready now kept) e ran)
      (λ after t. let is = t.is in absurd (cc is))
