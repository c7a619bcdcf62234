-- What an unseal of a bound object comes to.
use Rattle.std.proofs.Common.{◌≡◌, ℕ, zero, ◌+◌, ◌<◌, ◌≤◌, Bool, true, false, cond, not, List, [], ◌∷◌, length, map, refl, sym, ap, ◌∙◌, subst, inl, arith}
use Rattle.std.specs.Prelude.{nat_le, Contains, IfOk, IfSome, Option, None, Some, Result, Ok, Err}
use Rattle.std.specs.List.{All, AllByRecursion, list_all}
use Rattle.std.proofs.lemmas.Bool.{and_parts, leb-true}
use Rattle.std.proofs.lemmas.List.{length-map}
use Rattle.std.proofs.lemmas.List.Elements.{All-contains}
use Rattle.hash_bank.specs.declared.bank.Bank.{Bank}
use Rattle.hash_bank.specs.declared.bank.Bank.TheVariants.{Sha256}
use Rattle.hash_bank.specs.Banks.{has_bank}
use Rattle.hash_bank.specs.Hash.{zeros_in}
use Rattle.hash_bank.specs.HashedString.{HashedString, NoClash}
use Rattle.nv_index.specs.Table.{index_at}
use Rattle.nv_index.specs.declared.index.NvPublic.{NvPublic}
use Rattle.or_tree.specs.Plan.{Plan, plan_of}
use Rattle.policy_digest.specs.declared.table.Row.{Row}
use Rattle.policy_digest.specs.declared.table.Table.{Table}
use Rattle.policy_digest.specs.Plain.{plain_row, plain_table}
use Rattle.policy_digest.specs.PlainTable.{PlainRow, root_of}
use Rattle.policy_digest.specs.Table.{each_pair, precedes, valid_row, valid_table}
use Rattle.policy_digest.specs.TableStrings.{table_strings}
use Rattle.policy_walk.specs.declared.why.StartRefusal.{StartRefusal}
use Rattle.policy_walk.specs.declared.why.StartRefusal.TheVariants as start
use Rattle.policy_walk.specs.declared.why.Why.{Why}
use Rattle.policy_walk.specs.declared.why.Why.TheVariants as why
use Rattle.policy_walk.specs.Choosing.{content_of}
use Rattle.policy_walk.specs.Ends.{End, past_rows, at_row}
use Rattle.policy_walk.specs.Places.{Place, Ready, Step, at_pcr, at_digest, at_or}
use Rattle.policy_walk.specs.Walking.{started_by}
use Rattle.policy_walk.proofs.Ends.{HaveFewLists, past_root, same_end}
use Rattle.policy_walk.proofs.Plans.{some_rows}
use Rattle.tpm_device.specs.Stored.{Stored}
use Rattle.tpm_model.specs.declared.command.Command.TheVariants as command
use Rattle.tpm_model.specs.declared.parts.Parts.{Parts}
use Rattle.tpm_model.specs.declared.response.Response.{Response}
use Rattle.tpm_model.specs.declared.response.Response.TheVariants as answer
use Rattle.tpm_model.specs.declared.response.Refusal.TheVariants as refusal
use Rattle.tpm_model.specs.declared.sessions.Session.{Session}
use Rattle.tpm_model.specs.Rules.{HasRules}
use Rattle.tpm_model.specs.SessionCommands.{session_handle, start_session}
use Rattle.policy_session.specs.declared.error.UnsealError.{UnsealError}
use Rattle.policy_session.specs.declared.error.UnsealError.TheVariants as error
use Rattle.policy_session.specs.BoundUnseal.{AreAmong, IsPrepared, bound_end, bound_strings, foreseen_end, opened_behind, opened_bound, opened_from, unmet_in, walk_from}
use Rattle.policy_session.specs.OpenSession.{closed, fresh_in, start_answer, start_leaves, with_open}
use Rattle.policy_session.specs.Standing.{FitsPlan, StandsAt, StandsBefore, come_to, comes_to}
use Rattle.policy_session.specs.Answers.{is_answer}
use Rattle.policy_session.specs.LiteralUnseal.{after_unseal}
use Rattle.policy_session.specs.Ran.{Gives, Ran}
use Rattle.policy_session.proofs.Rows.{plan_fits}
use Rattle.policy_session.proofs.Runs.{AsksSo, ran_view}
use Rattle.policy_session.proofs.StepAnswers.{starts}
use Rattle.policy_session.proofs.Starts.{CanStart, can_start, cannot_start, unless_room, unless_why}

-- ---- the start

abbrev pub error_of : StartRefusal → UnsealError
error_of start.SessionsFull = error.SessionsFull
error_of start.HandlesEnd = error.HandlesEnd

-- a walk that was started, or why none was
abbrev pub walk_of : Result Place StartRefusal → Result Place UnsealError
walk_of (Ok place) = Ok place
walk_of (Err why) = Err (error_of why)

pub walk_starts : (ready : Ready) (s : Parts) → walk_of (started_by ready (start_session Sha256 s).0) ≡ walk_from ready (start_answer s)
walk_starts ready s = by_tests (nat_le 64 (length s.sessions)) (nat_le 0x01000000 s.next_session) _
  where
    by_tests : (a b : Bool) (next : Parts)
        → walk_of (started_by ready (cond {A = Response × Parts} a (answer.Refused refusal.SessionsFull, s) (cond {A = Response × Parts} b (answer.Refused refusal.HandlesEnd, s) (answer.Session (session_handle s.next_session), next))).0)
        ≡ walk_from ready (cond a (Err error.SessionsFull) (cond b (Err error.HandlesEnd) (Ok (session_handle s.next_session))))
    by_tests true b next = refl
    by_tests false true next = refl
    by_tests false false next = refl

-- ---- the rows

few_lists : (bank : Bank) (rows : List Row) → list_all (valid_row bank) rows ≡ true → HaveFewLists (map plain_row rows)
few_lists bank [] valid = tt
few_lists bank (row ∷ rows) valid =
    let parts = and_parts (valid_row bank row) (list_all (valid_row bank) rows) valid in
    let a = and_parts _ _ parts.0 in
    let b = and_parts _ _ a.0 in
    let c = and_parts _ _ b.0 in
    let few : length row.choices ≤ 512 = leb-true (length row.choices) 512 c.1 in
    let long : length (plain_row row).lists ≡ length row.choices = length-map row.choices _ in
    (omega (arith, few, long), few_lists bank rows parts.1)

pub table_lists : (table : Table) → valid_table table ≡ true → HaveFewLists (plain_table table).rows
table_lists table valid =
    let a = and_parts _ (each_pair precedes table.rows) valid in
    let b = and_parts _ (list_all (valid_row table.bank) table.rows) a.0 in
    few_lists table.bank table.rows b.1

-- a fresh session stands before the first row
pub stands_first : (ready : Ready) (table : Table) (public : NvPublic) (handle : ℕ) (s : Parts) → IsPrepared ready table public s → CanStart handle Sha256 s
    → StandsAt (record { plan = ready.plan; index = ready.index; session = handle; row = 0; step = at_pcr }) (fresh_in Sha256 s) s
unfolding fresh_in
stands_first ready table public handle s p c = record {
  fits = subst FitsPlan (sym p.plan) (plan_fits table p.valid);
  inside = some_rows table ready.plan p.valid p.plan;
  walking = record { opened = c.session; hash = refl; unchanged = refl };
  before = omega arith;
}

-- where it comes past all rows, it has what the index holds
pub holds_root : (ready : Ready) (table : Table) (public : NvPublic) (s : Parts) (p : IsPrepared ready table public s)
    → IfOk (comes_to ready.plan s (zeros_in Sha256) 0 at_pcr) (λ digest. p.written.value ≡ content_of digest)
holds_root ready table public s p =
    subst (λ (plan : Plan). IfOk (comes_to plan s (zeros_in Sha256) 0 at_pcr) (λ digest. p.written.value ≡ content_of digest)) (sym p.plan)
    (by_bank (has_bank s.banks table.bank) (bound_end (plain_table table) s) refl)
  where
    by_bank : (b : Bool) (end : End) → bound_end (plain_table table) s ≡ end
        → IfOk (cond b (come_to (bound_end (plain_table table) s)) (Err (why.BankAbsent table.bank))) (λ digest. p.written.value ≡ content_of digest)
    by_bank false end e = tt
    by_bank true (at_row pcrs) e = subst (λ q. IfOk (come_to q) (λ digest. p.written.value ≡ content_of digest)) (sym e) tt
    by_bank true (past_rows digest) e =
        let root = past_root table.bank _ (zeros_in Sha256) digest (plain_table table).rows (table_lists table p.valid) e in
        subst (λ q. IfOk (come_to q) (λ d. p.written.value ≡ content_of d)) (sym e) (p.content ∙ ap content_of (sym root))

-- the answer, where a session can start
pub answer_from : (ready : Ready) (table : Table) (public : NvPublic) (object handle : ℕ) (s : Parts) → IsPrepared ready table public s → CanStart handle Sha256 s
    → opened_from ready.plan.bank public object s (comes_to ready.plan s (zeros_in Sha256) 0 at_pcr) ≡ opened_bound table.bank public object (bound_end (plain_table table) s) s
answer_from ready table public object handle s p c =
    ap (λ (plan : Plan). opened_from plan.bank public object s (comes_to plan s (zeros_in Sha256) 0 at_pcr)) p.plan
    ∙ by_bank (has_bank s.banks table.bank) (bound_end (plain_table table) s)
    ∙ sym (unless_room handle Sha256 s (cond (has_bank s.banks table.bank) (opened_behind table.bank public object s (bound_end (plain_table table) s)) (Err (error.BankAbsent table.bank))) c)
  where
    by_bank : (b : Bool) (end : End) → opened_from table.bank public object s (cond b (come_to end) (Err (why.BankAbsent table.bank)))
        ≡ cond b (opened_behind table.bank public object s end) (Err (error.BankAbsent table.bank))
    by_bank true (past_rows digest) = refl
    by_bank true (at_row pcrs) = refl
    by_bank false end = refl

-- a walk that stops at a row that isn't met has a present bank
pub met_bank : (p : Place) (x : Session) (s : Parts) (reason : Why) → StandsAt p x s → comes_to p.plan s x.digest p.row p.step ≡ Err reason
    → IfSome (unmet_in (Some reason)) (λ _. has_bank s.banks p.plan.bank ≡ true)
met_bank p x s reason at e = by_step p.step at.before e
  where
    any : (o : Option ℕ) → has_bank s.banks p.plan.bank ≡ true → IfSome o (λ _. has_bank s.banks p.plan.bank ≡ true)
    any None present = tt
    any (Some pcrs) present = present

    by_bank : (b : Bool) (end : Result (List ℕ) Why) → has_bank s.banks p.plan.bank ≡ b → cond b end (Err (why.BankAbsent p.plan.bank)) ≡ Err reason
        → IfSome (unmet_in (Some reason)) (λ _. has_bank s.banks p.plan.bank ≡ true)
    by_bank true end present f = any (unmet_in (Some reason)) present
    by_bank false end missing f =
        let same : why.BankAbsent p.plan.bank ≡ reason = cc in
        subst (λ r. IfSome (unmet_in (Some r)) (λ _. has_bank s.banks p.plan.bank ≡ true)) same tt

    by_step : (step : Step) → StandsBefore p.plan p.row step x s → comes_to p.plan s x.digest p.row step ≡ Err reason
        → IfSome (unmet_in (Some reason)) (λ _. has_bank s.banks p.plan.bank ≡ true)
    by_step at_pcr before f = by_bank (has_bank s.banks p.plan.bank) _ refl f
    by_step at_digest before f = any (unmet_in (Some reason)) before.0.present
    by_step (at_or lists) before f = any (unmet_in (Some reason)) before.0.present

-- ---- the end by what the PCRs hold
pub foreseen : (table : Table) (s : Parts) (hashed : List HashedString) → valid_table table ≡ true → NoClash (Contains hashed)
    → AreAmong hashed (table_strings (plain_table table)) → AreAmong hashed (bound_strings (plain_table table) s)
    → bound_end (plain_table table) s ≡ foreseen_end (plain_table table) s
foreseen table s hashed valid safe own seen =
    same_end (Contains hashed) safe table.bank _ (zeros_in Sha256) (plain_table table).rows (table_lists table valid)
    (λ t h. All-contains (Contains hashed) (table_strings (plain_table table)) t own h)
    (λ t h. All-contains (Contains hashed) (bound_strings (plain_table table) s) t seen h)

-- ---- the start on a device

answers_start : (ready : Ready) (s : Parts) → is_answer (walk_from ready (start_answer s)) ≡ true
answers_start ready s = by_tests (nat_le 64 (length s.sessions)) (nat_le 0x01000000 s.next_session)
  where
    by_tests : (a b : Bool) → is_answer (walk_from ready (cond a (Err error.SessionsFull) (cond b (Err error.HandlesEnd) (Ok (session_handle s.next_session))))) ≡ true
    by_tests true b = refl
    by_tests false true = refl
    by_tests false false = refl

pub begun : (start : Ready) (s : Parts) (keeps : Bool) (response : Response) (taken : Result Place StartRefusal) (result : Result Place UnsealError) (ready : Bool) (live : Option Parts) (stored : Option Stored)
    → Ran s keeps (AsksSo (command.StartSession Sha256) s) (Ok response) ready live stored → taken ≡ started_by start response → result ≡ walk_of taken
    → Ran s keeps (Gives (walk_from start (start_answer s)) (start_leaves Sha256 s)) result ready live stored
begun start s keeps response taken result ready live stored ran was is =
    ran_view s keeps (AsksSo (command.StartSession Sha256) s) response (walk_from start (start_answer s)) result (start_leaves Sha256 s) ready live stored ran
    (λ after good.
    let same : response ≡ (start_session Sha256 s).0 = cc in
    (is ∙ ap walk_of (was ∙ ap (started_by start) same) ∙ walk_starts start s, good.1 ∙ (starts Sha256 s (inl refl)).1))
    (answers_start start s)

abbrev pub walking : Place → Result Place UnsealError
walking place = Ok place

abbrev pub refused : UnsealError → Result Place UnsealError
refused why = Err why

abbrev pub refused_open : UnsealError → Result (List ℕ) UnsealError
refused_open why = Err why

-- a walk that has begun: its place, and all that it goes by
pub record Begins (ready : Ready) (table : Table) (public : NvPublic) (object : ℕ) (s : Parts) (p : IsPrepared ready table public s) (place : Place) : Type 0 where
  pub leaves : start_leaves Sha256 s ≡ with_open (fresh_in Sha256 s) s
  pub after : after_unseal s ≡ closed s
  pub stands : StandsAt place (fresh_in Sha256 s) s
  pub found : index_at place.index s.indices ≡ Some (record { public = public; written = Some p.written })
  pub holds : IfOk (comes_to place.plan s (fresh_in Sha256 s).digest place.row place.step) (λ digest. p.written.value ≡ content_of digest)
  pub answer : opened_from place.plan.bank public object s (comes_to place.plan s (fresh_in Sha256 s).digest place.row place.step)
      ≡ opened_bound table.bank public object (bound_end (plain_table table) s) s

pub begins_at : (ready : Ready) (table : Table) (public : NvPublic) (object : ℕ) (s : Parts) (place : Place) → HasRules s → (p : IsPrepared ready table public s)
    → walking place ≡ walk_from ready (start_answer s) → Begins ready table public object s p place
unfolding fresh_in
begins_at ready table public object s place rules p e = by_start (start_answer s) refl e
  where
    by_start : (r : Result ℕ UnsealError) → r ≡ start_answer s → walking place ≡ walk_from ready r → Begins ready table public object s p place
    by_start (Err why) was is = cc
    by_start (Ok handle) was is =
        let c = can_start handle Sha256 s rules (inl refl) was in
        let first : Place = record { plan = ready.plan; index = ready.index; session = handle; row = 0; step = at_pcr } in
        let same : first ≡ place = cc in
        subst (Begins ready table public object s p) same (record {
          leaves = c.leaves;
          after = c.after;
          stands = stands_first ready table public handle s p c;
          found = p.found;
          holds = holds_root ready table public s p;
          answer = answer_from ready table public object handle s p c;
        })

-- where no session can start
pub refuses_for : (ready : Ready) (table : Table) (public : NvPublic) (object : ℕ) (why : UnsealError) (s : Parts) → refused why ≡ walk_from ready (start_answer s)
    → (refused_open why ≡ opened_bound table.bank public object (bound_end (plain_table table) s) s) × (start_leaves Sha256 s ≡ after_unseal s)
refuses_for ready table public object why s e = by_start (start_answer s) refl e
  where
    by_start : (r : Result ℕ UnsealError) → r ≡ start_answer s → refused why ≡ walk_from ready r
        → (refused_open why ≡ opened_bound table.bank public object (bound_end (plain_table table) s) s) × (start_leaves Sha256 s ≡ after_unseal s)
    by_start (Ok handle) was is = absurd (cc is)
    by_start (Err other) was is =
        let c = cannot_start other Sha256 s was in
        let same : why ≡ other = cc in (
          ap Err same
              ∙ sym (unless_why other Sha256 s (cond (has_bank s.banks table.bank) (opened_behind table.bank public object s (bound_end (plain_table table) s)) (Err (error.BankAbsent table.bank))) c),
          c.leaves ∙ sym c.after,
        )
