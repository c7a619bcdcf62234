-- Each command of a walk takes the session on: to a place from which the walk comes to the same, past all rows, or to
-- the walk's end.
use Rattle.std.proofs.Common.{◌≡◌, ℕ, suc, ◌+◌, ◌*◌, ◌<◌, ◌≤◌, Bool, true, false, cond, List, [], ◌∷◌, ◌++◌, length, drop, get_or, slice_get, position, Option, None, Some, Result, Ok, Err, refl, sym, ap, ◌∙◌, subst, arith}
use Rattle.std.specs.Prelude.{nat_lt}
use Rattle.std.specs.Str.{bytes_eq}
use Rattle.std.proofs.lemmas.Bool.{ltb-false, ltb-true}
use Rattle.std.proofs.lemmas.List.{drop_all, length_push}
use Rattle.std.proofs.lemmas.List.Quantifiers.{position-Some}
use Rattle.std.proofs.lemmas.Slice.Eq.{bytes_eq-Decides}
use Rattle.hash_bank.specs.declared.bank.Bank.{Bank}
use Rattle.hash_bank.specs.declared.bank.Bank.TheVariants.{Sha256}
use Rattle.hash_bank.specs.Banks.{has_bank}
use Rattle.or_tree.specs.Leading.{Leads}
use Rattle.or_tree.specs.Plan.{Plan, RowPlan, leaves_at, leaves_in, pcrs_at, pcrs_in}
use Rattle.or_tree.proofs.Leading.{few_lists, leads}
use Rattle.policy_digest.specs.Levels.{path_of, top_of_leaves}
use Rattle.policy_digest.specs.PlainTable.{leaf_of}
use Rattle.policy_digest.specs.Policies.{policy_or_of, policy_pcr_of}
use Rattle.policy_walk.specs.declared.stopped.Stopped.{Stopped}
use Rattle.policy_walk.specs.declared.walk.Walk.{Walk}
use Rattle.policy_walk.specs.declared.walk.Walk.TheVariants as walk
use Rattle.policy_walk.specs.declared.why.Why.{Why}
use Rattle.policy_walk.specs.declared.why.Why.TheVariants as why
use Rattle.policy_walk.specs.Ends.{End, past_rows, at_row, after_lists, client_end, end_from, leaf_at}
use Rattle.policy_walk.specs.Places.{Step, at_pcr, at_digest, at_or, Past, Place}
use Rattle.policy_walk.specs.Walking.{behind_digest, behind_or, behind_pcr, behind_step, step_command, with_leaf, with_lists}
use Rattle.tpm_model.specs.declared.response.Response.{Response}
use Rattle.tpm_model.specs.declared.response.Response.TheVariants as answer
use Rattle.tpm_model.specs.declared.response.Refusal.TheVariants as refusal
use Rattle.tpm_model.specs.declared.sessions.Session.{Session}
use Rattle.tpm_model.specs.declared.parts.Parts.{Parts}
use Rattle.tpm_model.specs.Respond.{respond}
use Rattle.tpm_model.specs.SessionCommands.{noted_before, policy_get_digest, policy_or, policy_pcr, present_digest}
use Rattle.policy_session.specs.BoundUnseal.{joined_values}
use Rattle.policy_session.specs.OpenSession.{IsOpen, with_open}
use Rattle.policy_session.specs.Standing.{AreBefore, FitsPlan, FitsRow, HasLooked, IsWalking, StandsAt, StandsBefore, StandsPast, WalkedTo, behind_row, come_to, comes_to, from_row, row_in}
use Rattle.policy_session.proofs.OpenSteps.{absent, joined, joined_open, joins, looked, looked_open, looks, tells}
use Rattle.policy_session.proofs.Rows.{IsRow, path_sizes, row_at}
use Rattle.policy_session.proofs.StepAnswers.{same_noted}

-- where a command leads: the session that it leaves, and what the walk came to
pub record GoesOn (plan : Plan) (index session : ℕ) (s : Parts) (comes : Result (List ℕ) Why) (r : Response × Parts) (result : Result Walk Stopped) : Type 0 where
  pub x : Session
  pub left : r.1 ≡ with_open x s
  pub opened : IsOpen session x s
  pub to : WalkedTo plan index session x s comes result

module _ (plan : Plan) (index session row : ℕ) (s : Parts) (fits : FitsPlan plan) (inside : row < length plan.rows) where
  here : IsRow plan.rows row
  here = row_at plan.rows row inside fits.rows

  row_is : here.row ≡ row_in plan row
  row_is = ap (λ (o : Option RowPlan). record { pcrs = pcrs_in o; leaves = leaves_in o }) (sym here.is)

  row_fits : FitsRow (row_in plan row)
  row_fits = subst FitsRow row_is here.fits

  -- before PolicyORs of these lists, or behind the row where there is none
  onward : (x : Session) (lists : List (List (List ℕ))) → IsWalking session x s → HasLooked plan x s → AreBefore x.digest lists
      → length x.trail + length lists ≤ 4 * row + 4
      → WalkedTo plan index session x s (come_to (behind_row plan s row (after_lists x.digest lists))) (Ok (with_lists plan index session row lists))
  unfolding client_end
  onward x (list ∷ lists) going seen before short =
      (refl, refl, refl, record { fits = fits; inside = inside; walking = going; before = (seen, before, omega arith, short) }, refl)
  onward x [] going seen before short = by_test (nat_lt (row + 1) (length plan.rows)) refl
    where
      next : Place
      next = record { plan = plan; index = index; session = session; row = row + 1; step = at_pcr }

      past : Past
      past = record { plan = plan; index = index; session = session }

      by_test : (b : Bool) → nat_lt (row + 1) (length plan.rows) ≡ b
          → WalkedTo plan index session x s (come_to (behind_row plan s row x.digest)) (Ok (cond b (walk.Started next) (walk.Branched past)))
      by_test true e = (
        refl,
        refl,
        refl,
        record { fits = fits; inside = ltb-true (row + 1) (length plan.rows) e; walking = going; before = omega (arith, short) },
        ap (λ b. cond b (come_to (client_end plan.bank (joined_values plan.bank s) x.digest (drop (row + 1) plan.rows))) (Err (why.BankAbsent plan.bank))) seen.present,
      )
      by_test false e = (
        refl,
        refl,
        refl,
        record { walking = going; looked = seen; short = omega (arith, short, inside, fits.few) },
        ap (λ rest. come_to (client_end plan.bank (joined_values plan.bank s) x.digest rest)) (drop_all (row + 1) plan.rows (ltb-false (row + 1) (length plan.rows) e)),
      )

  -- PolicyPCR
  looking : (x : Session) → IsWalking session x s → length x.trail ≤ 4 * row
      → GoesOn plan index session s (from_row plan s x.digest row) (policy_pcr session plan.bank (pcrs_at plan row) (with_open x s))
      (behind_pcr plan index session row (policy_pcr session plan.bank (pcrs_at plan row) (with_open x s)).0)
  unfolding client_end
  looking x going short = by_bank (has_bank s.banks plan.bank) refl
    where
      r : Response × Parts
      r = policy_pcr session plan.bank (pcrs_at plan row) (with_open x s)

      rest : End
      rest = client_end plan.bank (joined_values plan.bank s) x.digest (drop row plan.rows)

      y : Session
      y = looked plan.bank (pcrs_at plan row) x s

      after : List ℕ → Result (List ℕ) Why
      after d = come_to (end_from (row_in plan row) d (leaf_at (row_in plan row) d) (behind_row plan s row))

      by_bank : (b : Bool) → has_bank s.banks plan.bank ≡ b → GoesOn plan index session s (cond b (come_to rest) (Err (why.BankAbsent plan.bank))) r (behind_pcr plan index session row r.0)
      by_bank true present =
          let room : length x.trail < 128 = omega (arith, short, inside, fits.few) in
          let e = looks session x s going.opened plan.bank (pcrs_at plan row) row_fits.mask present going.unchanged room in
          let opened = looked_open session x s going.opened plan.bank (pcrs_at plan row) row_fits.mask e in
          let now = leaf_of plan.bank x.digest (pcrs_at plan row) (joined_values plan.bank s (pcrs_at plan row)) in
          let digest : y.digest ≡ now = ap (λ h. policy_pcr_of h x.digest plan.bank (pcrs_at plan row) (present_digest h plan.bank (pcrs_at plan row) s)) going.hash in
          let rows : drop row plan.rows ≡ row_in plan row ∷ drop (row + 1) plan.rows = here.rest ∙ ap (λ (q : RowPlan). q ∷ drop (row + 1) plan.rows) row_is in
          let comes : after y.digest ≡ come_to rest = ap after digest ∙ sym (ap (λ left. come_to (client_end plan.bank (joined_values plan.bank s) x.digest left)) rows) in
          let longer : length y.trail ≡ length x.trail + 1 = length_push x.trail _ in
          let at : StandsAt (record { plan = plan; index = index; session = session; row = row; step = at_digest }) y s = record {
            fits = fits;
            inside = inside;
            walking = record { opened = opened; hash = going.hash; unchanged = same_noted s.update_counter };
            before = (record { present = present; noted = refl }, omega (arith, short, longer));
          } in
          record {
            x = y;
            left = ap (λ (q : Response × Parts). q.1) e;
            opened = opened;
            to = subst (λ (a : Response). WalkedTo plan index session y s (come_to rest) (behind_pcr plan index session row a)) (sym (ap (λ (q : Response × Parts). q.0) e)) (refl, refl, refl, at, comes);
          }
      by_bank false missing =
          let e = absent session x s going.opened plan.bank (pcrs_at plan row) row_fits.mask missing in
          record {
            x = x;
            left = ap (λ (q : Response × Parts). q.1) e;
            opened = going.opened;
            to = subst (λ (a : Response). WalkedTo plan index session x s (Err (why.BankAbsent plan.bank)) (behind_pcr plan index session row a)) (sym (ap (λ (q : Response × Parts). q.0) e))
                (refl, going.opened, why.BankAbsent plan.bank, refl, refl);
          }

  -- PolicyGetDigest
  finding : (x : Session) → IsWalking session x s → HasLooked plan x s → length x.trail ≤ 4 * row + 1
      → GoesOn plan index session s (comes_to plan s x.digest row at_digest) (policy_get_digest session (with_open x s))
      (behind_digest plan index session row (policy_get_digest session (with_open x s)).0)
  finding x going seen short =
      let e = tells session x s going.opened in
      record {
        x = x;
        left = ap (λ (q : Response × Parts). q.1) e;
        opened = going.opened;
        to = subst (λ (a : Response). WalkedTo plan index session x s (comes_to plan s x.digest row at_digest) (behind_digest plan index session row a)) (sym (ap (λ (q : Response × Parts). q.0) e))
            (by_leaf (leaf_at (row_in plan row) x.digest) refl);
      }
    where
      by_leaf : (o : Option ℕ) → leaf_at (row_in plan row) x.digest ≡ o
          → WalkedTo plan index session x s (come_to (end_from (row_in plan row) x.digest o (behind_row plan s row))) (with_leaf plan index session row o)
      by_leaf None none = (refl, going.opened, why.NotForeseen (pcrs_at plan row), refl, refl)
      by_leaf (Some leaf) found =
          let leaves = leaves_at plan row in
          let at = position-Some (λ l. bytes_eq l x.digest) leaves leaf [] found in
          let is : get_or leaves leaf [] ≡ x.digest = (bytes_eq-Decides _ _).0 at.1 in
          let before : AreBefore x.digest (path_of leaves leaf) = record {
            top = top_of_leaves leaves;
            leads = subst (λ d. Leads d (path_of leaves leaf) (top_of_leaves leaves)) is (leads leaves leaf at.0 row_fits.few);
            sizes = path_sizes leaves leaf row_fits.sizes;
          } in
          onward x (path_of leaves leaf) going seen before (omega (arith, short, few_lists leaves leaf))

  -- PolicyOR of the first list
  joining : (x : Session) (list : List (List ℕ)) (lists : List (List (List ℕ))) → IsWalking session x s → HasLooked plan x s → AreBefore x.digest (list ∷ lists)
      → length x.trail + length (list ∷ lists) ≤ 4 * row + 4
      → GoesOn plan index session s (comes_to plan s x.digest row (at_or (list ∷ lists))) (policy_or session list (with_open x s))
      (behind_or plan index session row (list ∷ lists) (policy_or session list (with_open x s)).0)
  joining x list lists going seen before short =
      let l = before.leads in
      let y = joined list x in
      let room : length x.trail < 128 = omega (arith, short, inside, fits.few) in
      let e = joins session x s going.opened list going.hash l.0 before.sizes.0 l.2 room in
      let opened = joined_open session x s going.opened list going.hash l.1 e in
      let digest : y.digest ≡ policy_or_of Sha256 list = ap (λ h. policy_or_of h list) going.hash in
      let longer : length y.trail ≡ length x.trail + 1 = length_push x.trail _ in
      let further : AreBefore y.digest lists = record { top = before.top; leads = subst (λ d. Leads d lists before.top) (sym digest) l.3; sizes = before.sizes.1 } in
      let to = onward y lists (record { opened = opened; hash = going.hash; unchanged = going.unchanged }) (record { present = seen.present; noted = seen.noted }) further (omega (arith, short, longer)) in
      record {
        x = y;
        left = ap (λ (q : Response × Parts). q.1) e;
        opened = opened;
        to = subst (λ (a : Response). WalkedTo plan index session y s (comes_to plan s x.digest row (at_or (list ∷ lists))) (behind_or plan index session row (list ∷ lists) a)) (sym (ap (λ (q : Response × Parts). q.0) e))
            (subst (λ d. WalkedTo plan index session y s (come_to (behind_row plan s row (after_lists d lists))) (Ok (with_lists plan index session row lists))) digest to);
      }

  pub goes : (step : Step) (x : Session) → IsWalking session x s → StandsBefore plan row step x s
      → GoesOn plan index session s (comes_to plan s x.digest row step) (respond (step_command plan session row step) (with_open x s))
      (behind_step plan index session row step (respond (step_command plan session row step) (with_open x s)).0)
  goes at_pcr x going before = looking x going before
  goes at_digest x going before = finding x going before.0 before.1
  goes (at_or []) x going before = let some : 1 ≤ 0 = before.2 in absurd (omega (arith, some))
  goes (at_or (list ∷ lists)) x going before = joining x list lists going before.0 before.1 before.3
