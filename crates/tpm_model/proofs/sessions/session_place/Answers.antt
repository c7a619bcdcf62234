use Rattle.std.proofs.Common.{◌≡◌, ℕ, ◌+◌, List, true, nat_lt, is_some, ap, sym, subst, ◌∙◌, rules}
use Rattle.std.proofs.lemmas.List.Sorted.{IsPartitionPoint-from_clause}
use Rattle.nv_index.specs.Handles.{are_handles}
use Rattle.tpm_model.specs.declared.sessions.Session.{Session}
use Rattle.tpm_model.specs.Sessions.{session_place}
use Rattle.tpm_model.proofs.Rising.{found, handles, other, parted, past}
use Rattle.tpm_model.proofs.sessions.session_place.Goals as goal

-- the sessions are those of the state, and what was found of them holds there
at_sessions : (handle place : ℕ) (xs ys : List Session) → xs ≡ ys → session_place handle xs ≡ place → place ≡ session_place handle ys
at_sessions handle place xs ys e found = sym found ∙ ap (session_place handle) e

pub returns-in-Some : goal.returns-in-Some
returns-in-Some c =
    let xs = c.as_slice-sessions.result.now in
    let order = subst (λ ys. are_handles 0x03000000 (0x03000000 + c.args.held.now.next_session) (handles ys) ≡ true) (sym c.as_slice-sessions.ensures) c.requires in
    let first = IsPartitionPoint-from_clause (λ (x : Session). nat_lt x.handle c.args.handle) xs _ c.partition_point-place.ensures.partitioned
    (parted 0x03000000 _ c.args.handle xs order) (λ a r q k. search rules) in
    at_sessions _ _ _ _ c.as_slice-sessions.ensures
    (found c.args.handle c.partition_point-place.result xs first c.in-Some.session.now c.in-Some.ensures.lookup.0 c.in-Some.ensures.lookup.1 c.if-session-handle.true)

pub returns-in_default : goal.returns-in_default
returns-in_default c =
    let xs = c.as_slice-sessions.result.now in
    let order = subst (λ ys. are_handles 0x03000000 (0x03000000 + c.args.held.now.next_session) (handles ys) ≡ true) (sym c.as_slice-sessions.ensures) c.requires in
    let first = IsPartitionPoint-from_clause (λ (x : Session). nat_lt x.handle c.args.handle) xs _ c.partition_point-place.ensures.partitioned
    (parted 0x03000000 _ c.args.handle xs order) (λ a r q k. search rules) in
    at_sessions _ _ _ _ c.as_slice-sessions.ensures
    (other c.args.handle c.partition_point-place.result xs first 0x03000000 _ c.in-Some.session.now order c.in-Some.ensures.lookup.0 c.in-Some.ensures.lookup.1 c.if-session-handle.false)

pub returns-in_default-2 : goal.returns-in_default-2
returns-in_default-2 c =
    let xs = c.as_slice-sessions.result.now in
    let order = subst (λ ys. are_handles 0x03000000 (0x03000000 + c.args.held.now.next_session) (handles ys) ≡ true) (sym c.as_slice-sessions.ensures) c.requires in
    let first = IsPartitionPoint-from_clause (λ (x : Session). nat_lt x.handle c.args.handle) xs _ c.partition_point-place.ensures.partitioned
    (parted 0x03000000 _ c.args.handle xs order) (λ a r q k. search rules) in
    at_sessions _ _ _ _ c.as_slice-sessions.ensures (past c.args.handle c.partition_point-place.result xs first (sym (ap is_some c.in_default.is) ∙ c.get.ensures.lookup.0))
