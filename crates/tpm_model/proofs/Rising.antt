-- Where the session of a handle stands in a list by rising handles.
use Rattle.std.proofs.Common.{◌≡◌, ℕ, zero, suc, ◌+◌, ◌<◌, ◌≤◌, ◌⊎◌, inl, inr, List, [], ◌∷◌, true, false, map, length, get_or, refl, sym, subst, arith}
use Rattle.std.specs.Prelude.{nat_lt, ◌==◌}
use Rattle.std.specs.List.Sorted.{IsPartitionedBy, IsPartitionPoint}
use Rattle.std.proofs.lemmas.Bool.{cases_order, eq-eqb, lt-ltb, ltb-true, ltb-false, ne_eqb}
use Rattle.std.proofs.lemmas.List.Sums.{position_or_len_is}
use Rattle.nv_index.specs.Handles.{are_handles}
use Rattle.tpm_model.specs.declared.sessions.Session.{Session}
use Rattle.tpm_model.specs.Sessions.{is_session, session_place}
use Rattle.tpm_model.proofs.Handles.{AreHandles, handles_from_test}

abbrev handle_at : List Session → ℕ → Session → ℕ
handle_at xs k d = (get_or xs k d).handle

abbrev pub handles : List Session → List ℕ
handles xs = map (λ (x : Session). x.handle) xs

-- each handle is at least the first one allowed
at_least : (first end : ℕ) (xs : List Session) → AreHandles first end (handles xs) → (k : ℕ) (d : Session) → k < length xs → first ≤ handle_at xs k d
at_least first end [] h k d within = elim within [ ]
at_least first end (x ∷ xs) h zero d within = h.0
at_least first end (x ∷ xs) h (suc k) d within =
    let rest = at_least (x.handle + 1) end xs h.2 k d (omega arith) in
    let low : first ≤ x.handle = h.0 in
    omega arith

-- no later handle is a smaller one
rises_to : (first end : ℕ) (xs : List Session) → AreHandles first end (handles xs) → (j k : ℕ) (d : Session) → j ≤ k → k < length xs
    → handle_at xs j d ≤ handle_at xs k d
rises_to first end [] h j k d before within = elim within [ ]
rises_to first end (x ∷ xs) h zero zero d before within = omega arith
rises_to first end (x ∷ xs) h zero (suc k) d before within =
    let next = at_least (x.handle + 1) end xs h.2 k d (omega arith) in
    omega arith
rises_to first end (x ∷ xs) h (suc j) zero d before within = elim before [ ]
rises_to first end (x ∷ xs) h (suc j) (suc k) d before within = rises_to (x.handle + 1) end xs h.2 j k d (omega arith) (omega arith)

-- a later handle is a greater one
rises : (first end : ℕ) (xs : List Session) → AreHandles first end (handles xs) → (j k : ℕ) (d : Session) → j < k → k < length xs
    → handle_at xs j d < handle_at xs k d
rises first end [] h j k d before within = elim within [ ]
rises first end (x ∷ xs) h zero zero d before within = elim before [ ]
rises first end (x ∷ xs) h zero (suc k) d before within =
    let next = at_least (x.handle + 1) end xs h.2 k d (omega arith) in
    omega arith
rises first end (x ∷ xs) h (suc j) zero d before within = elim before [ ]
rises first end (x ∷ xs) h (suc j) (suc k) d before within = rises (x.handle + 1) end xs h.2 j k d (omega arith) (omega arith)

below_too : (a b c : ℕ) → a ≤ b → nat_lt b c ≡ true → nat_lt a c ≡ true
below_too a b c h e = let below : b < c = ltb-true b c e in lt-ltb a c (omega arith)

-- those below a handle come first
pub parted : (first end handle : ℕ) (xs : List Session) → are_handles first end (handles xs) ≡ true → IsPartitionedBy (λ (x : Session). nat_lt x.handle handle) xs
parted first end handle xs h i j d before within below =
    below_too (handle_at xs i d) (handle_at xs j d) handle (rises_to first end xs (handles_from_test first end (handles xs) h) i j d before within) below

module _ (handle place : ℕ) (xs : List Session)
    (point : IsPartitionPoint (λ (x : Session). nat_lt x.handle handle ≡ true) (λ (x : Session). nat_lt x.handle handle ≡ false) xs place) where
  apart_before : (k : ℕ) (d : Session) → k < place → (handle_at xs k d == handle) ≡ false
  apart_before k d before =
      let below : handle_at xs k d < handle = ltb-true (handle_at xs k d) handle (point.0 k d (omega arith) before) in
      ne_eqb (handle_at xs k d) handle (λ e. omega arith)

  -- the session there has the handle
  pub found : (session : Session) → true ≡ nat_lt place (length xs) → session ≡ get_or xs place session → session.handle ≡ handle → session_place handle xs ≡ place
  found session inside at same =
      let within : place < length xs = ltb-true place (length xs) (sym inside) in
      position_or_len_is (is_session handle) xs place session (omega arith) (λ k before. apart_before k session before)
      (λ h. subst (λ y. (y.handle == handle) ≡ true) at (eq-eqb session.handle handle same))

  -- none is there
  pub past : false ≡ nat_lt place (length xs) → session_place handle xs ≡ length xs
  past outside = ended xs refl where
    none_left : (d : Session) → session_place handle xs ≡ length xs
    none_left d =
        let end : length xs ≤ place = ltb-false place (length xs) (sym outside) in
        position_or_len_is (is_session handle) xs (length xs) d (omega arith) (λ k inside. apart_before k d (omega arith)) (λ h. absurd (omega arith))

    ended : (ys : List Session) → ys ≡ xs → session_place handle xs ≡ length xs
    ended [] e = subst (λ zs. session_place handle zs ≡ length zs) e refl
    ended (d ∷ ys) e = none_left d

  -- the session there has another one
  pub other : (first end : ℕ) (session : Session) → are_handles first end (handles xs) ≡ true
      → true ≡ nat_lt place (length xs) → session ≡ get_or xs place session → (session.handle ≡ handle → ⊥) → session_place handle xs ≡ length xs
  other first end session h inside at apart =
      position_or_len_is (is_session handle) xs (length xs) session (omega arith) (λ k inside. differs k inside (cases_order k place)) (λ h. absurd (omega arith)) where
        here : get_or xs place session ≡ session
        here = sym at

        reached : handle ≤ session.handle
        reached = ltb-false session.handle handle (subst (λ y. nat_lt y.handle handle ≡ false) here (point.1 place session (omega arith) (ltb-true place (length xs) (sym inside))))

        differs : (k : ℕ) → k < length xs → (k ≡ place) ⊎ ((k < place) ⊎ (place < k)) → (handle_at xs k session == handle) ≡ false
        differs k inside (inl e) = subst (λ y. (y.handle == handle) ≡ false) (sym (subst (λ i. get_or xs i session ≡ session) (sym e) here)) (ne_eqb session.handle handle apart)
        differs k inside (inr (inl before)) = apart_before k session before
        differs k inside (inr (inr later)) =
            let up : session.handle < handle_at xs k session =
            subst (λ y. y.handle < handle_at xs k session) here (rises first end xs (handles_from_test first end (handles xs) h) place k session later inside) in
            let low = reached in
            ne_eqb (handle_at xs k session) handle (λ e. omega arith)
