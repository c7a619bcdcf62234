-- A client's sessions are those that it would have alone, but for their handles.
use Rattle.std.proofs.Common.{◌≡◌, ◌⊎◌, inl, inr, ℕ, suc, ◌<◌, ◌≢◌, ◌==◌, Bool, true, false, cond, List, [], ◌∷◌, ◌++◌, length, refl, sym, ap, ◌∙◌, subst, arith}
use Rattle.std.specs.Prelude.{None, Some}
use Rattle.std.specs.List.{AllByRecursion}
use Rattle.std.proofs.lemmas.Bool.{eq-eqb, eqb-true, ne_eqb}
use Rattle.tpm_model.specs.declared.sessions.Session.{Session}
use Rattle.tpm_model.specs.Sessions.{is_session}
use Rattle.tpm_broker.specs.declared.rows.Handles.{Handles}
use Rattle.tpm_broker.specs.Clients.{is_own}
use Rattle.tpm_broker.proofs.Firsts.{Excludes, all_without, first_of, found_last, found_push, other_with, other_without, same_with, with_of, without_of}

-- the session under another handle
abbrev pub renamed : ℕ → Session → Session
renamed handle x = record { hash = x.hash; handle = handle; digest = x.digest; noted = x.noted; trail = x.trail }

abbrev pub IsIn : Handles → List Handles → Type 0
IsIn a [] = ⊥
IsIn a (o ∷ os) = (o ≡ a) ⊎ IsIn a os

-- the TPM calls none of these sessions so
abbrev pub NoneOf : ℕ → List Handles → Type 0
NoneOf tpm os = AllByRecursion (λ (o : Handles). o.tpm ≢ tpm) os

-- the TPM has the session under its handle, and the client calls no other one by that handle
pub record IsHeld (o : Handles) (others : List Handles) (ss : List Session) (x : Session) : Type 0 where
  pub own : x.handle ≡ o.own
  pub tpm : first_of (is_session o.tpm) ss ≡ Some (renamed o.tpm x)
  pub once : NoneOf o.tpm others

-- so it is with each session of the client, in order
abbrev pub AreHeld : List Handles → List Session → List Session → Type 0
AreHeld [] ss [] = Unit {0}
AreHeld [] ss (x ∷ xs) = ⊥
AreHeld (o ∷ os) ss [] = ⊥
AreHeld (o ∷ os) ss (x ∷ xs) = IsHeld o os ss x × AreHeld os ss xs

pub all_in : (P : Handles → Type 0) (a : Handles) (os : List Handles) → AllByRecursion P os → IsIn a os → P a
all_in P a [] all is = absurd is
all_in P a (o ∷ os) all (inl same) = subst P same all.0
all_in P a (o ∷ os) all (inr more) = all_in P a os all.1 more

pub all_from : (P : Handles → Type 0) (os : List Handles) → ((a : Handles) → IsIn a os → P a) → AllByRecursion P os
all_from P [] h = tt
all_from P (o ∷ os) h = (h o (inl refl), all_from P os (λ a is. h a (inr is)))

pub in_push : (a b : Handles) (os : List Handles) → IsIn a (os ++ b ∷ []) → IsIn a os ⊎ (b ≡ a)
in_push a b [] (inl same) = inr same
in_push a b [] (inr none) = absurd none
in_push a b (o ∷ os) (inl same) = inl (inl same)
in_push a b (o ∷ os) (inr more) = elim (in_push a b os more) [ inl is ↦ inl (inr is) | inr is ↦ inr is ]

pub in_without : (p : Handles → Bool) (a : Handles) (os : List Handles) → IsIn a (without_of p os) → IsIn a os
in_without p a [] is = is
in_without p a (o ∷ os) is =
    elim (p o) as (λ b. IsIn a (cond b os (o ∷ without_of p os)) → IsIn a (o ∷ os)) [
      | true ↦ λ more. inr more
      | false ↦ λ either. elim either [ inl same ↦ inl same | inr more ↦ inr (in_without p a os more) ]
    ] is

pub found_in : (p : Handles → Bool) (a : Handles) (os : List Handles) → first_of p os ≡ Some a → IsIn a os
found_in p a [] found = cc
found_in p a (o ∷ os) found =
    elim (p o) as (λ b. cond b (Some o) (first_of p os) ≡ Some a → IsIn a (o ∷ os)) [
      | true ↦ λ is. let same : o ≡ a = cc in inl same
      | false ↦ λ more. inr (found_in p a os more)
    ] found

-- one handle isn't another
pub excludes : (h g : ℕ) → h ≢ g → Excludes (is_session h) (is_session g)
excludes h g ne = λ x e. ne_eqb x.handle g (λ same. ne (sym (eqb-true x.handle h e) ∙ same))

pub held_length : (os : List Handles) (ss ts : List Session) → AreHeld os ss ts → length ts ≡ length os
held_length [] ss [] h = refl
held_length [] ss (x ∷ xs) h = absurd h
held_length (o ∷ os) ss [] h = absurd h
held_length (o ∷ os) ss (x ∷ xs) h = ap suc (held_length os ss xs h.1)

-- the session that the client calls so, in both lists
pub record Found (own : ℕ) (a : Handles) (ss ts : List Session) : Type 0 where
  pub session : Session
  pub mine : first_of (is_session own) ts ≡ Some session
  pub theirs : first_of (is_session a.tpm) ss ≡ Some (renamed a.tpm session)

pub held_found : (own : ℕ) (a : Handles) (os : List Handles) (ss ts : List Session) → AreHeld os ss ts → first_of (is_own own) os ≡ Some a → Found own a ss ts
held_found own a [] ss ts h found = cc
held_found own a (o ∷ os) ss [] h found = absurd h
held_found own a (o ∷ os) ss (x ∷ xs) h found =
    elim (o.own == own) as (λ b. (o.own == own) ≡ b → cond b (Some o) (first_of (is_own own) os) ≡ Some a → Found own a ss (x ∷ xs)) [
      | true ↦ λ is found. let same : o ≡ a = cc in record {
        session = x;
        mine = ap (λ m. cond (m == own) (Some x) (first_of (is_session own) xs)) h.0.own ∙ ap (λ b. cond b (Some x) (first_of (is_session own) xs)) is;
        theirs = subst (λ (c : Handles). first_of (is_session c.tpm) ss ≡ Some (renamed c.tpm x)) same h.0.tpm;
      }
      | false ↦ λ is more. let rest = held_found own a os ss xs h.1 more in record {
        session = rest.session;
        mine = ap (λ m. cond (m == own) (Some x) (first_of (is_session own) xs)) h.0.own ∙ ap (λ b. cond b (Some x) (first_of (is_session own) xs)) is ∙ rest.mine;
        theirs = rest.theirs;
      }
    ] refl found

pub held_missing : (own : ℕ) (os : List Handles) (ss ts : List Session) → AreHeld os ss ts → first_of (is_own own) os ≡ None → first_of (is_session own) ts ≡ None
held_missing own [] ss [] h found = refl
held_missing own [] ss (x ∷ xs) h found = absurd h
held_missing own (o ∷ os) ss [] h found = absurd h
held_missing own (o ∷ os) ss (x ∷ xs) h found =
    elim (o.own == own) as (λ b. (o.own == own) ≡ b → cond b (Some o) (first_of (is_own own) os) ≡ None → cond (x.handle == own) (Some x) (first_of (is_session own) xs) ≡ None) [
      | true ↦ λ is found. cc
      | false ↦ λ is more.
          ap (λ m. cond (m == own) (Some x) (first_of (is_session own) xs)) h.0.own ∙ ap (λ b. cond b (Some x) (first_of (is_session own) xs)) is ∙ held_missing own os ss xs h.1 more
    ] refl found

-- where the TPM keeps each of them, they are held
pub held_on : (os : List Handles) (ss us ts : List Session) → AreHeld os ss ts
    → ((a : Handles) (x : Session) → IsIn a os → first_of (is_session a.tpm) ss ≡ Some x → first_of (is_session a.tpm) us ≡ Some x) → AreHeld os us ts
held_on [] ss us [] h keeps = tt
held_on [] ss us (x ∷ xs) h keeps = absurd h
held_on (o ∷ os) ss us [] h keeps = absurd h
held_on (o ∷ os) ss us (x ∷ xs) h keeps =
    (record { own = h.0.own; tpm = keeps o _ (inl refl) h.0.tpm; once = h.0.once }, held_on os ss us xs h.1 (λ a y is. keeps a y (inr is)))

-- where a session changes that isn't one of them
pub held_beside : (tpm : ℕ) (y : Session) (os : List Handles) (ss ts : List Session) → AreHeld os ss ts → NoneOf tpm os → y.handle ≡ tpm → AreHeld os (with_of (is_session tpm) y ss) ts
held_beside tpm y os ss ts h none e =
    held_on os ss (with_of (is_session tpm) y ss) ts h (λ a x is found.
    let apart : a.tpm ≢ tpm = all_in (λ (o : Handles). o.tpm ≢ tpm) a os none is in
    other_with (is_session tpm) (is_session a.tpm) y ss (excludes tpm a.tpm (λ same. apart (sym same))) (ne_eqb y.handle a.tpm (λ same. apart (sym same ∙ e))) ∙ found)

pub held_without : (tpm : ℕ) (os : List Handles) (ss ts : List Session) → AreHeld os ss ts → NoneOf tpm os → AreHeld os (without_of (is_session tpm) ss) ts
held_without tpm os ss ts h none =
    held_on os ss (without_of (is_session tpm) ss) ts h (λ a x is found.
    let apart : a.tpm ≢ tpm = all_in (λ (o : Handles). o.tpm ≢ tpm) a os none is in
    other_without (is_session tpm) (is_session a.tpm) ss (excludes tpm a.tpm (λ same. apart (sym same))) ∙ found)

pub held_push : (y : Session) (os : List Handles) (ss ts : List Session) → AreHeld os ss ts → AreHeld os (ss ++ y ∷ []) ts
held_push y os ss ts h = held_on os ss (ss ++ y ∷ []) ts h (λ a x is found. found_push (is_session a.tpm) x y ss found)

-- what the test says of the session's handle
test_of : (own : ℕ) (o : Handles) (x : Session) (b : Bool) → x.handle ≡ o.own → (o.own == own) ≡ b → (x.handle == own) ≡ b
test_of own o x b e is = ap (λ m. m == own) e ∙ is

-- where one of them changes
pub held_becomes : (own : ℕ) (a : Handles) (y : Session) (os : List Handles) (ss ts : List Session) → AreHeld os ss ts → first_of (is_own own) os ≡ Some a → y.handle ≡ own
    → AreHeld os (with_of (is_session a.tpm) (renamed a.tpm y) ss) (with_of (is_session own) y ts)
held_becomes own a y [] ss ts h found e = cc
held_becomes own a y (o ∷ os) ss [] h found e = absurd h
held_becomes own a y (o ∷ os) ss (x ∷ xs) h found e =
    elim (o.own == own) as (λ b. (o.own == own) ≡ b → cond b (Some o) (first_of (is_own own) os) ≡ Some a
    → AreHeld (o ∷ os) (with_of (is_session a.tpm) (renamed a.tpm y) ss) (cond (x.handle == own) (y ∷ xs) (x ∷ with_of (is_session own) y xs))) [
      | true ↦ λ is found. let same : o ≡ a = cc in
          subst (λ (c : Handles). AreHeld (o ∷ os) (with_of (is_session c.tpm) (renamed c.tpm y) ss) (cond (x.handle == own) (y ∷ xs) (x ∷ with_of (is_session own) y xs))) same
          (subst (λ b. AreHeld (o ∷ os) (with_of (is_session o.tpm) (renamed o.tpm y) ss) (cond b (y ∷ xs) (x ∷ with_of (is_session own) y xs))) (sym (test_of own o x true h.0.own is)) (
            record {
              own = e ∙ sym (eqb-true o.own own is);
              tpm = same_with (is_session o.tpm) (renamed o.tpm x) (renamed o.tpm y) ss h.0.tpm (eq-eqb o.tpm o.tpm refl);
              once = h.0.once;
            },
            held_beside o.tpm (renamed o.tpm y) os ss xs h.1 h.0.once refl,
          ))
      | false ↦ λ is more.
          let apart : a.tpm ≢ o.tpm = all_in (λ (c : Handles). c.tpm ≢ o.tpm) a os h.0.once (found_in (is_own own) a os more) in
          subst (λ b. AreHeld (o ∷ os) (with_of (is_session a.tpm) (renamed a.tpm y) ss) (cond b (y ∷ xs) (x ∷ with_of (is_session own) y xs))) (sym (test_of own o x false h.0.own is)) (
            record {
              own = h.0.own;
              tpm = other_with (is_session a.tpm) (is_session o.tpm) (renamed a.tpm y) ss (excludes a.tpm o.tpm apart) (ne_eqb a.tpm o.tpm apart) ∙ h.0.tpm;
              once = h.0.once;
            },
            held_becomes own a y os ss xs h.1 more e,
          )
    ] refl found

-- where one of them ends
pub held_ends : (own : ℕ) (a : Handles) (os : List Handles) (ss ts : List Session) → AreHeld os ss ts → first_of (is_own own) os ≡ Some a
    → AreHeld (without_of (is_own own) os) (without_of (is_session a.tpm) ss) (without_of (is_session own) ts)
held_ends own a [] ss ts h found = cc
held_ends own a (o ∷ os) ss [] h found = absurd h
held_ends own a (o ∷ os) ss (x ∷ xs) h found =
    elim (o.own == own) as (λ b. (o.own == own) ≡ b → cond b (Some o) (first_of (is_own own) os) ≡ Some a
    → AreHeld (cond b os (o ∷ without_of (is_own own) os)) (without_of (is_session a.tpm) ss) (cond (x.handle == own) xs (x ∷ without_of (is_session own) xs))) [
      | true ↦ λ is found. let same : o ≡ a = cc in
          subst (λ (c : Handles). AreHeld os (without_of (is_session c.tpm) ss) (cond (x.handle == own) xs (x ∷ without_of (is_session own) xs))) same
          (subst (λ b. AreHeld os (without_of (is_session o.tpm) ss) (cond b xs (x ∷ without_of (is_session own) xs))) (sym (test_of own o x true h.0.own is))
          (held_without o.tpm os ss xs h.1 h.0.once))
      | false ↦ λ is more.
          let apart : a.tpm ≢ o.tpm = all_in (λ (c : Handles). c.tpm ≢ o.tpm) a os h.0.once (found_in (is_own own) a os more) in
          subst (λ b. AreHeld (o ∷ without_of (is_own own) os) (without_of (is_session a.tpm) ss) (cond b xs (x ∷ without_of (is_session own) xs))) (sym (test_of own o x false h.0.own is)) (
            record {
              own = h.0.own;
              tpm = other_without (is_session a.tpm) (is_session o.tpm) ss (excludes a.tpm o.tpm apart) ∙ h.0.tpm;
              once = all_without (λ (c : Handles). c.tpm ≢ o.tpm) (is_own own) os h.0.once;
            },
            held_ends own a os ss xs h.1 more,
          )
    ] refl found

not_yet : (new : ℕ) (ss : List Session) → AllByRecursion (λ (x : Session). x.handle < new) ss → AllByRecursion (λ (x : Session). is_session new x ≡ false) ss
not_yet new [] all = tt
not_yet new (x ∷ xs) all = let low : x.handle < new = all.0 in (ne_eqb x.handle new (λ same. omega arith), not_yet new xs all.1)

none_push : (tpm own new : ℕ) (os : List Handles) → NoneOf tpm os → tpm < new → NoneOf tpm (os ++ record { own = own; tpm = new } ∷ [])
none_push tpm own new [] none low = (λ same. omega arith, tt)
none_push tpm own new (o ∷ os) none low = (none.0, none_push tpm own new os none.1 low)

-- where one more starts
pub held_starts : (own new : ℕ) (x : Session) (os : List Handles) (ss ts : List Session) → AreHeld os ss ts → x.handle ≡ own
    → AllByRecursion (λ (o : Handles). o.tpm < new) os → AllByRecursion (λ (y : Session). y.handle < new) ss
    → AreHeld (os ++ record { own = own; tpm = new } ∷ []) (ss ++ renamed new x ∷ []) (ts ++ x ∷ [])
held_starts own new x [] ss [] h e below lower =
    (record { own = e; tpm = found_last (is_session new) (renamed new x) ss (not_yet new ss lower) (eq-eqb new new refl); once = tt }, tt)
held_starts own new x [] ss (z ∷ zs) h e below lower = absurd h
held_starts own new x (o ∷ os) ss [] h e below lower = absurd h
held_starts own new x (o ∷ os) ss (z ∷ zs) h e below lower = (
  record {
    own = h.0.own;
    tpm = found_push (is_session o.tpm) (renamed o.tpm z) (renamed new x) ss h.0.tpm;
    once = none_push o.tpm own new os h.0.once below.0;
  },
  held_starts own new x os ss zs h.1 e below.1 lower,
)
