-- One client's sessions beside those of the others, on one TPM.
use Rattle.std.proofs.Common.{◌≡◌, ◌⊎◌, inl, inr, ℕ, zero, suc, ◌+◌, ◌-◌, ◌*◌, ◌<◌, ◌≤◌, ◌≢◌, List, [], ◌∷◌, ◌++◌, length, map, refl, sym, ap, ◌∙◌, subst, arith}
use Rattle.std.specs.Prelude.{Some, slice_set}
use Rattle.std.specs.List.{AllByRecursion}
use Rattle.std.proofs.lemmas.Bool.Decides.{eqb_tells}
use Rattle.std.proofs.lemmas.List.{get_or-set_other, get_or-set_same, length-map, length-set, length_push}
use Rattle.std.proofs.Math.ListN.{get_or-map}
use Rattle.tpm_model.specs.declared.sessions.Session.{Session}
use Rattle.tpm_model.specs.SessionCommands.{session_handle}
use Rattle.tpm_model.specs.Sessions.{is_session}
use Rattle.tpm_broker.specs.declared.rows.Handles.{Handles}
use Rattle.tpm_broker.specs.Clients.{Client, changed, client_at, is_own, new_client, with_started, without, without_all}
use Rattle.tpm_broker.proofs.Firsts.{all_with, all_without, first_of, length_with, length_without, with_of, without_is, without_of}
use Rattle.tpm_broker.proofs.Held.{AreHeld, IsIn, NoneOf, all_from, found_in, held_becomes, held_beside, held_ends, held_push, held_starts, held_without, in_push, in_without, renamed}

-- the sessions of client i
abbrev pub rows_of : ℕ → List Client → List Handles
rows_of i clients = (client_at i clients).sessions

-- how many sessions the clients may still start
abbrev pub room_left : List Client → ℕ
room_left [] = 0
room_left (client ∷ clients) = (4 - length client.sessions) + room_left clients

-- client k's sessions on the TPM are those that it would have alone; the TPM calls no session of another
-- client so, and it has room for those that all clients may still start
pub record Beside (k n : ℕ) (clients : List Client) (ss : List Session) (next : ℕ) (ts : List Session) : Type 0 where
  pub count : length clients ≡ n
  pub few : 4 * n ≤ 64
  pub held : AreHeld (rows_of k clients) ss ts
  pub apart : (i : ℕ) (a b : Handles) → i ≢ k → IsIn a (rows_of i clients) → IsIn b (rows_of k clients) → a.tpm ≢ b.tpm
  pub below : (i : ℕ) (a : Handles) → IsIn a (rows_of i clients) → a.tpm < session_handle next
  pub lower : AllByRecursion (λ (x : Session). x.handle < session_handle next) ss
  pub room : length ss + room_left clients ≤ 64

-- one client changes
pub at_same : (m : ℕ) (f : Client → Client) (clients : List Client) → m < length clients → client_at m (changed m f clients) ≡ f (client_at m clients)
at_same m f clients within = get_or-set_same clients m _ new_client within

pub at_other : (m i : ℕ) (f : Client → Client) (clients : List Client) → i ≢ m → client_at i (changed m f clients) ≡ client_at i clients
at_other m i f clients ne = get_or-set_other clients m i _ new_client ne

room_set : (m : ℕ) (c : Client) (clients : List Client) → m < length clients
    → room_left (slice_set clients m c) + (4 - length (rows_of m clients)) ≡ room_left clients + (4 - length c.sessions)
room_set m c [] within = absurd (omega arith)
room_set zero c (d ∷ ds) within = omega arith
room_set (suc m) c (d ∷ ds) within = let rest = room_set m c ds (omega arith) in omega arith

-- rows that are fewer
row_of : (m i : ℕ) (f : Client → Client) (clients : List Client) (a : Handles) → m < length clients → IsIn a (rows_of i (changed m f clients))
    → IsIn a (rows_of i clients) ⊎ ((i ≡ m) × IsIn a (f (client_at m clients)).sessions)
row_of m i f clients a within is =
    elim (eqb_tells i m) [
      | inl same ↦ inr (same.1, subst (λ (c : Client). IsIn a c.sessions) (at_same m f clients within) (subst (λ j. IsIn a (rows_of j (changed m f clients))) same.1 is))
      | inr other ↦ inl (subst (λ (c : Client). IsIn a c.sessions) (at_other m i f clients other.1) is)
    ]

row_without : (m i own : ℕ) (clients : List Client) (a : Handles) → m < length clients → IsIn a (rows_of i (changed m (without own) clients)) → IsIn a (rows_of i clients)
row_without m i own clients a within is =
    elim (row_of m i (without own) clients a within is) [
      | inl was ↦ was
      | inr new ↦ subst (λ j. IsIn a (rows_of j clients)) (sym new.0)
          (in_without (is_own own) a (rows_of m clients) (subst (IsIn a) (without_is (is_own own) (rows_of m clients)) new.1))
    ]

-- the TPM calls none of client k's sessions by a handle of another client's
none_of : (k n m : ℕ) (clients : List Client) (ss : List Session) (next : ℕ) (ts : List Session) (a : Handles)
    → Beside k n clients ss next ts → m ≢ k → IsIn a (rows_of m clients) → NoneOf a.tpm (rows_of k clients)
none_of k n m clients ss next ts a h ne is = all_from (λ (o : Handles). o.tpm ≢ a.tpm) (rows_of k clients) (λ b mine same. h.apart m a b ne is mine (sym same))

-- a session of client k changes
pub mine_becomes : (k n own : ℕ) (a : Handles) (y : Session) (clients : List Client) (ss : List Session) (next : ℕ) (ts : List Session)
    → Beside k n clients ss next ts → first_of (is_own own) (rows_of k clients) ≡ Some a → y.handle ≡ own
    → Beside k n clients (with_of (is_session a.tpm) (renamed a.tpm y) ss) next (with_of (is_session own) y ts)
mine_becomes k n own a y clients ss next ts h found e = record {
  count = h.count;
  few = h.few;
  held = held_becomes own a y (rows_of k clients) ss ts h.held found e;
  apart = h.apart;
  below = h.below;
  lower = all_with (λ (x : Session). x.handle < session_handle next) (is_session a.tpm) (renamed a.tpm y) ss h.lower (h.below k a (found_in (is_own own) a (rows_of k clients) found));
  room = rw (length_with (is_session a.tpm) (renamed a.tpm y) ss) h.room;
}

-- a session of another client changes
pub other_becomes : (k n m own : ℕ) (a : Handles) (y : Session) (clients : List Client) (ss : List Session) (next : ℕ) (ts : List Session)
    → Beside k n clients ss next ts → m ≢ k → first_of (is_own own) (rows_of m clients) ≡ Some a → y.handle ≡ a.tpm
    → Beside k n clients (with_of (is_session a.tpm) y ss) next ts
other_becomes k n m own a y clients ss next ts h ne found e =
    let is = found_in (is_own own) a (rows_of m clients) found in
    record {
      count = h.count;
      few = h.few;
      held = held_beside a.tpm y (rows_of k clients) ss ts h.held (none_of k n m clients ss next ts a h ne is) e;
      apart = h.apart;
      below = h.below;
      lower = all_with (λ (x : Session). x.handle < session_handle next) (is_session a.tpm) y ss h.lower (subst (λ t. t < session_handle next) (sym e) (h.below m a is));
      room = rw (length_with (is_session a.tpm) y ss) h.room;
    }

-- there is as much room as before where a session ends
room_ends : (m own : ℕ) (a : Handles) (x : Session) (clients : List Client) (ss : List Session) → m < length clients
    → first_of (is_own own) (rows_of m clients) ≡ Some a → first_of (is_session a.tpm) ss ≡ Some x
    → length ss + room_left clients ≤ 64 → length (without_of (is_session a.tpm) ss) + room_left (changed m (without own) clients) ≤ 64
room_ends m own a x clients ss within found theirs h =
    let fewer : suc (length (without_of (is_session a.tpm) ss)) ≡ length ss = length_without (is_session a.tpm) x ss theirs in
    let mine : suc (length (without_of (is_own own) (rows_of m clients))) ≡ length (rows_of m clients) = length_without (is_own own) a (rows_of m clients) found in
    let same : length (without own (client_at m clients)).sessions ≡ length (without_of (is_own own) (rows_of m clients)) = ap length (without_is (is_own own) (rows_of m clients)) in
    let all : room_left (changed m (without own) clients) + (4 - length (rows_of m clients)) ≡ room_left clients + (4 - length (without own (client_at m clients)).sessions) =
    room_set m (without own (client_at m clients)) clients within in
    omega arith

-- a session of client k ends
pub mine_ends : (k n own : ℕ) (a : Handles) (x : Session) (clients : List Client) (ss : List Session) (next : ℕ) (ts : List Session)
    → Beside k n clients ss next ts → k < n → first_of (is_own own) (rows_of k clients) ≡ Some a → first_of (is_session a.tpm) ss ≡ Some x
    → Beside k n (changed k (without own) clients) (without_of (is_session a.tpm) ss) next (without_of (is_session own) ts)
mine_ends k n own a x clients ss next ts h low found theirs =
    let within : k < length clients = omega (arith, h.count) in
    record {
      count = length-set clients k _ ∙ h.count;
      few = h.few;
      held = subst (λ (os : List Handles). AreHeld os (without_of (is_session a.tpm) ss) (without_of (is_session own) ts))
          (sym (ap (λ (c : Client). c.sessions) (at_same k (without own) clients within) ∙ without_is (is_own own) (rows_of k clients)))
          (held_ends own a (rows_of k clients) ss ts h.held found);
      apart = λ i b c ne is mine. h.apart i b c ne (row_without k i own clients b within is) (row_without k k own clients c within mine);
      below = λ i b is. h.below i b (row_without k i own clients b within is);
      lower = all_without (λ (y : Session). y.handle < session_handle next) (is_session a.tpm) ss h.lower;
      room = room_ends k own a x clients ss within found theirs h.room;
    }

-- a session of another client ends
pub other_ends : (k n m own : ℕ) (a : Handles) (x : Session) (clients : List Client) (ss : List Session) (next : ℕ) (ts : List Session)
    → Beside k n clients ss next ts → m < n → m ≢ k → first_of (is_own own) (rows_of m clients) ≡ Some a → first_of (is_session a.tpm) ss ≡ Some x
    → Beside k n (changed m (without own) clients) (without_of (is_session a.tpm) ss) next ts
other_ends k n m own a x clients ss next ts h low ne found theirs =
    let within : m < length clients = omega (arith, h.count) in
    let is = found_in (is_own own) a (rows_of m clients) found in
    record {
      count = length-set clients m _ ∙ h.count;
      few = h.few;
      held = subst (λ (c : Client). AreHeld c.sessions (without_of (is_session a.tpm) ss) ts) (sym (at_other m k (without own) clients (λ same. ne (sym same))))
          (held_without a.tpm (rows_of k clients) ss ts h.held (none_of k n m clients ss next ts a h ne is));
      apart = λ i b c other one mine. h.apart i b c other (row_without m i own clients b within one) (row_without m k own clients c within mine);
      below = λ i b one. h.below i b (row_without m i own clients b within one);
      lower = all_without (λ (y : Session). y.handle < session_handle next) (is_session a.tpm) ss h.lower;
      room = room_ends m own a x clients ss within found theirs h.room;
    }

-- there is as much room as before where a session starts
room_starts : (m tpm : ℕ) (x : Session) (clients : List Client) (ss : List Session) → m < length clients → length (rows_of m clients) < 4
    → length ss + room_left clients ≤ 64 → length (ss ++ x ∷ []) + room_left (changed m (with_started tpm) clients) ≤ 64
room_starts m tpm x clients ss within four h =
    let more : length (ss ++ x ∷ []) ≡ length ss + 1 = length_push ss x in
    let rows : length (with_started tpm (client_at m clients)).sessions ≡ length (rows_of m clients) + 1 = length_push (rows_of m clients) _ in
    let all : room_left (changed m (with_started tpm) clients) + (4 - length (rows_of m clients)) ≡ room_left clients + (4 - length (with_started tpm (client_at m clients)).sessions) =
    room_set m (with_started tpm (client_at m clients)) clients within in
    omega arith

-- the TPM has room for a session where a client has
pub room_for : (m : ℕ) (clients : List Client) (ss : List Session) → m < length clients → length (rows_of m clients) < 4 → length ss + room_left clients ≤ 64 → length ss < 64
room_for m clients ss within four h = let some : 1 ≤ room_left clients = positive m clients within four in omega arith
  where
    positive : (j : ℕ) (cs : List Client) → j < length cs → length (rows_of j cs) < 4 → 1 ≤ room_left cs
    positive j [] low less = absurd (omega arith)
    positive zero (c ∷ cs) low less = omega arith
    positive (suc j) (c ∷ cs) low less = let rest = positive j cs (omega arith) less in omega arith

row_started : (m i next : ℕ) (clients : List Client) (a : Handles) → m < length clients → IsIn a (rows_of i (changed m (with_started (session_handle next)) clients))
    → IsIn a (rows_of i clients) ⊎ ((i ≡ m) × (a.tpm ≡ session_handle next))
row_started m i next clients a within is =
    elim (row_of m i (with_started (session_handle next)) clients a within is) [
      | inl was ↦ inl was
      | inr new ↦ elim (in_push a _ (rows_of m clients) new.1) [
        | inl old ↦ inl (subst (λ j. IsIn a (rows_of j clients)) (sym new.0) old)
        | inr same ↦ inr (new.0, ap (λ (o : Handles). o.tpm) (sym same))
      ]
    ]

below_next : (k n m next : ℕ) (clients : List Client) (ss ts : List Session) → Beside k n clients ss next ts → m < length clients
    → (i : ℕ) (a : Handles) → IsIn a (rows_of i (changed m (with_started (session_handle next)) clients)) → a.tpm < session_handle (next + 1)
below_next k n m next clients ss ts h within i a is =
    elim (row_started m i next clients a within is) [
      | inl was ↦ let low : a.tpm < session_handle next = h.below i a was in omega arith
      | inr new ↦ omega (arith, new.1)
    ]

lower_next : (next : ℕ) (x : Session) (ss : List Session) → AllByRecursion (λ (y : Session). y.handle < session_handle next) ss → x.handle ≡ session_handle next
    → AllByRecursion (λ (y : Session). y.handle < session_handle (next + 1)) (ss ++ x ∷ [])
lower_next next x [] all e = (omega arith, tt)
lower_next next x (y ∷ ys) all e = let low : y.handle < session_handle next = all.0 in (omega arith, lower_next next x ys all.1 e)

-- client k starts a session
pub mine_starts : (k n : ℕ) (x : Session) (clients : List Client) (ss : List Session) (next : ℕ) (ts : List Session)
    → Beside k n clients ss next ts → k < n → length (rows_of k clients) < 4 → x.handle ≡ session_handle (client_at k clients).had
    → Beside k n (changed k (with_started (session_handle next)) clients) (ss ++ renamed (session_handle next) x ∷ []) (next + 1) (ts ++ x ∷ [])
mine_starts k n x clients ss next ts h low four e =
    let new = session_handle next in
    let within : k < length clients = omega (arith, h.count) in
    record {
      count = length-set clients k _ ∙ h.count;
      few = h.few;
      held = subst (λ (c : Client). AreHeld c.sessions (ss ++ renamed new x ∷ []) (ts ++ x ∷ [])) (sym (at_same k (with_started new) clients within))
          (held_starts (session_handle (client_at k clients).had) new x (rows_of k clients) ss ts h.held e (all_from (λ (o : Handles). o.tpm < new) (rows_of k clients) (h.below k)) h.lower);
      apart = λ i b c ne is mine. elim (row_started k i next clients b within is) [
        | inl was ↦ elim (row_started k k next clients c within mine) [
          | inl old ↦ h.apart i b c ne was old
          | inr late ↦ λ same. let before : b.tpm < session_handle next = h.below i b was in omega (arith, late.1)
        ]
        | inr late ↦ absurd (ne late.0)
      ];
      below = below_next k n k next clients ss ts h within;
      lower = lower_next next (renamed new x) ss h.lower refl;
      room = room_starts k new (renamed new x) clients ss within four h.room;
    }

-- another client starts a session
pub other_starts : (k n m : ℕ) (x : Session) (clients : List Client) (ss : List Session) (next : ℕ) (ts : List Session)
    → Beside k n clients ss next ts → m < n → m ≢ k → length (rows_of m clients) < 4 → x.handle ≡ session_handle next
    → Beside k n (changed m (with_started (session_handle next)) clients) (ss ++ x ∷ []) (next + 1) ts
other_starts k n m x clients ss next ts h low ne four e =
    let new = session_handle next in
    let within : m < length clients = omega (arith, h.count) in
    let not : k ≢ m = λ same. ne (sym same) in
    record {
      count = length-set clients m _ ∙ h.count;
      few = h.few;
      held = subst (λ (c : Client). AreHeld c.sessions (ss ++ x ∷ []) ts) (sym (at_other m k (with_started new) clients not)) (held_push x (rows_of k clients) ss ts h.held);
      apart = λ i b c other is mine. elim (row_started m k next clients c within mine) [
        | inl old ↦ elim (row_started m i next clients b within is) [
          | inl was ↦ h.apart i b c other was old
          | inr late ↦ λ same. let before : c.tpm < session_handle next = h.below k c old in omega (arith, late.1)
        ]
        | inr late ↦ absurd (not late.0)
      ];
      below = below_next k n m next clients ss ts h within;
      lower = lower_next next x ss h.lower e;
      room = room_starts m new x clients ss within four h.room;
    }

-- all sessions end
room_all : (clients : List Client) → room_left (map without_all clients) ≡ 4 * length clients
room_all [] = refl
room_all (c ∷ cs) = let rest = room_all cs in omega arith

pub at_all : (i : ℕ) (clients : List Client) → client_at i (map without_all clients) ≡ without_all (client_at i clients)
at_all i clients = get_or-map without_all clients i new_client

pub all_end : (k n : ℕ) (clients : List Client) (ss : List Session) (next : ℕ) (ts : List Session) → Beside k n clients ss next ts → Beside k n (map without_all clients) [] next []
all_end k n clients ss next ts h = record {
  count = length-map clients without_all ∙ h.count;
  few = h.few;
  held = subst (λ (c : Client). AreHeld c.sessions [] []) (sym (at_all k clients)) tt;
  apart = λ i a b ne is mine. absurd (subst (λ (c : Client). IsIn a c.sessions) (at_all i clients) is);
  below = λ i a is. absurd (subst (λ (c : Client). IsIn a c.sessions) (at_all i clients) is);
  lower = tt;
  room = rw (room_all clients) (omega (arith, h.few, h.count));
}
