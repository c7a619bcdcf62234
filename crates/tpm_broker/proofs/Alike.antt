-- A command on a session answers and leaves the same whatever the session's handle is.
use Rattle.std.proofs.Common.{◌≡◌, ℕ, ◌^◌, Bool, true, false, cond, not, List, length, refl}
use Rattle.std.specs.Prelude.{Option, None, Some, nat_le, remove}
use Rattle.std.specs.Option.{option_map}
use Rattle.std.specs.Str.{bytes_eq}
use Rattle.hash_bank.specs.declared.bank.Bank.{Bank}
use Rattle.hash_bank.specs.Banks.{has_bank}
use Rattle.nv_index.specs.IndexName.{index_name_of}
use Rattle.nv_index.specs.Table.{index_at}
use Rattle.nv_index.specs.declared.index.Index.{Index}
use Rattle.nv_index.specs.declared.index.NvPublic.{NvPublic}
use Rattle.nv_index.specs.declared.index.Written.{Written}
use Rattle.policy_digest.specs.Policies.{policy_authorize_nv_of, policy_or_of, policy_pcr_of}
use Rattle.tpm_model.specs.declared.object.Object.{Object}
use Rattle.tpm_model.specs.declared.parts.Parts.{Parts}
use Rattle.tpm_model.specs.declared.response.Response.{Response}
use Rattle.tpm_model.specs.declared.response.Response.TheVariants as answer
use Rattle.tpm_model.specs.declared.response.Refusal.{Refusal}
use Rattle.tpm_model.specs.declared.response.Refusal.TheVariants as refusal
use Rattle.tpm_model.specs.declared.sessions.Session.{Session}
use Rattle.tpm_model.specs.declared.trail.TrailEntry.TheVariants as entry
use Rattle.tpm_model.specs.ObjectCommands.{unseal_noted, unseal_of, unseal_on}
use Rattle.tpm_model.specs.SessionCommands.{content_in, digest_on, flush_on, is_wrong_list, noted_before, policy_authorize_nv_at, policy_authorize_nv_by, policy_authorize_nv_on, policy_or_on, policy_pcr_noted, policy_pcr_on, present_digest, with_entry, with_pcrs, with_session}
use Rattle.tpm_model.specs.Sessions.{object_at, session_place}
use Rattle.tpm_broker.proofs.Held.{renamed}

-- the state of a client that is alone: with its own sessions, and the number of its next one
abbrev pub alone_state : ℕ → List Session → Parts → Parts
alone_state next ts s = record s { next_session = next; sessions = ts }

-- the state with other sessions
abbrev pub with_sessions : List Session → Parts → Parts
with_sessions ss s = record s { sessions = ss }

-- what two outcomes have in common, on the TPM under one handle and alone under the other
abbrev pub Both : Type 1
Both = Response × Parts → Response × Parts → Type 0

-- by one test
pub both : (P : Both) (b : Bool) (x y u v : Response × Parts) → P x u → P y v → P (cond b x y) (cond b u v)
both P b x y u v h k = elim b as (λ c. P (cond c x y) (cond c u v)) [ true ↦ h | false ↦ k ]

-- an answer that names no handle, and by which no session starts, changes or ends
abbrev pub is_plain_refusal : Refusal → Bool
is_plain_refusal (refusal.Handle handle) = false
is_plain_refusal why = true

abbrev pub is_plain : Response → Bool
is_plain answer.Done = false
is_plain (answer.Session handle) = false
is_plain (answer.Refused why) = is_plain_refusal why
is_plain response = true

-- with such an answer nothing changes
abbrev pub Stays : Both → Parts → ℕ → List Session → Type 0
Stays P s next ts = (r : Response) → is_plain r ≡ true → P (r, s) (r, alone_state next ts s)

-- a session that isn't there is refused
abbrev pub Misses : Both → ℕ → ℕ → Option Session → Parts → ℕ → List Session → Type 0
Misses P h own o s next ts = o ≡ None → P (answer.Refused (refusal.Handle h), s) (answer.Refused (refusal.Handle own), alone_state next ts s)

-- the session that was found changes
abbrev pub Becomes : Both → ℕ → ℕ → Option Session → Parts → ℕ → List Session → Type 0
Becomes P h own o s next ts = (x : Session) → o ≡ Some x → (y : Session) → y.handle ≡ x.handle
    → P (answer.Done, with_sessions (with_session h (renamed h y) s.sessions) s) (answer.Done, alone_state next (with_session own y ts) s)

-- the session that was found ends
abbrev pub Ends : Both → ℕ → ℕ → Option Session → Parts → ℕ → List Session → Type 0
Ends P h own o s next ts = (x : Session) → o ≡ Some x
    → P (answer.Done, with_sessions (remove s.sessions (session_place h s.sessions)) s) (answer.Done, alone_state next (remove ts (session_place own ts)) s)

pub alike_pcr : (P : Both) (h own : ℕ) (bank : Bank) (pcrs : ℕ) (s : Parts) (next : ℕ) (ts : List Session) (o : Option Session)
    → Stays P s next ts → Misses P h own o s next ts → Becomes P h own o s next ts
    → P (policy_pcr_on (option_map (renamed h) o) h bank pcrs s) (policy_pcr_on o own bank pcrs (alone_state next ts s))
alike_pcr P h own bank pcrs s next ts None stays misses becomes = misses refl
alike_pcr P h own bank pcrs s next ts (Some x) stays misses becomes =
    both P (nat_le (2 ^ 24) pcrs) _ _ _ _ (stays (answer.Refused refusal.Value) refl)
    (both P (not (has_bank s.banks bank)) _ _ _ _ (stays (answer.Refused (refusal.BankAbsent bank)) refl) (noted (noted_before x.noted s.update_counter)))
  where
    noted : (n : Option ℕ) → P (policy_pcr_noted n h (renamed h x) bank pcrs s) (policy_pcr_noted n own x bank pcrs (alone_state next ts s))
    noted (Some n) = stays (answer.Refused (refusal.PcrChanged n s.update_counter)) refl
    noted None =
        let values = present_digest x.hash bank pcrs s in
        both P (nat_le 128 (length x.trail)) _ _ _ _ (stays (answer.Refused refusal.TrailFull) refl)
        (becomes x refl (with_pcrs (policy_pcr_of x.hash x.digest bank pcrs values) s.update_counter (entry.Pcr bank pcrs values) x) refl)

pub alike_or : (P : Both) (h own : ℕ) (list : List (List ℕ)) (s : Parts) (next : ℕ) (ts : List Session) (o : Option Session)
    → Stays P s next ts → Misses P h own o s next ts → Becomes P h own o s next ts
    → P (policy_or_on (option_map (renamed h) o) h list s) (policy_or_on o own list (alone_state next ts s))
alike_or P h own list s next ts None stays misses becomes = misses refl
alike_or P h own list s next ts (Some x) stays misses becomes =
    both P (is_wrong_list x.hash x.digest list) _ _ _ _ (stays (answer.Refused refusal.Value) refl)
    (both P (nat_le 128 (length x.trail)) _ _ _ _ (stays (answer.Refused refusal.TrailFull) refl)
    (becomes x refl (with_entry (policy_or_of x.hash list) (entry.Or list) x) refl))

pub alike_nv : (P : Both) (h own index : ℕ) (s : Parts) (next : ℕ) (ts : List Session) (o : Option Session)
    → Stays P s next ts → Misses P h own o s next ts → Becomes P h own o s next ts
    → P (policy_authorize_nv_on (option_map (renamed h) o) h index s) (policy_authorize_nv_on o own index (alone_state next ts s))
alike_nv P h own index s next ts None stays misses becomes = misses refl
alike_nv P h own index s next ts (Some x) stays misses becomes = at (index_at index s.indices)
  where
    by : (public : NvPublic) (w : Option Written) → P (policy_authorize_nv_by public w h (renamed h x) s) (policy_authorize_nv_by public w own x (alone_state next ts s))
    by public None = stays (answer.Refused refusal.Uninitialized) refl
    by public (Some written) =
        let name = index_name_of public in
        both P (not (bytes_eq written.value (content_in x.hash x.digest))) _ _ _ _ (stays (answer.Refused refusal.Value) refl)
        (both P (nat_le 128 (length x.trail)) _ _ _ _ (stays (answer.Refused refusal.TrailFull) refl)
        (becomes x refl (with_entry (policy_authorize_nv_of x.hash name) (entry.AuthorizeNv name x.digest written.number) x) refl))

    at : (i : Option Index) → P (policy_authorize_nv_at i h (renamed h x) s) (policy_authorize_nv_at i own x (alone_state next ts s))
    at None = stays (answer.Refused refusal.NotDefined) refl
    at (Some i) = by i.public i.written

pub alike_digest : (P : Both) (h own : ℕ) (s : Parts) (next : ℕ) (ts : List Session) (o : Option Session)
    → Stays P s next ts → Misses P h own o s next ts → P (digest_on (option_map (renamed h) o) h s) (digest_on o own (alone_state next ts s))
alike_digest P h own s next ts None stays misses = misses refl
alike_digest P h own s next ts (Some x) stays misses = stays (answer.PolicyDigest x.digest) refl

pub alike_flush : (P : Both) (h own : ℕ) (s : Parts) (next : ℕ) (ts : List Session) (o : Option Session)
    → Misses P h own o s next ts → Ends P h own o s next ts → P (flush_on (option_map (renamed h) o) h s) (flush_on o own (alone_state next ts s))
alike_flush P h own s next ts None misses ends = misses refl
alike_flush P h own s next ts (Some x) misses ends = ends x refl

pub alike_unseal : (P : Both) (h own object : ℕ) (s : Parts) (next : ℕ) (ts : List Session) (o : Option Session)
    → Stays P s next ts → Misses P h own o s next ts
    → P (answer.Refused (refusal.Handle object), s) (answer.Refused (refusal.Handle object), alone_state next ts s)
    → P (unseal_on (option_map (renamed h) o) h object s) (unseal_on o own object (alone_state next ts s))
alike_unseal P h own object s next ts None stays misses lacks = misses refl
alike_unseal P h own object s next ts (Some x) stays misses lacks = at (object_at object s.objects)
  where
    noted : (n : Option ℕ) (sealed : Object) → P (unseal_noted n (renamed h x) sealed s) (unseal_noted n x sealed (alone_state next ts s))
    noted (Some n) sealed = stays (answer.Refused (refusal.PcrChanged n s.update_counter)) refl
    noted None sealed =
        both P (bytes_eq x.digest sealed.policy) _ _ _ _ (stays (answer.Secret sealed.secret) refl) (stays (answer.Refused (refusal.PolicyFail x.digest sealed.policy)) refl)

    at : (i : Option Object) → P (unseal_of i (renamed h x) object s) (unseal_of i x object (alone_state next ts s))
    at None = lacks
    at (Some sealed) = noted (noted_before x.noted s.update_counter) sealed
