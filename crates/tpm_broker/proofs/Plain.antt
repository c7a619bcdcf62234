-- A command that isn't on sessions answers and leaves the same beside other sessions.
use Rattle.std.proofs.Common.{◌≡◌, ℕ, ◌==◌, Bool, true, false, not, List, [], ◌||◌, length, refl}
use Rattle.std.specs.Prelude.{Option, None, Some, Result, Ok, Err, nat_le, nat_lt, slice_get}
use Rattle.hash_bank.specs.declared.bank.Bank.{Bank}
use Rattle.hash_bank.specs.declared.banks.Banks.{Banks}
use Rattle.hash_bank.specs.declared.digests.Digests.{Digests}
use Rattle.nv_index.specs.Table.{define_refusal, read_index, read_public, undefine_refusal, write_refusal}
use Rattle.nv_index.specs.declared.index.NvPublic.{NvPublic}
use Rattle.nv_index.specs.declared.refusal.NvRefusal.{NvRefusal}
use Rattle.policy_digest.specs.Pin.{pin_policy_of}
use Rattle.tpm_model.specs.declared.object.Object.{Object}
use Rattle.tpm_model.specs.declared.parts.Parts.{Parts}
use Rattle.tpm_model.specs.declared.response.Response.{Response}
use Rattle.tpm_model.specs.declared.response.Response.TheVariants as answer
use Rattle.tpm_model.specs.declared.response.Refusal.TheVariants as refusal
use Rattle.tpm_model.specs.declared.sessions.Session.{Session}
use Rattle.tpm_model.specs.IndexCommands.{content_answer, nv_define, nv_define_unless, nv_read, nv_read_public, nv_undefine, nv_undefine_unless, nv_write, nv_write_unless, public_answer}
use Rattle.tpm_model.specs.ObjectCommands.{evict, evict_on, is_policy_size, seal}
use Rattle.tpm_model.specs.PcrCommands.{is_start_locality, pcr_extend, pcr_read, restart, value_or_absent}
use Rattle.tpm_model.specs.Pcrs.{bank_count, pcr_of}
use Rattle.tpm_model.specs.Sessions.{object_place}
use Rattle.tpm_model.specs.StartValues.{start_values}
use Rattle.tpm_broker.proofs.Alike.{Both, alone_state, both}

-- whether an answer starts no session
abbrev pub is_other : Response → Bool
is_other (answer.Session handle) = false
is_other response = true

-- with such an answer a state may be left that has the same sessions
abbrev pub Leaves : Both → Parts → ℕ → List Session → Type 0
Leaves P s next ts = (r : Response) (u : Parts) → is_other r ≡ true → u.sessions ≡ s.sessions → u.next_session ≡ s.next_session → P (r, u) (r, alone_state next ts u)

pub plain_extend : (P : Both) (pcr : ℕ) (digests : Digests) (s : Parts) (next : ℕ) (ts : List Session) → Leaves P s next ts
    → P (pcr_extend pcr digests s) (pcr_extend pcr digests (alone_state next ts s))
plain_extend P pcr digests s next ts leaves =
    both P (nat_lt 23 pcr) _ _ _ _ (leaves _ _ refl refl refl)
    (both P (s.update_counter == 4294967295) _ _ _ _ (leaves _ _ refl refl refl) (leaves _ _ refl refl refl))

pub plain_read : (P : Both) (bank : Bank) (pcr : ℕ) (s : Parts) (next : ℕ) (ts : List Session) → Leaves P s next ts
    → P (pcr_read bank pcr s) (pcr_read bank pcr (alone_state next ts s))
plain_read P bank pcr s next ts leaves = both P (nat_lt 23 pcr) _ _ _ _ (leaves _ _ refl refl refl) (by (pcr_of s.banks s.pcrs bank pcr))
  where
    by : (o : Option (List ℕ)) → P (value_or_absent bank o s) (value_or_absent bank o (alone_state next ts s))
    by None = leaves _ _ refl refl refl
    by (Some value) = leaves _ _ refl refl refl

pub plain_define : (P : Both) (public : NvPublic) (s : Parts) (next : ℕ) (ts : List Session) → Leaves P s next ts
    → P (nv_define public s) (nv_define public (alone_state next ts s))
plain_define P public s next ts leaves = by (define_refusal public s.indices)
  where
    by : (o : Option NvRefusal) → P (nv_define_unless o public s) (nv_define_unless o public (alone_state next ts s))
    by None = leaves _ _ refl refl refl
    by (Some why) = leaves _ _ refl refl refl

pub plain_undefine : (P : Both) (index : ℕ) (s : Parts) (next : ℕ) (ts : List Session) → Leaves P s next ts
    → P (nv_undefine index s) (nv_undefine index (alone_state next ts s))
plain_undefine P index s next ts leaves = by (undefine_refusal index s.indices)
  where
    by : (o : Option NvRefusal) → P (nv_undefine_unless o index s) (nv_undefine_unless o index (alone_state next ts s))
    by None = leaves _ _ refl refl refl
    by (Some why) = leaves _ _ refl refl refl

pub plain_write : (P : Both) (index : ℕ) (pin value : List ℕ) (s : Parts) (next : ℕ) (ts : List Session) → Leaves P s next ts
    → P (nv_write index pin value s) (nv_write index pin value (alone_state next ts s))
plain_write P index pin value s next ts leaves = by (write_refusal index (pin_policy_of pin) value s.indices)
  where
    by : (o : Option NvRefusal) → P (nv_write_unless o index value s) (nv_write_unless o index value (alone_state next ts s))
    by None = both P (s.write_counter == 4294967295) _ _ _ _ (leaves _ _ refl refl refl) (leaves _ _ refl refl refl)
    by (Some why) = leaves _ _ refl refl refl

pub plain_content : (P : Both) (index : ℕ) (s : Parts) (next : ℕ) (ts : List Session) → Leaves P s next ts
    → P (nv_read index s) (nv_read index (alone_state next ts s))
plain_content P index s next ts leaves = by (read_index index s.indices)
  where
    by : (o : Result (List ℕ) NvRefusal) → P (content_answer o index s) (content_answer o index (alone_state next ts s))
    by (Ok value) = leaves _ _ refl refl refl
    by (Err why) = leaves _ _ refl refl refl

pub plain_public : (P : Both) (index : ℕ) (s : Parts) (next : ℕ) (ts : List Session) → Leaves P s next ts
    → P (nv_read_public index s) (nv_read_public index (alone_state next ts s))
plain_public P index s next ts leaves = by (read_public index s.indices)
  where
    by : (o : Result NvPublic NvRefusal) → P (public_answer o index s) (public_answer o index (alone_state next ts s))
    by (Ok value) = leaves _ _ refl refl refl
    by (Err why) = leaves _ _ refl refl refl

pub plain_seal : (P : Both) (policy secret : List ℕ) (s : Parts) (next : ℕ) (ts : List Session) → Leaves P s next ts
    → P (seal policy secret s) (seal policy secret (alone_state next ts s))
plain_seal P policy secret s next ts leaves =
    both P (length secret == 0) _ _ _ _ (leaves _ _ refl refl refl)
    (both P (not (is_policy_size (length policy))) _ _ _ _ (leaves _ _ refl refl refl)
    (both P (nat_le 64 (length s.objects)) _ _ _ _ (leaves _ _ refl refl refl)
    (both P (nat_le 0x00800000 s.next_object) _ _ _ _ (leaves _ _ refl refl refl) (leaves _ _ refl refl refl))))

pub plain_evict : (P : Both) (handle : ℕ) (s : Parts) (next : ℕ) (ts : List Session) → Leaves P s next ts
    → P (evict handle s) (evict handle (alone_state next ts s))
plain_evict P handle s next ts leaves = by (slice_get s.objects (object_place handle s.objects))
  where
    by : (o : Option Object) → P (evict_on o handle s) (evict_on o handle (alone_state next ts s))
    by None = leaves _ _ refl refl refl
    by (Some sealed) = leaves _ _ refl refl refl

-- a restart leaves no session
abbrev pub restarted : ℕ → Banks → Parts → Parts
restarted locality banks s = record s { banks = banks; pcrs = start_values banks locality; update_counter = 0; sessions = [] }

pub plain_restart : (P : Both) (locality : ℕ) (banks : Banks) (s : Parts) (next : ℕ) (ts : List Session)
    → P (answer.Refused refusal.Value, s) (answer.Refused refusal.Value, alone_state next ts s)
    → P (answer.Done, restarted locality banks s) (answer.Done, alone_state next [] (restarted locality banks s))
    → P (restart locality banks s) (restart locality banks (alone_state next ts s))
plain_restart P locality banks s next ts bad good = both P (not (is_start_locality locality) || bank_count banks == 0) _ _ _ _ bad good
