-- What the commands on policy sessions answer and leave.
use Rattle.std.specs.Prelude.{ℕ, ◌+◌, ◌^◌, nat_le, ◌==◌, not, if◌then◌else◌, List, [], ◌∷◌, ◌++◌, length, remove, slice_set, Option, None, Some, Bool, nat_lt, ◌||◌}
use Rattle.std.specs.Int.{w16, to_be_bytes}
use Rattle.std.specs.List.{list_all, list_any}
use Rattle.std.specs.Str.{bytes_eq}
use Rattle.hash_bank.specs.declared.bank.Bank.{Bank}
use Rattle.hash_bank.specs.Banks.{has_bank}
use Rattle.hash_bank.specs.Hash.{algorithm_in, size_in}
use Rattle.nv_index.specs.IndexName.{index_name_of}
use Rattle.nv_index.specs.Table.{index_at}
use Rattle.nv_index.specs.declared.index.Index.{Index}
use Rattle.nv_index.specs.declared.index.NvPublic.{NvPublic}
use Rattle.nv_index.specs.declared.index.Written.{Written}
use Rattle.policy_digest.specs.Policies.{policy_authorize_nv_of, policy_or_of, policy_pcr_of}
use Rattle.tpm_model.specs.declared.response.Response.{Response}
use Rattle.tpm_model.specs.declared.response.Response.TheVariants as answer
use Rattle.tpm_model.specs.declared.response.Refusal.TheVariants as refusal
use Rattle.tpm_model.specs.declared.trail.TrailEntry.{TrailEntry}
use Rattle.tpm_model.specs.declared.trail.TrailEntry.TheVariants as entry
use Rattle.tpm_model.specs.declared.sessions.Session.{Session}
use Rattle.tpm_model.specs.declared.parts.Parts.{Parts}
use Rattle.tpm_model.specs.Pcrs.{present_digest_in}
use Rattle.tpm_model.specs.Sessions.{is_session_hash, fresh_session, session_place, session_at}
use Rattle.tpm_model.specs.Refusing.{refused}

-- the handle of the session with this number
abbrev pub session_handle : ℕ → ℕ
session_handle number = 0x03000000 + number

-- a new session of the hash (TPM 2.0 Library Part 3, TPM2_StartAuthSession)
abbrev pub start_session : Bank → Parts → Response × Parts
start_session hash s =
    if not (is_session_hash hash) then refused refusal.Value s
    else if nat_le 64 (length s.sessions) then refused refusal.SessionsFull s
    else if nat_le 0x01000000 s.next_session then refused refusal.HandlesEnd s
    else (
      answer.Session (session_handle s.next_session),
      record s {
        next_session = s.next_session + 1;
        sessions = s.sessions ++ fresh_session hash (session_handle s.next_session) ∷ [];
      },
    )

-- the counter that was noted, where it isn't this one
abbrev pub noted_before : Option ℕ → ℕ → Option ℕ
noted_before None now = None
noted_before (Some noted) now = if noted == now then None else Some noted

-- the session with another digest and one more entry, and with this counter noted
abbrev pub with_pcrs : List ℕ → ℕ → TrailEntry → Session → Session
with_pcrs digest now entry session =
    record session { digest = digest; noted = Some now; trail = session.trail ++ entry ∷ [] }

-- the sessions with this one in place of the one of the handle
abbrev pub with_session : ℕ → Session → List Session → List Session
with_session handle session sessions = slice_set sessions (session_place handle sessions) session

-- the digest of the mask's present values, under the hash
abbrev pub present_digest : Bank → Bank → ℕ → Parts → List ℕ
present_digest hash bank pcrs s = present_digest_in hash bank pcrs s.banks s.pcrs

-- PolicyPCR on a session whose noted counter is the present one or none
abbrev pub policy_pcr_now : ℕ → Session → Bank → ℕ → Parts → Response × Parts
policy_pcr_now handle session bank pcrs s =
    if nat_le 128 (length session.trail) then refused refusal.TrailFull s
    else let values = present_digest session.hash bank pcrs s in (
      answer.Done,
      record s {
        sessions = with_session handle (with_pcrs
            (policy_pcr_of session.hash session.digest bank pcrs values) s.update_counter (entry.Pcr bank pcrs values) session) s.sessions;
      },
    )

-- PolicyPCR where the session noted that other counter, or none
abbrev pub policy_pcr_noted : Option ℕ → ℕ → Session → Bank → ℕ → Parts → Response × Parts
policy_pcr_noted (Some noted) handle session bank pcrs s = refused (refusal.PcrChanged noted s.update_counter) s
policy_pcr_noted None handle session bank pcrs s = policy_pcr_now handle session bank pcrs s

-- PolicyPCR on the session that was found
abbrev pub policy_pcr_on : Option Session → ℕ → Bank → ℕ → Parts → Response × Parts
policy_pcr_on None handle bank pcrs s = refused (refusal.Handle handle) s
policy_pcr_on (Some session) handle bank pcrs s =
    if nat_le (2 ^ 24) pcrs then refused refusal.Value s
    else if not (has_bank s.banks bank) then refused (refusal.BankAbsent bank) s
    else policy_pcr_noted (noted_before session.noted s.update_counter) handle session bank pcrs s

-- binds a session to the present values of the mask's PCRs (TPM 2.0 Library Part 3, TPM2_PolicyPCR)
abbrev pub policy_pcr : ℕ → Bank → ℕ → Parts → Response × Parts
policy_pcr handle bank pcrs s = policy_pcr_on (session_at handle s.sessions) handle bank pcrs s

-- the digest of the session that was found
abbrev pub digest_on : Option Session → ℕ → Parts → Response × Parts
digest_on None handle s = refused (refusal.Handle handle) s
digest_on (Some session) handle s = (answer.PolicyDigest session.digest, s)

-- the digest of a session (TPM 2.0 Library Part 3, TPM2_PolicyGetDigest)
abbrev pub policy_get_digest : ℕ → Parts → Response × Parts
policy_get_digest handle s = digest_on (session_at handle s.sessions) handle s

-- the end of the session that was found
abbrev pub flush_on : Option Session → ℕ → Parts → Response × Parts
flush_on None handle s = refused (refusal.Handle handle) s
flush_on (Some session) handle s =
    (answer.Done, record s { sessions = remove s.sessions (session_place handle s.sessions) })

-- ends a session (TPM 2.0 Library Part 3, TPM2_FlushContext)
abbrev pub flush_session : ℕ → Parts → Response × Parts
flush_session handle s = flush_on (session_at handle s.sessions) handle s

-- a session with another digest and one more entry
abbrev pub with_entry : List ℕ → TrailEntry → Session → Session
with_entry digest entry session = record session { digest = digest; trail = session.trail ++ entry ∷ [] }

-- whether a digest has the hash's size
abbrev pub has_size : Bank → List ℕ → Bool
has_size hash digest = length digest == size_in hash

-- whether a list for PolicyOR has fewer than two digests, one that isn't of the session's size, or
-- none that is the session's
unfoldable pub is_wrong_list : Bank → List ℕ → List (List ℕ) → Bool
is_wrong_list hash digest list = nat_lt (length list) 2 || not (list_all (has_size hash) list) || not (list_any (bytes_eq digest) list)

-- PolicyOR on the session that was found
abbrev pub policy_or_on : Option Session → ℕ → List (List ℕ) → Parts → Response × Parts
policy_or_on None handle list s = refused (refusal.Handle handle) s
policy_or_on (Some session) handle list s =
    if is_wrong_list session.hash session.digest list then refused refusal.Value s
    else if nat_le 128 (length session.trail) then refused refusal.TrailFull s
    else (
      answer.Done,
      record s { sessions = with_session handle (with_entry (policy_or_of session.hash list) (entry.Or list) session) s.sessions },
    )

-- goes on where the session's digest is one of the list (TPM 2.0 Library Part 3, TPM2_PolicyOR)
abbrev pub policy_or : ℕ → List (List ℕ) → Parts → Response × Parts
policy_or handle list s = policy_or_on (session_at handle s.sessions) handle list s

-- the content that a session of the hash with this digest meets: the hash's algorithm, and the digest
abbrev pub content_in : Bank → List ℕ → List ℕ
content_in hash digest = to_be_bytes w16 (algorithm_in hash) ++ digest

-- PolicyAuthorizeNV by an index with this public area and last write
abbrev pub policy_authorize_nv_by : NvPublic → Option Written → ℕ → Session → Parts → Response × Parts
policy_authorize_nv_by public None handle session s = refused refusal.Uninitialized s
policy_authorize_nv_by public (Some written) handle session s =
    if not (bytes_eq written.value (content_in session.hash session.digest)) then refused refusal.Value s
    else if nat_le 128 (length session.trail) then refused refusal.TrailFull s
    else let name = index_name_of public in (
      answer.Done,
      record s {
        sessions = with_session handle (with_entry
            (policy_authorize_nv_of session.hash name) (entry.AuthorizeNv name session.digest written.number) session) s.sessions;
      },
    )

-- PolicyAuthorizeNV by the index that was found
abbrev pub policy_authorize_nv_at : Option Index → ℕ → Session → Parts → Response × Parts
policy_authorize_nv_at None handle session s = refused refusal.NotDefined s
policy_authorize_nv_at (Some index) handle session s = policy_authorize_nv_by index.public index.written handle session s

-- PolicyAuthorizeNV on the session that was found
abbrev pub policy_authorize_nv_on : Option Session → ℕ → ℕ → Parts → Response × Parts
policy_authorize_nv_on None handle index s = refused (refusal.Handle handle) s
policy_authorize_nv_on (Some session) handle index s = policy_authorize_nv_at (index_at index s.indices) handle session s

-- goes on where the session's digest is the index's content (TPM 2.0 Library Part 3,
-- TPM2_PolicyAuthorizeNV)
abbrev pub policy_authorize_nv : ℕ → ℕ → Parts → Response × Parts
policy_authorize_nv handle index s = policy_authorize_nv_on (session_at handle s.sessions) handle index s
