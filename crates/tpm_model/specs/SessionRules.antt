-- The rules on sessions.
use Rattle.std.specs.Prelude.{ℕ, ◌+◌, nat_le, ◌==◌, Bool, true, false, not, ◌&&◌, if◌then◌else◌, List, [], ◌∷◌, map, reverse, Option, None, Some}
use Rattle.std.specs.List.{list_all, list_any}
use Rattle.std.specs.Str.{bytes_eq}
use Rattle.hash_bank.specs.declared.bank.Bank.{Bank}
use Rattle.hash_bank.specs.declared.bank.Bank.TheVariants.{Sha1, Sha256, Sha384, Sha512}
use Rattle.hash_bank.specs.Banks.{has_bank}
use Rattle.nv_index.specs.declared.index.Index.{Index}
use Rattle.nv_index.specs.declared.index.Written.{Written}
use Rattle.nv_index.specs.declared.index.NvPublic.{NvPublic}
use Rattle.nv_index.specs.IndexName.{index_name_of}
use Rattle.tpm_model.specs.declared.trail.TrailEntry.{TrailEntry}
use Rattle.tpm_model.specs.declared.trail.TrailEntry.TheVariants.{Pcr, Or, AuthorizeNv}
use Rattle.tpm_model.specs.declared.sessions.Session.{Session}
use Rattle.tpm_model.specs.declared.parts.Parts.{Parts}
use Rattle.nv_index.specs.Handles.{are_handles}
use Rattle.tpm_model.specs.Pcrs.{present_digest_in}
use Rattle.tpm_model.specs.Trails.{digest_of_in, has_pcr_entry, trail_digest}

-- the sessions' handles ascend, from that of number 0 to below the next
abbrev pub keeps_session_order : Parts → Bool
keeps_session_order s = are_handles 0x03000000 (0x03000000 + s.next_session) (map (λ (session : Session). session.handle) s.sessions)

-- whether a session's digest is what its trail leads to from zeros
abbrev pub is_folded : Session → Bool
is_folded session = bytes_eq session.digest (trail_digest session.hash session.trail)

-- each session's digest is the fold of its trail, under its hash
abbrev pub keeps_fold : Parts → Bool
keeps_fold s = list_all is_folded s.sessions

-- whether an entry, where it is a PolicyOR, lists this digest
abbrev pub lists_digest : List ℕ → TrailEntry → Bool
lists_digest before (Pcr bank pcrs values) = true
lists_digest before (Or list) = list_any (bytes_eq before) list
lists_digest before (AuthorizeNv name digest written) = true

-- whether each PolicyOR among the entries, newest first, lists the digest before it
abbrev pub are_members : Bank → List TrailEntry → Bool
are_members hash [] = true
are_members hash (entry ∷ entries) = lists_digest (digest_of_in hash entries) entry && are_members hash entries

-- whether that is so of a session
abbrev pub has_members : Session → Bool
has_members session = are_members session.hash (reverse session.trail)

-- each list of a PolicyOR holds the digest before it
abbrev pub keeps_or_member : Parts → Bool
keeps_or_member s = list_all has_members s.sessions

-- whether a counter is noted exactly where the trail looked at PCRs, and is at most this one
abbrev pub is_noted_by : Option ℕ → ℕ → List TrailEntry → Bool
is_noted_by None now trail = not (has_pcr_entry trail)
is_noted_by (Some noted) now trail = has_pcr_entry trail && nat_le noted now

-- whether that is so of a session
abbrev pub is_noted : ℕ → Session → Bool
is_noted now session = is_noted_by session.noted now session.trail

-- each session notes the update counter exactly where it looked at PCRs, and none above the present one
abbrev pub keeps_noted : Parts → Bool
keeps_noted s = list_all (is_noted s.update_counter) s.sessions

-- whether an entry, where it looked at PCRs, saw what they hold now
abbrev pub saw_present : Parts → Bank → TrailEntry → Bool
saw_present s hash (Pcr bank pcrs values) = has_bank s.banks bank && bytes_eq values (present_digest_in hash bank pcrs s.banks s.pcrs)
saw_present s hash (Or list) = true
saw_present s hash (AuthorizeNv name digest written) = true

-- whether a counter is noted, and is this one
abbrev pub is_now : Option ℕ → ℕ → Bool
is_now None now = false
is_now (Some noted) now = noted == now

-- whether a session that looked at PCRs since the last extend saw what they hold now
abbrev pub is_up_to_date : Parts → Session → Bool
is_up_to_date s session = if is_now session.noted s.update_counter then list_all (saw_present s session.hash) session.trail else true

-- where the noted counter is the present one, each look at PCRs saw what they hold now
abbrev pub keeps_pcr_now : Parts → Bool
keeps_pcr_now s = list_all (is_up_to_date s) s.sessions

-- whether a hash is SHA-256
abbrev pub is_sha256 : Bank → Bool
is_sha256 Sha1 = false
is_sha256 Sha256 = true
is_sha256 Sha384 = false
is_sha256 Sha512 = false

-- whether a write, where it has this number, is of this digest into the index with this Name
abbrev pub is_that_write : List ℕ → List ℕ → ℕ → NvPublic → Option Written → Bool
is_that_write name digest number public None = true
is_that_write name digest number public (Some written) =
    if written.number == number
    then bytes_eq name (index_name_of public) && bytes_eq written.value (0x00 ∷ 0x0B ∷ digest)
    else true

-- the same of an index's last write
abbrev pub agrees_with : List ℕ → List ℕ → ℕ → Index → Bool
agrees_with name digest number index = is_that_write name digest number index.public index.written

-- whether an entry, where it is a PolicyAuthorizeNV, is in a session of SHA-256, read the digest
-- before it, and agrees with the write that it read where that is still an index's last
abbrev pub is_read : Parts → Bank → List ℕ → TrailEntry → Bool
is_read s hash before (Pcr bank pcrs values) = true
is_read s hash before (Or list) = true
is_read s hash before (AuthorizeNv name digest written) =
    ((is_sha256 hash && bytes_eq digest before) && (nat_le 1 written && nat_le written s.write_counter))
    && list_all (agrees_with name digest written) s.indices

-- whether that is so of each of the entries, newest first
abbrev pub are_reads : Parts → Bank → List TrailEntry → Bool
are_reads s hash [] = true
are_reads s hash (entry ∷ entries) = is_read s hash (digest_of_in hash entries) entry && are_reads s hash entries

-- whether that is so of a session
abbrev pub has_reads : Parts → Session → Bool
has_reads s session = are_reads s session.hash (reverse session.trail)

-- each PolicyAuthorizeNV read what an index held then
abbrev pub keeps_nv_now : Parts → Bool
keeps_nv_now s = list_all (has_reads s) s.sessions
