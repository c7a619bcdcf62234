-- What the layout of a state can hold: how many there are of each, and of which size. The rules of a
-- state are another matter.
use Rattle.std.specs.Prelude.{◌≡◌, ◌⊎◌, ℕ, ◌<◌, ◌≤◌, ◌^◌, true, false, List, Option, None, Some, length}
use Rattle.std.specs.List.{AllByRecursion}
use Rattle.hash_bank.specs.declared.bank.Bank.{Bank}
use Rattle.hash_bank.specs.Hash.{size_in}
use Rattle.nv_index.specs.declared.index.Index.{Index}
use Rattle.nv_index.specs.declared.index.Written.{Written}
use Rattle.nv_index.specs.Table.{has_written}
use Rattle.policy_digest.specs.Policies.{IsPolicyHash}
use Rattle.tpm_model.specs.declared.trail.TrailEntry.{TrailEntry}
use Rattle.tpm_model.specs.declared.trail.TrailEntry.TheVariants.{Pcr, Or, AuthorizeNv}
use Rattle.tpm_model.specs.declared.sessions.Session.{Session}
use Rattle.tpm_model.specs.declared.object.Object.{Object}
use Rattle.tpm_model.specs.declared.parts.Parts.{Parts}
use Rattle.tpm_model.specs.Pcrs.{HasValues}

-- a mask selects some of 24 PCRs, and the digest of their values has the size of the session's hash
pub record IsPcrShape (hash : Bank) (pcrs : ℕ) (seen : List ℕ) : Type 0 where
  pub mask : pcrs < 2 ^ 24
  pub values : length seen ≡ size_in hash

-- two to eight digests of the size of the session's hash
pub record IsOrShape (hash : Bank) (list : List (List ℕ)) : Type 0 where
  pub two : 2 ≤ length list
  pub eight : length list ≤ 8
  pub sizes : AllByRecursion (λ (digest : List ℕ). length digest ≡ size_in hash) list

-- the digests in an index's Name and in its content are those of SHA-256
pub record IsReadShape (index content : List ℕ) : Type 0 where
  pub name : length index ≡ 32
  pub digest : length content ≡ 32

-- an entry in the trail of a session of the hash
abbrev pub IsEntryShape : Bank → TrailEntry → Type 0
IsEntryShape hash (Pcr bank pcrs values) = IsPcrShape hash pcrs values
IsEntryShape hash (Or list) = IsOrShape hash list
IsEntryShape hash (AuthorizeNv name digest written) = IsReadShape name digest

-- a session's hash is one of policies, its digest has the hash's size, and its trail has at most 128
-- entries
pub record IsSessionShape (session : Session) : Type 0 where
  pub hash : IsPolicyHash session.hash
  pub digest : length session.digest ≡ size_in session.hash
  pub trail : length session.trail ≤ 128
  pub entries : AllByRecursion (IsEntryShape session.hash) session.trail

-- an index has a last write exactly where its attributes have WRITTEN, and the content has 34 bytes
abbrev pub IsWrittenShape : ℕ → Option Written → Type 0
IsWrittenShape attributes None = has_written attributes ≡ false
IsWrittenShape attributes (Some written) = (has_written attributes ≡ true) × (length written.value ≡ 34)

-- an index's policy has 32 bytes
pub record IsIndexShape (index : Index) : Type 0 where
  pub policy : length index.public.policy ≡ 32
  pub written : IsWrittenShape index.public.attributes index.written

-- an object's policy has the size of a session's digest, and its secret has at most 128 bytes
pub record IsObjectShape (object : Object) : Type 0 where
  pub policy : (length object.policy ≡ 32) ⊎ (length object.policy ≡ 48)
  pub secret : length object.secret ≤ 128

-- 24 values of its size for each present bank; at most 64 sessions, 16 indices and 64 objects, each of
-- its shape; and counters of 32 bits
pub record HasShape (s : Parts) : Type 0 where
  pub values : HasValues s.banks s.pcrs
  pub updates : s.update_counter < 2 ^ 32
  pub writes : s.write_counter < 2 ^ 32
  pub session_count : length s.sessions ≤ 64
  pub sessions : AllByRecursion IsSessionShape s.sessions
  pub index_count : length s.indices ≤ 16
  pub indices : AllByRecursion IsIndexShape s.indices
  pub object_count : length s.objects ≤ 64
  pub objects : AllByRecursion IsObjectShape s.objects
