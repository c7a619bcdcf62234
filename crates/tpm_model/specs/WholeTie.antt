-- How a state with indices, their writes and the trails of sessions hangs together with the world.
use Rattle.std.specs.Prelude.{◌≡◌, ◌⊎◌, ◌↔◌, ℕ, ◌^◌, ◌<◌, ◌≤◌, List, [], ◌∷◌, reverse, Contains, Option, None, Some}
use Rattle.std.specs.FinMap.{get}
use Rattle.std.specs.List.{AllByRecursion}
use Rattle.hash_bank.specs.declared.bank.Bank.{Bank}
use Rattle.hash_bank.specs.declared.bank.Bank.TheVariants.{Sha256}
use Rattle.nv_index.specs.IndexName.{index_name_of, index_string, written_public}
use Rattle.nv_index.specs.Table.{index_at}
use Rattle.nv_index.specs.declared.index.Index.{Index}
use Rattle.nv_index.specs.declared.index.Written.{Written}
use Rattle.policy_digest.specs.BindingStrings.{bind_strings}
use Rattle.policy_digest.specs.Pin.{pin_policy_of}
use Rattle.policy_digest.specs.PlainTable.{PlainTable, root_of}
use Rattle.policy_digest.specs.TableStrings.{table_strings}
use Rattle.tpm_model.specs.declared.parts.Parts.{Parts}
use Rattle.tpm_model.specs.declared.sessions.Session.{Session}
use Rattle.tpm_model.specs.declared.trail.TrailEntry.{TrailEntry}
use Rattle.tpm_model.specs.declared.trail.TrailEntry.TheVariants.{Pcr, Or, AuthorizeNv}
use Rattle.tpm_model.specs.Events.{content_of_table}
use Rattle.tpm_model.specs.Strings.{joined_values}
use Rattle.tpm_model.specs.Trails.{digest_of_in, entry_string_in}
use Rattle.tpm_model.specs.ValidTable.{IsValidTable}
use Rattle.tpm_model.specs.World.{AreHashed, FiledPolicy, LiveIndex, PolicyUpdate, World}

-- the state's index of this handle is written with a pin of policies, and its write is one of the
-- program's, of this table
pub record IsLive (s : Parts) (w : World) (handle : ℕ) (live : LiveIndex) : Type 0 where
  pub index : Index
  pub found : index_at handle s.indices ≡ Some index
  pub written : Written
  pub was : index.written ≡ Some written
  pub policy : index.public.policy ≡ pin_policy_of live.pin
  pub known : Contains w.pins live.pin
  pub update : Contains w.writes (record { number = written.number; handle = handle; pin = live.pin; table = live.table })

-- the state's index of this handle holds the root of the newest table
pub record HoldsRoot (s : Parts) (handle : ℕ) (table : PlainTable) : Type 0 where
  pub index : Index
  pub found : index_at handle s.indices ≡ Some index
  pub written : Written
  pub was : index.written ≡ Some written
  pub content : written.value ≡ content_of_table table

-- an index was written with a pin that a stranger presented
pub record IsStrange (w : World) (index : Index) : Type 0 where
  pub pin : List ℕ
  pub presented : Contains w.strange pin
  pub policy : index.public.policy ≡ pin_policy_of pin

-- every number is one of the writes so far, every table is valid, and every handle has 32 bits
pub record IsSoundUpdate (s : Parts) (update : PolicyUpdate) : Type 0 where
  pub number : update.number ≤ s.write_counter
  pub handle : update.handle < 2 ^ 32
  pub table : IsValidTable update.table

-- how the indices hang together with the updates
pub record TiedIndices (s : Parts) (w : World) : Type 0 where
  -- an index is live exactly where its last write is the program's
  pub live : (handle : ℕ) (live : LiveIndex) → (get w.live handle ≡ Some live) ↔ IsLive s w handle live
  pub roots : (handle : ℕ) (live : LiveIndex) → get w.live handle ≡ Some live → HoldsRoot s handle live.table
  pub updates : (update : PolicyUpdate) → Contains w.writes update → IsSoundUpdate s update
  -- every other written index is a stranger's
  pub others : (index : Index) (written : Written) → Contains s.indices index → index.written ≡ Some written
      → ((live : LiveIndex) × (get w.live index.public.handle ≡ Some live)) ⊎ IsStrange w index

-- a digest that was read is the root of a table that the program wrote then, or a stranger wrote it
abbrev pub IsWriteOf : World → ℕ → ℕ → List ℕ → List ℕ → Type 0
IsWriteOf w number handle pin digest =
    (Contains w.pins pin × ((table : PlainTable) × Contains w.writes (record { number = number; handle = handle; pin = pin; table = table }) × (root_of table ≡ digest)))
    ⊎ Contains w.strange pin

-- an entry of PolicyAuthorizeNV is by a written index, whose Name's string was hashed
pub record IsTiedRead (w : World) (index content : List ℕ) (number : ℕ) : Type 0 where
  pub handle : ℕ
  pub range : handle < 2 ^ 32
  pub pin : List ℕ
  pub name : index ≡ index_name_of (written_public handle (pin_policy_of pin))
  pub string : Contains w.hashed (record { hash = Sha256; bytes = index_string (written_public handle (pin_policy_of pin)) })
  pub write : IsWriteOf w number handle pin content

-- what an entry says of the world besides
abbrev pub IsTiedEntry : World → TrailEntry → Type 0
IsTiedEntry w (Pcr bank pcrs values) = Unit {0}
IsTiedEntry w (Or list) = Unit {0}
IsTiedEntry w (AuthorizeNv name digest written) = IsTiedRead w name digest written

-- the entries, newest first: each is tied, and the string of the digest that it gives was hashed
abbrev pub AreTiedEntries : World → Bank → List TrailEntry → Type 0
AreTiedEntries w hash [] = Unit {0}
AreTiedEntries w hash (entry ∷ entries) =
    IsTiedEntry w entry
    × Contains w.hashed (record { hash = hash; bytes = entry_string_in hash (digest_of_in hash entries) entry })
    × AreTiedEntries w hash entries

-- the joined present values of an entry's PCRs were hashed
abbrev pub HasHashedValues : Parts → World → Bank → TrailEntry → Type 0
HasHashedValues s w hash (Pcr bank pcrs values) = Contains w.hashed (record { hash = hash; bytes = joined_values bank pcrs s })
HasHashedValues s w hash (Or list) = Unit {0}
HasHashedValues s w hash (AuthorizeNv name digest written) = Unit {0}

-- how a session hangs together with the world
pub record IsTiedSession (s : Parts) (w : World) (session : Session) : Type 0 where
  pub entries : AreTiedEntries w session.hash (reverse session.trail)
  pub values : session.noted ≡ Some s.update_counter → AllByRecursion (HasHashedValues s w session.hash) session.trail

-- the strings of what a policy file states were hashed
abbrev pub IsFiledHashed : World → Option FiledPolicy → Type 0
IsFiledHashed w None = Unit {0}
IsFiledHashed w (Some filed) = AllByRecursion (λ (table : PlainTable). AreHashed w (table_strings table)) filed.tables × AreHashed w (bind_strings filed.handle filed.pin)
