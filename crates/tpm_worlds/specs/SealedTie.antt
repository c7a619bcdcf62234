-- How a state with policy sessions hangs together with the world, where nothing is said of what
-- indices hold.
use Rattle.std.specs.Prelude.{◌≡◌, ℕ, List, [], ◌∷◌, reverse, Contains, Some}
use Rattle.std.specs.List.{AllByRecursion}
use Rattle.hash_bank.specs.declared.bank.Bank.{Bank}
use Rattle.hash_bank.specs.declared.bank.Bank.TheVariants.{Sha256}
use Rattle.nv_index.specs.IndexName.{index_name_of, index_string}
use Rattle.nv_index.specs.declared.index.NvPublic.{NvPublic}
use Rattle.tpm_model.specs.declared.parts.Parts.{Parts}
use Rattle.tpm_model.specs.declared.sessions.Session.{Session}
use Rattle.tpm_model.specs.declared.trail.TrailEntry.{TrailEntry}
use Rattle.tpm_model.specs.declared.trail.TrailEntry.TheVariants.{Pcr, Or, AuthorizeNv}
use Rattle.tpm_model.specs.Tied.{Tied}
use Rattle.tpm_model.specs.Trails.{digest_of_in, entry_string_in}
use Rattle.tpm_model.specs.WholeTie.{HasHashedValues, IsFiledHashed}
use Rattle.tpm_model.specs.World.{World}

-- a Name is that of a public area whose string was hashed
pub record IsHashedName (w : World) (name : List ℕ) : Type 0 where
  pub area : NvPublic
  pub same : name ≡ index_name_of area
  pub string : Contains w.hashed (record { hash = Sha256; bytes = index_string area })

-- what an entry says of the strings besides
abbrev pub IsHashedEntry : World → TrailEntry → Type 0
IsHashedEntry w (Pcr bank pcrs values) = Unit {0}
IsHashedEntry w (Or list) = Unit {0}
IsHashedEntry w (AuthorizeNv name digest written) = IsHashedName w name

-- the entries, newest first: the string of the digest that each gives was hashed
abbrev pub AreHashedEntries : World → Bank → List TrailEntry → Type 0
AreHashedEntries w hash [] = Unit {0}
AreHashedEntries w hash (entry ∷ entries) =
    IsHashedEntry w entry
    × Contains w.hashed (record { hash = hash; bytes = entry_string_in hash (digest_of_in hash entries) entry })
    × AreHashedEntries w hash entries

-- the strings of a session's trail were hashed; while no PCR was extended since the session looked at
-- some, so were the joined values that it saw
pub record IsHashedSession (s : Parts) (w : World) (session : Session) : Type 0 where
  pub entries : AreHashedEntries w session.hash (reverse session.trail)
  pub values : session.noted ≡ Some s.update_counter → AllByRecursion (HasHashedValues s w session.hash) session.trail

-- the state and the world hang together, with sealed objects and the trails of sessions
pub record SealedTie (s : Parts) (w : World) : Type 0 where
  pub base : Tied s w
  pub sessions : AllByRecursion (IsHashedSession s w) s.sessions
  pub filed : IsFiledHashed w w.filed
