-- What the broker keeps of its clients.
use Rattle.std.specs.Prelude.{◌≡◌, ℕ, ◌+◌, ◌<◌, ◌≤◌, ◌==◌, Bool, true, List, [], ◌∷◌, ◌++◌, drop, length, get_or, map, remove, slice_set, find, Option}
use Rattle.std.specs.List.{position_or_len}
use Rattle.std.specs.Option.{option_map}
use Rattle.nv_index.specs.Handles.{are_handles}
use Rattle.tpm_model.specs.declared.response.Response.{Response}
use Rattle.tpm_model.specs.declared.response.Response.TheVariants as answer
use Rattle.tpm_model.specs.SessionCommands.{session_handle}
use Rattle.tpm_broker.specs.declared.rows.Handles.{Handles}

-- how many sessions a client has had, and those that are open, by rising handles: each by the client's
-- handle and the TPM's
pub record Client : Type 0 where
  pub had : ℕ
  pub sessions : List Handles

-- a client that has had no session
abbrev pub new_client : Client
new_client = record { had = 0; sessions = [] }

-- whether this is the session that the client calls by this handle
abbrev pub is_own : ℕ → Handles → Bool
is_own own handles = handles.own == own

-- the TPM's handle of the session that the client calls by this one
abbrev pub tpm_handle : ℕ → Client → Option ℕ
tpm_handle own client = option_map (λ (handles : Handles). handles.tpm) (find (is_own own) client.sessions)

-- what is kept of each client: it has had at most 16,777,216 sessions, and at most four are open, whose
-- handles ascend, from that of number 0 to below that of its next
pub record IsClient (client : Client) : Type 0 where
  pub few : length client.sessions ≤ 4
  pub numbers : client.had ≤ 0x01000000
  pub order : are_handles 0x03000000 (session_handle client.had) (map (λ (handles : Handles). handles.own) client.sessions) ≡ true

-- a client may start a session: fewer than four are open, and it has had fewer than 16,777,216
pub record HasRoom (client : Client) : Type 0 where
  pub few : length client.sessions < 4
  pub numbers : client.had < 0x01000000

-- the client with one more session, which the TPM calls by this handle; the client's own handle is that
-- of its number
abbrev pub with_started : ℕ → Client → Client
with_started tpm client = record {
  had = client.had + 1;
  sessions = client.sessions ++ record { own = session_handle client.had; tpm = tpm } ∷ [];
}

-- the client without the session of this handle
abbrev pub without : ℕ → Client → Client
without own client = record { had = client.had; sessions = remove client.sessions (position_or_len (is_own own) client.sessions) }

-- the client without the first n of its sessions
abbrev pub without_first : ℕ → Client → Client
without_first n client = record { had = client.had; sessions = drop n client.sessions }

-- the client without sessions; their numbers stay used
abbrev pub without_all : Client → Client
without_all client = record { had = client.had; sessions = [] }

-- client k
abbrev pub client_at : ℕ → List Client → Client
client_at k clients = get_or clients k new_client

-- the clients after a change of client k
abbrev pub changed : ℕ → (Client → Client) → List Client → List Client
changed k change clients = slice_set clients k (change (client_at k clients))

-- the client has room for the session, where an answer starts one
abbrev pub HasRoomFor : Response → Client → Type 0
HasRoomFor (answer.Session handle) client = HasRoom client
HasRoomFor other client = Unit {0}
