-- The whole of a state file: which bytes spell which parts of a state, and how they are read.
use Rattle.std.specs.Prelude.{◌≡◌, ℕ, ◌^◌, ◌<◌, ◌≤◌, ◌==◌, if◌then◌else◌, List, [], ◌∷◌, ◌++◌, length, Result, Ok, Err}
use Rattle.std.specs.List.{AllByRecursion}
use Rattle.nv_index.specs.declared.index.Index.{Index}
use Rattle.pl_layout.specs.Reading.{◌>>=◌, byte_at}
use Rattle.tpm_model.specs.declared.object.Object.{Object}
use Rattle.tpm_model.specs.declared.parts.Parts.{Parts}
use Rattle.tpm_model.specs.declared.sessions.Session.{Session}
use Rattle.tpm_model.specs.Pcrs.{HasValues}
use Rattle.tpm_state.specs.declared.error.DecodeError.{DecodeError}
use Rattle.tpm_state.specs.declared.version.Version.{Version}
use Rattle.tpm_state.specs.declared.header.Counters.{Counters}
use Rattle.tpm_state.specs.Field.{fault, counted_at, counted_text}
use Rattle.tpm_state.specs.Header.{magic_text, banks_byte, values_text, counters_text, version_at, banks_of, values_at, counters_at}
use Rattle.tpm_state.specs.Sessions.{SessionFits, session_text, session_at}
use Rattle.tpm_state.specs.Indices.{IndexFits, index_text, index_at}
use Rattle.tpm_state.specs.Objects.{ObjectFits, object_text, object_at}

-- ---- the text

abbrev pub counters_of : Parts → Counters
counters_of s = record { update_counter = s.update_counter; next_session = s.next_session; write_counter = s.write_counter; next_object = s.next_object }

-- sessions, indices and objects, each kind behind its number
abbrev pub lists_text : Version → List Session → List Index → List Object → List ℕ
lists_text version sessions indices objects =
    counted_text (session_text version) sessions
    ++ (counted_text index_text indices ++ counted_text (object_text version) objects)

-- what stands behind the magic
abbrev pub body_text : Version → Parts → List ℕ
body_text version s =
    (banks_byte s.banks ∷ []) ++ (values_text s.pcrs ++ (counters_text (counters_of s) ++ lists_text version s.sessions s.indices s.objects))

-- the text of a state in a version
abbrev pub text_of : Version → Parts → List ℕ
text_of version s = magic_text version ++ body_text version s

-- what the layout of the version can hold
pub record HasLayout (version : Version) (s : Parts) : Type 0 where
  pub values : HasValues s.banks s.pcrs
  pub update_counter : s.update_counter < 2 ^ 32
  pub next_session : s.next_session < 2 ^ 32
  pub write_counter : s.write_counter < 2 ^ 32
  pub next_object : s.next_object < 2 ^ 32
  pub session_count : length s.sessions ≤ 64
  pub sessions : AllByRecursion (SessionFits version) s.sessions
  pub index_count : length s.indices ≤ 16
  pub indices : AllByRecursion IndexFits s.indices
  pub object_count : length s.objects ≤ 64
  pub objects : AllByRecursion (ObjectFits version) s.objects

-- ---- reading

-- the counters and the lists, behind the banks and their values
unfoldable pub lists_at : ℕ → Version → ℕ → List (List ℕ) → List ℕ → Result (Parts × List ℕ) DecodeError
lists_at all version byte pcrs bytes = do
  counters ← counters_at all bytes
  sessions ← counted_at all 0 64 (session_at all version) counters.1
  indices ← counted_at all 0 16 (index_at all) sessions.1
  objects ← counted_at all 0 64 (object_at all version) indices.1
  Ok (
    record {
      banks = banks_of byte;
      pcrs = pcrs;
      update_counter = counters.0.update_counter;
      next_session = counters.0.next_session;
      write_counter = counters.0.write_counter;
      next_object = counters.0.next_object;
      sessions = sessions.0;
      indices = indices.0;
      objects = objects.0;
    },
    objects.1,
  )

-- nothing may be left over
abbrev pub ended : {A : Type 0} → ℕ → A → List ℕ → Result A DecodeError
ended all x bytes = if length bytes == 0 then Ok x else Err (fault all bytes)

-- the byte of the banks and the parts
unfoldable pub layout_at : List ℕ → Result (ℕ × Parts) DecodeError
layout_at bytes = do
  version ← version_at (length bytes) bytes
  banks ← byte_at (fault (length bytes)) version.1
  values ← values_at (length bytes) (banks_of banks.0) banks.1
  parts ← lists_at (length bytes) version.0 banks.0 values.0 values.1
  ended (length bytes) (banks.0, parts.0) parts.1
