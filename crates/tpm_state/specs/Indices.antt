-- NV indices, as a state file has them.
use Rattle.std.specs.Prelude.{◌≡◌, ℕ, ◌^◌, ◌<◌, Bool, true, false, List, [], ◌∷◌, ◌++◌, length, Option, Some, None, Result, Ok, Err}
use Rattle.std.specs.Int.{w16, w32, to_be_bytes}
use Rattle.nv_index.specs.declared.index.Index.{Index}
use Rattle.nv_index.specs.declared.index.Written.{Written}
use Rattle.nv_index.specs.Table.{has_written}
use Rattle.pl_layout.specs.Reading.{◌>>=◌, bytes_at, number_at}
use Rattle.tpm_state.specs.declared.error.DecodeError.{DecodeError}
use Rattle.tpm_state.specs.Field.{fault}

-- ---- the text

-- the number of the last write and the content
abbrev pub written_text : Option Written → List ℕ
written_text None = []
written_text (Some written) = to_be_bytes w32 written.number ++ written.value

abbrev pub index_text : Index → List ℕ
index_text index =
    to_be_bytes w32 index.public.handle ++ (to_be_bytes w32 index.public.attributes
    ++ (index.public.policy ++ (to_be_bytes w16 index.public.size ++ written_text index.written)))

-- what the layout can hold
abbrev pub WrittenFits : Bool → Option Written → Type 0
WrittenFits is_written None = is_written ≡ false
WrittenFits is_written (Some written) = (is_written ≡ true) × (written.number < 2 ^ 32) × (length written.value ≡ 34)

pub record IndexFits (index : Index) : Type 0 where
  pub handle : index.public.handle < 2 ^ 32
  pub attributes : index.public.attributes < 2 ^ 32
  pub policy : length index.public.policy ≡ 32
  pub size : index.public.size < 2 ^ 16
  pub written : WrittenFits (has_written index.public.attributes) index.written

-- ---- reading

unfoldable pub written_at : ℕ → Bool → List ℕ → Result (Option Written × List ℕ) DecodeError
written_at all true bytes = do
  number ← number_at (fault all) w32 bytes
  value ← bytes_at (fault all) 34 number.1
  Ok (Some (record { number = number.0; value = value.0 }), value.1)
written_at all false bytes = Ok (None, bytes)

unfoldable pub index_at : ℕ → List ℕ → Result (Index × List ℕ) DecodeError
index_at all bytes = do
  handle ← number_at (fault all) w32 bytes
  attributes ← number_at (fault all) w32 handle.1
  policy ← bytes_at (fault all) 32 attributes.1
  size ← number_at (fault all) w16 policy.1
  written ← written_at all (has_written attributes.0) size.1
  Ok (
    record {
      public = record { handle = handle.0; attributes = attributes.0; policy = policy.0; size = size.0 };
      written = written.0;
    },
    written.1,
  )
