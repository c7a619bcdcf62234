-- A table of indices: what it keeps, what is found in it, and how it changes.
use Rattle.std.specs.Prelude.{◌≡◌, ℕ, ◌+◌, ◌/◌, ◌%◌, ◌^◌, ◌<◌, ◌≤◌, nat_lt, nat_le, ◌==◌, Bool, true, false, not, ◌&&◌, ◌||◌, if◌then◌else◌, List, [], ◌∷◌, map, length, remove, slice_get, slice_set, Option, None, Some, is_some, Result, Ok, Err}
use Rattle.std.specs.List.{list_all, position_or_len}
use Rattle.std.specs.Str.{bytes_eq}
use Rattle.nv_index.specs.Attributes.{content_size, defined_attributes, written_attributes}
use Rattle.nv_index.specs.Handles.{are_handles, is_index_handle}
use Rattle.nv_index.specs.declared.index.Index.{Index}
use Rattle.nv_index.specs.declared.index.NvPublic.{NvPublic}
use Rattle.nv_index.specs.declared.index.Written.{Written}
use Rattle.nv_index.specs.declared.refusal.DefineError.{DefineError}
use Rattle.nv_index.specs.declared.refusal.DefineError.TheVariants as failed
use Rattle.nv_index.specs.declared.refusal.NvRefusal.{NvRefusal}
use Rattle.nv_index.specs.declared.refusal.NvRefusal.TheVariants as refusal

-- whether an index has the attributes of a new or a written one, and the size of a content
abbrev pub has_attributes : Index → Bool
has_attributes index =
    (index.public.attributes == defined_attributes || index.public.attributes == written_attributes)
    && index.public.size == content_size

-- whether attributes have WRITTEN, bit 29 (TPM 2.0 Library Part 2, TPMA_NV)
abbrev pub has_written : ℕ → Bool
has_written attributes = attributes / 2 ^ 29 % 2 == 1

-- whether a last write, where there is one, has another number than this
abbrev pub is_other_write : ℕ → Option Written → Bool
is_other_write number None = true
is_other_write number (Some written) = not (written.number == number)

-- whether that is so of an index
abbrev pub has_other_number : ℕ → Index → Bool
has_other_number number index = is_other_write number index.written

-- whether each index has another number than this last write, where there is one
abbrev pub is_apart : Option Written → List Index → Bool
is_apart None indices = true
is_apart (Some written) indices = list_all (has_other_number written.number) indices

-- whether the numbers of the last writes differ
abbrev pub are_apart : List Index → Bool
are_apart [] = true
are_apart (index ∷ indices) = is_apart index.written indices && are_apart indices

-- whether a last write, where there is one, has a number from 1 to this one
abbrev pub is_numbered_within : ℕ → Option Written → Bool
is_numbered_within most None = true
is_numbered_within most (Some written) = nat_le 1 written.number && nat_le written.number most

-- whether that is so of an index
abbrev pub is_counted : ℕ → Index → Bool
is_counted most index = is_numbered_within most index.written

-- whether a last write, where there is one, has a number that isn't 0
abbrev pub is_some_number : Option Written → Bool
is_some_number None = true
is_some_number (Some written) = nat_le 1 written.number

-- whether that is so of an index
abbrev pub is_numbered : Index → Bool
is_numbered index = is_some_number index.written

-- whether a last write, where there is one, has a number below this one
abbrev pub is_write_before : ℕ → Option Written → Bool
is_write_before number None = true
is_write_before number (Some written) = nat_lt written.number number

-- whether that is so of an index
abbrev pub is_before : ℕ → Index → Bool
is_before number index = is_write_before number index.written

-- whether a last write is there exactly where the attributes have WRITTEN
abbrev pub is_mark : ℕ → Option Written → Bool
is_mark attributes None = not (has_written attributes)
is_mark attributes (Some written) = has_written attributes

-- whether that is so of an index
abbrev pub is_marked : Index → Bool
is_marked index = is_mark index.public.attributes index.written

-- what a table keeps: at most 16 indices, whose handles ascend within their range, each with allowed
-- attributes and size and with WRITTEN exactly where it was written; the numbers of the last writes
-- aren't 0, and differ
pub record IsTable (indices : List Index) : Type 0 where
  pub count : length indices ≤ 16
  pub order : are_handles 0x01000000 0x02000000 (map (λ (index : Index). index.public.handle) indices) ≡ true
  pub attributes : list_all has_attributes indices ≡ true
  pub marks : list_all is_marked indices ≡ true
  pub numbers : list_all is_numbered indices ≡ true
  pub apart : are_apart indices ≡ true

-- whether this is the index of the handle
abbrev pub is_index : ℕ → Index → Bool
is_index handle index = index.public.handle == handle

-- the place of the index of the handle; where there is none, the number of all indices
abbrev pub index_place : ℕ → List Index → ℕ
index_place handle indices = position_or_len (is_index handle) indices

-- the index of the handle
abbrev pub index_at : ℕ → List Index → Option Index
index_at handle indices = slice_get indices (index_place handle indices)

-- an index that was never written
abbrev pub unwritten : NvPublic → Index
unwritten public = record { public = public; written = None }

-- why an index with this public area can't be defined, in the order of the refusals
abbrev pub define_refusal : NvPublic → List Index → Option NvRefusal
define_refusal public indices =
    if not (is_index_handle public.handle) then Some refusal.Handle
    else if not (public.attributes == defined_attributes) then Some refusal.Attributes
    else if not (public.size == content_size) then Some refusal.Size
    else if not (length public.policy == 32) then Some refusal.Value
    else if is_some (index_at public.handle indices) then Some refusal.Defined
    else if nat_le 16 (length indices) then Some refusal.TableFull
    else None

-- the indices with one more, at its place in the order of handles
abbrev pub with_index : Index → List Index → List Index
with_index new [] = new ∷ []
with_index new (index ∷ indices) =
    if nat_lt new.public.handle index.public.handle then new ∷ index ∷ indices else index ∷ with_index new indices

-- the place of the first index whose handle is above this one
abbrev pub is_above : ℕ → Index → Bool
is_above handle index = nat_lt handle index.public.handle

-- why no index of this handle can be taken away
abbrev pub undefine_refusal_of : Option Index → Option NvRefusal
undefine_refusal_of None = Some refusal.NotDefined
undefine_refusal_of (Some index) = None

-- the same of a table
abbrev pub undefine_refusal : ℕ → List Index → Option NvRefusal
undefine_refusal handle indices = undefine_refusal_of (index_at handle indices)

-- the indices without the one of the handle
abbrev pub without_index : ℕ → List Index → List Index
without_index handle indices = remove indices (index_place handle indices)

-- why the index that was found can't be written with a pin of this policy
abbrev pub write_refusal_of : Option Index → List ℕ → List ℕ → Option NvRefusal
write_refusal_of None given value = Some refusal.NotDefined
write_refusal_of (Some index) given value =
    if not (bytes_eq given index.public.policy) then Some (refusal.PinRefused given index.public.policy)
    else if not (length value == 34) then Some refusal.Size
    else None

-- why the index of the handle can't be, in the order of the refusals
abbrev pub write_refusal : ℕ → List ℕ → List ℕ → List Index → Option NvRefusal
write_refusal handle given value indices = write_refusal_of (index_at handle indices) given value

-- an index after a write
abbrev pub written_with : List ℕ → ℕ → Index → Index
written_with value number index = record {
  public = record {
    handle = index.public.handle;
    attributes = written_attributes;
    policy = index.public.policy;
    size = index.public.size;
  };
  written = Some (record { number = number; value = value });
}

-- the indices after a write of the one that was found
abbrev pub after_write_of : Option Index → ℕ → List ℕ → ℕ → List Index → List Index
after_write_of None place value number indices = indices
after_write_of (Some index) place value number indices = slice_set indices place (written_with value number index)

-- the indices after a write of the one of the handle
abbrev pub after_write : ℕ → List ℕ → ℕ → List Index → List Index
after_write handle value number indices = after_write_of (index_at handle indices) (index_place handle indices) value number indices

-- the content of a last write
abbrev pub content_of : Option Written → Result (List ℕ) NvRefusal
content_of None = Err refusal.Uninitialized
content_of (Some written) = Ok written.value

-- the content of the index that was found
abbrev pub read_of : Option Index → Result (List ℕ) NvRefusal
read_of None = Err refusal.NotDefined
read_of (Some index) = content_of index.written

-- the content of the index of the handle
abbrev pub read_index : ℕ → List Index → Result (List ℕ) NvRefusal
read_index handle indices = read_of (index_at handle indices)

-- the public area of the index that was found
abbrev pub public_of : Option Index → Result NvPublic NvRefusal
public_of None = Err refusal.NotDefined
public_of (Some index) = Ok index.public

-- the public area of the index of the handle
abbrev pub read_public : ℕ → List Index → Result NvPublic NvRefusal
read_public handle indices = public_of (index_at handle indices)

-- the number of a last write
abbrev pub number_of : Option Written → Option ℕ
number_of None = None
number_of (Some written) = Some written.number

-- the number of the last write of the index that was found
abbrev pub number_at : Option Index → Option ℕ
number_at None = None
number_at (Some index) = number_of index.written

-- the number of the last write of the index of the handle
abbrev pub written_number : ℕ → List Index → Option ℕ
written_number handle indices = number_at (index_at handle indices)

-- the result where there is a refusal, and where there is none
abbrev pub unless_refused : Option NvRefusal → Result (Unit {0}) NvRefusal
unless_refused None = Ok tt
unless_refused (Some why) = Err why

-- what an insertion answers and leaves; want of memory leaves the table
abbrev pub InsertGives : {A : Type 0} → Result (Unit {0}) DefineError → List A → List A → List A → Type 0
InsertGives (Ok _) before after now = now ≡ after
InsertGives (Err failed.Memory) before after now = now ≡ before
InsertGives (Err (failed.Refused why)) before after now = ⊥

-- what a definition answers and leaves, where there is a refusal and where there is none
abbrev pub DefineGives : Option NvRefusal → Result (Unit {0}) DefineError → List Index → List Index → List Index → Type 0
DefineGives (Some why) result before after now = (result ≡ Err (failed.Refused why)) × (now ≡ before)
DefineGives None result before after now = InsertGives result before after now

-- the table where there is a refusal, and where there is none
abbrev pub kept_if_refused : Option NvRefusal → List Index → List Index → List Index
kept_if_refused None before after = after
kept_if_refused (Some why) before after = before
