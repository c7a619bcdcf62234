-- What the commands on indices answer and leave.
use Rattle.std.specs.Prelude.{ℕ, ◌+◌, ◌==◌, if◌then◌else◌, List, Option, None, Some, Result, Ok, Err}
use Rattle.nv_index.specs.Table.{after_write, define_refusal, read_index, read_public, undefine_refusal, unwritten, with_index, without_index, write_refusal}
use Rattle.nv_index.specs.declared.index.NvPublic.{NvPublic}
use Rattle.nv_index.specs.declared.refusal.NvRefusal.{NvRefusal}
use Rattle.nv_index.specs.declared.refusal.NvRefusal.TheVariants as nv
use Rattle.policy_digest.specs.Pin.{pin_policy_of}
use Rattle.tpm_model.specs.declared.response.Response.{Response}
use Rattle.tpm_model.specs.declared.response.Response.TheVariants as answer
use Rattle.tpm_model.specs.declared.response.Refusal.{Refusal}
use Rattle.tpm_model.specs.declared.response.Refusal.TheVariants as refusal
use Rattle.tpm_model.specs.declared.response.Counter.TheVariants as counter
use Rattle.tpm_model.specs.declared.parts.Parts.{Parts}
use Rattle.tpm_model.specs.Refusing.{refused}

-- a table's refusal as that of a command that names this handle
abbrev pub refusal_of : ℕ → NvRefusal → Refusal
refusal_of handle nv.Handle = refusal.Handle handle
refusal_of handle nv.Attributes = refusal.Attributes
refusal_of handle nv.Size = refusal.Size
refusal_of handle nv.Value = refusal.Value
refusal_of handle nv.Defined = refusal.Defined
refusal_of handle nv.TableFull = refusal.TableFull
refusal_of handle nv.NotDefined = refusal.NotDefined
refusal_of handle (nv.PinRefused given index) = refusal.PinRefused given index
refusal_of handle nv.Uninitialized = refusal.Uninitialized

-- a definition where there is a refusal, and where there is none
abbrev pub nv_define_unless : Option NvRefusal → NvPublic → Parts → Response × Parts
nv_define_unless (Some why) public s = refused (refusal_of public.handle why) s
nv_define_unless None public s = (answer.Done, record s { indices = with_index (unwritten public) s.indices })

-- defines an index (TPM 2.0 Library Part 3, TPM2_NV_DefineSpace)
abbrev pub nv_define : NvPublic → Parts → Response × Parts
nv_define public s = nv_define_unless (define_refusal public s.indices) public s

-- the end of an index where there is a refusal, and where there is none
abbrev pub nv_undefine_unless : Option NvRefusal → ℕ → Parts → Response × Parts
nv_undefine_unless (Some why) handle s = refused (refusal_of handle why) s
nv_undefine_unless None handle s = (answer.Done, record s { indices = without_index handle s.indices })

-- takes an index away (TPM 2.0 Library Part 3, TPM2_NV_UndefineSpace)
abbrev pub nv_undefine : ℕ → Parts → Response × Parts
nv_undefine handle s = nv_undefine_unless (undefine_refusal handle s.indices) handle s

-- a write where there is a refusal, and where there is none
abbrev pub nv_write_unless : Option NvRefusal → ℕ → List ℕ → Parts → Response × Parts
nv_write_unless (Some why) handle value s = refused (refusal_of handle why) s
nv_write_unless None handle value s =
    if s.write_counter == 4294967295 then refused (refusal.CounterEnd counter.Writes) s
    else (
      answer.Done,
      record s { write_counter = s.write_counter + 1; indices = after_write handle value (s.write_counter + 1) s.indices },
    )

-- writes an index with a pin; the counter rises by one, and is the write's number (TPM 2.0 Library
-- Part 3, TPM2_NV_Write)
abbrev pub nv_write : ℕ → List ℕ → List ℕ → Parts → Response × Parts
nv_write handle pin value s = nv_write_unless (write_refusal handle (pin_policy_of pin) value s.indices) handle value s

-- a content, or why there is none
abbrev pub content_answer : Result (List ℕ) NvRefusal → ℕ → Parts → Response × Parts
content_answer (Ok value) handle s = (answer.Content value, s)
content_answer (Err why) handle s = refused (refusal_of handle why) s

-- the content of an index (TPM 2.0 Library Part 3, TPM2_NV_Read)
abbrev pub nv_read : ℕ → Parts → Response × Parts
nv_read handle s = content_answer (read_index handle s.indices) handle s

-- a public area, or why there is none
abbrev pub public_answer : Result NvPublic NvRefusal → ℕ → Parts → Response × Parts
public_answer (Ok public) handle s = (answer.Public public, s)
public_answer (Err why) handle s = refused (refusal_of handle why) s

-- the public area of an index (TPM 2.0 Library Part 3, TPM2_NV_ReadPublic)
abbrev pub nv_read_public : ℕ → Parts → Response × Parts
nv_read_public handle s = public_answer (read_public handle s.indices) handle s
