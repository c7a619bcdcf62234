-- What stands under the handle of an index.
use Rattle.std.specs.Prelude.{ℕ, Option, None, Some}
use Rattle.nv_index.specs.Table.{index_at}
use Rattle.nv_index.specs.declared.index.Index.{Index}
use Rattle.nv_index.specs.declared.index.NvPublic.{NvPublic}
use Rattle.nv_index.specs.declared.index.Written.{Written}
use Rattle.tpm_model.specs.declared.parts.Parts.{Parts}
use Rattle.pcrlock_policy.specs.declared.looking.IndexState.{IndexState}
use Rattle.pcrlock_policy.specs.declared.looking.IndexState.TheVariants as state

-- an index, by its last write
abbrev pub by_write : NvPublic → Option Written → IndexState
by_write public None = state.Unwritten
by_write public (Some written) = state.Written public written.value

abbrev pub by_index : Option Index → IndexState
by_index None = state.Missing
by_index (Some index) = by_write index.public index.written

-- what stands under this handle
abbrev pub index_state : ℕ → Parts → IndexState
index_state handle s = by_index (index_at handle s.indices)
