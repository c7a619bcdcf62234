-- Every command leaves a state orderly.
use Rattle.std.proofs.Common.{◌≡◌, ℕ, ◌+◌, true, List, set, refl, sym, subst, arith}
use Rattle.std.specs.Prelude.{Some}
use Rattle.std.specs.List.{list_all}
use Rattle.std.proofs.lemmas.Option.{slice_get_within}
use Rattle.nv_index.specs.Table.{IsTable, after_write, after_write_of, index_at, index_place, is_counted, unwritten, written_with}
use Rattle.nv_index.specs.declared.index.Index.{Index}
use Rattle.nv_index.proofs.Lists.{passes_remove}
use Rattle.nv_index.proofs.TableKeeps.{passes_with, table_with, table_without, table_written}
use Rattle.tpm_model.specs.declared.command.Command.{Command}
use Rattle.tpm_model.specs.declared.command.Command.TheVariants as command
use Rattle.tpm_model.specs.declared.parts.Parts.{Parts}
use Rattle.tpm_model.specs.declared.response.Response.{Response}
use Rattle.tpm_model.specs.Orderly.{Orderly}
use Rattle.tpm_model.specs.Respond.{respond}
use Rattle.tpm_model.proofs.KeepsIndices.{before_next, counted_set}
use Rattle.tpm_worlds.proofs.AfterCommand.{order_after_command}
use Rattle.tpm_worlds.proofs.Cases.{by_evict, by_flush_session, by_nv_define, by_nv_read, by_nv_read_public, by_nv_undefine, by_nv_write, by_pcr_extend, by_pcr_read, by_policy_authorize_nv, by_policy_get_digest, by_policy_or, by_policy_pcr, by_restart, by_seal, by_start_session, by_unseal}
use Rattle.tpm_worlds.proofs.Steady.{sizes_after}

-- the indices are a table whose writes are among those so far
record IsCountedTable (s : Parts) : Type 0 where
  pub table : IsTable s.indices
  pub counted : list_all (is_counted s.write_counter) s.indices ≡ true

abbrev Goes : Response × Parts → Type 0
Goes r = IsCountedTable r.1

-- an index is written
written : (s : Parts) (handle : ℕ) (value : List ℕ) (x : Index) → index_at handle s.indices ≡ Some x → IsCountedTable s
    → IsCountedTable (record s { write_counter = s.write_counter + 1; indices = after_write handle value (s.write_counter + 1) s.indices })
written s handle value x e o =
    let place = index_place handle s.indices in
    let new : IsCountedTable (record s { write_counter = s.write_counter + 1; indices = set s.indices place (written_with value (s.write_counter + 1) x) }) =
    record {
      table = table_written s.indices place x value (s.write_counter + 1) e (omega arith) (before_next s.write_counter s.indices o.counted) o.table;
      counted = counted_set s.write_counter s.indices place value x o.counted;
    } in
    subst (λ found. IsCountedTable (record s { write_counter = s.write_counter + 1; indices = after_write_of found place value (s.write_counter + 1) s.indices })) (sym e) new

table_after : (c : Command) (s : Parts) → IsCountedTable s → Goes (respond c s)
table_after (command.Restart locality banks) s o = by_restart Goes locality banks s (λ _. o) (record { table = o.table; counted = o.counted })
table_after (command.PcrExtend pcr digests) s o = by_pcr_extend Goes pcr digests s (λ _. o) (record { table = o.table; counted = o.counted })
table_after (command.PcrRead bank pcr) s o = by_pcr_read Goes bank pcr s (λ _. o)
table_after (command.StartSession hash) s o = by_start_session Goes hash s (λ _. o) (λ _. record { table = o.table; counted = o.counted })
table_after (command.PolicyPcr session bank pcrs) s o = by_policy_pcr Goes session bank pcrs s (λ _. o) (λ _ _ _ _ _. record { table = o.table; counted = o.counted })
table_after (command.PolicyOr session list) s o = by_policy_or Goes session list s (λ _. o) (λ _ _ _. record { table = o.table; counted = o.counted })
table_after (command.PolicyAuthorizeNv session index) s o = by_policy_authorize_nv Goes session index s (λ _. o) (λ _ _ _ _ _ _ _. record { table = o.table; counted = o.counted })
table_after (command.PolicyGetDigest session) s o = by_policy_get_digest Goes session s (λ _. o)
table_after (command.FlushSession session) s o = by_flush_session Goes session s (λ _. o) (record { table = o.table; counted = o.counted })
table_after (command.NvDefine public) s o =
    by_nv_define Goes public s (λ _. o)
    (λ allowed. record { table = table_with public s.indices allowed o.table; counted = passes_with (is_counted s.write_counter) (unwritten public) s.indices o.counted refl })
table_after (command.NvUndefine index) s o =
    by_nv_undefine Goes index s (λ _. o)
    (λ x e. record {
      table = table_without s.indices (index_place index s.indices) (slice_get_within s.indices (index_place index s.indices) x e) o.table;
      counted = passes_remove (is_counted s.write_counter) s.indices (index_place index s.indices) o.counted;
    })
table_after (command.NvWrite index pin value) s o = by_nv_write Goes index pin value s (λ _. o) (λ x e _ _. written s index value x e o)
table_after (command.NvRead index) s o = by_nv_read Goes index s (λ _. o)
table_after (command.NvReadPublic index) s o = by_nv_read_public Goes index s (λ _. o)
table_after (command.Seal policy secret) s o = by_seal Goes policy secret s (λ _. o) (record { table = o.table; counted = o.counted })
table_after (command.Evict handle) s o = by_evict Goes handle s (λ _. o) (record { table = o.table; counted = o.counted })
table_after (command.Unseal session handle) s o = by_unseal Goes session handle s (λ _. o) (λ _ _ _ _ _ _. o)

pub orderly_after : (c : Command) (s : Parts) → Orderly s → Orderly (respond c s).1
orderly_after c s o =
    let indices = table_after c s (record { table = o.table; counted = o.counted }) in
    record {
      values = sizes_after c s o.values;
      objects = order_after_command c s o.objects;
      table = indices.table;
      counted = indices.counted;
    }
