use Rattle.std.proofs.Common.{[], ◌∷◌, ◌++◌, ap, ◌∙◌}
use Rattle.tpm_state.specs.declared.version.Version.TheVariants.{Two}
use Rattle.tpm_state.specs.Header.{banks_byte, values_text, counters_text}
use Rattle.tpm_state.specs.Layout.{counters_of, lists_text}
use Rattle.tpm_state.proofs.Appends.{append_four}
use Rattle.tpm_state.proofs.encoding.put_body.Goals as goal

pub put_lists-requires-clause-sessions : goal.put_lists-requires-clause-sessions
put_lists-requires-clause-sessions c = rw c.sessions.ensures c.pcrs-values.ensures.rules.shape.session_count

pub put_lists-requires-clause-indices : goal.put_lists-requires-clause-indices
put_lists-requires-clause-indices c = rw c.indices.ensures c.pcrs-values.ensures.rules.shape.index_count

pub put_lists-requires-clause-objects : goal.put_lists-requires-clause-objects
put_lists-requires-clause-objects c = rw c.objects.ensures c.pcrs-values.ensures.rules.shape.object_count

pub returns-clause-text : goal.returns-clause-text
returns-clause-text c =
    let s = c.args.state.now in
    append_four c.args.out.now.items (banks_byte s.banks ∷ []) (values_text s.pcrs) (counters_text (counters_of s)) (lists_text Two s.sessions s.indices s.objects)
    (c.in_ok-put_banks.ensures ∙ ap (λ banks. c.args.out.now.items ++ banks_byte banks ∷ []) c.banks.ensures)
    (c.in_ok-put_digests.ensures ∙ ap (λ values. c.put_banks.new.out.items ++ values_text values) c.pcrs-values.ensures.value)
    (c.in_ok-put_counters.ensures ∙ ap (λ counters. c.put_digests.new.out.items ++ counters_text counters) c.counters.ensures)
    (c.in_ok-put_lists.ensures ∙ ap (λ l. c.put_counters.new.out.items ++ lists_text Two l c.indices.result.now c.objects.result.now) c.sessions.ensures
    ∙ ap (λ l. c.put_counters.new.out.items ++ lists_text Two s.sessions l c.objects.result.now) c.indices.ensures
    ∙ ap (λ l. c.put_counters.new.out.items ++ lists_text Two s.sessions s.indices l) c.objects.ensures)
