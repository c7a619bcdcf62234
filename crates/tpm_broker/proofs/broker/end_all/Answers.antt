use Rattle.std.proofs.Common.{ap, sym, ◌∙◌}
use Rattle.std.specs.Prelude.{slice_set}
use Rattle.std.proofs.lemmas.List.Edits.{map_over_more}
use Rattle.tpm_broker.specs.Clients.{without_all}
use Rattle.tpm_broker.proofs.broker.end_all.Goals as goal

pub loop-client-preserved : goal.loop-client-preserved
loop-client-preserved c =
    let i = c.loop-client.client-index in
    ap (slice_set c.loop-client.rows i) (c.end_all.ensures ∙ ap without_all (sym c.client-item.is))
    ∙ map_over_more without_all c.args.rows.now c.loop-client.rows i c.client-item.result c.loop-client-test.true c.loop-client.invariant c.client-item.is
