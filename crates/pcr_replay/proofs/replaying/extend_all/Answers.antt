use Rattle.std.proofs.Common.{◌≡◌, ◌<◌, get_or, None, ap, ◌∙◌, length, arith}
use Rattle.std.proofs.lemmas.List.{get_or_default}
use Rattle.hash_bank.specs.Hash.{size_in}
use Rattle.hash_bank.specs.Digests.{digest_at}
use Rattle.pcr_replay.specs.Row.{rows}
use Rattle.pcr_replay.specs.Measured.{value_after, replay_on}
use Rattle.pcr_replay.proofs.Steps.{all_next, facts_next}
use Rattle.pcr_replay.proofs.replaying.extend_all.Goals as goal

pub loop-record-preserved : goal.loop-record-preserved
loop-record-preserved c =
    let r = c.record-item.result in
    let within : r.pcr < length c.loop-record.values = omega (arith, r.in_range, c.requires.count, c.loop-record.auto.values) in
    let here : get_or c.loop-record.values r.pcr c.index-values-pcr.result ≡ get_or c.loop-record.values r.pcr None = get_or_default c.loop-record.values r.pcr c.index-values-pcr.result None within in
    let made : c.extend_value.new.value ≡ value_after c.args.bank (get_or c.loop-record.values r.pcr None) (digest_at r.digests c.args.bank) = c.extend_value.ensures.value ∙ ap (λ o. value_after c.args.bank o (digest_at r.digests c.args.bank)) here in
    record {
      value = rw made (all_next c.args.bank c.args.list.now c.loop-record.record-index r c.loop-record.values (λ k. replay_on c.args.bank k (get_or c.args.values.now k None) (rows c.args.list.now)) c.loop-record-test.true c.record-item.is within c.loop-record.invariant.value);
      sizes = facts_next (λ v. length v ≡ size_in c.args.bank) c.loop-record.values r.pcr c.extend_value.new.value within c.extend_value.ensures.size c.loop-record.invariant.sizes;
    }
