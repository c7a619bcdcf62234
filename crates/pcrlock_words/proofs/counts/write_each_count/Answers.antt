use Rattle.std.proofs.Common.{◌++◌, string_bytes}
use Rattle.component_tree.specs.PlainTree.{plain}
use Rattle.pcrlock_words.specs.PredictText.{each_count, one_pcr_count}
use Rattle.pcrlock_words.proofs.Ranges.{more_text}
use Rattle.pcrlock_words.proofs.counts.write_each_count.Goals as goal

pub loop-pcr-preserved : goal.loop-pcr-preserved
loop-pcr-preserved c =
    let components = plain c.args.tree.now.components in
    more_text (one_pcr_count c.args.protection.now components) c.loop-pcr.pcr (string_bytes c.loop-pcr.text) (string_bytes c.write_pcr_count.new.text) (string_bytes c.args.text.now ++ each_count c.args.protection.now components) c.loop-pcr-test.true c.loop-pcr.invariant c.in_ok-write_pcr_count.ensures
