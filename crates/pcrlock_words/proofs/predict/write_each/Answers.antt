use Rattle.std.proofs.Common.{◌++◌, string_bytes}
use Rattle.component_tree.specs.PlainTree.{plain}
use Rattle.pcrlock_words.specs.PredictText.{each_text, one_pcr_text}
use Rattle.pcrlock_words.proofs.Ranges.{more_text}
use Rattle.pcrlock_words.proofs.predict.write_each.Goals as goal

pub loop-pcr-preserved : goal.loop-pcr-preserved
loop-pcr-preserved c =
    let components = plain c.args.tree.now.components in
    more_text (one_pcr_text c.args.protection.now components) c.loop-pcr.pcr (string_bytes c.loop-pcr.text) (string_bytes c.write_pcr.new.text) (string_bytes c.args.text.now ++ each_text c.args.protection.now components) c.loop-pcr-test.true c.loop-pcr.invariant c.in_ok-write_pcr.ensures
