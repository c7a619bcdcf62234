use Rattle.std.proofs.Common.{List, map, subst, take, take_all, get_or}
use Rattle.std.specs.List.{All}
use Rattle.std.proofs.lemmas.List.Elements.{All-map, All-more}
use Rattle.cel_record.specs.declared.record.CelRecord.{CelRecord}
use Rattle.cel_record.specs.Spelled.{spelled}
use Rattle.component_tree.specs.declared.tree.Variant.{Variant}
use Rattle.component_tree.specs.PlainTree.{plain_variant}
use Rattle.record_match.specs.Noted.{NotesRecord, NotesVariant}
use Rattle.record_match.proofs.NotedLemmas.{kept_variant, lowers_trans}
use Rattle.record_match.proofs.noting.note_variants.Goals as goal

pub loop-variant-preserved : goal.loop-variant-preserved
loop-variant-preserved c =
    let number = c.args.number in
    let variants = c.args.variants.now in
    let i = c.loop-variant.variant-index in
    let old = c.loop-variant.numbers in
    let new = c.note_records.new.numbers in
    let lowers = c.in_ok-note_records.ensures.lowers in
    let here : NotesVariant new number (plain_variant c.variant-item.result) =
    subst (λ (rs : List CelRecord). All (NotesRecord new number) (map spelled rs)) c.as_slice.ensures (All-map (NotesRecord new number) spelled c.as_slice.result.now c.in_ok-note_records.ensures.noted) in
    record {
      lowers = lowers_trans c.args.numbers.now old new c.loop-variant.invariant.lowers lowers;
      so_far = All-more (λ (v : Variant). NotesVariant new number (plain_variant v)) variants i c.variant-item.result c.loop-variant-test.true (λ k d inside. kept_variant old new number (plain_variant (get_or (take i variants) k d)) lowers (c.loop-variant.invariant.so_far k d inside)) (subst (λ (v : Variant). NotesVariant new number (plain_variant v)) c.variant-item.is here);
    }

pub returns-clause-noted : goal.returns-clause-noted
returns-clause-noted c =
    subst (All (λ (v : Variant). NotesVariant c.loop-variant.numbers c.args.number (plain_variant v))) (take_all c.loop-variant.variant-index c.args.variants.now c.loop-variant-test.false) c.loop-variant.invariant.so_far
