use Rattle.std.proofs.Common.{◌≡◌, ◌≤◌, length, sym, ap, ◌∙◌, arith}
use Rattle.std.specs.Prelude.{is_some}
use Rattle.std.proofs.lemmas.Bool.{false≢true, eqb-false}
use Rattle.predict_proof.proofs.MaskTexts.{few_pcrs}
use Rattle.predict_proof.proofs.reading.proof_of_parts.Goals as goal

pub returns-in-None : goal.returns-in-None
returns-in-None c =
    let count : length c.into_vec.result.items ≡ length c.args.values = ap length c.into_vec.ensures in
    let some = eqb-false (length c.args.values) 0 (sym c.is_empty.ensures ∙ c.if-is_empty.false) in
    let few = few_pcrs c.args.pcrs in
    let least : 1 ≤ length c.into_vec.result.items = omega arith in
    let most : length c.into_vec.result.items ≤ 24 = omega (arith, count, few, c.len.ensures, c.pcr_count.ensures, c.if-len-pcr_count.false) in
    absurd (false≢true (ap is_some (sym c.in-None.is) ∙ c.from_vec.ensures.fits.1 (least, most)))
