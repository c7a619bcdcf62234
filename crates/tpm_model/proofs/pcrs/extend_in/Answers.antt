use Rattle.std.proofs.Common.{◌≡◌, ℕ, List, Some, sym, ap, ◌∙◌}
use Rattle.tpm_model.specs.Pcrs.{pcr_of}
use Rattle.tpm_model.proofs.PcrPlaces.{value_at, keeps_values}
use Rattle.tpm_model.proofs.pcrs.extend_in.Goals as goal

pub extend-requires-clause-old_fits : goal.extend-requires-clause-old_fits
extend-requires-clause-old_fits c =
    let e : pcr_of c.args.banks c.args.pcrs.now c.args.bank c.args.pcr ≡ Some c.in-Some.old = ap (λ (xs : List (List ℕ)). pcr_of c.args.banks xs c.args.bank c.args.pcr) (sym c.as_slice.ensures.value) ∙ sym c.in-Some.ensures in
    (value_at c.args.banks c.args.pcrs.now c.args.bank c.args.pcr c.in-Some.old c.requires e).size

pub set-requires : goal.set-requires
set-requires c =
    let e : pcr_of c.args.banks c.args.pcrs.now c.args.bank c.args.pcr ≡ Some c.in-Some.old = ap (λ (xs : List (List ℕ)). pcr_of c.args.banks xs c.args.bank c.args.pcr) (sym c.as_slice.ensures.value) ∙ sym c.in-Some.ensures in
    let known = value_at c.args.banks c.args.pcrs.now c.args.bank c.args.pcr c.in-Some.old c.requires e in
    rw c.place.ensures.value known.within

pub returns-clause-values : goal.returns-clause-values
returns-clause-values c =
    let e : pcr_of c.args.banks c.args.pcrs.now c.args.bank c.args.pcr ≡ Some c.in-Some.old = ap (λ (xs : List (List ℕ)). pcr_of c.args.banks xs c.args.bank c.args.pcr) (sym c.as_slice.ensures.value) ∙ sym c.in-Some.ensures in
    let known = value_at c.args.banks c.args.pcrs.now c.args.bank c.args.pcr c.in-Some.old c.requires e in
    rw (c.set.ensures, c.place.ensures.value)
    (keeps_values c.args.banks c.args.pcrs.now _ c.in-Some.old c.extend.result c.requires known.found (c.extend.ensures.size ∙ sym known.size))
