use Rattle.std.proofs.Common.{◌≡◌, ◌-◌, ◌++◌, [], ◌∷◌, length, length-append, sym, ap, ◌∙◌, arith}
use Rattle.tpm_model.specs.StartValues.{starts_from}
use Rattle.tpm_model.proofs.Starts.{starts_push, starts_end}
use Rattle.tpm_model.proofs.pcrs.push_started.Goals as goal

pub push-requires : goal.push-requires
push-requires c = omega (arith, c.loop-pcr.invariant.count, c.requires)

pub loop-pcr-preserved : goal.loop-pcr-preserved
loop-pcr-preserved c = record {
  whole = rw (c.push.ensures, c.start.ensures.value)
      (starts_push c.args.bank c.args.locality c.loop-pcr.pcr c.loop-pcr.values _ c.loop-pcr-test.true c.loop-pcr.invariant.whole);
  count = omega (arith, c.loop-pcr.invariant.count, ap length c.push.ensures, length-append c.loop-pcr.values (c.start.result ∷ []));
}

pub returns-clause-value : goal.returns-clause-value
returns-clause-value c =
    let last : c.loop-pcr.pcr ≡ 24 = omega arith in
    sym (starts_end c.args.bank c.args.locality c.loop-pcr.values)
    ∙ ap (λ p. c.loop-pcr.values ++ starts_from c.args.bank c.args.locality p (24 - p)) (sym last) ∙ c.loop-pcr.invariant.whole
