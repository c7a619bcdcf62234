use Rattle.std.proofs.Common.{◌≡◌, ◌+◌, ◌-◌, ◌++◌, length}
use Rattle.tpm_model.specs.StartValues.{starts_from}
use Rattle.tpm_model.proofs.pcrs.push_started.Given as goal

-- the values so far and those of the PCRs to come make the whole
abbrev pub invariant-loop-pcr : goal.invariant-loop-pcr
invariant-loop-pcr l = record {
  whole : l.values ++ starts_from l.bank l.locality l.pcr (24 - l.pcr) ≡ l.fn.values ++ starts_from l.bank l.locality 0 24;
  count : length l.values ≡ length l.fn.values + l.pcr;
}
