-- A TPM that was never used.
use Rattle.std.specs.Prelude.{[]}
use Rattle.hash_bank.specs.declared.banks.Banks.{Banks}
use Rattle.tpm_model.specs.declared.parts.Parts.{Parts}
use Rattle.tpm_model.specs.StartValues.{start_values}

-- zeros in all counters, the start values at locality 0, and nothing else
abbrev pub fresh_parts : Banks → Parts
fresh_parts banks = record {
  banks = banks;
  pcrs = start_values banks 0;
  update_counter = 0;
  next_session = 0;
  write_counter = 0;
  next_object = 0;
  sessions = [];
  indices = [];
  objects = [];
}
