-- The world of a TPM that was never used.
use Rattle.hash_bank.specs.declared.banks.Banks.{Banks}
use Rattle.tpm_model.specs.StartValues.{start_values}
use Rattle.tpm_model.specs.World.{World, unused_world}

-- the banks with their start values at locality 0; nobody has done anything
abbrev pub fresh_world : Banks → World
fresh_world banks = unused_world banks (start_values banks 0)
