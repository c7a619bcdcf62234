-- A refused command changes nothing.
use Rattle.tpm_model.specs.declared.response.Response.{Response}
use Rattle.tpm_model.specs.declared.response.Response.TheVariants.{Refused}
use Rattle.tpm_model.specs.declared.response.Refusal.{Refusal}
use Rattle.tpm_model.specs.declared.parts.Parts.{Parts}

-- the refusal, and the state as it was
abbrev pub refused : Refusal → Parts → Response × Parts
refused why s = (Refused why, s)
