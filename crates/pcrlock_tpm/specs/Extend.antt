-- What `tpm-extend` does.
use Rattle.std.specs.Prelude.{ℕ, ◌+◌, ◌==◌, Bool, true, false, if◌then◌else◌, List, [], ◌∷◌, Some}
use Rattle.hash_bank.specs.declared.bank.Bank.TheVariants.{Sha1, Sha256, Sha384, Sha512}
use Rattle.hash_bank.specs.Hash.{digest_in}
use Rattle.tpm_model.specs.declared.response.Response.{Response}
use Rattle.tpm_model.specs.declared.response.Response.TheVariants as answer
use Rattle.tpm_model.specs.declared.parts.Parts.{Parts}
use Rattle.tpm_model.specs.Pcrs.{after_digests}
use Rattle.tpm_model.specs.World.{World, extended_world}
use Rattle.pcrlock_answer.specs.declared.answer.Answer.TheVariants as said
use Rattle.pcrlock_line.specs.Machine.{Machine, Live, machine}
use Rattle.pcrlock_line.specs.Outcome.{Outcome, Fine, refused_line}
use Rattle.pcrlock_line.specs.Begun.{by_device}

-- whether the TPM accepted the extend
abbrev pub is_extended : Response → Bool
is_extended answer.Done = true
is_extended _ = false

-- the state after an extend by the four hashes of the bytes
abbrev pub extended_parts : ℕ → List ℕ → Parts → Parts
extended_parts pcr bytes s = record s {
  pcrs = after_digests s.banks pcr (Some (digest_in Sha1 bytes)) (Some (digest_in Sha256 bytes)) (Some (digest_in Sha384 bytes)) (Some (digest_in Sha512 bytes)) s.pcrs;
  update_counter = s.update_counter + 1;
}

-- the machine with that state
abbrev pub extended_machine : ℕ → List ℕ → Live → Machine
extended_machine pcr bytes m = machine (record m { state = extended_parts pcr bytes m.state })

-- the PCR is extended, and nothing is printed; the counter's end is the one refusal
abbrev pub extended_line : ℕ → List ℕ → Live → Outcome
extended_line pcr bytes m =
    if m.state.update_counter == 4294967295
    then refused_line (said.CounterEnd false) (machine m)
    else record {
      ending = Fine [];
      after = extended_machine pcr bytes m;
      hashed = [];
      stops = machine m ∷ extended_machine pcr bytes m ∷ [];
    }

-- `tpm-extend` over what is stored at the path
abbrev pub tpm_extend_line : List ℕ → ℕ → List ℕ → Machine → Outcome
tpm_extend_line path pcr bytes m = by_device m.device path m (extended_line pcr bytes)

-- the state after `tpm-extend`
abbrev pub state_after : ℕ → List ℕ → Parts → Parts
state_after pcr bytes s = if s.update_counter == 4294967295 then s else extended_parts pcr bytes s

-- the world after `tpm-extend`: it follows the state
abbrev pub extend_world : ℕ → List ℕ → Parts → World → World
extend_world pcr bytes s w = extended_world (state_after pcr bytes s) w
