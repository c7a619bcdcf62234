-- What stands as it was, but for sessions.
use Rattle.std.proofs.Common.{refl, ◌∙◌}
use Rattle.tpm_model.specs.declared.parts.Parts.{Parts}
use Rattle.tpm_device.specs.Stored.{Stored, Holds, TooLarge, Malformed, BadRule}
use Rattle.tpm_device.specs.Running.{DiffersInSessions}
use Rattle.pcrlock_line.specs.Stopped.{IsStoredSo}

pub same_parts : (s : Parts) → DiffersInSessions s s
same_parts s = record { banks = refl; pcrs = refl; update_counter = refl; write_counter = refl; next_object = refl; indices = refl; objects = refl }

-- one step after the other
pub differs_then : (a b c : Parts) → DiffersInSessions a b → DiffersInSessions b c → DiffersInSessions a c
differs_then a b c h k = record {
  banks = k.banks ∙ h.banks;
  pcrs = k.pcrs ∙ h.pcrs;
  update_counter = k.update_counter ∙ h.update_counter;
  write_counter = k.write_counter ∙ h.write_counter;
  next_object = k.next_object ∙ h.next_object;
  indices = k.indices ∙ h.indices;
  objects = k.objects ∙ h.objects;
}

pub holds_same : (s : Parts) → IsStoredSo (Holds s) (Holds s)
holds_same s = (s, refl, same_parts s)

pub same_stored : (kept : Stored) → IsStoredSo kept kept
same_stored (Holds s) = holds_same s
same_stored (TooLarge size) = refl
same_stored (Malformed place) = refl
same_stored (BadRule rule) = refl
