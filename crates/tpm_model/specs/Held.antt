-- What a state holds, as plain data.
use Rattle.tpm_model.specs.declared.held.Held.{Held}
use Rattle.tpm_model.specs.declared.parts.Parts.{Parts}

-- the same parts, whose PCR values stand in a list
abbrev pub parts_of : Held → Parts
parts_of held = record {
  banks = held.banks;
  pcrs = held.pcrs;
  update_counter = held.update_counter;
  next_session = held.next_session;
  write_counter = held.write_counter;
  next_object = held.next_object;
  sessions = held.sessions;
  indices = held.indices;
  objects = held.objects;
}
