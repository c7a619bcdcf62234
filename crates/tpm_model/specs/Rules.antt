-- The twelve rules that every state keeps, and the first that a state from outside breaks.
use Rattle.std.specs.Prelude.{◌≡◌, nat_le, Bool, true, not, ◌&&◌, if◌then◌else◌, Option, None, Some}
use Rattle.tpm_model.specs.declared.parts.Parts.{Parts}
use Rattle.tpm_model.specs.declared.rules.StateRule.{StateRule}
use Rattle.tpm_model.specs.declared.rules.StateRule.TheVariants as rule
use Rattle.tpm_model.specs.IndexRules.{keeps_index_attributes, keeps_index_order}
use Rattle.tpm_model.specs.ObjectRules.{keeps_object_order, keeps_secret}
use Rattle.tpm_model.specs.Pcrs.{bank_count}
use Rattle.tpm_model.specs.SessionRules.{keeps_fold, keeps_noted, keeps_nv_now, keeps_or_member, keeps_pcr_now, keeps_session_order}
use Rattle.tpm_model.specs.Shape.{HasShape}

-- a bank is present
abbrev pub keeps_banks : Parts → Bool
keeps_banks s = nat_le 1 (bank_count s.banks)

-- the numbers of the next session and of the next object are at most those at which handles end
abbrev pub keeps_counters : Parts → Bool
keeps_counters s = nat_le s.next_session 0x01000000 && nat_le s.next_object 0x00800000

-- what every state keeps: a shape that its layout can hold, and the twelve rules
pub record HasRules (s : Parts) : Type 0 where
  pub shape : HasShape s
  pub banks : keeps_banks s ≡ true
  pub counters : keeps_counters s ≡ true
  pub session_order : keeps_session_order s ≡ true
  pub fold : keeps_fold s ≡ true
  pub or_member : keeps_or_member s ≡ true
  pub noted : keeps_noted s ≡ true
  pub pcr_now : keeps_pcr_now s ≡ true
  pub nv_now : keeps_nv_now s ≡ true
  pub index_order : keeps_index_order s ≡ true
  pub index_attributes : keeps_index_attributes s ≡ true
  pub object_order : keeps_object_order s ≡ true
  pub secret : keeps_secret s ≡ true

-- the first rule that is broken, in the order in which they are tested
abbrev pub broken_rule : Parts → Option StateRule
broken_rule s =
    if not (keeps_banks s) then Some rule.Banks
    else if not (keeps_counters s) then Some rule.Counters
    else if not (keeps_session_order s) then Some rule.SessionOrder
    else if not (keeps_fold s) then Some rule.Fold
    else if not (keeps_or_member s) then Some rule.OrMember
    else if not (keeps_noted s) then Some rule.Noted
    else if not (keeps_pcr_now s) then Some rule.PcrNow
    else if not (keeps_nv_now s) then Some rule.NvNow
    else if not (keeps_index_order s) then Some rule.IndexOrder
    else if not (keeps_index_attributes s) then Some rule.IndexAttributes
    else if not (keeps_object_order s) then Some rule.ObjectOrder
    else if not (keeps_secret s) then Some rule.Secret
    else None
