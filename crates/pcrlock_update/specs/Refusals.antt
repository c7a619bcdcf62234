-- What the TPM refuses of the changes that are made here, and for what reason.
use Rattle.std.specs.Prelude.{◌≡◌, ℕ, ◌==◌, nat_le, if◌then◌else◌, List, length, codes, Option, None, Some, Result, Ok, Err, true}
use Rattle.nv_index.specs.declared.index.Index.{Index}
use Rattle.nv_index.specs.Table.{index_at}
use Rattle.policy_digest.specs.Pin.{pin_policy_of}
use Rattle.policy_file.specs.PolicyText.{IsIndex}
use Rattle.tpm_model.specs.declared.parts.Parts.{Parts}
use Rattle.tpm_model.specs.ObjectCommands.{object_handle}
use Rattle.tpm_model.specs.Respond.{respond}
use Rattle.pcrlock_answer.specs.declared.answer.Answer.{Answer}
use Rattle.pcrlock_answer.specs.declared.answer.Answer.TheVariants as said
use Rattle.pcrlock_update.specs.Changes.{command_of, refusal_in}
use Rattle.pcrlock_update.specs.declared.change.TpmChange.{TpmChange}
use Rattle.pcrlock_update.specs.declared.change.TpmChange.TheVariants as tpm
use Rattle.pcrlock_update.specs.NewPolicy.{new_public}
use Rattle.pcrlock_update.specs.Sealed.{pin_sealed, sealed_in}

-- the answer for which a change on a state ends the changes
abbrev pub refused_on : TpmChange → Parts → Option Answer
refused_on change s = refusal_in change (respond (command_of change) s).0

-- each change, as it is made here, is refused for the reasons that are named and for no other
pub record RefusedOnly (s : Parts) : Type 0 where
  -- an index that is there is taken away
  pub undefine : (handle : ℕ) (index : Index) → index_at handle s.indices ≡ Some index → refused_on (tpm.Undefine handle) s ≡ None
  -- one that isn't there is defined, unless there are 16
  pub define : (handle : ℕ) (pin : List ℕ) → IsIndex handle → index_at handle s.indices ≡ None
      → refused_on (tpm.Define (new_public handle pin)) s ≡ (if nat_le 16 (length s.indices) then Some (said.Limit (codes "indices") 17) else None)
  -- one of the pin is written, unless the counter is at its end
  pub write : (handle : ℕ) (index : Index) (pin value : List ℕ) → index_at handle s.indices ≡ Some index → index.public.policy ≡ pin_policy_of pin → length value ≡ 34
      → refused_on (tpm.Write handle pin value) s ≡ (if s.write_counter == 4294967295 then Some (said.CounterEnd true) else None)
  -- an object is taken away, or isn't there
  pub evict : (object : ℕ) → refused_on (tpm.Evict object) s ≡ None
  -- a pin is sealed, unless there are 64 objects, or all their numbers were used
  pub seal : (handle : ℕ) (pin : List ℕ) → length pin ≡ 32
      → sealed_in (pin_sealed handle pin s).0
      ≡ (if nat_le 64 (length s.objects) then Err (said.Limit (codes "objects") 65)
      else if nat_le 0x00800000 s.next_object then Err (said.Limit (codes "handles") 0x00800000)
      else Ok (object_handle s.next_object))
