-- What a sealed pin comes to.
use Rattle.std.proofs.Common.{◌≡◌, ◌⊎◌, ℕ, ◌≤◌, true, List, length, inr, sym, subst, ap, ◌∙◌, arith}
use Rattle.std.specs.Prelude.{Bool, Option, Result, Ok, Err, IfOk, None, Some}
use Rattle.hash_bank.specs.declared.bank.Bank.TheVariants.{Sha256}
use Rattle.hash_bank.proofs.Sizes.{length-digest_in}
use Rattle.policy_digest.specs.declared.table.Table.{Table}
use Rattle.policy_digest.specs.Pin.{pin_policy_of, policy_signed_of}
use Rattle.policy_digest.specs.Table.{valid_table}
use Rattle.policy_file.specs.PolicyText.{IsIndex, IsPolicy}
use Rattle.policy_file.specs.TokenText.{IsObject}
use Rattle.tpm_model.specs.declared.command.Command.{Command}
use Rattle.tpm_model.specs.declared.command.Command.TheVariants as command
use Rattle.tpm_model.specs.declared.parts.Parts.{Parts}
use Rattle.tpm_model.specs.declared.response.Response.{Response}
use Rattle.tpm_model.specs.Binding.{index_policy}
use Rattle.tpm_device.specs.Stored.{Stored}
use Rattle.pcrlock_answer.specs.declared.answer.Answer.{Answer}
use Rattle.pcrlock_line.specs.Asked.{IsAnswered, IsStopped}
use Rattle.pcrlock_line.specs.declared.stop.Stop.{Stop}
use Rattle.pcrlock_line.specs.Running.{Runs, Keeps}
use Rattle.pcrlock_update.specs.NewPolicy.{stated}
use Rattle.pcrlock_update.specs.Update.{tables_between, IsNamed}
use Rattle.pcrlock_update.specs.Sealed.{sealed_in, pin_sealed, SealedSo}
use Rattle.pcrlock_update.proofs.Removed.{either}

-- what the policy file says has a text
pub is_stated : (index : ℕ) (pin : List ℕ) (object : ℕ) (named : Option Table) (table : Table) → IsIndex index → IsObject object → IsNamed named → valid_table table ≡ true
    → IsPolicy (stated index pin object (tables_between named table))
is_stated index pin object None table in_range is_object old valid = record {
  handle = in_range;
  index_policy = length-digest_in Sha256 (policy_signed_of pin);
  pin_object = is_object;
  some = omega arith;
  few = omega arith;
  tables = (valid, tt);
}
is_stated index pin object (Some before) table in_range is_object old valid = record {
  handle = in_range;
  index_policy = length-digest_in Sha256 (policy_signed_of pin);
  pin_object = is_object;
  some = omega arith;
  few = omega arith;
  tables = (old, (valid, tt));
}

pub is_stated_so : (index : ℕ) (pin : List ℕ) (object : ℕ) (named : Option Table) (table : Table) (digest : List ℕ) (tables : List Table) → digest ≡ pin_policy_of pin → tables ≡ tables_between named table
    → IsIndex index → IsObject object → IsNamed named → valid_table table ≡ true → IsPolicy (record { handle = index; index_policy = digest; pin_object = object; tables = tables })
is_stated_so index pin object named table digest tables d t in_range is_object old valid =
    subst (λ (x : List ℕ). IsPolicy (record { handle = index; index_policy = x; pin_object = object; tables = tables })) (sym d)
    (subst (λ (ts : List Table). IsPolicy (stated index pin object ts)) (sym t) (is_stated index pin object named table in_range is_object old valid))

-- the TPM answered the command that seals the pin
by_result : (result : Result (Result ℕ Answer) Stop) (response : Response) (now : Option Parts) (kept : Option Stored) (index : ℕ) (pin : List ℕ) (s : Parts)
    → response ≡ (pin_sealed index pin s).0 → Runs now kept (pin_sealed index pin s).1 → IfOk result (λ sealed. sealed ≡ sealed_in response) → SealedSo result now kept index pin s
by_result (Ok sealed) response now kept index pin s is runs told = (told ∙ ap sealed_in is, runs)
by_result (Err stop) response now kept index pin s is runs told = inr (record { stored = runs.stored })

pub sealed_so : (result : Result (Result ℕ Answer) Stop) (given : Command) (response : Response) (readiness : Bool) (now : Option Parts) (kept : Option Stored) (index : ℕ) (pin : List ℕ) (s : Parts)
    → given ≡ command.Seal (index_policy index pin) pin → IsAnswered given s response readiness now kept
    → IfOk result (λ sealed. sealed ≡ sealed_in response) → SealedSo result now kept index pin s
sealed_so result given response readiness now kept index pin s is told value =
    let answered : IsAnswered (command.Seal (index_policy index pin) pin) s response readiness now kept =
    subst (λ (x : Command). IsAnswered x s response readiness now kept) is told in
    by_result result response now kept index pin s answered.answer
    (record { live = answered.live; stored = answered.stored }) value

pub seal_stopped : (kept : Option Stored) (given : Command) (index : ℕ) (pin : List ℕ) (s : Parts) → given ≡ command.Seal (index_policy index pin) pin
    → IsStopped given s kept → Keeps kept s ⊎ Keeps kept (pin_sealed index pin s).1
seal_stopped kept given index pin s is stop =
    either kept s (pin_sealed index pin s).1 (subst (λ (x : Command). IsStopped x s kept) is stop)
