-- The values over what is stored.
use Rattle.std.proofs.Common.{◌≡◌, ℕ, List, ap, ◌∙◌}
use Rattle.std.specs.Prelude.{Option, None, Some, Result, Err}
use Rattle.hash_bank.specs.declared.bank.Bank.{Bank}
use Rattle.tpm_model.specs.declared.parts.Parts.{Parts}
use Rattle.tpm_device.specs.Stored.{Stored, Holds}
use Rattle.pcrlock_answer.specs.declared.answer.Answer.{Answer}
use Rattle.pcrlock_line.specs.Begun.{state_refusal}
use Rattle.pcrlock_line.specs.Running.{Runs}
use Rattle.pcrlock_line.proofs.Devices.{stored_none, stored_some}
use Rattle.pcrlock_predict.specs.Present.{present_of, values_at, values_or_absent}

-- a state is stored
pub values_begun : (kept : Stored) (path : List ℕ) (bank : Bank) (asked : ℕ) (P : Result (List (List ℕ)) Answer → Type 0) → None ≡ state_refusal path kept
    → ((s : Parts) → kept ≡ Holds s → P (values_or_absent bank (present_of bank asked s))) → P (values_at path bank asked kept)
values_begun kept path bank asked P e h = stored_some kept path (λ s. values_or_absent bank (present_of bank asked s)) (λ answer. Err answer) P e h

-- none is
pub values_refused : (kept : Stored) (path : List ℕ) (bank : Bank) (asked : ℕ) (answer : Answer) → Some answer ≡ state_refusal path kept → Err answer ≡ values_at path bank asked kept
values_refused kept path bank asked answer e = stored_none kept path (λ s. values_or_absent bank (present_of bank asked s)) (λ why. Err why) answer e

-- a device that is ready with the state that it stores runs with it
pub runs_begun : (now : Option Parts) (before stored : Option Stored) (kept : Stored) (s : Parts) → now ≡ Some s → stored ≡ before → before ≡ Some kept → kept ≡ Holds s → Runs now stored s
runs_begun now before stored kept s live same is holds = record {
  live = live;
  stored = same ∙ is ∙ ap Some holds;
}
