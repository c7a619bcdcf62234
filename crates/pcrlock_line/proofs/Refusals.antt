-- A stored state is never refused.
use Rattle.std.proofs.Common.{◌≡◌, ℕ, List, inl, sym, ap, ◌∙◌, subst}
use Rattle.std.specs.Prelude.{Option, Some, Err, codes}
use Rattle.tpm_model.specs.declared.parts.Parts.{Parts}
use Rattle.tpm_model.specs.declared.rules.StateRule.{StateRule}
use Rattle.tpm_device.specs.declared.device.BeginError.{BeginError}
use Rattle.tpm_device.specs.declared.device.BeginError.TheVariants as begin
use Rattle.tpm_device.specs.declared.device.ExecError.{ExecError}
use Rattle.tpm_device.specs.declared.device.ExecError.TheVariants as exec
use Rattle.tpm_model.specs.declared.command.Command.{Command}
use Rattle.tpm_device.specs.Stored.{Stored, Holds, BadRule, BeginGives, ExecuteStores}
use Rattle.pcrlock_answer.specs.declared.answer.Answer.TheVariants as said
use Rattle.pcrlock_answer.specs.declared.place.Place.TheVariants as place
use Rattle.pcrlock_line.specs.Asked.{IsStopped}
use Rattle.pcrlock_line.specs.Begun.{state_refusal}

-- what the device refuses is what is stored, and the answer is the refusal of that
pub large_refused : (kept : Stored) (error : BeginError) (size : ℕ) (now : Option Parts) (path : List ℕ) → error ≡ begin.TooLarge size → BeginGives kept (Err error) now
    → Some (said.Limit (codes "state-bytes") size) ≡ state_refusal path kept
large_refused kept error size now path e h = ap (state_refusal path) (sym (subst (λ (x : BeginError). BeginGives kept (Err x) now) e h))

pub malformed_refused : (kept : Stored) (error : BeginError) (at : ℕ) (now : Option Parts) (path text : List ℕ) → text ≡ path → error ≡ begin.Malformed at → BeginGives kept (Err error) now
    → Some (said.Malformed text (place.At at)) ≡ state_refusal path kept
malformed_refused kept error at now path text same e h =
    ap (λ p. Some (said.Malformed p (place.At at))) same ∙ ap (state_refusal path) (sym (subst (λ (x : BeginError). BeginGives kept (Err x) now) e h))

pub rule_refused : (kept : Stored) (error : BeginError) (rule : StateRule) (now : Option Parts) (path text : List ℕ) → text ≡ path → error ≡ begin.BadRule rule → BeginGives kept (Err error) now
    → state_refusal text (BadRule rule) ≡ state_refusal path kept
rule_refused kept error rule now path text same e h =
    ap (λ p. state_refusal p (BadRule rule)) same ∙ ap (state_refusal path) (sym (subst (λ (x : BeginError). BeginGives kept (Err x) now) e h))

pub too_large : (s : Parts) (error : BeginError) (size : ℕ) (now : Option Parts) → error ≡ begin.TooLarge size → BeginGives (Holds s) (Err error) now → ⊥
too_large s error size now e h = let refused = subst (λ (x : BeginError). BeginGives (Holds s) (Err x) now) e h in cc refused

pub malformed : (s : Parts) (error : BeginError) (place : ℕ) (now : Option Parts) → error ≡ begin.Malformed place → BeginGives (Holds s) (Err error) now → ⊥
malformed s error place now e h = let refused = subst (λ (x : BeginError). BeginGives (Holds s) (Err x) now) e h in cc refused

pub bad_rule : (s : Parts) (error : BeginError) (rule : StateRule) (now : Option Parts) → error ≡ begin.BadRule rule → BeginGives (Holds s) (Err error) now → ⊥
bad_rule s error rule now e h = let refused = subst (λ (x : BeginError). BeginGives (Holds s) (Err x) now) e h in cc refused

-- what is stored after a failure, and after want of memory
pub after_failure : (command : Command) (s : Parts) (error : ExecError) (now : Option Stored) → error ≡ exec.Failed → ExecuteStores command s (Err error) now → IsStopped command s now
after_failure command s error now e h = subst (λ (x : ExecError). ExecuteStores command s (Err x) now) e h

pub after_memory : (command : Command) (s : Parts) (error : ExecError) (now : Option Stored) → error ≡ exec.Memory → ExecuteStores command s (Err error) now → IsStopped command s now
after_memory command s error now e h =
    let same = subst (λ (x : ExecError). ExecuteStores command s (Err x) now) e h in inl same
