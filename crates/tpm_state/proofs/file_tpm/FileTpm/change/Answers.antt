use Rattle.std.proofs.Common.{◌≡◌, ℕ, List, Result, Err, rules, sym, subst}
use Rattle.tpm_device.specs.declared.device.ExecError.{ExecError}
use Rattle.tpm_device.specs.declared.device.ExecError.TheVariants.{Failed, Memory}
use Rattle.tpm_model.specs.declared.parts.Parts.{Parts}
use Rattle.tpm_model.specs.declared.response.Response.{Response}
use Rattle.tpm_model.specs.Respond.{respond}
use Rattle.tpm_state.specs.Storing.{StoresText}
use Rattle.tpm_state.proofs.Stores.{is_live}
use Rattle.tpm_state.proofs.file_tpm.FileTpm.change.Goals as goal

pub returns-in-Err-Failed-clause-files : goal.returns-in-Err-Failed-clause-files
returns-in-Err-Failed-clause-files g c = λ s map live held.
    let now = g.F.Files.held c.advance.new.files in
    let same : s ≡ c.in-Some.live = is_live c.args.self.now.live s c.in-Some.live live c.in-Some.is in
    let failed : c.advance.result ≡ Err Failed = search rules in
    subst (λ (t : Parts). StoresText map c.args.self.now.path t (respond c.args.command.now t).1 (Err Failed) now) (sym same)
    (subst (λ (path : List ℕ). StoresText map path c.in-Some.live (respond c.args.command.now c.in-Some.live).1 (Err Failed) now) c.text.ensures
    (subst (λ (r : Result Response ExecError). StoresText map c.text.result.now c.in-Some.live (respond c.args.command.now c.in-Some.live).1 r now) failed (c.advance.ensures.files map held)))

pub returns-in-Err-Memory-clause-files : goal.returns-in-Err-Memory-clause-files
returns-in-Err-Memory-clause-files g c = λ s map live held.
    let now = g.F.Files.held c.advance.new.files in
    let short : c.advance.result ≡ Err Memory = search rules in
    subst (λ (r : Result Response ExecError). StoresText map c.text.result.now c.in-Some.live (respond c.args.command.now c.in-Some.live).1 r now) short (c.advance.ensures.files map held)
