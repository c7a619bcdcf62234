use Rattle.std.proofs.Common.{◌≡◌, Result, Err, rules, subst}
use Rattle.std.specs.FinMap.{insert}
use Rattle.pl_base.specs.FileAnswers.{ReplaceLeaves}
use Rattle.pl_base.specs.declared.files.ReplaceError.{ReplaceError}
use Rattle.pl_base.specs.declared.files.ReplaceError.TheVariants.{Failed}
use Rattle.tpm_model.specs.declared.parts.Parts.{Parts}
use Rattle.tpm_model.specs.Respond.{respond}
use Rattle.tpm_device.specs.Stored.{Holds}
use Rattle.tpm_state.specs.declared.version.Version.TheVariants.{Two}
use Rattle.tpm_state.specs.Layout.{text_of}
use Rattle.tpm_state.specs.Storing.{stored_in, StoreLeaves}
use Rattle.tpm_state.proofs.file_tpm.advance.Goals as goal

pub returns-in-Err-Failed-clause-stored : goal.returns-in-Err-Failed-clause-stored
returns-in-Err-Failed-clause-stored g c = λ kept.
    let before : Parts = c.args.live.now in
    let next : Parts = (respond c.args.command.now before).1 in
    let now = stored_in (g.F.Files.held c.store.new.files) c.args.path.now in
    let value : c.deref-2.result.now ≡ next = search rules in
    let failed : c.store.result ≡ Err Failed = search rules in
    subst (λ (r : Result Unit ReplaceError). StoreLeaves (Holds before) (Holds next) r now) failed
    (subst (λ (n : Parts). StoreLeaves (Holds before) (Holds n) c.store.result now) value (c.store.ensures.stored (Holds before) kept))

pub returns-in-Err-Failed-clause-files : goal.returns-in-Err-Failed-clause-files
returns-in-Err-Failed-clause-files g c = λ map held.
    let next : Parts = (respond c.args.command.now c.args.live.now).1 in
    let now = g.F.Files.held c.store.new.files in
    let value : c.deref-2.result.now ≡ next = search rules in
    let failed : c.store.result ≡ Err Failed = search rules in
    subst (λ (r : Result Unit ReplaceError). ReplaceLeaves map (insert map c.args.path.now (text_of Two next)) r now) failed
    (subst (λ (n : Parts). ReplaceLeaves map (insert map c.args.path.now (text_of Two n)) c.store.result now) value (c.store.ensures.files map held))
