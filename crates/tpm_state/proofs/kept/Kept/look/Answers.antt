use Rattle.std.proofs.Common.{◌≡◌, Some, sym, subst, ◌∙◌}
use Rattle.tpm_model.specs.declared.parts.Parts.{Parts}
use Rattle.tpm_model.specs.Rules.{HasRules}
use Rattle.tpm_device.specs.Stored.{Holds}
use Rattle.tpm_state.specs.declared.version.Version.TheVariants.{Two}
use Rattle.tpm_state.specs.Layout.{text_of}
use Rattle.tpm_state.specs.Storing.{stored_by}
use Rattle.tpm_state.proofs.Looks.{look_same}
use Rattle.tpm_state.proofs.kept.Kept.look.Goals as goal

pub invariant_of-self : goal.invariant_of-self
invariant_of-self c =
    let same : c.step.new.state ≡ c.self.inside.state.value =
    look_same c.args.command.now c.deref_mut.result.now c.step.new.state c.step.result c.requires c.step.ensures.ok c.step.ensures.err ∙ c.deref_mut.ensures.value in
    subst (λ (s : Parts). (c.self.inside.text.items ≡ text_of Two s) × (stored_by (Some c.self.inside.text.items) ≡ Holds s) × HasRules s) (sym same) c.self.invariant

pub returns-clause-same : goal.returns-clause-same
returns-clause-same c =
    look_same c.args.command.now c.deref_mut.result.now c.step.new.state c.step.result c.requires c.step.ensures.ok c.step.ensures.err ∙ c.deref_mut.ensures.value ∙ c.self.view_is
