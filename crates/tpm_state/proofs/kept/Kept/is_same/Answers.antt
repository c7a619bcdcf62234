use Rattle.std.proofs.Common.{◌≡◌, ℕ, List, Some, ap, ◌∙◌, sym}
use Rattle.std.proofs.lemmas.Slice.Eq.{bytes_eq-Decides}
use Rattle.tpm_model.specs.declared.parts.Parts.{Parts}
use Rattle.tpm_device.specs.Stored.{Holds}
use Rattle.tpm_state.specs.declared.version.Version.TheVariants.{Two}
use Rattle.tpm_state.specs.Layout.{text_of}
use Rattle.tpm_state.specs.Storing.{stored_by}
use Rattle.tpm_state.proofs.kept.Kept.is_same.Goals as goal

held : (a b : Parts) → Holds a ≡ Holds b → a ≡ b
held a b e = cc

pub returns : goal.returns
returns c =
    let decides = bytes_eq-Decides c.text.result.now c.args.text.now in (
      λ yes. held _ _ (sym c.text.ensures.stored ∙ ap (λ (b : List ℕ). stored_by (Some b)) (decides.0 (sym c.eq.ensures ∙ yes)) ∙ c.requires.stored),
      λ same. c.eq.ensures ∙ decides.1 (c.text.ensures.value ∙ ap (text_of Two) same ∙ sym c.requires.text),
    )
