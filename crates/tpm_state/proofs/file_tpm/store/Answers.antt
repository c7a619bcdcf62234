use Rattle.std.proofs.Common.{List, ℕ, subst}
use Rattle.std.specs.FinMap.{insert}
use Rattle.pl_base.specs.FileAnswers.{ReplaceLeaves}
use Rattle.tpm_device.specs.Stored.{Stored}
use Rattle.tpm_state.specs.Storing.{stored_in, StoreLeaves}
use Rattle.tpm_state.proofs.Stores.{store_leaves}
use Rattle.tpm_state.proofs.file_tpm.store.Goals as goal

pub returns-clause-stored : goal.returns-clause-stored
returns-clause-stored g c = λ kept e.
    subst (λ (next : Stored). StoreLeaves kept next c.replace.result (stored_in (g.F.Files.held c.replace.new.self) c.args.path.now)) c.requires.stored
    (store_leaves _ _ c.args.path.now c.args.text.now c.replace.result kept c.replace.ensures.told e)

pub returns-clause-files : goal.returns-clause-files
returns-clause-files g c = λ map e.
    subst (λ (bytes : List ℕ). ReplaceLeaves map (insert map c.args.path.now bytes) c.replace.result (g.F.Files.held c.replace.new.self)) c.requires.text (c.replace.ensures.told map e)
